-- the claims of a world as its systems' tables know them
pub mod Claims
-- how the tables of one system among all change
pub mod Changed
-- tables that are in step with a world
pub mod InStep
-- a record that joins the log of a system, and the claim that it ends
pub mod Joining
-- what noting the last record of a log asks
pub mod Noting
-- how a claim is answered
pub mod ClaimAnswers
-- what was entered, and can be taken back
pub mod Entered
-- what the volumes hold of the logs of all systems
pub mod OnVolumes
-- why each system is down
pub mod Causes
-- how many units the systems received and executed
pub mod Counted
-- the world kept with its tables, journals and volumes
pub mod KeptWorlds
-- how an append ends
pub mod AppendEnds
-- what is answered by the logs and the claims
pub mod LogAnswers
-- what private functions cite
pub mod steps
-- what a landscape keeps
pub mod Kept
-- the tables of a system that is up
pub mod Tables
-- the record of an event, and what a crash leaves of it
pub mod Writes
-- what a crash inside a call leaves
pub mod Crashes
-- how a call ends that is an event
pub mod Ends
-- what the calls of a unit's way answer
pub mod Calls
-- when nothing is left to do
pub mod Quiet
-- the first unit that is offered at a system
pub mod Claiming
-- a record that is appended for an event
pub mod Appending
-- an earlier request of a unit that comes now
pub mod Late
-- volumes that are opened for a landscape that begins
pub mod Opening
-- a volume that is opened, whatever log it holds
pub mod Volumes
-- whether the logs of a world keep the exactly-once law
pub mod Breaches
-- the first record of each system
pub mod Beginning
-- a system that is down is opened again
pub mod Reopening
