-- which log of entries bytes stand for, and the first body that is no entry
pub mod Log
-- a journal of entries that is ready for appends, and what opening and appending do
pub mod Settled
-- the faults of opening, by those of the journal below
pub mod Fault
-- what a system's volume holds, while it is up and while it is down
pub mod OnDisk
-- what a call leaves as it was
pub mod Changes
-- what the opening of a system's journal answers
pub mod Opening
-- what looking at the volume of a system that is down answers, and what it finds
pub mod Looking
-- what private functions cite
pub mod steps
