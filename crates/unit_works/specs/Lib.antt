-- the events of works
pub mod Events
-- a landscape goes on by events
pub mod Went
-- how many runs and executions have ended
pub mod Finished
-- the claims that are left
pub mod Claims
-- works of a landscape, and the letters that units take
pub mod Worked
-- what acts append to the logs
pub mod Trips
-- acts, and lists of them
pub mod Acts
-- a unit is claimed
pub mod Claiming
-- a unit is shipped, or executed
pub mod Works
-- units go their whole way where nothing holds them up
pub mod Through
-- works are done until none is left
pub mod Drained
-- the two parts of a drain
pub mod Rounds
-- letters, and those that are left of units
pub mod Wires
-- what only private functions cite
pub mod steps
