-- what the rules of a landscape say
pub mod Meaning
-- which record may follow a log, and the laws of the rules
pub mod Legal
-- the state of all systems, and what changes it
pub mod Worlds
-- which unit is offered, and how its arrival is answered
pub mod Offered
-- which record an event appends
pub mod RecordOf
-- which record a system may be writing as it falls
pub mod Keeping
-- what an event makes of the world
pub mod Happens
-- what holds of the world at every moment
pub mod Safe
-- a world that begins with given logs
pub mod Start
