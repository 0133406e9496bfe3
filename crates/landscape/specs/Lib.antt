-- what is kept beside what the protocol keeps
pub mod Begun
-- the tables of a system that is up
pub mod Standing
-- what a crash inside a call leaves
pub mod Crashes
-- what commands ask for, and how they are carried out
pub mod Carried
-- what an operator asks for
pub mod Operator
-- what is prepared for the work of a claim
pub mod Working
-- what an operator is shown
pub mod Shown
-- how much the logs hold
pub mod Counted
-- a landscape that is opened over empty volumes
pub mod Opened
-- a system that is opened again
pub mod Reopened
-- what a command asks for
pub mod Asked
-- why a model may not come into force
pub mod Remodelled
-- what only private functions cite
pub mod steps
