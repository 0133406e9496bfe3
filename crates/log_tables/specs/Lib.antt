-- the places of units in a log
pub mod Places
-- the tables of a log that is read
pub mod OfLog
-- what the rules bring, and what a record that was read keeps
pub mod Read
-- what private functions cite
pub mod Held
