-- what is seen of a system's tables
pub mod Tables
-- what one more record does to them
pub mod Noted
-- what noting it asks of them
pub mod CanNote
-- the tables of a log
pub mod OfLog
-- what is known of a record that joins a log
pub mod Joins
-- which records say something to an application
pub mod Concerns
