-- what is wrong with a record
pub mod Bad
-- what a log is read as
pub mod Reading
