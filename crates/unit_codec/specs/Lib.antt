-- what reading gives
pub mod Reading
-- kinds of fields
pub mod Kind
-- the fields of records
pub mod Fields
-- the records
pub mod Records
-- which records have a spelling
pub mod Condition
-- the entries
pub mod Entries
