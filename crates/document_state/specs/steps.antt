-- Definitions that only private functions cite.

-- one more record for the application, for `applied_by` of `OfLog`
pub mod Applying
-- tables between the two, for `AreTablesOf` of `Tables`
pub mod Between
-- a log replayed, for `model_meaning` of `Meaning`
pub mod Replaying
