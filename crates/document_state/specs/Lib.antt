-- what is known behind a log
pub mod OfLog
-- what goes with a record
pub mod Made
-- tables that stand for a log
pub mod Tables
-- which records may follow a log
pub mod Allowed
-- what the models of logs say of them, and the laws of these rules, with what they stand on
pub mod SentLemmas
pub mod Meaning
pub mod LawfulLemmas
-- what only private functions cite
pub mod steps
