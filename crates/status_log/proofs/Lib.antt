-- a table of statuses with one place or one status more
pub mod StatusLemmas
-- which records of a log gave the statuses of a document
pub mod GivenLemmas
