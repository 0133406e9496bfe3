-- Lemmas on what is received.

-- the fields that are posted
pub mod ReadingLemmas
-- one more record of a log
pub mod ApplicationLemmas
-- the tables of an application
pub mod TablesLemmas
-- one more record of its log, and what it makes of them
pub mod RecordLemmas
-- what becomes of a document, by its profile
pub mod PreparedLemmas
-- what a posting says, and what a Commit does to pointers
pub mod LawLemmas
-- what a unit that is executed brings
pub mod ExecutedLemmas
-- what is read by the IDoc types of two models
pub mod RenamedLemmas
-- a document that has a posting under a model has one under another model of the same types
pub mod KeptPostingLemmas
-- inbound documents that were read are read again
pub mod StaysReadLemmas
-- which records gave the statuses of the documents of a log
pub mod GivenLemmas
