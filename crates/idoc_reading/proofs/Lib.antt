-- the entries of the IDoc types of a model, and what is read by them
pub mod EntryLemmas
-- what was read of a document
pub mod ReadingLemmas
