-- Lemmas on objects. Each file stands on those before it.

-- entries by the texts of their keys
pub mod EntryLemmas
-- the order of a listing
pub mod OrderLemmas
