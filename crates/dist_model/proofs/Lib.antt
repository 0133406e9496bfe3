-- the system of a name
pub mod SystemLemmas
-- the fields of segment types, and the entries of IDoc types
pub mod FieldLemmas
-- the index
pub mod IndexLemmas
-- what is looked up through it
pub mod LookupLemmas
-- what is in a list, by what is seen of its elements
pub mod SeenLemmas
-- keys that differ
pub mod DistinctLemmas
