-- keys that are there and that are not, and lists of values
pub mod KeysLemmas
-- lists, element by element
pub mod EachLemmas
-- what is known of a value that a reading gave
pub mod KeepsLemmas
-- what a text says of values that were read
pub mod SaysLemmas
-- fields by their names
pub mod FieldLemmas
