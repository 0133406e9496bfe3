-- a text that is written at a place, and the texts at the other places
pub mod PartLemmas
-- the fields of a control record side by side, written and read in any pair
pub mod FieldsLemmas
-- a control record in which a field is written
pub mod ControlLemmas
-- the two texts of a data line
pub mod DataLemmas
-- a record that was written is read again
pub mod WrittenLemmas
