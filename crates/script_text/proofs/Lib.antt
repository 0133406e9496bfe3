-- words by their ends
pub mod WordsLemmas
-- digits and the numbers that they spell
pub mod NumberLemmas
-- bytes that are UTF-8 or not
pub mod Utf8Lemmas
-- fields and their values
pub mod FieldLemmas
-- words and their kinds, one for one
pub mod FormLemmas
-- lines one behind another
pub mod ScriptLemmas
