-- Readings: what their loops need.

-- the fields of a segment type
pub mod FieldLemmas
-- the last of some definitions, and all names of segment types
pub mod SegmentLemmas
-- the entries of an IDoc type, entry by entry
pub mod EntryLemmas
-- the answer to the bytes of a text
pub mod ReadingLemmas
-- A model that was read keeps its rules, section by section.

-- releases and systems
pub mod SystemRules
-- the fields of a definition
pub mod FieldRules
-- segment types
pub mod SegmentRules
-- IDoc types
pub mod IdocTypeRules
-- the whole model
pub mod ModelRules
-- what a text says of a model that was read
pub mod SaysLemmas
-- tables of what was added
pub mod TableLemmas
-- lists, each element checked
pub mod CheckedLemmas
-- what passed
pub mod ProfiledLemmas
-- where all is checked, each profile leaves what is mandatory
pub mod WholeLemmas
