-- the sections, in the order of the text
pub mod Releases
pub mod Systems
pub mod Fields
pub mod Segments
pub mod Entries
pub mod IdocTypes
-- the whole table, and the bytes of a text
pub mod Model
pub mod Rules
pub mod Text
-- a fault in words
pub mod Words
-- what a text says, and no order of checks
pub mod Says
-- the elements of a list, each checked
pub mod Checked
-- what is checked
pub mod Profiled
pub mod Whole
