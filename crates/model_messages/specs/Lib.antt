-- what a name refers to
pub mod Things
-- the sections, in the order of the text
pub mod Kinds
pub mod Messages
pub mod Reduced
pub mod Filters
-- what a text says, and no order of checks
pub mod Says
