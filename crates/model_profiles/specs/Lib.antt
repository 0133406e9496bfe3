-- values of fields, and ways from system to system
pub mod Values
pub mod Ways
-- what entries of a section refer to
pub mod Referred
-- the sections, in the order of the text
pub mod Rows
pub mod Basis
pub mod Changes
pub mod QueueRules
pub mod Outbound
pub mod Inbound
-- what a text says, and no order of checks
pub mod Says
