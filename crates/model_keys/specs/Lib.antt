-- values, findings and paths
pub mod Finding
-- lists, element by element
pub mod Each
-- the kinds of keys
pub mod Keys
-- fields by their names
pub mod Fields
-- what stands at a key, and no order of checks
pub mod Says
