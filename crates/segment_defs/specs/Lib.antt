-- names, and the definitions of one segment type
pub mod Name
pub mod Version
pub mod SegmentType
-- all segment types, and what a name stands for among them
pub mod Definitions
-- hierarchies of segment types
pub mod IdocType
