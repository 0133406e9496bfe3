-- what may be left of a forest
pub mod Left
-- the four maps of a document for one receiver, in the order in which they are applied
pub mod Removed
pub mod Reduced
pub mod Converted
pub mod Released
-- what they say of the fields of one segment
pub mod Texts
-- copies of steps
pub mod steps
