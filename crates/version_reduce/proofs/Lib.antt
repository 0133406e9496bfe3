-- a walk over nodes, step by step
pub mod WalkLemmas
-- the fields of a segment, and texts in them
pub mod TextLemmas
-- fields that are reduced
pub mod ReduceLemmas
-- values that are converted
pub mod ConvertLemmas
-- segments that change and keep their types
pub mod ChangeLemmas
-- a profile of a model
pub mod ProfileLemmas
-- nothing mandatory is missing where types go that a profile leaves out
pub mod WholeLemmas
-- what is sent of a document of a message type is one again
pub mod DocumentLemmas
-- what is left of a forest, tree by tree
pub mod LeftLemmas
pub mod RemovalLemmas
pub mod TextLawLemmas
pub mod ReleaseLemmas
