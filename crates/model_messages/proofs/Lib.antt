-- what names refer to
pub mod ThingLemmas
-- names of message types and of reduced ones
pub mod ReducedLemmas
-- What was read keeps its rules and is what the text says, section by section.

-- kinds
pub mod KindRules
-- message types
pub mod MessageRules
-- reduced message types
pub mod ReducedRules
-- filters
pub mod FilterRules
