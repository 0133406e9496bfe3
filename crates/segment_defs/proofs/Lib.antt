-- names: a test decides them, and they have no blank
pub mod NameLemmas
-- the width of a definition, by its last field
pub mod WidthLemmas
-- data that are made of the texts of fields, and the texts that are read in them again
pub mod FieldLemmas
-- the newest definition that is not after a release
pub mod NewestLemmas
-- what a name stands for, and what is known of the definition that it stands for
pub mod DefinitionsLemmas
-- the entries of segment types and of their parents
pub mod IdocTypeLemmas
-- rules of a list that a loop decides
pub mod RuleLemmas
-- the entries above an entry, and a walk upwards over them
pub mod TypeRuleLemmas
