-- rules that list each system's units, and their laws
pub mod ListedRules
pub mod ListedRulesLemmas
-- a world of the rules that list units
pub mod Worlds
-- the words of items that are no steps
pub mod Bench
