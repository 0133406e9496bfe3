-- the entries above an entry of an IDoc type
pub mod PathLemmas
-- how deep segments are
pub mod LevelLemmas
-- the places of segments
pub mod PlaceLemmas
-- lines of documents, and of segments at their places
pub mod LineLemmas
-- units, as the tables tell them and as the log does
pub mod UnitLemmas
