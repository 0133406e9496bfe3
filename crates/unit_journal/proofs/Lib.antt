-- Bytes stand for one log of entries.
mod LogLemmas
-- Reading bodies as entries.
mod ReadLemmas
-- Journals of entries through calls on other volumes, for who builds on them.
pub mod SettledLemmas
-- Entries of a log that grows, and lists that change at one place.
pub mod PlaceLemmas
-- What is on disk stays so through calls on other volumes, and what a crash leaves meanwhile, for who builds on it.
pub mod KeptLemmas
-- The moments of a log stay in order as it grows, for who builds on it.
pub mod OrderLemmas
-- What the write of a record leaves.
mod WriteLemmas
-- What the opening of a system's journal leaves.
mod OpenLemmas
-- What looking at the volume of a system that is down finds, that it has one answer, and that moments stay in order, for who builds on it.
pub mod LookLemmas
