-- what volumes hold, copied one after another
mod HeldLemmas
-- the steps of one part after another
mod PartLemmas
-- what a run ensures is what it may give
pub mod GivenLemmas
-- runs that are made one after another
mod TriedLemmas
