-- Lemmas on change pointers. Each file stands on those before it.

-- objects as a set keeps them
pub mod ObjectLemmas
-- one message type more
pub mod MoreLemmas
-- the data of an object's segment
pub mod MasterLemmas
-- the first element from a place on that passes
pub mod RenumberLemmas
-- a segment alone that is a document
pub mod ReadLemmas
-- what is cleared, what waits and what is carried over
pub mod LawLemmas
