-- forests: joined, their preorder, their roots, their segments counted
pub mod ForestLemmas
-- the nodes of a document as a forest
pub mod NodeLemmas
-- what a part of a forest keeps of the whole
pub mod PartLemmas
-- sets of segments, one within another and put together
pub mod SetLemmas
-- where the segments of some types go
pub mod WithoutLemmas
-- segments side by side: in order, and how many of a type
pub mod FamilyLemmas
-- hanging together, and a segment that is hung below an open one
pub mod HangingLemmas
-- a record makes the forest grow exactly where its segment may be hung
pub mod MayHangLemmas
-- each forest that is not bare has a last segment
pub mod LastSegmentLemmas
-- what records spell, and one record more
pub mod SpellsLemmas
-- what families lack
pub mod LackLemmas
-- of records one thing is made, and what that is
pub mod BuildsLemmas
-- nodes side by side, as the code looks at them
pub mod SiblingLemmas
-- the last of some nodes has the open ones
pub mod LastNodeLemmas
-- the data records of a forest spell it again
pub mod LineLemmas
