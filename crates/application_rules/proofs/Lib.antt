-- what is found in a list
pub mod PutLemmas
-- what may be a master is what is read as one
pub mod MasterLemmas
-- the segment of an object, and gatherings object by object
pub mod GatheredLemmas
-- what a Commit that may follow has
pub mod CommitLemmas
-- what is gathered may be committed
pub mod FollowLemmas
-- the last status of a document
pub mod LastLemmas
