-- which documents may be masters
pub mod Masters
-- what a gathering makes
pub mod Gathered
-- which Commits may follow a log
pub mod Commits
-- which Puts may follow a log
pub mod Puts
-- the last status of a document
pub mod Last
