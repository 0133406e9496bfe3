-- trees as data, and the nodes of a document as such
pub mod Forest
pub mod Nodes
-- parts of a forest
pub mod Parts
-- what data records spell
pub mod Spells
-- what an IDoc type asks of the segments below one segment
pub mod Valid
-- beside which segments the next one would stand
pub mod Siblings
-- what is made of data records: their forest, or their first fault
pub mod Builds
-- the same as a function, for callers that compute with it
pub mod FromRecords
-- the data records of a forest
pub mod Lines
-- copies of steps
pub mod steps
