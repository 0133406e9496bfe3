-- what is shown of what became of a document
pub mod History
-- what is shown of all documents
pub mod DocumentLines
-- where the segments of a document stand, and what is shown of one document
pub mod Places
pub mod OneDocument
-- the tables of a system, and the names of systems
pub mod OfSystem
pub mod SystemNames
-- what is shown of units and of queues
pub mod UnitLines
pub mod QueueLines
-- what is shown of objects
pub mod ObjectLines
-- the listing that is asked for
pub mod Listings
-- what only private functions cite
pub mod steps
