-- What only private functions cite.

-- claims that go
pub mod Claims
-- a unit arrives, and once more
pub mod Arriving
-- a receiver falls once it has handled a request
pub mod Felling
-- the work of a claim ends
pub mod Ending
-- a confirmation comes to its receiver
pub mod Confirming
-- rounds of all systems
pub mod Rounds
