-- what is known behind a log with one more record
pub mod PushLemmas
-- what a record adds under the model in force
pub mod AddedLemmas
-- tables once a record is noted
pub mod NotedLemmas
-- what is known behind a legal log
pub mod LegalLogLemmas
-- what a legal log sends is addressed, and each of its documents is in one place
pub mod AddressedLemmas
-- what had a posting keeps one, whichever model comes into force
pub mod StaysReadLemmas
-- what is committed can be written
pub mod WritableLemmas
-- whether there is room
pub mod RoomLemmas
-- a log replayed from its first record
pub mod ReplayLemmas
-- the rules at the tables of a log
pub mod LogRulesLemmas
