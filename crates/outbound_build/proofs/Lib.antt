-- names of queues
pub mod NameLemmas
-- the first segment of a type in a forest
pub mod FirstLemmas
-- rows by their places
pub mod RowLemmas
-- what is kept and sent
pub mod SentLemmas
-- packets
pub mod PacketLemmas
-- units and their numbers
pub mod NumberLemmas
-- profiles by which documents are collected
pub mod CollectLemmas
-- the control record
pub mod ControlLemmas
-- what one more record changes of a whole log
pub mod LogLemmas
-- the units of a whole log, computed record by record
pub mod CommitLemmas
-- every unit of a log names a queue once
pub mod OnceLemmas
-- parcels may be sent, whichever number they get
pub mod ParcelLemmas
-- every unit of a log: its number, and what made it
pub mod UnitLemmas
-- every document of a log: its number
pub mod DocumentLemmas
-- how many segments documents have
pub mod SizeLemmas
-- documents have no more segments than the masters of their log
pub mod ShortLemmas
-- what documents get, one after the other
pub mod GetsLemmas
-- the tables behind one more record
pub mod TablesLemmas
-- one more record of a log
pub mod TrackedLemmas
-- which records gave the statuses of the documents of a log
pub mod GivenLemmas
-- the queues of the units that a record adds
pub mod QueuedLemmas
-- whom what a record adds is for
pub mod AddressedLemmas
-- which documents the units carry that a record adds
pub mod CarriedLemmas
-- each document of a log is in one place
pub mod PlaceLemmas
