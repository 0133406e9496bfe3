-- The records of a log as bytes.
mod LogLemmas
-- Bytes stand for one log or are damaged at one place.
pub mod OneAnswer
-- Reading the records from the front on.
mod ReadLemmas
-- Only the front of the bytes can matter.
mod FrontLemmas
-- Closing the last gate.
mod CloseLemmas
-- A write that is made durable.
mod WriteSynced
-- What a crash leaves while a journal is opened.
mod OpenLemmas
-- What a crash leaves in the two steps of an append.
pub mod AppendLemmas
-- What both leave of the bytes.
mod BytesLemmas
-- Journals through calls on other volumes, for who builds on them.
pub mod SettledLemmas
-- What a crash leaves of a volume while it is read.
mod ReadOnlyLemmas
