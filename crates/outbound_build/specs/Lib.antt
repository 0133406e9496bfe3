-- a document as its control record and its forest
pub mod Document
-- what is sent of a master to one receiver
pub mod ControlRecord
pub mod Sent
-- the queues that a document is in
pub mod QueueNames
-- the queues of a unit, from its documents
pub mod Queued
-- what one record adds to the documents and units of a log
pub mod Added
-- who sends a document, and whom it is for
pub mod Addressed
-- which documents the units carry that a record adds
pub mod Carried
-- the documents and units of a whole log
pub mod Committed
-- each document of a log is in one place
pub mod Once
-- what every unit of a log is
pub mod Units
-- when an outbound document gets which status
pub mod Statuses
-- the tables in which a system keeps that
pub mod Tables
-- copies of steps
pub mod steps
