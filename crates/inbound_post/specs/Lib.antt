-- what a document is to make of an object
pub mod Reading
-- what a receiver makes of the documents of a unit
pub mod Prepared
-- what a log made of the application of its system
pub mod Application
-- the tables in which a system keeps that
pub mod Tables
-- what is true of postings and Commits, in other words
pub mod Laws
