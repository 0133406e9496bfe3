-- the models of a log with one more record
pub mod OfLogLemmas
-- a text that says a model
pub mod SaidLemmas
-- texts that were read, by the entries of a map
pub mod ReadingsLemmas
