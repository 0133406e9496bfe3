-- Lemmas on the models of a log.

-- one more record, and more models
pub mod InForceLemmas
