-- where two texts differ
pub mod DifferLemmas
-- the records of a log, one by one
pub mod GoodLemmas
-- records that were read from a volume
pub mod ProperLemmas
-- their moments are in order
pub mod InOrderLemmas
-- one answer at most
pub mod AnswerLemmas
