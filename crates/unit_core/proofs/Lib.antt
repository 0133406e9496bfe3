-- Lemmas on units, queues and the law, which the protocol's proofs cite. Each file stands on those before it.

-- ids in lists, and units by their ids
pub mod TidLemmas
-- the head of a queue, and the unit that comes next in it
pub mod QueueLemmas
-- what a log keeps by itself
pub mod InsideLemmas
-- the exactly-once law, where one record joins one log
pub mod OnceLemmas
-- units that are the same
pub mod SameUnitLemmas
