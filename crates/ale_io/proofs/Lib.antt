-- Lemmas on what the crate has in memory.

-- what a clock in memory gives
pub mod MomentLemmas
