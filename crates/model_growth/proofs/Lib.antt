-- two lists in pairs
pub mod ZipLemmas
-- what is found at a place
pub mod PlaceLemmas
-- tests that decide what they test, one by one and in lists
pub mod DecidedLemmas
-- an entry keeps another one exactly where its test says so
pub mod KeptLemmas
-- no part is unkept exactly where all is kept
pub mod GrowthLemmas
-- the numbers that types of a model have in one that keeps it
pub mod NumberLemmas
