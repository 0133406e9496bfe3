-- Lemmas on tables of ids. Each file stands on those before it.

-- an id among the numbers that a table keeps
pub mod NumberLemmas
-- what each record of a log does to its table
pub mod LogTidsLemmas
