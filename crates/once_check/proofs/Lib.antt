-- lists of all systems, and numbered units
pub mod SystemsLemmas
-- counts of queues
pub mod CountingLemmas
-- the places of units in queues
pub mod PlacesLemmas
-- the ids that logs tell of
pub mod ToldLemmas
-- whether a record keeps the clauses, by what becomes of it
pub mod JudgedLemmas
-- the law holds exactly where no record breaks it
pub mod LawLemmas
-- the records of a log, one by one, and the first breach of all
pub mod FirstLemmas
