-- Lemmas on the tables of a system, for those who keep them. Each file stands on those before it.

-- the ids that are done and not ended
pub mod UnconfirmedLemmas
-- one more record, table by table
pub mod NotedLemmas
-- noting asks no more than what is known of a record that joins a log
pub mod CanNoteLemmas
-- tables of a log: at first, with units entered, after a record, with a claim made or given up
pub mod TablesLemmas
-- what the tables of a log answer, said by the log alone
pub mod AskingLemmas
