-- rules that list units, at the tables of a log
pub mod TablesLemmas
