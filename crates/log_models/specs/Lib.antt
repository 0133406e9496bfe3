-- the models of a log, and the one in force behind some records
pub mod InForce
