-- the model that a text says
pub mod Said
-- the models of a log, and the one in force behind it
pub mod OfLog
-- texts that were read
pub mod Readings
