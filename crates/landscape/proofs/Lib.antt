-- logs that begin with a model begin so for good
pub mod BegunLemmas
-- what a crash inside a call leaves is sound
pub mod SoundLemmas
-- the tables of a system that is up
pub mod StandingLemmas
-- what an operator is shown
pub mod ShownLemmas
-- what a command asks for is carried out
pub mod CarriedLemmas
-- what an operator asks for is carried out
pub mod OperatorLemmas
-- volumes that are opened, and systems that begin
-- the unit of a claim, and what goes with its record
pub mod WorkingLemmas
-- what a command asks for, by what is found under the model in force
pub mod JudgedLemmas
-- what a command asks for may follow the log
pub mod AllowedLemmas
-- what a command appends can be written
pub mod WritableLemmas
-- what a crash leaves of the volumes of a landscape that is opened
pub mod LeavingLemmas
-- the log that a volume holds, as it is read
pub mod ReadingLemmas
-- volumes that are read one by one
pub mod OpeningLemmas
-- systems that begin where their logs are empty
pub mod BeginningLemmas
-- a system that is opened again
pub mod ReopenedLemmas
-- volumes are read as one set of logs
pub mod OneReadingLemmas
-- what a crash leaves of a landscape is sound logs of its text
pub mod CrashOpensLemmas
-- so is what one leaves inside an opening
pub mod OpeningCrashLemmas
-- the systems are asked in turn what is against a model
pub mod BarredLemmas
