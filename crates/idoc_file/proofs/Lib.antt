-- a line is one record at most, and a record has no fault
pub mod RecordLemmas
-- documents by their last line
pub mod DocumentLemmas
-- lines have one answer
pub mod AnswerLemmas
-- what a reader stands for, line by line
pub mod ReadingLemmas
