-- words of a command line, by their count
pub mod WordsLemmas
-- how far a file was read in pieces
pub mod FeedingLemmas
-- the bytes of a file have one ending
pub mod OneEnding
-- the ending of `pass` is one of the run
pub mod EndingLemmas
-- what reads leave of the files, and how a run ends at one of them
pub mod ReadsLemmas
-- the last line of a run, and the text before it
pub mod ClosingLemmas
-- what a run leaves holds sound logs of its text
pub mod LeftLemmas
-- a run from the systems that were opened on
pub mod RunningLemmas
