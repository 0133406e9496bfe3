-- the words of a command line, and what is read for them
pub mod Words
pub mod Feeding
-- what `run` reads
pub mod Inputs
-- the model of a load
pub mod LoadModel
-- what a load reads, and what it prints
pub mod Loading
-- how a run ends whose files were read
pub mod Refusals
pub mod Running
pub mod Prepared
pub mod Closing
-- what is printed, and how a run ends
pub mod PassText
pub mod Ending
-- what a call that reads leaves of the files
pub mod Reads
-- what the program does for its words
pub mod EndsSo
-- the texts of a load
pub mod Load
