-- what is known of a file, and of files in memory
pub mod Told
pub mod Folder
-- what is read of a file in pieces
pub mod Piece
-- what a sink holds after a call
pub mod Written
-- what a call does to a count of faults
pub mod FaultCount
-- what a clock in memory gives
pub mod Moments
