-- the line of a command and its reply
pub mod Reply
-- the lines of a listing
pub mod Listing
-- the last line of a run that did not end well
pub mod FaultLine
