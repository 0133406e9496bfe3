-- blanks at the end of texts
pub mod Blanks
pub mod TrimmedLemmas
-- texts and their lengths
pub mod Text
-- the lines of a file
pub mod Lines
-- one list begins another
pub mod Prefix
-- digits, transaction ids and names of queues
pub mod Decimal
pub mod Hexadecimal
pub mod Tid
pub mod QueueName
-- counts of faults
pub mod Faults
