-- Which log bytes stand for, and where they are damaged.
pub mod Log
-- A journal that is ready for appends, and what opening one answers.
pub mod Settled
-- What opening and appending leave of the bytes.
pub mod Bytes
-- The faults of a journal, by those of its volume.
pub mod Fault
-- What the steps of an opening do, for the private functions that take them.
pub mod steps
