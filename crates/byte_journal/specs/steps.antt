-- What reading the bytes of a journal gives.
pub mod Reading
-- What closing its last gate leaves.
pub mod Closing
