-- What reading the bodies of a log gives.
pub mod Entries
-- The moments of one log, among those of all.
pub mod Moments
-- What the opening of one volume gave.
pub mod Opened
-- What comparing the entries that a volume gave with those that are kept gives.
pub mod Compared
