-- What is known of a volume, and what a crash may leave of it.
pub mod Volume
-- What volumes let others know.
pub mod Disk
-- What a crash at any moment leaves, and what the other volumes keep.
pub mod Clock
-- Counts of faults.
pub mod Faults
-- Volumes in memory: their calls, and the record of their writes and syncs.
pub mod Calls
pub mod Memory
-- What a crash leaves by a choice of what survives.
pub mod Survivors
-- Laws of volumes in memory, which the impl of the trait cites.
pub mod MemoryLemmas
