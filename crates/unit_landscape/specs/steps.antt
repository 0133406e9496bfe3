-- What the write of a record on a volume gives, and how it ends.
pub mod Writing
