-- the words of items that find nothing
pub mod Bench
