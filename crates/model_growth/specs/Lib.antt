-- parts of entries, their numbers as names
pub mod Named
-- whether an entry of another model keeps one of a model: the tests, and what they decide
pub mod Tests
pub mod Kept
-- whether a model keeps another one
pub mod Growth
-- where what is not kept stands
pub mod Paths
