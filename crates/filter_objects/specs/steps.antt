-- Copies of steps: what private functions cite. Each module names the public definition that it serves.

-- what is known of a group's conditions, for `passes` of `FromLeaves`
pub mod Conditions
-- what is known of mandatory types, for `needs` of `FromLeaves`
pub mod Needs
-- sets in memory, for `best` and `united` of `FromLeaves`
pub mod Members
