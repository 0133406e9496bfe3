-- which segments pass a group
pub mod Passing
-- what groups keep of a forest: the largest part
pub mod Kept
-- the same as it is found, from the leaves up
pub mod FromLeaves
-- copies of steps
pub mod steps
