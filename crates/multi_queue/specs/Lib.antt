-- the tree of bits
pub mod Bits
-- queues as lists of places, and counts of heads
pub mod Counted
-- what is seen of them
pub mod Seen
-- the line of a queue
pub mod Listed
