-- the tree of bits
pub mod BitsLemmas
-- counts of heads, through each change
pub mod CountedLemmas
-- what the plain definitions see
pub mod SeenLemmas
-- what the lists keep where a unit is written and stays in its queues
pub mod FlagLemmas
-- heads, stops and offers
pub mod OfferLemmas
-- why a unit is not offered
pub mod ReasonLemmas
-- which units are free
pub mod FreeLemmas
-- the status of a queue
pub mod StatusLemmas
-- the lines of the queues
pub mod LinesLemmas
-- queues whose entries or stops change, and queues that are used for the first time
pub mod LaneLemmas
-- what the lists keep where a unit is finished
pub mod FinishLemmas
-- what the lists keep where a unit is added
pub mod AddLemmas
