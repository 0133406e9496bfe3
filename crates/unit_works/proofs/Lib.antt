-- Lemmas on works. Each file stands on those before it.

-- what a record, a claim and a fall make of the counts and the claims of a world
pub mod WorldLemmas
-- claims that are made last
pub mod ClaimLemmas
-- what an event makes of the states of systems
pub mod StateLemmas
-- records one after the other, and how an event lets logs grow
pub mod LogLemmas
-- a system falls as it is to append a record
pub mod FellLemmas
-- how a landscape goes on
pub mod WentLemmas
-- what is prepared stays so while works go on
pub mod PreparedLemmas
-- what is appended, one after the other, until a system falls
pub mod GrowthLemmas
-- a system is felled
pub mod FellingLemmas
-- a unit is claimed
pub mod ClaimingLemmas
-- a unit that is shipped arrives
pub mod ArrivingLemmas
-- the work of a claim ends
pub mod EndingLemmas
-- a shipment is replied to
pub mod ReplyingLemmas
-- a unit is confirmed
pub mod ConfirmingLemmas
-- what is appended as a unit is delivered, shipped and confirmed
pub mod TripLemmas
-- works one after the other
pub mod WorkedLemmas
-- a confirmation that is due after acts was due before them, or was lost
pub mod LossLemmas
-- a unit takes one letter, and one more only where a system fell
pub mod OnceLemmas
-- where nothing holds units up, and none is offered, each went its whole way
pub mod IdleLemmas
-- acts hold nothing up where all comes and all is offered
pub mod ClearLemmas
-- a system that was felled was by an act
pub mod FelledLemmas
-- works until none is left
pub mod DrainedLemmas
-- the numbers by which letters are kept
pub mod NumberLemmas
