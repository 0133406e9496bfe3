-- Lemmas on the tables of a world. Each file stands on those before it.

-- claims as the tables know them: one more, one less
pub mod ClaimsLemmas
-- tables that stay in step where a claim is made or given up, and where a system falls
pub mod InStepLemmas
-- tables that stay in step where a record joins a log
pub mod JoiningLemmas
-- what was entered is taken back; the state of one system changes
pub mod EnteringLemmas
-- Lemmas on the world that is kept. Each file stands on those before it.

-- the volumes hold the logs: one more record, a system that falls
pub mod OnVolumesLemmas
-- why each system is down, behind an append and behind a fall
pub mod CausesLemmas
-- the sums over all systems are in order, and grow with the logs
pub mod TotalsLemmas
-- no event lets a sum fall
pub mod WorldTotals
-- what is counted beside the logs is theirs, behind an append and behind a fall
pub mod CountedLemmas
-- the tables are in step with the logs: a record that is noted, a system that falls behind it
pub mod BehindLemmas
-- how the write of a record ends, by what the journal answered
mod WritingLemmas
-- what the tables answer, said by the logs and the claims
pub mod AnswersLemmas
-- the unit of an id stands at the place of its number
pub mod PlaceLemmas
-- Lemmas on the calls of a landscape. Each file stands on those before it.

-- calls that append nothing, and what a call leaves on the volumes
pub mod HappenedLemmas
-- what the tables offer is what the protocol offers, and what a claim of it makes of the world
pub mod OfferedLemmas
-- the record of an event: what becomes of the world, that its system may append it, and that it can be written
pub mod EventLemmas
-- the claim that goes with the record of an event is one on the record's unit
pub mod ClaimEndsLemmas
-- a record of an event joins
pub mod JoinsLemmas
-- how the appending of a record ends
pub mod EndsLemmas
-- however a call ends, logs have only grown
pub mod GrownLemmas
-- what a crash inside a call leaves is sound
pub mod CrashLemmas
-- the arrival of a unit
pub mod ArrivingLemmas
-- the end of a claim's work
pub mod FinishingLemmas
-- the reply to a shipment
pub mod ReplyingLemmas
-- the first unit that is offered is found, and claimed
pub mod ClaimingLemmas
-- nothing is left to do
pub mod QuietLemmas
-- a confirmation and the reply to it
pub mod ConfirmingLemmas
-- a record that is asked for
pub mod OperatingLemmas
-- a late request
pub mod LateLemmas
-- what comes of a late request
pub mod LateEndsLemmas
-- Lemmas on a landscape that begins. Each file stands on those before it.

-- volumes that are opened for a landscape
pub mod OpeningLemmas
-- the logs and the units over which the exactly-once law is looked at
mod BreachLemmas
-- the first record of each system
pub mod BeginningLemmas
-- systems that begin where logs are there, for who begins a landscape over them
pub mod ReopeningLemmas
-- a system that is down is up again, with what a look at its volume found
pub mod OpenedAgainLemmas
