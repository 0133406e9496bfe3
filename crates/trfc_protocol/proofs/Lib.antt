-- Why a safe world stays safe. Each file stands on those before it.

-- the systems of a world, and another state of one of them
pub mod WorldLemmas
-- legal logs, and the records that may join them
pub mod LegalLemmas
-- what a legal log says of its units, by legality alone
pub mod LegalFacts
-- what legality gives of one log by itself, and numbered units
pub mod InsideLemmas
-- claims, where one goes and where one more is made
pub mod ClaimLemmas
-- sound logs, and a record that joins one of them
pub mod SoundLemmas
-- a system writes a record
pub mod SafeLemmas
-- what a step may do: a record joins, a claim goes, one more is made
pub mod NextLemmas
-- the events, by the headings of the protocol's page: a unit is committed, claimed and shipped
pub mod SendingLemmas
-- it is claimed by its receiver, and executed
pub mod ExecutingLemmas
-- replies arrive, and messages are lost
pub mod ReplyingLemmas
-- confirmations
pub mod ConfirmingLemmas
-- the record of an event
pub mod RecordLemmas
-- which record a system may be writing as it falls
pub mod KeepingLemmas
-- falls and openings
pub mod FallLemmas
-- all events
pub mod EventLemmas
-- a world that begins with given logs
pub mod StartLemmas
-- what crates above need beside the events
pub mod ForCallers
