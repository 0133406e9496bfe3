-- Lemmas on units in queues. Each file stands on those before it.

-- units by their ids, and one of them changed
pub mod UnitLemmas
-- a unit is offered exactly where nothing speaks against it
pub mod OfferedLemmas
-- there is but one list of the lines of queues
pub mod LinesLemmas
-- what each record of a log does to queues over some units
pub mod LogQueuesLemmas
-- what each record of a log does to its queues
pub mod RecordLemmas
-- which unit is offered, by the log
pub mod GoesLemmas
-- the bound of a finish, by an example
pub mod LooksExample
