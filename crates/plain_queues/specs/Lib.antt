-- keys of queues
pub mod Keys
-- the units that are in queues, and stopped queues
pub mod Queues
-- which units are offered, and why others are not
pub mod Offered
-- what each call changes
pub mod Changes
-- the status of a queue
pub mod Status
-- the queues as an operator lists them
pub mod Lines
-- the queues of a log
pub mod LogQueues
