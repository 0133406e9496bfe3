-- Copies of steps: what private functions cite. Each module names the public definition that it serves.

-- one name of a queue, for `queues_by` of `QueueNames`
pub mod Naming
-- masters in memory, for `master_of` of `Added`
pub mod Reading
-- documents that wait, for `dispatched` of `Added`
pub mod Packets
-- fields that are written, for `control_text` of `ControlRecord`
pub mod Texts
-- what is kept behind some records, for `past_of` of `Committed`
pub mod Behind
-- what documents get, for `gets` of `Statuses`
pub mod Adding
