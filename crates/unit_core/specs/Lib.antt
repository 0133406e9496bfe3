-- what a log says of its units
pub mod Filters
-- units in queues, and at their heads
pub mod Queues
-- the exactly-once law
pub mod Once
-- what a log that is legal keeps by itself
pub mod Inside
-- whether two units are the same
pub mod SameUnit
-- the list of each system, and numbered units
pub mod Systems
-- what private functions cite
pub mod steps
