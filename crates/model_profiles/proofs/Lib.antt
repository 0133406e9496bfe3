-- What was read keeps its rules, and is what its text says.

-- ways
pub mod WayRules
-- values of fields
pub mod ValueRules
-- rows of any section
pub mod RowRules
-- profiles of what is received
pub mod InboundRules
-- segment types that are removed, and values that are replaced
pub mod ChangeRules
-- rules that name queues
pub mod QueueRuleRules
-- how documents are collected, by which release and reduction, and to which target
pub mod SendingRules
-- profiles of what is sent
pub mod OutboundRules
