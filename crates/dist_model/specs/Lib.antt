-- one system
pub mod System
-- fields by their places, and values of them
pub mod Field
-- kinds of objects, message types and filters
pub mod Kind
pub mod Message
pub mod Filter
-- which messages go from which system to which
pub mod Way
pub mod Row
-- profiles of what is sent and received
pub mod Outbound
pub mod Inbound
-- the whole model, and what its names stand for
pub mod Model
-- what its numbers stand for, by name
pub mod Named
-- what the index of a model holds
pub mod Index
-- triples of numbers
pub mod Triple
