-- a forest by the entries of an IDoc type
pub mod Document
-- a document read by its message type
pub mod Reading
