-- the numbers of refusals
pub mod Refusal
-- the statuses of documents
pub mod Statuses
-- which records of a log gave them
pub mod Given
