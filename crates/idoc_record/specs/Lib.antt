-- texts at places of a record, and the places of the control record's fields
pub mod Parts
pub mod ControlField
-- the two records, and how lines are read as them
pub mod Control
pub mod Data
-- numbers in digits of a fixed count, and the bytes of a data record that is written
pub mod Digits
pub mod Written
