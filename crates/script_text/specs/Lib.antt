-- the words of a line, and their kinds
pub mod Words
pub mod Kinds
-- the forms of commands, each a row of a table
pub mod Forms
-- the commands of a script, or its first fault
pub mod Script
