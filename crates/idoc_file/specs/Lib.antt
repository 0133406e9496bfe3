-- the documents that the lines of a file hold, and what a reader stands for
pub mod DocumentFile
pub mod Reading
