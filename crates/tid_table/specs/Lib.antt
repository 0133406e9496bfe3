-- ids as the table keeps them
pub mod Numbers
-- what calls change
pub mod Tids
-- the table of a log
pub mod LogTids
