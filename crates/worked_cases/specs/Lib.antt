-- what volumes are made to hold before a run
pub mod Held
-- what volumes hold as runs start
pub mod Starts
-- what a run gives, and the steps that a case makes of its runs
pub mod Judged
