-- what fits, and when a case passes
pub mod Verdict
-- the text that a run of all cases prints
pub mod Report
-- rules, and who tells which
pub mod Rules
-- words, numbers and texts
pub mod Text
-- the items of a file, and their blocks
pub mod Items
-- steps and outcomes as programs make them
pub mod Made
-- the texts that cases share
pub mod Texts
-- cases whose items are answered one after another
pub mod Answered
