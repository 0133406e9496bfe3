-- Definitions that only private functions cite.

-- what was put of a command
pub mod Put
-- commands that hold nothing up
pub mod Keeping
