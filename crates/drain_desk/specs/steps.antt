-- What only private functions cite.

-- units are claimed
pub mod Claiming
-- works are done
pub mod Acting
-- workers have ended
pub mod Closing
