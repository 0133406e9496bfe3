-- what is known of a work
pub mod Work
-- which works are still to be done
pub mod ToDo
-- what a desk keeps
pub mod Desk
-- a work is done
pub mod Done
-- what only private functions cite
pub mod steps
