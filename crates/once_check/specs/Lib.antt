-- records that break the law, and the first of them
pub mod Breaches
-- what private functions cite
pub mod steps
