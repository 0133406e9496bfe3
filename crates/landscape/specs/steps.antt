-- What only private functions cite.

-- how a command is judged by the tables of its system
pub mod Judged
-- records that are to be appended, and how their appending ends
pub mod Ready
-- the steps of an opening
pub mod Opening
-- what keeps a model from coming into force
pub mod Barred
