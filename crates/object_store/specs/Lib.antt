-- what is at each of some texts
pub mod Texts
-- objects, as all of them together are seen
pub mod Objects
-- the order of a listing
pub mod Listing
-- postings and puts
pub mod Posting
