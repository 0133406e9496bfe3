-- Definitions that only private functions cite.

-- the levels of segments, for `places_in` of `Places`
pub mod Levels
-- units as the tables tell them, for `unit_lines` of `UnitLines`
pub mod Kept
