-- What the tables of a log answer and become, by its legality alone. Each file stands on those before it.

-- the places of a log
pub mod PlacesLemmas
-- a record that may follow a legal log joins its tables
pub mod JoinsLegalLemmas
-- what the tables answer is what the law asks
pub mod LawLemmas
-- a record is noted
pub mod ReadLemmas
