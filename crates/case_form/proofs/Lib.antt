-- the parts of a text, and what they stand for
pub mod TextLemmas
-- the items of a file, line by line
pub mod ItemLemmas
-- the steps of one item after another
mod AnsweredLemmas
