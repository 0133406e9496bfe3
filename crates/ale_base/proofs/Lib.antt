-- Lemmas of general use, which every crate may cite.

-- an option's value
pub mod OptionLemmas
-- what a call gave where it succeeded
pub mod OnOkLemmas
-- what holds of each element, keys that stand once, elements by their places
pub mod ListLemmas
-- what stands in a list, what is found in it and what is kept of it
pub mod MemberLemmas
-- a list by its last element
pub mod SnocLemmas
-- one list begins another
pub mod PrefixLemmas
-- lines that end, and the last one
pub mod LinesLemmas
-- Lemmas on this crate's types.

-- digits and the numbers that they spell
pub mod HexadecimalLemmas
-- an id has one spelling
pub mod TidLemmas
-- which bytes are the name of a queue
pub mod QueueNameLemmas
