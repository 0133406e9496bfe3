-- tests of values and conditions
pub mod PassingLemmas
-- tests of mandatory types
pub mod EnoughLemmas
-- what is found from the leaves up is the largest closed set
pub mod KeptLemmas
-- what is kept is a part, and closed sets have a closed union
pub mod PartLaws
-- there is one kept part
pub mod OneLemmas
-- where the same is needed, the same is found
mod SameLemmas
-- tables of what is needed
mod NeedLemmas
-- sets in memory, and the nodes beside them
mod MemberLemmas
