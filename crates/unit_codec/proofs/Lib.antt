-- the rules of texts, and what the types say of them
pub mod RuleLemmas
-- lists that are read one value after another
pub mod ListLemmas
-- kinds of fields whose spelling is exact
pub mod KindLemmas
-- the fields of records are exact
pub mod FieldLemmas
-- the records are exact
pub mod RecordLemmas
-- entries are exact, and all of some bytes
pub mod EntryLemmas
-- what was read can be written
pub mod ConditionLemmas
