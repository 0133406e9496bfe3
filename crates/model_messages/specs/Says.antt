-- What the sections on message types say, and no order of checks: each entry of a list stands for one thing, and what it
-- names is what stands there.
use Rattle.std.specs.Prelude.{◌≡◌, ℕ, List, ◌∷◌, ◌++◌, Some, slice_get, MatchOption}
use Rattle.toml.specs.Data.{Data, Members, get_member, as_str, as_table}
use Rattle.segment_defs.specs.declared.definitions.Definitions.{Definitions}
use Rattle.segment_defs.specs.declared.idoc_type.IdocType.{IdocType}
use Rattle.segment_defs.specs.Definitions.{versions_of}
use Rattle.dist_model.specs.declared.filter.FieldPlace.{FieldPlace}
use Rattle.dist_model.specs.declared.filter.Filter.{Filter}
use Rattle.dist_model.specs.declared.kind.Kind.{Kind}
use Rattle.dist_model.specs.declared.message.Message.{Message}
use Rattle.dist_model.specs.declared.message.PostingMode.{PostingMode}
use Rattle.dist_model.specs.declared.message.PostingMode.TheVariants.{Insert, Upsert}
use Rattle.dist_model.specs.declared.message.Reduced.{Reduced}
use Rattle.dist_model.specs.Field.{all_fields, first_fields}
use Rattle.dist_model.specs.Kind.{kind_names}
use Rattle.dist_model.specs.Message.{message_names}
use Rattle.dist_model.specs.Model.{idoc_type_names, type_names}
use Rattle.model_keys.specs.Says.{HasText, IsPlaceNamed, SaysList, SaysListOrNone, SaysPlace}
use Rattle.model_messages.specs.declared.keys.TheConstants.{FIELD, IDOCTYPE, INSERT, KEEP, KEY, KIND, MESSAGE, NAME, POINTERS, POSTING, REQUIRED, SEGMENT}
use Rattle.model_messages.specs.declared.keys.TheConstants.{UPSERT}
use Rattle.model_keys.specs.Fields.{field_names}

-- a kind: its key is named among the fields of the first definition of its segment type
pub record SaysKind (definitions : Definitions) (before : List Kind) (d : Data) (kind : Kind) : Type 0 where
  pub table : Members
  pub is : as_table d ≡ Some table
  pub name : HasText NAME.now table kind.name
  pub segment : SaysPlace (type_names definitions.types) SEGMENT.now table kind.segment
  pub key : SaysPlace (field_names (first_fields (versions_of definitions kind.segment))) KEY.now table kind.key

-- the word for what a posting does
abbrev pub word_of : PostingMode → List ℕ
word_of Upsert = UPSERT.now
word_of Insert = INSERT.now

-- a field of the objects of a kind
abbrev pub SaysField : Definitions → Kind → List ℕ → Data → ℕ → Type 0
SaysField definitions kind before d field = IsPlaceNamed (field_names (all_fields definitions kind.segment)) d field

-- a message type: a posting makes the object or changes it where the entry says nothing of that
pub record SaysMessage (definitions : Definitions) (types : List IdocType) (kinds : List Kind) (before : List Message) (d : Data)
    (message : Message) : Type 0 where
  pub table : Members
  pub is : as_table d ≡ Some table
  pub name : HasText NAME.now table message.name
  pub type : SaysPlace (idoc_type_names types) IDOCTYPE.now table message.idoctype
  pub about : SaysPlace (kind_names kinds) KIND.now table message.kind
  pub posting : MatchOption (get_member POSTING.now table) (message.posting ≡ Upsert) (λ d. as_str d ≡ Some (word_of message.posting))
  pub kind : Kind
  pub of_kind : slice_get kinds message.kind ≡ Some kind
  pub required : SaysListOrNone (SaysField definitions kind) REQUIRED.now table message.required
  pub pointers : SaysListOrNone (SaysField definitions kind) POINTERS.now table message.pointers

-- a field that is kept: the name of its segment type, a dot, and its own name
pub record SaysKept (definitions : Definitions) (before : List FieldPlace) (d : Data) (kept : FieldPlace) : Type 0 where
  pub type : List ℕ
  pub name : List ℕ
  pub text : as_str d ≡ Some (type ++ 46 ∷ name)
  pub typed : slice_get (type_names definitions.types) kept.segment ≡ Some type
  pub named : slice_get (field_names (all_fields definitions kept.segment)) kept.field ≡ Some name

-- a reduced message type
pub record SaysReduced (definitions : Definitions) (messages : List Message) (before : List Reduced) (d : Data) (reduced : Reduced) : Type 0 where
  pub table : Members
  pub is : as_table d ≡ Some table
  pub name : HasText NAME.now table reduced.name
  pub message : SaysPlace (message_names messages) MESSAGE.now table reduced.message
  pub keep : SaysList (SaysKept definitions) KEEP.now table reduced.keep

-- a filter
pub record SaysFilter (definitions : Definitions) (messages : List Message) (before : List Filter) (d : Data) (filter : Filter) : Type 0 where
  pub table : Members
  pub is : as_table d ≡ Some table
  pub name : HasText NAME.now table filter.name
  pub message : SaysPlace (message_names messages) MESSAGE.now table filter.message
  pub segment : SaysPlace (type_names definitions.types) SEGMENT.now table filter.segment
  pub field : SaysPlace (field_names (all_fields definitions filter.segment)) FIELD.now table filter.field
