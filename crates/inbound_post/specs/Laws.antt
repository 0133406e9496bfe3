-- What is true of a posting, and of what a Commit does to change pointers, in other words than the definitions. This project's own.
use Rattle.std.specs.Prelude.{◌≡◌, ℕ, ◌↔◌, List, [], Option, Some, None, Contains, slice_get, codes, Ok}
use Rattle.idoc_record.specs.declared.control_field.ControlField.TheVariants.{Mestyp}
use Rattle.idoc_record.specs.Control.{field_of}
use Rattle.segment_defs.specs.declared.field.Field.{Field}
use Rattle.segment_defs.specs.declared.version.Version.{Version}
use Rattle.segment_defs.specs.Definitions.{version_of}
use Rattle.segment_defs.specs.Version.{field_text}
use Rattle.dist_model.specs.declared.kind.Kind.{Kind}
use Rattle.dist_model.specs.declared.lists.Lists.{Lists}
use Rattle.dist_model.specs.declared.message.Message.{Message}
use Rattle.dist_model.specs.Model.{StandsForMessage, entries_for}
use Rattle.idoc_tree.specs.Forest.{Segment, Forest, tree}
use Rattle.idoc_tree.specs.FromRecords.{built}
use Rattle.unit_core.specs.declared.raw_unit_doc.RawUnitDoc.{RawUnitDoc}
use Rattle.change_pointers.specs.declared.pointer.Pointer.{Pointer}
use Rattle.change_pointers.specs.Laws.{ClearsAlone}
use Rattle.object_store.specs.declared.posting.Posting.{Posting}

-- the data of a segment of this definition have a value for the object's field of a name: it is the text of the field of that name, which
-- is not the key field, and it is not `/`
pub record IsFieldValue (definition : Version) (key : ℕ) (sdata name value : List ℕ) : Type 0 where
  pub place : ℕ
  pub field : Field
  pub here : slice_get definition.fields place ≡ Some field
  pub other : place ≡ key → ⊥
  pub named : field.name ≡ name
  pub text : field_text sdata field ≡ value
  pub said : value ≡ codes "/" → ⊥

-- the key that the data of a segment have: the text of the key field, without blanks at its end; none where that is `/`, or the
-- definition has no such field
pub record IsKeyOf (definition : Version) (key : ℕ) (sdata value : List ℕ) : Type 0 where
  pub text : (field : Field) → slice_get definition.fields key ≡ Some field → (field_text sdata field ≡ codes "/" → ⊥) → value ≡ field_text sdata field
  pub no_data : (field : Field) → slice_get definition.fields key ≡ Some field → field_text sdata field ≡ codes "/" → value ≡ []
  pub no_field : slice_get definition.fields key ≡ None → value ≡ []

-- A posting is what the root segment of a document says of an object: MESTYP stands for a message type, by the entries for which the
-- document is read; the object is of the kind of that; its key and the values that its fields get are those that the root segment has by its own
-- definition.
pub record IsSaidBy (model : Lists) (doc : RawUnitDoc) (posting : Posting) : Type 0 where
  pub message : ℕ
  pub named : StandsForMessage model (field_of doc.control Mestyp) message
  pub type : Message
  pub typed : slice_get model.messages message ≡ Some type
  pub kind : Kind
  pub of_kind : slice_get model.kinds type.kind ≡ Some kind
  pub root : Segment
  pub below : Forest
  pub after : Forest
  pub read : built model.definitions (entries_for model message doc.control) doc.segments ≡ Ok (tree root below after)
  pub definition : Version
  pub of_root : version_of model.definitions root.type root.version ≡ Some definition
  pub object : posting.kind ≡ kind.name
  pub key : IsKeyOf definition kind.key root.sdata posting.key
  pub fields : (name value : List ℕ) → Contains posting.fields (record { field = name; value = value }) ↔ IsFieldValue definition kind.key root.sdata name value

-- What a Commit does to the pointers: one that names no message type clears none, one whose name stands for a message type clears those of
-- that and no others, and one whose name stands for none clears none.
pub record TakesUp (model : Lists) (origin : Option (List ℕ)) (old new : List Pointer) : Type 0 where
  pub nameless : origin ≡ None → new ≡ old
  pub named : (name : List ℕ) (message : ℕ) → origin ≡ Some name → StandsForMessage model name message → ClearsAlone message old new
  pub unknown : (name : List ℕ) → origin ≡ Some name → ((message : ℕ) → StandsForMessage model name message → ⊥) → new ≡ old
