-- The master document that is made of an object. This project's own.
use Rattle.std.specs.Prelude.{◌≡◌, ℕ, ◌-◌, ◌≤◌, ◌==◌, List, length, take, Option, Some, slice_get, if◌then◌else◌}
use Rattle.std.specs.Option.{option_and_then, option_map, option_map_or}
use Rattle.idoc_record.specs.declared.control_field.ControlField.{ControlField}
use Rattle.idoc_record.specs.declared.control_field.ControlField.TheVariants.{Idoctyp, Mestyp}
use Rattle.idoc_record.specs.Control.{blank_text, control_with, written_at}
use Rattle.segment_defs.specs.declared.definitions.Definitions.{Definitions}
use Rattle.segment_defs.specs.declared.field.Field.{Field}
use Rattle.segment_defs.specs.Definitions.{versions_of}
use Rattle.segment_defs.specs.Version.{data_of}
use Rattle.idoc_tree.specs.declared.node.Doc.{Doc}
use Rattle.idoc_tree.specs.Forest.{Forest, Segment, leaf}
use Rattle.idoc_tree.specs.Nodes.{forest_of}
use Rattle.dist_model.specs.declared.kind.Kind.{Kind}
use Rattle.dist_model.specs.declared.lists.Lists.{Lists}
use Rattle.dist_model.specs.declared.message.Message.{Message}
use Rattle.dist_model.specs.Field.{all_fields}
use Rattle.dist_model.specs.Named.{idoc_type_name_of, message_name}
use Rattle.object_store.specs.Objects.{Fields, ObjectsOf, object_at, value_in}
use Rattle.change_pointers.specs.declared.pointer.ObjectKey.{ObjectKey}
use Rattle.change_pointers.specs.Noted.{name_at}

-- the kind of the objects of a message type
abbrev pub kind_of : Lists → ℕ → Option Kind
kind_of model message = option_and_then (λ m. slice_get model.kinds m.kind) (slice_get model.messages message)

-- the fields of a master's control record: it names its table, its IDoc type and its message type, and all else is blank
abbrev pub master_text : Lists → ℕ → ControlField → List ℕ
master_text model message = written_at Mestyp (message_name model message) (written_at Idoctyp (idoc_type_name_of model message) blank_text)

-- the control record of a master
abbrev pub master_control : Lists → ℕ → List ℕ
master_control model message = control_with (master_text model message)

-- the length of the field at a place
abbrev pub length_at : List Field → ℕ → ℕ
length_at fields place = option_map_or (λ field. field.length) (slice_get fields place) 0

-- the text of the field at a place: the key in the key field, and else the object's value. What is longer than its field is cut
abbrev pub object_text : List Field → ℕ → List ℕ → Fields → ℕ → List ℕ
object_text fields key_place key values place =
    take (length_at fields place) (if place == key_place then key else value_in (name_at fields place) values)

-- the segment of an object of a kind: it has the newest definition of the kind's segment type
abbrev pub object_segment : Definitions → List ℕ → Fields → Kind → Segment
object_segment definitions key values kind =
    record {
      type = kind.segment;
      version = length (versions_of definitions kind.segment) - 1;
      sdata = data_of (all_fields definitions kind.segment) (object_text (all_fields definitions kind.segment) kind.key key values);
    }

-- the segment of a master of a message type
abbrev pub master_segment : Lists → ℕ → List ℕ → Fields → Option Segment
master_segment model message key values = option_map (object_segment model.definitions key values) (kind_of model message)

-- the master of an object: the bytes of its control record, and its forest
pub record ObjectMaster : Type 0 where
  pub control : List ℕ
  pub forest : Forest

-- the master that is in memory
abbrev pub master_in : Doc → ObjectMaster
master_in doc = record { control = doc.control; forest = forest_of doc.forest.items }

-- the master of a message type whose one segment this is
abbrev pub master_with : Lists → ℕ → Segment → ObjectMaster
master_with model message segment = record { control = master_control model message; forest = leaf segment }

-- the master of an object for a message type, as the object is now. None where the object is not there
abbrev pub object_master : Lists → ℕ → ObjectsOf → ObjectKey → Option ObjectMaster
object_master model message objects object =
    option_and_then (λ values. option_map (master_with model message) (master_segment model message object.key values))
    (object_at object.kind object.key objects)

-- documents are made of the objects of a message type: it lists fields of them
pub record MakesDocuments (model : Lists) (message : ℕ) : Type 0 where
  pub type : Message
  pub here : slice_get model.messages message ≡ Some type
  pub listed : 1 ≤ length type.pointers
