-- What a received document is to make of an object: the posting of its root segment. SAP Library, ALE: inbound processing hands a
-- document to the application; what that makes of it is this project's own rule.
use Rattle.std.specs.Prelude.{ℕ, suc, ◌==◌, ◌||◌, Bool, true, false, List, [], ◌∷◌, map, Option, Some, None, option_and_then, slice_get, codes, Result, Ok, Err}
use Rattle.std.specs.Prelude.{if◌then◌else◌}
use Rattle.std.specs.Option.{option_map}
use Rattle.ale_base.specs.Text.{is_text}
use Rattle.ale_base.specs.declared.change.FieldValue.{FieldValue}
use Rattle.segment_defs.specs.declared.field.Field.{Field}
use Rattle.segment_defs.specs.declared.version.Version.{Version}
use Rattle.segment_defs.specs.Definitions.{version_of}
use Rattle.segment_defs.specs.Version.{field_text, text_in}
use Rattle.dist_model.specs.declared.kind.Kind.{Kind}
use Rattle.dist_model.specs.declared.lists.Lists.{Lists}
use Rattle.dist_model.specs.declared.message.Message.{Message}
use Rattle.dist_model.specs.declared.message.PostingMode.{PostingMode}
use Rattle.dist_model.specs.declared.message.PostingMode.TheVariants.{Upsert, Insert}
use Rattle.dist_model.specs.Field.{all_fields}
use Rattle.idoc_tree.specs.declared.fault.SyntaxFault.{SyntaxFault}
use Rattle.idoc_tree.specs.Forest.{Segment, Forest, no_trees, tree}
use Rattle.idoc_reading.specs.Reading.{ReadDocument, read_by_type}
use Rattle.unit_core.specs.declared.raw_unit_doc.RawUnitDoc.{RawUnitDoc}
use Rattle.change_pointers.specs.Noted.{name_at}
use Rattle.object_store.specs.declared.posting.Posting.{Posting}

-- whether a text is no data: `/` alone, as a reduced message has it
abbrev pub is_no_data : List ℕ → Bool
is_no_data text = is_text text (codes "/")

-- the text of the key; no bytes where it is no data
abbrev pub key_text : List ℕ → List ℕ
key_text text = if is_no_data text then [] else text

-- the fields that are posted, of those from this place on: each but the key that is not no data, with its text. A blank one is
-- posted too, and empties its field
abbrev pub posted_fields : ℕ → ℕ → List ℕ → List Field → List FieldValue
posted_fields key place sdata [] = []
posted_fields key place sdata (field ∷ fields) =
    if (place == key) || is_no_data (field_text sdata field)
    then posted_fields key (suc place) sdata fields
    else record { field = field.name; value = field_text sdata field } ∷ posted_fields key (suc place) sdata fields

-- whether a posting is to make its object
abbrev pub is_insert : PostingMode → Bool
is_insert Upsert = false
is_insert Insert = true

-- the posting of data by their definition, of a message type about objects of a kind
abbrev pub posting_with : Lists → Message → Kind → List ℕ → Version → Posting
posting_with model message kind sdata version =
    record {
      kind = kind.name;
      key = key_text (text_in version.fields sdata kind.key);
      fields = posted_fields kind.key 0 sdata version.fields;
      required = map (name_at (all_fields model.definitions kind.segment)) message.required;
      insert = is_insert message.posting;
    }

-- the same, by a message type and its kind
abbrev pub posting_by : Lists → Segment → Message → Kind → Option Posting
posting_by model segment message kind =
    option_map (posting_with model message kind segment.sdata) (version_of model.definitions segment.type segment.version)

-- the posting of the root segment of a document of a message type
abbrev pub posting_made : Lists → Message → Segment → Option Posting
posting_made model message segment = option_and_then (posting_by model segment message) (slice_get model.kinds message.kind)

-- the same, by the number of the message type
abbrev pub posting_of : Lists → ℕ → Segment → Option Posting
posting_of model message segment = option_and_then (λ type. posting_made model type segment) (slice_get model.messages message)

-- the root of the first tree
abbrev pub root_of : Forest → Option Segment
root_of no_trees = None
root_of (tree root below after) = Some root

-- the root segment of what was made of records, if it is a forest
abbrev pub root_built : Result Forest SyntaxFault → Option Segment
root_built (Ok forest) = root_of forest
root_built (Err fault) = None

-- the posting of what was read of a document
abbrev pub posting_read : Lists → ReadDocument → Option Posting
posting_read model read = option_and_then (posting_of model read.message) (root_built read.made)

-- the posting of a document, whatever profile there is for it. None where it is not read by its message type
abbrev pub posting : Lists → RawUnitDoc → Option Posting
posting model doc = option_and_then (posting_read model) (read_by_type model doc.control doc.segments)
