-- How a document is read by its message type. SAP Library, IDoc interface: MESTYP names the message type, whose IDoc type says how the
-- segments hang together. That a reduced name stands for the type that it reduces is this project's own.
use Rattle.std.specs.Prelude.{◌≡◌, ◌≢◌, ℕ, ◌<◌, List, length, Option, Some, None, Result, Ok, Err}
use Rattle.std.specs.Option.{option_map}
use Rattle.idoc_record.specs.declared.control_field.ControlField.TheVariants.{Mestyp}
use Rattle.idoc_record.specs.Control.{field_of}
use Rattle.idoc_record.specs.Data.{DataRecord}
use Rattle.dist_model.specs.declared.lists.Lists.{Lists}
use Rattle.dist_model.specs.Model.{entries_for, message_named}
use Rattle.idoc_tree.specs.declared.fault.SyntaxFault.{SyntaxFault}
use Rattle.idoc_tree.specs.declared.fault.SyntaxFault.TheVariants.{OutOfMemory}
use Rattle.idoc_tree.specs.declared.node.Doc.{Doc}
use Rattle.idoc_tree.specs.Forest.{Forest, preorder}
use Rattle.idoc_tree.specs.FromRecords.{built}
use Rattle.idoc_tree.specs.Nodes.{forest_of}
use Rattle.idoc_reading.specs.declared.reading.Reading.{Reading}
use Rattle.idoc_reading.specs.declared.reading.Reading.TheVariants.{Unknown, Faulty, Read}
use Rattle.idoc_reading.specs.Document.{AreEntries, IsOfEntries}

-- what is read of a document: the number of its message type, and what its data records make
pub record ReadDocument : Type 0 where
  pub message : ℕ
  pub made : Result Forest SyntaxFault

-- a document with this control record as one of a message type
abbrev pub read_as : Lists → List ℕ → List DataRecord → ℕ → ReadDocument
read_as model control records message =
    record { message = message; made = built model.definitions (entries_for model message control) records }

-- A document read by its message type: the one that MESTYP stands for, and what the data records make by the entries for it. None where
-- MESTYP stands for no message type.
abbrev pub read_by_type : Lists → List ℕ → List DataRecord → Option ReadDocument
read_by_type model control records = option_map (read_as model control records) (message_named (field_of control Mestyp) model)

-- what was read, of a reading in memory
abbrev pub reading_in : Reading → Option ReadDocument
reading_in Unknown = None
reading_in (Faulty message fault) = Some (record { message = message; made = Err fault })
reading_in (Read message doc) = Some (record { message = message; made = Ok (forest_of doc.forest.items) })

-- a document that was read: it has the control record, a segment for each data record, and is one by the entries for its message type
pub record IsReadDocument (model : Lists) (control : List ℕ) (records : List DataRecord) (message : ℕ) (doc : Doc) : Type 0 where
  pub known : message < length model.messages
  pub same : doc.control ≡ control
  pub entries : AreEntries model.definitions (entries_for model message control)
  pub of_entries : IsOfEntries model.definitions (entries_for model message control) (forest_of doc.forest.items)
  pub each : length (preorder (forest_of doc.forest.items)) ≡ length records

-- what is true of each reading: want of memory is no fault of data records
abbrev pub IsReadingOf : Lists → List ℕ → List DataRecord → Reading → Type 0
IsReadingOf model control records Unknown = Unit {0}
IsReadingOf model control records (Faulty message fault) = (message < length model.messages) × (fault ≢ OutOfMemory)
IsReadingOf model control records (Read message doc) = IsReadDocument model control records message doc
