-- What one record adds to the outbound documents and the units of its log, under the model in force there. SAP Library,
-- ALE: documents are sent immediately or collected; records, numbers and packets are this project's own.
use Rattle.std.specs.Prelude.{ℕ, suc, ◌+◌, ◌-◌, ◌*◌, ◌/◌, ◌==◌, ◌||◌, Bool, true, false, List, [], ◌∷◌, ◌++◌, length, map, filter, fold, take, drop, nat_eq}
use Rattle.std.specs.Prelude.{Option, Some, None, option_and_then, Result, Ok, Err, if◌then◌else◌}
use Rattle.std.specs.List.{filter_map, flat_map, range_with_len}
use Rattle.std.specs.Option.{option_map_or}
use Rattle.ale_base.specs.Text.{is_text}
use Rattle.ale_base.specs.declared.doc_num.DocNum.{DocNum}
use Rattle.ale_base.specs.declared.queue_name.NameFault.{NameFault}
use Rattle.idoc_record.specs.declared.control_field.ControlField.TheVariants.{Idoctyp}
use Rattle.idoc_record.specs.Control.{field_of}
use Rattle.dist_model.specs.declared.lists.Lists.{Lists}
use Rattle.dist_model.specs.declared.outbound.Outbound.{Outbound}
use Rattle.dist_model.specs.Model.{outbound_of, places_from, receivers_of}
use Rattle.dist_model.specs.Named.{idoc_type_name_of}
use Rattle.idoc_tree.specs.declared.fault.SyntaxFault.{SyntaxFault}
use Rattle.idoc_tree.specs.Forest.{Forest}
use Rattle.idoc_reading.specs.Reading.{ReadDocument, read_by_type}
use Rattle.unit_core.specs.declared.raw_unit_doc.RawUnitDoc.{RawUnitDoc}
use Rattle.unit_core.specs.declared.records.Record.{Record}
use Rattle.unit_core.specs.declared.records.Record.TheVariants.{Commit, Dispatch}
use Rattle.outbound_build.specs.declared.added.Added.{Added}
use Rattle.outbound_build.specs.declared.added.Fate.{Fate}
use Rattle.outbound_build.specs.declared.added.Fate.TheVariants.{Sent, Waits, Refused}
use Rattle.outbound_build.specs.declared.added.OutDocument.{OutDocument}
use Rattle.outbound_build.specs.declared.added.OutUnit.{OutUnit}
use Rattle.outbound_build.specs.declared.added.Waiting.{Waiting}
use Rattle.outbound_build.specs.declared.outbox.Outbox.{Outbox}
use Rattle.outbound_build.specs.declared.batch.Batch.{Batch}
use Rattle.outbound_build.specs.declared.parcel.Parcel.{Parcel}
use Rattle.outbound_build.specs.declared.queue_lists.QueueLists.{QueueLists}
use Rattle.outbound_build.specs.Document.{Document, carried}
use Rattle.outbound_build.specs.QueueNames.{named_once, queues_by}
use Rattle.outbound_build.specs.Sent.{sent}

-- a master that was read: its message type, and the document
pub record Master : Type 0 where
  pub message : ℕ
  pub document : Document

-- the master of a message type, if its records built a forest
abbrev pub built_master : ℕ → List ℕ → Result Forest SyntaxFault → Option Master
built_master message control (Ok forest) = Some (record { message = message; document = record { control = control; forest = forest } })
built_master message control (Err fault) = None

-- whether IDOCTYP of a control record is blank or names this IDoc type
abbrev pub may_be_of : List ℕ → List ℕ → Bool
may_be_of control name = is_text (field_of control Idoctyp) [] || is_text (field_of control Idoctyp) name

-- what was read of a document with this control record, as a master: IDOCTYP does not contradict the IDoc type of the message type
abbrev pub master_read : Lists → List ℕ → ReadDocument → Option Master
master_read model control read =
    if may_be_of control (idoc_type_name_of model read.message) then built_master read.message control read.made else None

-- A document as a master: it is read by its message type, and IDOCTYP does not contradict that. None where it is not read so.
abbrev pub master_of : Lists → RawUnitDoc → Option Master
master_of model doc = option_and_then (master_read model doc.control) (read_by_type model doc.control doc.segments)

-- a parcel of one profile: a unit that has no number yet
abbrev pub parcel_of : Outbound → QueueLists → List DocNum → List RawUnitDoc → Parcel
parcel_of profile queues numbers docs =
    record { receiver = profile.receiver; function = profile.function; queues = queues; numbers = numbers; docs = docs }

-- one more document, and the parcels with it
abbrev pub with_document : ℕ → ℕ → RawUnitDoc → Fate → List Parcel → Batch → Batch
with_document number row document fate parcels batch =
    record {
      documents = batch.documents ++ record { number = record { 0 = number }; row = row; fate = fate; document = document } ∷ [];
      parcels = batch.parcels ++ parcels;
    }

-- one more document that is sent at once, or refused for the name of a queue
abbrev pub with_unit : ℕ → ℕ → Outbound → RawUnitDoc → Batch → Result QueueLists NameFault → Batch
with_unit number row profile document batch (Ok queues) =
    with_document number row document Sent (parcel_of profile queues (record { 0 = number } ∷ []) (document ∷ []) ∷ []) batch
with_unit number row profile document batch (Err fault) = with_document number row document (Refused fault) [] batch

-- one more document, by the mode of its profile: in mode 4 documents are collected
abbrev pub with_sent : Lists → ℕ → ℕ → Outbound → Batch → Document → Batch
with_sent model number row profile batch document =
    if profile.outmod == 4
    then with_document number row (carried model.definitions document) Waits [] batch
    else with_unit number row profile (carried model.definitions document) batch (queues_by model document.forest profile)

-- what one row sends of a master, if anything, with the next number; so many documents are before the batch
abbrev pub with_row : Lists → ℕ → Document → Batch → ℕ → Batch
with_row model before master batch row =
    let number = before + length batch.documents + 1 in
    option_map_or (λ profile. option_map_or (with_sent model number row profile batch) (sent model row number master) batch)
    (outbound_of model row) batch

-- what all rows of a sender and the master's message type send of it, in the order of the model
abbrev pub with_rows : Lists → ℕ → ℕ → Batch → Master → Batch
with_rows model system before batch master =
    fold (with_row model before master.document) batch (receivers_of system master.message model)

-- what is sent of a document of a Commit: nothing where it is not read
abbrev pub with_master : Lists → ℕ → ℕ → Batch → RawUnitDoc → Batch
with_master model system before batch doc = option_map_or (with_rows model system before batch) (master_of model doc) batch

-- no documents, no units
abbrev pub no_batch : Batch
no_batch = record { documents = []; parcels = [] }

-- what is sent of all masters of a Commit, in their order
abbrev pub sent_of : Lists → ℕ → ℕ → List RawUnitDoc → Batch
sent_of model system before docs = fold (with_master model system before) no_batch docs

-- the rows of a sender, by their places, in order
abbrev pub rows_of : ℕ → Lists → List ℕ
rows_of system model = places_from (λ row. nat_eq system row.sender) 0 model.rows

-- the documents that wait for a row, in order
abbrev pub waiting_for : ℕ → List Waiting → List Waiting
waiting_for row waiting = filter (λ one. one.row == row) waiting

-- how many packets so many documents fill, with so many in each
abbrev pub packet_count : ℕ → ℕ → ℕ
packet_count size count = (count + size - 1) / size

-- documents cut in packets, of which the last may have fewer
abbrev pub packets : ℕ → List Waiting → List (List Waiting)
packets size waiting = map (λ place. take size (drop (place * size) waiting)) (range_with_len 0 (packet_count size (length waiting)))

-- the queues of what is collected: the names are the texts of the rules
abbrev pub collected_queues : Outbound → QueueLists
collected_queues profile =
    record { outq = named_once (map (λ rule. rule.text) profile.outq); inq = named_once (map (λ rule. rule.text) profile.inq) }

-- the parcel of a packet
abbrev pub packed : Outbound → List Waiting → Parcel
packed profile packet = parcel_of profile (collected_queues profile) (map (λ one. one.number) packet) (map (λ one. one.document) packet)

-- the parcels of the documents that wait for a row
abbrev pub packed_for : Lists → List Waiting → ℕ → List Parcel
packed_for model waiting row =
    option_map_or (λ profile. map (packed profile) (packets profile.packet (waiting_for row waiting))) (outbound_of model row) []

-- the parcels of all that waits: row by row, in the order of the model
abbrev pub dispatched : Lists → ℕ → List Waiting → List Parcel
dispatched model system waiting = flat_map (packed_for model waiting) (rows_of system model)

-- what a record adds, while its units have no numbers yet
abbrev pub batch_of : Lists → ℕ → Outbox → Record → Batch
batch_of model system outbox (Commit origin docs) = sent_of model system outbox.documents docs
batch_of model system outbox Dispatch = record { documents = []; parcels = dispatched model system outbox.waiting }
batch_of model system outbox _ = no_batch

-- a unit of a system with its number
abbrev pub unit_of : ℕ → ℕ → Parcel → OutUnit
unit_of system number parcel =
    record {
      unit = record {
        tid = record { system = system; unit = number };
        sender = system;
        receiver = parcel.receiver;
        function = parcel.function;
        outq = parcel.queues.outq;
        inq = parcel.queues.inq;
        docs = parcel.docs;
      };
      documents = parcel.numbers;
    }

-- units of a system, numbered on from this number
abbrev pub numbered : ℕ → ℕ → List Parcel → List OutUnit
numbered system number [] = []
numbered system number (parcel ∷ parcels) = unit_of system number parcel ∷ numbered system (suc number) parcels

-- whether a record may add anything: a Commit and a Dispatch
abbrev pub adds_any : Record → Bool
adds_any (Commit origin docs) = true
adds_any Dispatch = true
adds_any _ = false

-- What a record adds to the documents and units of a system's log, of which the outbox says how many there are and which
-- documents wait. A Commit and a Dispatch alone add anything.
abbrev pub added_by : Lists → ℕ → Outbox → Record → Added
added_by model system outbox next =
    record {
      documents = (batch_of model system outbox next).documents;
      units = numbered system (suc outbox.units) (batch_of model system outbox next).parcels;
    }

-- how many units there are with those that a record adds
abbrev pub units_with : Lists → ℕ → Outbox → Record → ℕ
units_with model system outbox next = outbox.units + length (batch_of model system outbox next).parcels

-- a document waits, or not, by its fate
abbrev pub waits_as : OutDocument → Fate → Option Waiting
waits_as document Waits = Some (record { number = document.number; row = document.row; document = document.document })
waits_as document _ = None

-- the documents that wait, of some that were added
abbrev pub waits_of : List OutDocument → List Waiting
waits_of documents = filter_map (λ document. waits_as document document.fate) documents

-- the documents that still wait after a record: a Dispatch leaves none
abbrev pub still_waiting : Record → List Waiting → List Waiting
still_waiting Dispatch waiting = []
still_waiting _ waiting = waiting

-- the outbox after a record and what it added
abbrev pub after : Record → Added → Outbox → Outbox
after next added outbox =
    record {
      documents = outbox.documents + length added.documents;
      waiting = still_waiting next outbox.waiting ++ waits_of added.documents;
      units = outbox.units + length added.units;
    }
