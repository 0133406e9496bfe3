-- Which documents the units carry that a record adds, in other words than the steps that make them: exactly those that a Commit sends at
-- once, and those that wait for the rows at a Dispatch, in packets, each once and in order. This project's own.
use Rattle.std.specs.Prelude.{◌≡◌, ⊤, ℕ, ◌≤◌, ◌==◌, List, [], ◌∷◌, ◌++◌, length, map, filter, Option, Some, None}
use Rattle.std.specs.List.{filter_map}
use Rattle.ale_base.specs.declared.doc_num.DocNum.{DocNum}
use Rattle.dist_model.specs.declared.lists.Lists.{Lists}
use Rattle.dist_model.specs.declared.outbound.Outbound.{Outbound}
use Rattle.dist_model.specs.Model.{outbound_of}
use Rattle.unit_core.specs.declared.raw_unit_doc.RawUnitDoc.{RawUnitDoc}
use Rattle.unit_core.specs.declared.records.Record.{Record}
use Rattle.unit_core.specs.declared.records.Record.TheVariants.{Commit, Dispatch}
use Rattle.outbound_build.specs.declared.added.Added.{Added}
use Rattle.outbound_build.specs.declared.added.Fate.{Fate}
use Rattle.outbound_build.specs.declared.added.Fate.TheVariants.{Sent}
use Rattle.outbound_build.specs.declared.added.OutDocument.{OutDocument}
use Rattle.outbound_build.specs.declared.added.OutUnit.{OutUnit}
use Rattle.outbound_build.specs.declared.added.Waiting.{Waiting}
use Rattle.outbound_build.specs.Added.{rows_of}

-- what a unit carries: the numbers of documents, and the documents
abbrev pub load_of : OutUnit → List DocNum × List RawUnitDoc
load_of one = (one.documents, one.unit.docs)

-- a load is these documents with their numbers, in this order
pub record IsLoad (load : List DocNum × List RawUnitDoc) (documents : List (DocNum × RawUnitDoc)) : Type 0 where
  pub numbers : load.0 ≡ map (λ one. one.0) documents
  pub docs : load.1 ≡ map (λ one. one.1) documents

-- loads are these documents, load after load: each document is in one of them, and there once
abbrev pub AreLoads : List (List DocNum × List RawUnitDoc) → List (DocNum × RawUnitDoc) → Type 0
AreLoads [] documents = documents ≡ []
AreLoads (load ∷ loads) documents =
    (own : List (DocNum × RawUnitDoc)) × (others : List (DocNum × RawUnitDoc)) × (documents ≡ own ++ others) × IsLoad load own × AreLoads loads others

-- the number and the document of each that waits for a row, in order
abbrev pub waits_for : ℕ → List Waiting → List (DocNum × RawUnitDoc)
waits_for row waiting = map (λ one. (one.number, one.document)) (filter (λ one. one.row == row) waiting)

-- a load before these fills a packet of this size; one that is the last has a document at least, and no more than fit
abbrev pub IsFilled : ℕ → List DocNum × List RawUnitDoc → List (List DocNum × List RawUnitDoc) → Type 0
IsFilled size load [] = (1 ≤ length load.1) × (length load.1 ≤ size)
IsFilled size load (next ∷ loads) = length load.1 ≡ size

-- loads fill packets of this size, all but the last
abbrev pub AreFilled : ℕ → List (List DocNum × List RawUnitDoc) → Type 0
AreFilled size [] = ⊤
AreFilled size (load ∷ loads) = IsFilled size load loads × AreFilled size loads

-- Loads are, row after row, what waits for each of these rows: no load has documents of two rows. Those of a row fill packets of the size that its
-- profile names.
abbrev pub AreLoadsByRow : Lists → List Waiting → List ℕ → List (List DocNum × List RawUnitDoc) → Type 0
AreLoadsByRow model waiting [] loads = loads ≡ []
AreLoadsByRow model waiting (row ∷ rows) loads =
    (own : List (List DocNum × List RawUnitDoc)) × (others : List (List DocNum × List RawUnitDoc)) × (loads ≡ own ++ others)
    × AreLoads own (waits_for row waiting) × ((profile : Outbound) → outbound_of model row ≡ Some profile → AreFilled profile.packet own)
    × AreLoadsByRow model waiting rows others

-- the number and the document, where it is sent at once
abbrev pub sent_as : OutDocument → Fate → Option (DocNum × RawUnitDoc)
sent_as document Sent = Some (document.number, document.document)
sent_as document _ = None

-- what is sent at once, of some documents
abbrev pub sent_in : List OutDocument → List (DocNum × RawUnitDoc)
sent_in documents = filter_map (λ document. sent_as document document.fate) documents

-- the units that a record adds carry, of a Commit, what it sends at once; of a Dispatch, what waits, row by row; and no other record adds
-- any
abbrev pub AreCarried : Lists → ℕ → List Waiting → Record → Added → Type 0
AreCarried model system waiting (Commit origin docs) added = AreLoads (map load_of added.units) (sent_in added.documents)
AreCarried model system waiting Dispatch added = (added.documents ≡ []) × AreLoadsByRow model waiting (rows_of system model) (map load_of added.units)
AreCarried model system waiting _ added = (added.documents ≡ []) × (added.units ≡ [])
