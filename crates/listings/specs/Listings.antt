-- A listing that an operator asks for, by the log of a system. This project's own.
use Rattle.std.specs.Prelude.{◌≡◌, ⊤, ℕ, List, Option, Some, None, Result, Ok, Err}
use Rattle.std.specs.List.{AllByRecursion}
use Rattle.ale_base.specs.Tid.{TidOf}
use Rattle.unit_core.specs.declared.ale_unit.AleUnit.{AleUnit}
use Rattle.unit_core.specs.declared.records.Record.{Record}
use Rattle.status_log.specs.declared.line.HistoryLine.{HistoryLine}
use Rattle.status_log.specs.declared.line.QueueLine.{QueueLine}
use Rattle.status_log.specs.declared.listing.Listing.{Listing}
use Rattle.status_log.specs.declared.listing.Listing.TheVariants.{Docs, Doc, History, Units, Queues, Objects}
use Rattle.status_log.specs.declared.show.Show.{Show}
use Rattle.status_log.specs.declared.show.Show.TheVariants as show
use Rattle.status_log.specs.declared.refusal.Refusal.{Refusal}
use Rattle.status_log.specs.declared.refusal.Refusal.TheVariants.{N3, OutOfMemory}
use Rattle.listings.specs.declared.shown_document.ShownDocument.{ShownDocument}
use Rattle.listings.specs.DocumentLines.{document_lines}
use Rattle.listings.specs.OneDocument.{document_shown}
use Rattle.listings.specs.History.{history_of}
use Rattle.listings.specs.UnitLines.{unit_lines}
use Rattle.listings.specs.QueueLines.{AreQueueLines}
use Rattle.listings.specs.ObjectLines.{object_lines}
use Rattle.listings.specs.Places.{HasDigits}

-- the system of which a listing is asked for
abbrev pub system_of : Show → ℕ
system_of (show.Docs system) = system
system_of (show.Doc system number) = system
system_of (show.History system way number) = system
system_of (show.Units system) = system
system_of (show.Queues system) = system
system_of (show.Objects system) = system

-- the outbound document that is asked for is listed; or there is none, or memory was wanting
abbrev pub DocumentListed : Option ShownDocument → Result Listing Refusal → Type 0
DocumentListed (Some shown) (Ok listing) = listing ≡ Doc shown.control shown.lines
DocumentListed None (Err N3) = ⊤
DocumentListed shown (Err OutOfMemory) = ⊤
DocumentListed shown listing = ⊥

-- what became of the document that is asked for is listed; or there is none, or memory was wanting
abbrev pub HistoryListed : Option (List HistoryLine) → Result Listing Refusal → Type 0
HistoryListed (Some lines) (Ok listing) = listing ≡ History lines
HistoryListed None (Err N3) = ⊤
HistoryListed lines (Err OutOfMemory) = ⊤
HistoryListed lines listing = ⊥

-- the lines of a listing are those of the queues of a log
abbrev pub AreQueuesListed : List AleUnit → List Record → (TidOf → Option ℕ) → (TidOf → Option ℕ) → Listing → Type 0
AreQueuesListed committed log sent arrived listing = (lines : List QueueLine) × (listing ≡ Queues lines) × AreQueueLines committed log sent arrived lines

-- memory was wanting, or a listing is this one
abbrev pub ListedOr : (Listing → Type 0) → Result Listing Refusal → Type 0
ListedOr is (Ok listing) = is listing
ListedOr is (Err OutOfMemory) = ⊤
ListedOr is (Err why) = ⊥

-- What is asked for is listed, of a log, of the moments of its records, of the units that it commits, and of the claims on outgoing and on
-- incoming units. It is refused exactly where it is a document that is not there.
abbrev pub ListedAs : List AleUnit → List Record → List (Option ℕ) → (TidOf → Option ℕ) → (TidOf → Option ℕ) → Show → Result Listing Refusal
    → Type 0
ListedAs committed log moments sent arrived (show.Docs system) = ListedOr (λ listing. listing ≡ Docs (document_lines log))
ListedAs committed log moments sent arrived (show.Doc system number) = DocumentListed (document_shown log number.0)
ListedAs committed log moments sent arrived (show.History system way number) = HistoryListed (history_of log moments way number.0)
ListedAs committed log moments sent arrived (show.Units system) = ListedOr (λ listing. listing ≡ Units (unit_lines committed log))
ListedAs committed log moments sent arrived (show.Queues system) = ListedOr (AreQueuesListed committed log sent arrived)
ListedAs committed log moments sent arrived (show.Objects system) = ListedOr (λ listing. listing ≡ Objects (object_lines log))

-- the places of the segments that are listed fit their data records
abbrev pub HasPlaces : Listing → Type 0
HasPlaces (Doc control lines) = AllByRecursion (λ one. HasDigits one.place) lines
HasPlaces listing = ⊤
