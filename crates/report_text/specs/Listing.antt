-- The lines of listings. Each begins with two blanks and ends in LF.
use Rattle.std.specs.Prelude.{ℕ, ◌<◌, ◌==◌, Bool, true, false, List, [], ◌++◌, Option, Some, None, codes, ⊤, if◌then◌else◌}
use Rattle.std.specs.List.{flat_map, AllByRecursion}
use Rattle.std.specs.Fmt.{decimal}
use Rattle.ale_base.specs.Blanks.{trimmed}
use Rattle.ale_base.specs.Tid.{spelling}
use Rattle.ale_base.specs.declared.change.FieldValue.{FieldValue}
use Rattle.ale_base.specs.declared.way.Way.{Way}
use Rattle.ale_base.specs.declared.way.Way.TheVariants.{Outgoing, Incoming}
use Rattle.idoc_record.specs.Written.{data_line}
use Rattle.plain_queues.specs.declared.queue_status.QueueStatus.{QueueStatus}
use Rattle.plain_queues.specs.declared.queue_status.QueueStatus.TheVariants as status
use Rattle.status_log.specs.declared.line.DocLine.{DocLine}
use Rattle.status_log.specs.declared.line.HistoryLine.{HistoryLine}
use Rattle.status_log.specs.declared.line.ObjectLine.{ObjectLine}
use Rattle.status_log.specs.declared.line.QueueLine.{QueueLine}
use Rattle.status_log.specs.declared.line.SegmentLine.{SegmentLine}
use Rattle.status_log.specs.declared.line.UnitLine.{UnitLine}
use Rattle.status_log.specs.declared.line.UnitState.{UnitState}
use Rattle.status_log.specs.declared.line.UnitState.TheVariants as state
use Rattle.status_log.specs.declared.listing.Listing.{Listing}
use Rattle.status_log.specs.declared.listing.Listing.TheVariants.{Docs, Doc, History, Units, Queues, Objects}
use Rattle.status_log.specs.declared.status.Status.{Status}
use Rattle.report_text.specs.Reply.{counted, shown_code, joined}

-- a line of a listing
abbrev pub line_of : List ℕ → List ℕ
line_of text = codes "  " ++ (text ++ codes "\n")

abbrev pub shown_way : Way → List ℕ
shown_way Outgoing = codes "out"
shown_way Incoming = codes "in"

-- ---- documents

-- a status in two digits, and behind 51 in brackets why the document was not posted
abbrev pub shown_status : Status → List ℕ
shown_status s = if s.code == 51 then shown_code 51 ++ (codes "(" ++ (decimal s.reason ++ codes ")")) else shown_code s.code

-- number, way, partner, message type, and statuses with commas between them
abbrev pub shown_doc : DocLine → List ℕ
shown_doc d =
    decimal d.doc.0 ++ (codes " " ++ (shown_way d.way ++ (codes " " ++ (d.partner ++ (codes " " ++ (d.message ++ (codes " "
    ++ joined (codes ",") shown_status d.statuses)))))))

-- ---- one document

-- a data record of the document of this control record, without the blanks at its end
unfoldable pub shown_segment : List ℕ → SegmentLine → List ℕ
shown_segment control s = trimmed (data_line control s.place s.line)

-- ---- the history of a document

-- a moment in seconds, or a minus where there is none
abbrev pub shown_moment : Option ℕ → List ℕ
shown_moment None = codes "-"
shown_moment (Some moment) = decimal moment

-- a status and its moment
abbrev pub shown_history : HistoryLine → List ℕ
shown_history h = shown_status h.status ++ (codes " " ++ shown_moment h.moment)

-- ---- units

abbrev pub shown_state : UnitState → List ℕ
shown_state state.Unsent = codes "open"
shown_state state.Cpicerr = codes "CPICERR"
shown_state state.Sysfail = codes "SYSFAIL"
shown_state state.Done = codes "done"
shown_state state.Ended = codes "ended"
shown_state state.Accepted = codes "accepted"
shown_state state.Executed = codes "executed"

abbrev pub shown_forgotten : Bool → List ℕ
shown_forgotten true = codes " forgotten"
shown_forgotten false = []

-- way, id and partner
abbrev pub shown_address : UnitLine → List ℕ
shown_address u = shown_way u.way ++ (codes " " ++ (spelling u.tid ++ (codes " " ++ u.partner)))

-- way, id, partner, state, and whether the id is forgotten
abbrev pub shown_unit : UnitLine → List ℕ
shown_unit u = shown_address u ++ (codes " " ++ (shown_state u.state ++ shown_forgotten u.forgotten))

-- ---- queues

abbrev pub shown_queue_status : QueueStatus → List ℕ
shown_queue_status status.Stop = codes "STOP"
shown_queue_status status.Running = codes "RUNNING"
shown_queue_status status.Sysfail = codes "SYSFAIL"
shown_queue_status status.Cpicerr = codes "CPICERR"
shown_queue_status status.Waitstop = codes "WAITSTOP"
shown_queue_status status.Waiting = codes "WAITING"
shown_queue_status status.Ready = codes "READY"

-- the destination of an outbound queue, and a blank; an inbound one has none
abbrev pub shown_destination : Way → List ℕ → List ℕ
shown_destination Outgoing partner = partner ++ codes " "
shown_destination Incoming partner = []

-- way, destination, name, count of units, status
abbrev pub shown_queue : QueueLine → List ℕ
shown_queue q =
    shown_way q.way ++ (codes " " ++ (shown_destination q.way q.partner ++ (counted q.name q.count ++ (codes " " ++ shown_queue_status q.status))))

-- ---- objects

abbrev pub shown_field : FieldValue → List ℕ
shown_field f = codes " " ++ (f.field ++ (codes "=" ++ f.value))

-- kind, key, and each field with its value
abbrev pub shown_object : ObjectLine → List ℕ
shown_object o = o.kind ++ (codes " " ++ (o.key ++ flat_map shown_field o.fields))

-- ---- listings

-- the lines of a listing, one behind another
abbrev pub listing_lines : Listing → List ℕ
listing_lines (Docs lines) = flat_map (λ d. line_of (shown_doc d)) lines
listing_lines (Doc control lines) = line_of (trimmed control) ++ flat_map (λ s. line_of (shown_segment control s)) lines
listing_lines (History lines) = flat_map (λ h. line_of (shown_history h)) lines
listing_lines (Units lines) = flat_map (λ u. line_of (shown_unit u)) lines
listing_lines (Queues lines) = flat_map (λ q. line_of (shown_queue q)) lines
listing_lines (Objects lines) = flat_map (λ o. line_of (shown_object o)) lines

-- the place of a segment fits its data record
abbrev pub IsPlaced : SegmentLine → Type 0
IsPlaced s = (s.place.segnum < 1000000) × (s.place.parent < 1000000) × (s.place.level < 100)

-- a document is printed where the places of its segments fit
abbrev pub IsPrintable : Listing → Type 0
IsPrintable (Doc control lines) = AllByRecursion IsPlaced lines
IsPrintable listing = ⊤
