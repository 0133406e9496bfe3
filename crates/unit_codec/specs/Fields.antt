-- The kinds of the fields that records have.
use Rattle.std.specs.Prelude.{ℕ, ◌==◌, ◌&&◌, not, Bool, true, Option, Some, None, List, length, nat_le, take, drop, if◌then◌else◌}
use Rattle.std.specs.List.{list_all}
use Rattle.std.specs.Int.{w8, w16, w32, w64}
use Rattle.ale_base.specs.Blanks.{trimmed}
use Rattle.ale_base.specs.Text.{is_text}
use Rattle.ale_base.specs.Tid.{TidOf, IsTid, spelling, tid_of}
use Rattle.ale_base.specs.declared.system_no.TheConstants.SystemNo.{MAX}
use Rattle.ale_base.specs.declared.queue_name.TheConstants.QueueName.{MAX_LEN}
use Rattle.ale_base.specs.declared.mark.Mark.{Mark as Cause}
use Rattle.ale_base.specs.declared.mark.Mark.TheVariants.{Cpicerr, Sysfail}
use Rattle.ale_base.specs.declared.way.Way.{Way}
use Rattle.ale_base.specs.declared.way.Way.TheVariants.{Outgoing, Incoming}
use Rattle.ale_base.specs.declared.change.FieldValue.{FieldValue}
use Rattle.ale_base.specs.declared.doc_num.DocNum.{DocNum}
use Rattle.idoc_record.specs.declared.control.TheConstants.Control.{LEN}
use Rattle.idoc_record.specs.Control.{is_control_table, is_number, is_direction, field_of}
use Rattle.idoc_record.specs.declared.control_field.ControlField.TheVariants.{Tabnam, Docnum, Direct}
use Rattle.idoc_record.specs.Data.{DataRecord, is_no_segment}
use Rattle.unit_core.specs.declared.raw_unit_doc.RawUnitDoc.{RawUnitDoc}
use Rattle.unit_core.specs.declared.ale_unit.AleUnit.{AleUnit}
use Rattle.unit_core.specs.Queues.{has_name}
use Rattle.unit_codec.specs.declared.limits.TheConstants.{MOST_NAME, MOST_DATA, MOST_SEGMENTS, MOST_QUEUES}
use Rattle.unit_codec.specs.Kind.{Kind, plain, number, byte, sized, such_that, decoded, shaped, ◌then◌, listed}

-- ---- rules

-- between these numbers, both of them in
abbrev pub is_between : ℕ → ℕ → ℕ → Bool
is_between least most n = nat_le least n && nat_le n most

-- no blank at the end
abbrev pub ends_in_no_blank : List ℕ → Bool
ends_in_no_blank text = is_text (trimmed text) text

-- the name of a message, a kind or a field has 1 to 30 bytes
abbrev pub is_name : List ℕ → Bool
is_name text = is_between 1 MOST_NAME (length text)

-- the name of a function has 1 to 30 bytes and no blank at its end
abbrev pub is_function : List ℕ → Bool
is_function text = is_name text && ends_in_no_blank text

-- a byte that the name of a queue may have, and such a name of 1 to 24 bytes
abbrev pub is_queue_byte : ℕ → Bool
is_queue_byte b = is_between 33 126 b

abbrev pub is_queue : List ℕ → Bool
is_queue text = is_between 1 MAX_LEN (length text) && list_all is_queue_byte text

-- the name of a segment has 1 to 30 bytes, no blank at its end, and does not begin with `EDI_`
abbrev pub is_segment : List ℕ → Bool
is_segment text = is_function text && not (is_no_segment text)

-- the data of a segment are at most 1,000 bytes with no blank at their end
abbrev pub is_segment_data : List ℕ → Bool
is_segment_data text = nat_le (length text) MOST_DATA && ends_in_no_blank text

-- the bytes of a control record
abbrev pub is_control : List ℕ → Bool
is_control bytes =
    is_control_table (field_of bytes Tabnam) && (is_number (field_of bytes Docnum) && is_direction (field_of bytes Direct))

-- ---- simple fields

unfoldable pub name : Kind (List ℕ)
name = such_that (sized w8) is_name

-- a text of any bytes
unfoldable pub text : Kind (List ℕ)
text = sized w32

-- the byte of a direction
abbrev pub way_of : ℕ → Option Way
way_of n = if n == 0 then Some Outgoing else (if n == 1 then Some Incoming else None)

abbrev pub way_byte : Way → ℕ
way_byte Outgoing = 0
way_byte Incoming = 1

unfoldable pub way : Kind Way
way = decoded byte way_of way_byte (λ _. Unit {0})

-- the byte of why a unit waits
abbrev pub cause_of : ℕ → Option Cause
cause_of n = if n == 1 then Some Cpicerr else (if n == 2 then Some Sysfail else None)

abbrev pub cause_byte : Cause → ℕ
cause_byte Cpicerr = 1
cause_byte Sysfail = 2

unfoldable pub cause : Kind Cause
cause = decoded byte cause_of cause_byte (λ _. Unit {0})

unfoldable pub tid : Kind TidOf
tid = decoded (plain 24) tid_of spelling IsTid

unfoldable pub queue : Kind (List ℕ)
queue = such_that (sized w8) is_queue

-- the destination of a queue: any byte of an outbound one, and 0 of an inbound one
abbrev pub is_destination : Way → ℕ → Bool
is_destination Outgoing n = true
is_destination Incoming n = n == 0

unfoldable pub destination : Way → Kind ℕ
destination direction = such_that byte (is_destination direction)

unfoldable pub doc_number : Kind DocNum
doc_number = shaped (number w64) (λ n. record { 0 = n }) (λ doc. doc.0)

-- ---- lists

-- any value may follow any others
abbrev pub any : {A : Type 0} → List A → A → Bool
any front x = true

-- a count of four bytes, from 1
abbrev pub is_some_count : ℕ → Bool
is_some_count n = nat_le 1 n

abbrev pub count : Kind ℕ
count = such_that (number w32) is_some_count

-- ---- documents

unfoldable pub segment_name : Kind (List ℕ)
segment_name = such_that (sized w8) is_segment

unfoldable pub segment_data : Kind (List ℕ)
segment_data = such_that (sized w16) is_segment_data

unfoldable pub segment : Kind DataRecord
segment = shaped (segment_name then λ _. segment_data) (λ p. record { segnam = p.0; sdata = p.1 }) (λ d. (d.segnam, d.sdata))

unfoldable pub control : Kind (List ℕ)
control = such_that (plain LEN) is_control

-- a document has at most 10,000 segments
abbrev pub is_few : ℕ → Bool
is_few n = nat_le n MOST_SEGMENTS

unfoldable pub segments : Kind (List DataRecord)
segments = listed (such_that (number w32) is_few) segment any

unfoldable pub document : Kind RawUnitDoc
document = shaped (control then λ _. segments) (λ p. record { control = p.0; segments = p.1 }) (λ d. (d.control, d.segments))

unfoldable pub documents : Kind (List RawUnitDoc)
documents = listed count document any

-- ---- units

-- the sender is the system of the unit's id, and the receiver another one
unfoldable pub sender : TidOf → Kind ℕ
sender id = such_that byte (λ n. n == id.system)

unfoldable pub receiver : ℕ → Kind ℕ
receiver from = such_that byte (λ n. is_between 1 MAX n && not (n == from))

unfoldable pub function : Kind (List ℕ)
function = such_that (sized w8) is_function

-- at most 8 queues, which differ
abbrev pub is_other : List (List ℕ) → List ℕ → Bool
is_other front x = not (has_name x front)

abbrev pub is_few_queues : ℕ → Bool
is_few_queues n = nat_le n MOST_QUEUES

unfoldable pub queues : Kind (List (List ℕ))
queues = listed (such_that byte is_few_queues) queue is_other

abbrev pub UnitFields : Type 0
UnitFields = TidOf × (ℕ × (ℕ × (List ℕ × (List (List ℕ) × (List (List ℕ) × List RawUnitDoc)))))

abbrev pub unit_of : UnitFields → AleUnit
unit_of p = record {
  tid = p.0;
  sender = p.1.0;
  receiver = p.1.1.0;
  function = p.1.1.1.0;
  outq = p.1.1.1.1.0;
  inq = p.1.1.1.1.1.0;
  docs = p.1.1.1.1.1.1;
}

abbrev pub unit_fields : AleUnit → UnitFields
unit_fields u = (u.tid, (u.sender, (u.receiver, (u.function, (u.outq, (u.inq, u.docs))))))

unfoldable pub a_unit : Kind AleUnit
a_unit = shaped (tid then λ id. sender id then λ from. receiver from then λ _. function then λ _. queues then λ _. queues then λ _. documents)
    unit_of unit_fields

-- ---- changes of objects

unfoldable pub field_value : Kind FieldValue
field_value = shaped (name then λ _. text) (λ p. record { field = p.0; value = p.1 }) (λ f. (f.field, f.value))

unfoldable pub field_values : Kind (List FieldValue)
field_values = listed count field_value any
