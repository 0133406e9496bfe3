-- The spelling of each record: a byte that says which it is, and its fields.
use Rattle.std.specs.Prelude.{ℕ, ◌==◌, Option, List, [], ◌++◌, length, Ok, Err, if◌then◌else◌}
use Rattle.ale_base.specs.Tid.{TidOf}
use Rattle.ale_base.specs.declared.mark.Mark.{Mark as Cause}
use Rattle.ale_base.specs.declared.way.Way.{Way}
use Rattle.ale_base.specs.declared.change.FieldValue.{FieldValue}
use Rattle.unit_core.specs.declared.raw_unit_doc.RawUnitDoc.{RawUnitDoc}
use Rattle.unit_core.specs.declared.records.Record.{Record}
use Rattle.unit_core.specs.declared.records.Record.TheVariants.{Genesis, Commit, Dispatch, Mark, Done, Ended, Accept, Execute, Direct, Fail, Forget, Stop}
use Rattle.unit_core.specs.declared.records.Record.TheVariants.{Start, Retry, Put, App, Repost, Model}
use Rattle.unit_codec.specs.Reading.{Reading, ◌>>=◌}
use Rattle.unit_codec.specs.Kind.{Kind, Puts, byte, ◌then◌, optional}
use Rattle.unit_codec.specs.Fields.{name, text, way, cause, tid, queue, destination, doc_number, documents, a_unit, field_values}

-- ---- the fields of records

unfoldable pub genesis : Kind (ℕ × List ℕ)
genesis = byte then λ _. text

unfoldable pub commit : Kind (Option (List ℕ) × List RawUnitDoc)
commit = optional name then λ _. documents

-- no fields
unfoldable pub nothing : Kind (Unit {0})
nothing = record { spell = λ _. []; Fits = λ _. Unit {0}; read = λ bytes. Ok (tt, bytes) }

unfoldable pub mark : Kind (TidOf × Cause)
mark = tid then λ _. cause

unfoldable pub stop : Kind (Way × (ℕ × List ℕ))
stop = way then λ direction. destination direction then λ _. queue

unfoldable pub retry : Kind (Way × TidOf)
retry = way then λ _. tid

unfoldable pub put : Kind (List ℕ × (List ℕ × List FieldValue))
put = name then λ _. text then λ _. field_values

-- the byte of a record, the kind of its fields, and what they hold
pub record Spelled : Type 1 where
  pub tag : ℕ
  pub Values : Type 0
  pub kind : Kind Values
  pub values : Values

abbrev pub spelled : {A : Type 0} → ℕ → Kind A → A → Spelled
spelled {A} tag kind values = record { tag = tag; Values = A; kind = kind; values = values }

abbrev pub spelled_as : Record → Spelled
spelled_as (Genesis system model) = spelled 0x01 genesis (system, model)
spelled_as (Commit origin docs) = spelled 0x02 commit (origin, docs)
spelled_as Dispatch = spelled 0x03 nothing tt
spelled_as (Mark id why) = spelled 0x04 mark (id, why)
spelled_as (Done id) = spelled 0x05 tid id
spelled_as (Ended id) = spelled 0x06 tid id
spelled_as (Accept unit) = spelled 0x07 a_unit unit
spelled_as (Execute id) = spelled 0x08 tid id
spelled_as (Direct unit) = spelled 0x09 a_unit unit
spelled_as (Fail id) = spelled 0x0A tid id
spelled_as (Forget id) = spelled 0x0B tid id
spelled_as (Stop direction to name) = spelled 0x0C stop (direction, (to, name))
spelled_as (Start direction to name) = spelled 0x0D stop (direction, (to, name))
spelled_as (Retry direction id) = spelled 0x0E retry (direction, id)
spelled_as (Put kind key fields) = spelled 0x0F put (kind, (key, fields))
spelled_as (App doc) = spelled 0x10 doc_number doc
spelled_as (Repost doc) = spelled 0x11 doc_number doc
spelled_as (Model model) = spelled 0x12 text model

-- the fields of a kind of record, as that record
abbrev pub fields_at : {A : Type 0} → Kind A → (A → Record) → List ℕ → Reading Record
fields_at kind make bytes = kind.read bytes >>= λ x. Ok (make x.0, x.1)

-- the fields behind the byte of a record
abbrev pub record_at : ℕ → ℕ × List ℕ → Reading Record
record_at left tag =
    if tag.0 == 0x01 then fields_at genesis (λ p. Genesis p.0 p.1) tag.1
    else (if tag.0 == 0x02 then fields_at commit (λ p. Commit p.0 p.1) tag.1
    else (if tag.0 == 0x03 then fields_at nothing (λ _. Dispatch) tag.1
    else (if tag.0 == 0x04 then fields_at mark (λ p. Mark p.0 p.1) tag.1
    else (if tag.0 == 0x05 then fields_at tid Done tag.1
    else (if tag.0 == 0x06 then fields_at tid Ended tag.1
    else (if tag.0 == 0x07 then fields_at a_unit Accept tag.1
    else (if tag.0 == 0x08 then fields_at tid Execute tag.1
    else (if tag.0 == 0x09 then fields_at a_unit Direct tag.1
    else (if tag.0 == 0x0A then fields_at tid Fail tag.1
    else (if tag.0 == 0x0B then fields_at tid Forget tag.1
    else (if tag.0 == 0x0C then fields_at stop (λ p. Stop p.0 p.1.0 p.1.1) tag.1
    else (if tag.0 == 0x0D then fields_at stop (λ p. Start p.0 p.1.0 p.1.1) tag.1
    else (if tag.0 == 0x0E then fields_at retry (λ p. Retry p.0 p.1) tag.1
    else (if tag.0 == 0x0F then fields_at put (λ p. Put p.0 p.1.0 p.1.1) tag.1
    else (if tag.0 == 0x10 then fields_at doc_number App tag.1
    else (if tag.0 == 0x11 then fields_at doc_number Repost tag.1
    else (if tag.0 == 0x12 then fields_at text Model tag.1
    else Err left)))))))))))))))))

-- a record: its byte, and its fields
unfoldable pub a_record : Kind Record
a_record = record {
  spell = λ r. byte.spell (spelled_as r).tag ++ (spelled_as r).kind.spell (spelled_as r).values;
  Fits = λ r. (spelled_as r).kind.Fits (spelled_as r).values;
  read = λ bytes. byte.read bytes >>= record_at (length bytes);
}

-- a record has a spelling
abbrev pub HasSpelling : Record → Type 0
HasSpelling what = a_record.Fits what

-- the one spelling of a record
abbrev pub record_spelling : Record → List ℕ
record_spelling what = a_record.spell what

-- ---- what only private functions cite

-- a call appended the fields of a record, which have a spelling
abbrev pub PutsFields : Record → List ℕ → List ℕ → Type 0
PutsFields what old new = Puts (spelled_as what).kind (spelled_as what).values old new
