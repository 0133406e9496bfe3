-- The spelling of each field of a record is exact.
use Rattle.std.specs.Int.{w8, w16, w32, w64}
use Rattle.std.proofs.Common.{◌≡◌, ℕ, Some, None, refl, sym, ap, ◌∙◌, inl, inr, arith}
use Rattle.std.proofs.lemmas.Bool.Decides.{eqb_tells}
use Rattle.ale_base.specs.Tid.{TidOf, IsTid, spelling, tid_of}
use Rattle.ale_base.specs.declared.mark.Mark.{Mark as Cause}
use Rattle.ale_base.specs.declared.mark.Mark.TheVariants.{Cpicerr, Sysfail}
use Rattle.ale_base.specs.declared.way.Way.{Way}
use Rattle.ale_base.specs.declared.way.Way.TheVariants.{Outgoing, Incoming}
use Rattle.ale_base.proofs.TidLemmas.{length-spelling}
use Rattle.unit_codec.specs.Kind.{plain, number, byte, sized, ◌then◌}
use Rattle.unit_codec.specs.Fields.{is_name, name, text, way_of, way_byte, way, cause_of, cause_byte, cause, tid, is_queue, queue, is_destination, destination}
use Rattle.unit_codec.specs.Fields.{doc_number, any, count, is_segment, segment_name, is_segment_data, segment_data, segment, is_control, control, segments}
use Rattle.unit_codec.specs.Fields.{document, documents, sender, receiver, is_function, function, is_other, queues, unit_of, unit_fields, a_unit, field_value}
use Rattle.unit_codec.specs.Fields.{field_values}
use Rattle.ale_base.proofs.TidLemmas.{tid_of-spelled, tid_of-read}
use Rattle.unit_codec.proofs.KindLemmas.{IsExact, wide8, wide16, wide32, wide64, plain-fits, plain-exact, number-exact, number-fits, byte-exact, sized-exact}
use Rattle.unit_codec.proofs.KindLemmas.{such_that-exact, decoded-exact, shaped-exact, then-exact, listed-exact}

pub name-exact : IsExact name
unfolding name
name-exact = such_that-exact (sized w8) is_name (sized-exact w8 wide8)

pub text-exact : IsExact text
unfolding text
text-exact = sized-exact w32 wide32

way_back : (n : ℕ) (w : Way) → way_of n ≡ Some w → way_byte w ≡ n
way_back n w is =
    elim (eqb_tells n 0) [
      | inl out ↦ (let e : way_of n ≡ Some Outgoing = rw out.0 refl in let same : Outgoing ≡ w = (let f = sym e ∙ is in cc) in ap way_byte (sym same)
          ∙ sym out.1)
      | inr other ↦ elim (eqb_tells n 1) [
        | inl in_ ↦ (let e : way_of n ≡ Some Incoming = rw (other.0, in_.0) refl in let same : Incoming ≡ w = (let f = sym e ∙ is in cc) in ap way_byte
            (sym same) ∙ sym in_.1)
        | inr none ↦ (let e : way_of n ≡ None = rw (other.0, none.0) refl in absurd (let f = sym e ∙ is in cc))
      ]
    ]

way_again : (w : Way) → byte.Fits (way_byte w) × (way_of (way_byte w) ≡ Some w)
way_again Outgoing = (number-fits w8 0 (omega arith), refl)
way_again Incoming = (number-fits w8 1 (omega arith), refl)

pub way-exact : IsExact way
unfolding way
way-exact = decoded-exact byte way_of way_byte (λ _. Unit {0}) byte-exact (λ n w fits is. (tt, way_back n w is)) (λ w fits. way_again w)

cause_back : (n : ℕ) (why : Cause) → cause_of n ≡ Some why → cause_byte why ≡ n
cause_back n why is =
    elim (eqb_tells n 1) [
      | inl one ↦ (let e : cause_of n ≡ Some Cpicerr = rw one.0 refl in let same : Cpicerr ≡ why = (let f = sym e ∙ is in cc) in ap cause_byte (sym same)
          ∙ sym one.1)
      | inr other ↦ elim (eqb_tells n 2) [
        | inl two ↦ (let e : cause_of n ≡ Some Sysfail = rw (other.0, two.0) refl in let same : Sysfail ≡ why = (let f = sym e ∙ is in cc) in ap cause_byte
            (sym same) ∙ sym two.1)
        | inr none ↦ (let e : cause_of n ≡ None = rw (other.0, none.0) refl in absurd (let f = sym e ∙ is in cc))
      ]
    ]

cause_again : (why : Cause) → byte.Fits (cause_byte why) × (cause_of (cause_byte why) ≡ Some why)
cause_again Cpicerr = (number-fits w8 1 (omega arith), refl)
cause_again Sysfail = (number-fits w8 2 (omega arith), refl)

pub cause-exact : IsExact cause
unfolding cause
cause-exact = decoded-exact byte cause_of cause_byte (λ _. Unit {0}) byte-exact (λ n why fits is. (tt, cause_back n why is)) (λ why fits. cause_again why)

pub tid-exact : IsExact tid
unfolding tid
tid-exact = decoded-exact (plain 24) tid_of spelling IsTid (plain-exact 24) (λ bytes id fits is. tid_of-read bytes id is)
    (λ id is. (plain-fits 24 (spelling id) (length-spelling id), tid_of-spelled (spelling id) id is refl))

pub queue-exact : IsExact queue
unfolding queue
queue-exact = such_that-exact (sized w8) is_queue (sized-exact w8 wide8)

pub destination-exact : (w : Way) → IsExact (destination w)
unfolding destination
destination-exact w = such_that-exact byte (is_destination w) byte-exact

pub doc_number-exact : IsExact doc_number
unfolding doc_number
doc_number-exact = shaped-exact (number w64) (λ n. record { 0 = n }) (λ doc. doc.0) (number-exact w64 wide64) (λ n. refl) (λ doc. refl)

count-exact : IsExact count
count-exact = such_that-exact (number w32) _ (number-exact w32 wide32)

segment_name-exact : IsExact segment_name
unfolding segment_name
segment_name-exact = such_that-exact (sized w8) is_segment (sized-exact w8 wide8)

segment_data-exact : IsExact segment_data
unfolding segment_data
segment_data-exact = such_that-exact (sized w16) is_segment_data (sized-exact w16 wide16)

segment-exact : IsExact segment
unfolding segment
segment-exact = shaped-exact (segment_name then λ _. segment_data) _ _
    (then-exact segment_name (λ _. segment_data) segment_name-exact (λ _. segment_data-exact)) (λ p. refl) (λ d. refl)

control-exact : IsExact control
unfolding control
control-exact = such_that-exact (plain 524) is_control (plain-exact 524)

segments-exact : IsExact segments
unfolding segments
segments-exact = listed-exact segment any segment-exact _ (such_that-exact (number w32) _ (number-exact w32 wide32))

document-exact : IsExact document
unfolding document
document-exact = shaped-exact (control then λ _. segments) _ _ (then-exact control (λ _. segments) control-exact (λ _. segments-exact)) (λ p. refl) (λ d. refl)

pub documents-exact : IsExact documents
unfolding documents
documents-exact = listed-exact document any document-exact count count-exact

sender-exact : (id : TidOf) → IsExact (sender id)
unfolding sender
sender-exact id = such_that-exact byte _ byte-exact

receiver-exact : (from : ℕ) → IsExact (receiver from)
unfolding receiver
receiver-exact from = such_that-exact byte _ byte-exact

function-exact : IsExact function
unfolding function
function-exact = such_that-exact (sized w8) is_function (sized-exact w8 wide8)

queues-exact : IsExact queues
unfolding queues
queues-exact = listed-exact queue is_other queue-exact _ (such_that-exact byte _ byte-exact)

pub a_unit-exact : IsExact a_unit
unfolding a_unit
a_unit-exact =
    let docs = then-exact queues (λ _. documents) queues-exact (λ _. documents-exact) in
    let inbound = then-exact queues (λ _. queues then λ _. documents) queues-exact (λ _. docs) in
    let named = then-exact function (λ _. queues then λ _. queues then λ _. documents) function-exact (λ _. inbound) in
    let addressed = λ (from : ℕ). then-exact (receiver from) (λ _. function then λ _. queues then λ _. queues then λ _. documents) (receiver-exact from)
    (λ _. named) in
    let sent = λ (id : TidOf). then-exact (sender id) (λ from. receiver from then λ _. function then λ _. queues then λ _. queues then λ _. documents)
    (sender-exact id) addressed in
    shaped-exact _ unit_of unit_fields (then-exact tid (λ id. sender id then λ from. receiver from then λ _. function then λ _. queues then λ _.
    queues then λ _. documents) tid-exact sent) (λ p. refl) (λ u. refl)

field_value-exact : IsExact field_value
unfolding field_value
field_value-exact = shaped-exact (name then λ _. text) _ _ (then-exact name (λ _. text) name-exact (λ _. text-exact)) (λ p. refl) (λ f. refl)

pub field_values-exact : IsExact field_values
unfolding field_values
field_values-exact = listed-exact field_value any field_value-exact count count-exact
