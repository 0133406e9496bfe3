-- Units that the test takes for the same are equal.
use Rattle.std.specs.Cmp.Lexicographic.{pointwise, pointwise_decides, bytes_decides}
use Rattle.std.proofs.Common.{◌≡◌, ℕ, ◌==◌, true, ◌&&◌, List, refl, subst}
use Rattle.std.proofs.lemmas.Bool.{and_parts, and_from, eqb-true, eq-eqb}
use Rattle.ale_base.specs.Text.{is_text}
use Rattle.ale_base.specs.Tid.{is_tid}
use Rattle.idoc_record.specs.Data.{DataRecord}
use Rattle.unit_core.specs.declared.ale_unit.AleUnit.{AleUnit}
use Rattle.unit_core.specs.declared.raw_unit_doc.RawUnitDoc.{RawUnitDoc}
use Rattle.unit_core.proofs.TidLemmas.{is_tid-true, is_tid-same}
use Rattle.unit_core.specs.SameUnit.{is_same_segment, is_same_doc, is_same_unit}

text_decides : (a b : List ℕ) → (is_text a b ≡ true → a ≡ b) × (a ≡ b → is_text a b ≡ true)
text_decides a b = bytes_decides a b

texts_decide : (a b : List (List ℕ)) → (pointwise is_text a b ≡ true → a ≡ b) × (a ≡ b → pointwise is_text a b ≡ true)
texts_decide a b = pointwise_decides text_decides a b

segment_decides : (a b : DataRecord) → (is_same_segment a b ≡ true → a ≡ b) × (a ≡ b → is_same_segment a b ≡ true)
segment_decides a b = (
  λ is.
      let parts = and_parts (is_text a.segnam b.segnam) (is_text a.sdata b.sdata) is in
      let name = (text_decides a.segnam b.segnam).0 parts.0 in
      let body = (text_decides a.sdata b.sdata).0 parts.1 in
      λ i. record { segnam = name i; sdata = body i },
  λ same. subst (λ c. is_same_segment a c ≡ true) same
      (and_from (is_text a.segnam a.segnam) (is_text a.sdata a.sdata) ((text_decides a.segnam a.segnam).1 refl) ((text_decides a.sdata a.sdata).1 refl)),
)

doc_decides : (a b : RawUnitDoc) → (is_same_doc a b ≡ true → a ≡ b) × (a ≡ b → is_same_doc a b ≡ true)
doc_decides a b = (
  λ is.
      let parts = and_parts (is_text a.control b.control) (pointwise is_same_segment a.segments b.segments) is in
      let control = (text_decides a.control b.control).0 parts.0 in
      let segments = (pointwise_decides segment_decides a.segments b.segments).0 parts.1 in
      λ i. record { control = control i; segments = segments i },
  λ same. subst (λ c. is_same_doc a c ≡ true) same
      (and_from (is_text a.control a.control) (pointwise is_same_segment a.segments a.segments) ((text_decides a.control a.control).1 refl)
      ((pointwise_decides segment_decides a.segments a.segments).1 refl)),
)

-- a unit is the same as itself
pub is_same_unit-self : (a : AleUnit) → is_same_unit a a ≡ true
is_same_unit-self a =
    let tid = is_tid a.tid a.tid in
    let sender = a.sender == a.sender in
    let receiver = a.receiver == a.receiver in
    let function = is_text a.function a.function in
    let outq = pointwise is_text a.outq a.outq in
    let inq = pointwise is_text a.inq a.inq in
    let docs = pointwise is_same_doc a.docs a.docs in
    and_from (tid && sender && receiver && function && outq && inq) docs
    (and_from (tid && sender && receiver && function && outq) inq
    (and_from (tid && sender && receiver && function) outq
    (and_from (tid && sender && receiver) function
    (and_from (tid && sender) receiver
    (and_from tid sender (is_tid-same a.tid) (eq-eqb a.sender a.sender refl))
    (eq-eqb a.receiver a.receiver refl))
    ((text_decides a.function a.function).1 refl))
    ((texts_decide a.outq a.outq).1 refl))
    ((texts_decide a.inq a.inq).1 refl))
    ((pointwise_decides doc_decides a.docs a.docs).1 refl)

-- units that the test takes for the same are equal
pub is_same_unit-true : (a b : AleUnit) → is_same_unit a b ≡ true → a ≡ b
is_same_unit-true a b is =
    let tid = is_tid a.tid b.tid in
    let sender = a.sender == b.sender in
    let receiver = a.receiver == b.receiver in
    let function = is_text a.function b.function in
    let outq = pointwise is_text a.outq b.outq in
    let inq = pointwise is_text a.inq b.inq in
    let docs = pointwise is_same_doc a.docs b.docs in
    let g = and_parts (tid && sender && receiver && function && outq && inq) docs is in
    let f = and_parts (tid && sender && receiver && function && outq) inq g.0 in
    let e = and_parts (tid && sender && receiver && function) outq f.0 in
    let d = and_parts (tid && sender && receiver) function e.0 in
    let c = and_parts (tid && sender) receiver d.0 in
    let b' = and_parts tid sender c.0 in
    let its_tid = is_tid-true a.tid b.tid b'.0 in
    let its_sender = eqb-true a.sender b.sender b'.1 in
    let its_receiver = eqb-true a.receiver b.receiver c.1 in
    let its_function = (text_decides a.function b.function).0 d.1 in
    let its_outq = (texts_decide a.outq b.outq).0 e.1 in
    let its_inq = (texts_decide a.inq b.inq).0 f.1 in
    let its_docs = (pointwise_decides doc_decides a.docs b.docs).0 g.1 in
    λ i. record {
      tid = its_tid i;
      sender = its_sender i;
      receiver = its_receiver i;
      function = its_function i;
      outq = its_outq i;
      inq = its_inq i;
      docs = its_docs i;
    }
