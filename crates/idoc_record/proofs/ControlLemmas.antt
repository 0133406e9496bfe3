-- A control record in which one field is written.
use Rattle.std.proofs.Common.{◌≡◌, ℕ, ◌+◌, ◌≤◌, true, nat_le, IsTrue, ◌⊎◌, inl, inr, List, length, refl, sym, ap, subst, ◌∙◌}
use Rattle.std.proofs.lemmas.Bool.{leb-true}
use Rattle.ale_base.specs.Blanks.{trimmed}
use Rattle.idoc_record.specs.declared.control_field.ControlField.{ControlField}
use Rattle.idoc_record.specs.declared.control_field.ControlField.TheVariants.{Tabnam, Docnum, Direct}
use Rattle.idoc_record.specs.ControlField.{span_of}
use Rattle.idoc_record.specs.Parts.{with_text}
use Rattle.idoc_record.specs.Control.{IsControl, IsAllowed, field_of, is_control_table, is_number, is_direction}
use Rattle.idoc_record.proofs.PartLemmas.{is_apart, length-with_text, text_at-same, part-apart}

ends_within : (field : ControlField) → nat_le ((span_of field).offset + (span_of field).length) 524 ≡ true
ends_within Tabnam = refl
ends_within _ = refl

apart_from-Tabnam : (field : ControlField) → (field ≡ Tabnam) ⊎ (is_apart (span_of field) (span_of Tabnam) ≡ true)
apart_from-Tabnam Tabnam = inl refl
apart_from-Tabnam _ = inr refl

apart_from-Docnum : (field : ControlField) → (field ≡ Docnum) ⊎ (is_apart (span_of field) (span_of Docnum) ≡ true)
apart_from-Docnum Docnum = inl refl
apart_from-Docnum _ = inr refl

apart_from-Direct : (field : ControlField) → (field ≡ Direct) ⊎ (is_apart (span_of field) (span_of Direct) ≡ true)
apart_from-Direct Direct = inl refl
apart_from-Direct _ = inr refl

module _ (field : ControlField) (text control : List ℕ) (is : IsControl control) (fits : length text ≤ (span_of field).length) where
  within : (span_of field).offset + (span_of field).length ≤ length control
  within = subst (λ (n : ℕ). (span_of field).offset + (span_of field).length ≤ n) (sym is.whole)
      (leb-true ((span_of field).offset + (span_of field).length) 524 (ends_within field))

  -- a field has its new text, or the one that it had
  field_of-written : (other : ControlField) (P : List ℕ → Type 0) → (field ≡ other) ⊎ (is_apart (span_of field) (span_of other) ≡ true)
      → (field ≡ other → P (trimmed text)) → P (field_of control other) → P (field_of (with_text (span_of field) text control) other)
  field_of-written other P which new old =
      elim which [
        | inl same ↦ subst (λ (f : ControlField). P (field_of (with_text (span_of field) text control) f)) same
            (subst P (sym (text_at-same (span_of field) text control fits within)) (new same))
        | inr apart ↦ subst P (sym (ap trimmed (part-apart (span_of field) (span_of other) text control fits within apart))) old
      ]

  -- a record stays a control record where a field gets a text that it may hold
  pub IsControl-written : IsAllowed field (trimmed text) → IsControl (with_text (span_of field) text control)
  IsControl-written allowed = record {
    whole = length-with_text (span_of field) text control fits within ∙ is.whole;
    table = field_of-written Tabnam (λ t. IsTrue (is_control_table t)) (apart_from-Tabnam field) (λ same. subst (λ f. IsAllowed f (trimmed text)) same allowed)
        is.table;
    number = field_of-written Docnum (λ t. IsTrue (is_number t)) (apart_from-Docnum field) (λ same. subst (λ f. IsAllowed f (trimmed text)) same allowed)
        is.number;
    direction = field_of-written Direct (λ t. IsTrue (is_direction t)) (apart_from-Direct field) (λ same. subst (λ f. IsAllowed f (trimmed text)) same allowed)
        is.direction;
  }
