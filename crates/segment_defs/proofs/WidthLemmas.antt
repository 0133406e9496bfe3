-- The width of a definition, by its last field.
use Rattle.std.specs.Prelude.{slice_get}
use Rattle.std.proofs.Common.{◌≡◌, ℕ, zero, suc, ◌+◌, Some, List, [], ◌∷◌, length, arith}
use Rattle.std.proofs.lemmas.Option.{same_Some}
use Rattle.std.proofs.lemmas.List.Sums.{sum_by-cons}
use Rattle.segment_defs.specs.declared.field.Field.{Field}
use Rattle.segment_defs.specs.Version.{width_of, AreLaidOut}

-- the last field ends where all of them do
pub laid_out-end : (offset : ℕ) (fields : List Field) (place : ℕ) (last : Field) → AreLaidOut offset fields → suc place ≡ length fields
    → slice_get fields place ≡ Some last → last.offset + last.length ≡ offset + width_of fields
laid_out-end offset [] place last laid long here = absurd (omega arith)
laid_out-end offset (field ∷ []) zero last laid long here =
    let same : field ≡ last = same_Some field last here in
    let at : last.offset ≡ field.offset = cc in
    let size : last.length ≡ field.length = cc in
    omega (arith, laid.0)
laid_out-end offset (field ∷ next ∷ fields) zero last laid long here = absurd (omega arith)
laid_out-end offset (field ∷ fields) (suc place) last laid long here =
    omega (arith, laid_out-end (offset + field.length) fields place last laid.1 (omega arith) here, sum_by-cons (λ (f : Field). f.length) field fields)
