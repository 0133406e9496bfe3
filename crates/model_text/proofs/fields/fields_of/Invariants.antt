use Rattle.std.proofs.Common.{◌≡◌, ◌≤◌, ℕ, List, drop}
use Rattle.toml.specs.Data.{Data}
use Rattle.toml.specs.View.{items_view}
use Rattle.segment_defs.specs.declared.limits.TheConstants.{MOST_BYTES}
use Rattle.segment_defs.specs.declared.field.Field.{Field}
use Rattle.segment_defs.specs.Version.{width_of}
use Rattle.model_keys.specs.Each.{each}
use Rattle.model_text.specs.declared.keys.TheConstants.{ADDS}
use Rattle.model_text.specs.Fields.{field_names, field_of}
use Rattle.model_text.proofs.fields.fields_of.Given as goal

-- what the fields so far are, and what the elements that are left make of them
pub record IsSoFar (names : List (List ℕ)) (fields : List Field) (width : ℕ) : Type 0 where
  pub named : names ≡ field_names fields
  pub summed : width ≡ width_of fields
  pub narrow : width ≤ MOST_BYTES

abbrev pub invariant-loop-place : goal.invariant-loop-place
invariant-loop-place l =
    let read = λ (done : List Field) (d : Data). field_of done d in
    IsSoFar l.names l.fields l.width
    × (each ADDS.now read l.place l.fields (items_view (drop l.place l.values)) ≡ each ADDS.now read 0 l.fn.fields (items_view l.values))
