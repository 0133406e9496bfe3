-- Fields by their names.
use Rattle.std.specs.Prelude.{slice_get}
use Rattle.std.proofs.Common.{◌≡◌, ℕ, ◌<◌, Some, Ok, List, length, sym, subst, ◌∙◌}
use Rattle.std.proofs.lemmas.List.{length-map}
use Rattle.std.proofs.lemmas.Option.{slice_get_within}
use Rattle.ale_base.specs.Text.{is_text}
use Rattle.toml.specs.Data.{Members}
use Rattle.segment_defs.specs.declared.field.Field.{Field}
use Rattle.segment_defs.specs.declared.limits.TheConstants.{LONGEST_NAME}
use Rattle.segment_defs.proofs.NameLemmas.{position-map, position-name}
use Rattle.model_keys.specs.declared.finding.Cause.TheVariants.{Unknown}
use Rattle.model_keys.specs.Finding.{required}
use Rattle.model_keys.specs.Keys.{name_at}
use Rattle.model_keys.specs.Says.{SaysPlace}
use Rattle.model_keys.proofs.KeepsLemmas.{from_bind, name_at-keeps, required-ok}
use Rattle.model_keys.specs.Fields.{field_at, field_named, field_names}

-- the field of a name
pub field_named-keeps : (fields : List Field) (name : List ℕ) (place : ℕ) → field_named fields name ≡ Some place →
    slice_get (field_names fields) place ≡ Some name
field_named-keeps fields name place found =
    position-name name (field_names fields) place (sym (position-map (λ (field : Field). field.name) (is_text name) fields) ∙ found)

-- a field that has a name is there
pub field_there : (fields : List Field) (name : List ℕ) (place : ℕ) → slice_get (field_names fields) place ≡ Some name → place < length fields
field_there fields name place here =
    subst (λ n. place < n) (length-map fields (λ (field : Field). field.name)) (slice_get_within (field_names fields) place name here)

-- a field that is named at a key
pub field_at-keeps : (key : List ℕ) (fields : List Field) (table : Members) (place : ℕ) → field_at key fields table ≡ Ok place
    → SaysPlace (field_names fields) key table place
unfolding field_at
field_at-keeps key fields table place h =
    let (name, n, g) = from_bind (name_at LONGEST_NAME key table) (λ name. required Unknown key (field_named fields name)) place h in (
      name,
      (name_at-keeps LONGEST_NAME key table name n).0,
      field_named-keeps fields name place (required-ok Unknown key (field_named fields name) place g),
    )
