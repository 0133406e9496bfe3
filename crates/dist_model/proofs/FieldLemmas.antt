-- The fields of segment types, and the entries of IDoc types.
use Rattle.std.specs.Prelude.{slice_get, is_some}
use Rattle.std.specs.List.{list_any}
use Rattle.std.specs.Option.{option_map_or}
use Rattle.std.proofs.Common.{◌≡◌, ℕ, ◌-◌, ◌≤◌, ◌==◌, Option, Some, None, List, [], ◌∷◌, length, refl, inl, inr, arith}
use Rattle.std.proofs.lemmas.Bool.{cases_Bool}
use Rattle.ale_base.proofs.ListLemmas.{AllByRecursion-at}
use Rattle.segment_defs.specs.declared.limits.TheConstants.{MOST_FIELDS}
use Rattle.segment_defs.specs.declared.definitions.Definitions.{Definitions}
use Rattle.segment_defs.specs.declared.idoc_type.TypePlace.{TypePlace}
use Rattle.segment_defs.specs.declared.segment_type.SegmentType.{SegmentType}
use Rattle.segment_defs.specs.declared.version.Version.{Version}
use Rattle.segment_defs.specs.Definitions.{AreDefinitions}
use Rattle.segment_defs.specs.IdocType.{entry_of}
use Rattle.segment_defs.specs.SegmentType.{IsSegmentType}
use Rattle.segment_defs.specs.Version.{IsVersion}
use Rattle.dist_model.specs.Field.{all_fields, last_fields}

-- a segment type has no more fields than a definition may have
pub all_fields_few : (definitions : Definitions) (segment : ℕ) → AreDefinitions definitions → length (all_fields definitions segment) ≤ MOST_FIELDS
all_fields_few definitions segment are = in_type (slice_get definitions.types segment) refl
  where
    in_version : (type : SegmentType) (o : Option Version) → IsSegmentType type → slice_get type.versions (length type.versions - 1) ≡ o
        → length (option_map_or (λ (last : Version). last.fields) o []) ≤ MOST_FIELDS
    in_version type None is here = omega arith
    in_version type (Some version) is here = (AllByRecursion-at IsVersion type.versions (length type.versions - 1) version is.each here).fields.few

    in_type : (o : Option SegmentType) → slice_get definitions.types segment ≡ o →
        length (last_fields (option_map_or (λ (type : SegmentType). type.versions) o [])) ≤ MOST_FIELDS
    in_type None here = omega arith
    in_type (Some type) here =
        in_version type (slice_get type.versions (length type.versions - 1)) (AllByRecursion-at IsSegmentType definitions.types segment type are.each here) refl

-- a segment type stands among some entries where one of them has it
pub entry_of_any : (entries : List TypePlace) (segment : ℕ) → list_any (λ entry. entry.segment == segment) entries ≡ is_some (entry_of entries segment)
entry_of_any [] segment = refl
entry_of_any (entry ∷ entries) segment = elim (cases_Bool (entry.segment == segment)) [
  | inl same ↦ rw same refl
  | inr other ↦ rw other (entry_of_any entries segment)
]
