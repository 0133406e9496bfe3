-- Segment types that are removed and values that are replaced keep their rules, and are what their text says.
use Rattle.std.specs.List.{AllByRecursion}
use Rattle.std.proofs.Common.{◌≡◌, ℕ, ◌<◌, ◌≤◌, List, [], length, map, position, Ok, subst, arith}
use Rattle.std.proofs.lemmas.Option.{slice_get_within}
use Rattle.toml.specs.Data.{Data, no_items, Members, get_member}
use Rattle.ale_base.specs.Text.{is_text}
use Rattle.ale_base.proofs.SnocLemmas.{AllByRecursion-snoc}
use Rattle.segment_defs.specs.declared.definitions.Definitions.{Definitions}
use Rattle.segment_defs.proofs.NameLemmas.{position-name}
use Rattle.dist_model.specs.declared.limits.TheConstants.{MOST_CONVERSIONS}
use Rattle.dist_model.specs.declared.outbound.Convert.{Convert}
use Rattle.dist_model.specs.Field.{all_fields}
use Rattle.dist_model.specs.Outbound.{IsConvert}
use Rattle.model_keys.specs.declared.finding.Cause.TheVariants.{Unknown}
use Rattle.model_keys.specs.Finding.{required}
use Rattle.model_keys.specs.Each.{each}
use Rattle.model_keys.specs.Fields.{field_at}
use Rattle.model_keys.specs.Keys.{any_list_or_none_at, entry_of, list_of, list_or_none_at, or_else, segment_name_of, segment_type_at}
use Rattle.model_keys.specs.Says.{IsPlaceNamed, SaysListOrNone}
use Rattle.model_keys.proofs.KeepsLemmas.{each-invariant, each-length, from_bind, list_or_none_at-keeps, required-ok, segment_name_of-keeps}
use Rattle.model_keys.proofs.KeepsLemmas.{segment_type_at-keeps}
use Rattle.model_keys.proofs.SaysLemmas.{all-says, any_list_or_none_at-says, entry_of-table, list_or_none-says}
use Rattle.model_profiles.specs.declared.keys.TheConstants.{CONVERT, CONVERT_KEYS, FIELD, FROM, REMOVE, SEGMENT, TO}
use Rattle.model_profiles.specs.Changes.{convert_of, converts_at, removed_of, removes_at}
use Rattle.model_profiles.specs.Says.{SaysConvert, SaysType}
use Rattle.model_profiles.specs.Values.{field_length, field_value_at}
use Rattle.model_profiles.proofs.ValueRules.{field-says, field_value_at-keeps, IsValueOf-read}

removed_of-says : (types : List (List ℕ)) (d : Data) (segment : ℕ) → removed_of types d ≡ Ok segment → IsPlaceNamed types d segment
unfolding removed_of
removed_of-says types d segment h =
    let (name, n, g) = from_bind (segment_name_of [] d) (λ name. required Unknown [] (position (is_text name) types)) segment h in
    (name, (segment_name_of-keeps [] d name n).0, position-name name types segment (required-ok Unknown [] (position (is_text name) types) segment g))

pub removes_at-keeps : (types : List (List ℕ)) (table : Members) (segments : List ℕ) → removes_at types table ≡ Ok segments
    → AllByRecursion (λ segment. segment < length types) segments × SaysListOrNone (SaysType types) REMOVE.now table segments
unfolding removes_at
removes_at-keeps types table segments h =
    let read = λ (done : List ℕ) (d : Data). removed_of types d in
    let (ds, l, g) = from_bind (any_list_or_none_at REMOVE.now table) (λ ds. each REMOVE.now read 0 [] ds) segments h in (
      each-invariant REMOVE.now read (AllByRecursion (λ segment. segment < length types))
          (λ done d segment so_far is. let (name, text, here) = removed_of-says types d segment is in
          AllByRecursion-snoc (λ segment. segment < length types) done segment so_far (slice_get_within types segment name here))
          0 [] ds segments tt g,
      (
        ds,
        any_list_or_none_at-says REMOVE.now table ds l,
        all-says REMOVE.now read (SaysType types) (λ done d segment is. removed_of-says types d segment is)
            ds segments g,
      ),
    )

convert_of-keeps : (types : List (List ℕ)) (definitions : Definitions) (before : List Convert) (d : Data) (convert : Convert) →
    convert_of types definitions d ≡ Ok convert
    → IsConvert definitions convert × SaysConvert types definitions before d convert
unfolding convert_of
convert_of-keeps types definitions before d convert h =
    let (table, t, h1) = from_bind (entry_of (map (λ key. key.now) CONVERT_KEYS) d) _ convert h in
    let (segment, s, h2) = from_bind (segment_type_at SEGMENT.now types table) _ convert h1 in
    let (field, f, h3) = from_bind (field_at FIELD.now (all_fields definitions segment) table) _ convert h2 in
    let (from, v, h4) = from_bind (field_value_at (field_length definitions segment field) FROM.now table) _ convert h3 in
    let (to, w, h5) = from_bind (field_value_at (field_length definitions segment field) TO.now table) _ convert h4 in
    let e : ◌≡◌ {A = Convert} (record { segment = segment; field = field; from = from; to = to }) convert = cc in
    let (has, says_field) = field-says definitions segment table field f in
    let (says_from, fits_from, bare_from) = field_value_at-keeps (field_length definitions segment field) FROM.now table from v in
    let (says_to, fits_to, bare_to) = field_value_at-keeps (field_length definitions segment field) TO.now table to w in
    subst (λ (c : Convert). IsConvert definitions c × SaysConvert types definitions before d c) e (
      record {
        from = IsValueOf-read definitions segment field from has fits_from bare_from;
        to = IsValueOf-read definitions segment field to has fits_to
            bare_to;
      },
      record {
        table = table;
        is = entry_of-table (map (λ key. key.now) CONVERT_KEYS) d table t;
        segment = segment_type_at-keeps SEGMENT.now types table segment s;
        field = says_field;
        from = says_from;
        to = says_to;
      },
    )

-- pairs of values that were read
pub record AreReadConverts (types : List (List ℕ)) (definitions : Definitions) (table : Members) (converts : List Convert) : Type 0 where
  pub few : length converts ≤ MOST_CONVERSIONS
  pub each_is : AllByRecursion (IsConvert definitions) converts
  pub says : SaysListOrNone (SaysConvert types definitions) CONVERT.now table converts

pub converts_at-keeps : (types : List (List ℕ)) (definitions : Definitions) (table : Members) (converts : List Convert) →
    converts_at types definitions table ≡ Ok converts → AreReadConverts types definitions table converts
unfolding converts_at list_or_none_at
converts_at-keeps types definitions table converts h =
    let read = λ (done : List Convert) (d : Data). convert_of types definitions d in
    let (ds, l, g) = from_bind (or_else no_items (list_of MOST_CONVERSIONS CONVERT.now) (get_member CONVERT.now table))
    (λ ds. each CONVERT.now read 0 [] ds) converts h in
    let long = each-length CONVERT.now read 0 [] ds converts g in
    let most = list_or_none_at-keeps MOST_CONVERSIONS CONVERT.now table ds l in record {
      few = omega (arith, long, most);
      each_is = each-invariant CONVERT.now read (AllByRecursion (IsConvert definitions))
          (λ done d convert so_far is. AllByRecursion-snoc (IsConvert definitions) done convert so_far (convert_of-keeps types definitions done d convert is).0)
          0 [] ds converts tt g;
      says = (
        ds,
        list_or_none-says MOST_CONVERSIONS CONVERT.now (get_member CONVERT.now table) ds l,
        all-says CONVERT.now read (SaysConvert types definitions) (λ done d convert is. (convert_of-keeps types definitions done d convert is).1) ds converts g,
      );
    }
