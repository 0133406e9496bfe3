-- IDoc types that were read keep their rules.
use Rattle.std.specs.Prelude.{Contains, slice_get}
use Rattle.std.specs.List.{AllByRecursion, IsDistinct, list_any}
use Rattle.std.specs.Option.{ForSome}
use Rattle.std.proofs.Common.{◌≡◌, ℕ, ◌-◌, ◌^◌, ◌<◌, ◌≤◌, ◌==◌, nat_eq, nat_le, Bool, true, false, cond, Option, Some, None, Ok, Err, List, [], ◌∷◌, ◌++◌}
use Rattle.std.proofs.Common.{length, map, refl, sym, ap, subst, ◌∙◌, arith}
use Rattle.std.proofs.lemmas.Bool.Decides.{nat_tests}
use Rattle.std.proofs.lemmas.List.{map_push}
use Rattle.std.proofs.lemmas.Option.{same_Some, slice_get_within}
use Rattle.toml.specs.Data.{Data, Items, Members, get_member}
use Rattle.ale_base.specs.Text.{is_text}
use Rattle.ale_base.proofs.MemberLemmas.{Contains-nil}
use Rattle.ale_base.proofs.SnocLemmas.{AllByRecursion-snoc}
use Rattle.segment_defs.specs.declared.limits.TheConstants.{LONGEST_NAME, MOST_TIMES}
use Rattle.segment_defs.specs.declared.definitions.Definitions.{Definitions}
use Rattle.segment_defs.specs.declared.idoc_type.IdocType.{IdocType}
use Rattle.segment_defs.specs.declared.idoc_type.TypePlace.{TypePlace}
use Rattle.segment_defs.specs.IdocType.{IsEntry, IsIdocType, IsPreorder, IsRootEntry}
use Rattle.segment_defs.proofs.NameLemmas.{IsName_decided}
use Rattle.dist_model.specs.declared.limits.TheConstants.{MOST_ENTRIES, MOST_IDOC_TYPES}
use Rattle.dist_model.specs.Model.{AreIdocTypes, idoc_type_names}
use Rattle.model_keys.specs.declared.finding.Cause.TheVariants.{Twice, Wrong}
use Rattle.model_keys.specs.Finding.{at, check}
use Rattle.model_keys.specs.Each.{each}
use Rattle.model_keys.specs.Keys.{bool_or_at, entry_of, list_or_none_at, new_name_at, number_of, or_else, segment_type_at, some_list_at}
use Rattle.dist_model.proofs.DistinctLemmas.{is_text-symmetric, IsDistinct-push, nat_eq-symmetric}
use Rattle.model_keys.proofs.KeepsLemmas.{check-ok, each-invariant, each-length, from_bind, list_or_none_at-keeps, new_name_at-keeps, number_of-keeps}
use Rattle.model_keys.proofs.KeepsLemmas.{segment_type_at-keeps, some_list_at-keeps, tested, untested}
use Rattle.model_text.specs.declared.keys.TheConstants.{ENTRY_KEYS, IDOCTYPE, IDOCTYPE_KEYS, MANDATORY, MAX, MIN, NAME, SEGMENT, TYPE}
use Rattle.model_text.specs.Entries.{entries_of, entry_types, greatest_at, max_at, min_at, min_of, new_type_at, parent_at, root_of, times_at, type_place_of}
use Rattle.model_text.specs.IdocTypes.{idoc_type_of, idoc_types_at}
use Rattle.model_text.proofs.EntryLemmas.{type_place_of-follows, type_place_of-preorder}

new_type_at-keeps : (types : List (List ℕ)) (segments : List ℕ) (table : Members) (segment : ℕ) → new_type_at types segments table ≡ Ok segment
    → (segment < length types) × (list_any (nat_eq segment) segments ≡ false)
unfolding new_type_at
new_type_at-keeps types segments table segment h =
    let (place, p, g) = from_bind (segment_type_at TYPE.now types table) (λ place. cond (list_any (nat_eq place) segments) (Err (at Twice TYPE.now)) (Ok place))
    segment h in
    let (new, e) = untested (list_any (nat_eq place) segments) place segment (at Twice TYPE.now) g in
    let (name, text, here) = segment_type_at-keeps TYPE.now types table place p in
    (subst (λ k. k < length types) e (slice_get_within types place name here), subst (λ k. list_any (nat_eq k) segments ≡ false) e new)

-- how often an entry may occur
record AreTimes (mandatory : Bool) (min max : ℕ) : Type 0 where
  least : 1 ≤ min
  ordered : min ≤ max
  most : max ≤ MOST_TIMES
  optional : mandatory ≡ false → min ≡ 1

min_found-keeps : (mandatory : Bool) (found : Option Data) (min : ℕ) → or_else 1 (min_of mandatory) found ≡ Ok min → (1 ≤ min) × (mandatory ≡ false → min ≡ 1)
unfolding min_of
min_found-keeps mandatory None min h = let e : 1 ≡ min = cc in (omega arith, λ optional. sym e)
min_found-keeps mandatory (Some d) min h =
    let (n, k, g) = from_bind (number_of 1 (2 ^ 63 - 1) MIN.now d) (λ n. cond mandatory (Ok n) (Err (at Wrong MIN.now))) min h in
    let (is, e) = tested mandatory n min (at Wrong MIN.now) g in
    (subst (λ k. 1 ≤ k) e (number_of-keeps 1 (2 ^ 63 - 1) MIN.now d n k).1, λ optional. absurd (cc))

greatest_found-keeps : (found : Option Data) (max : ℕ) → or_else 1 (number_of 1 MOST_TIMES MAX.now) found ≡ Ok max → max ≤ MOST_TIMES
greatest_found-keeps None max h = let e : 1 ≡ max = cc in omega (arith, e)
greatest_found-keeps (Some d) max h = (number_of-keeps 1 MOST_TIMES MAX.now d max h).2

max_at-keeps : (min : ℕ) (table : Members) (max : ℕ) → max_at min table ≡ Ok max → (min ≤ max) × (max ≤ MOST_TIMES)
unfolding max_at
max_at-keeps min table max h =
    let (n, k, g) = from_bind (greatest_at table) (λ n. cond (nat_le min n) (Ok n) (Err (at Wrong MAX.now))) max h in
    let (is, e) = tested (nat_le min n) n max (at Wrong MAX.now) g in
    (subst (λ k. min ≤ k) e (under min n is), subst (λ k. k ≤ MOST_TIMES) e (greatest_found-keeps (get_member MAX.now table) n k))
  where
    under : (a b : ℕ) → nat_le a b ≡ true → a ≤ b
    under a b is = grind (arith, nat_tests)

times_at-keeps : (table : Members) (times : Bool × ℕ × ℕ) → times_at table ≡ Ok times → AreTimes times.0 times.1 times.2
unfolding times_at min_at
times_at-keeps table times h =
    let (mandatory, b, h1) = from_bind (bool_or_at false MANDATORY.now table) _ times h in
    let (min, m, h2) = from_bind (or_else 1 (min_of mandatory) (get_member MIN.now table)) _ times h1 in
    let (max, n, h3) = from_bind (max_at min table) _ times h2 in
    let e : ◌≡◌ {A = Bool × ℕ × ℕ} (mandatory, min, max) times = cc in
    let low = min_found-keeps mandatory (get_member MIN.now table) min m in
    let high = max_at-keeps min table max n in
    subst (λ (t : Bool × ℕ × ℕ). AreTimes t.0 t.1 t.2) e (record { least = low.0; ordered = high.0; most = high.1; optional = low.1 })

-- the first entry is mandatory and occurs once
root_of-keeps : (mandatory : Bool) (min max : ℕ) (y : Bool) → root_of [] mandatory min max ≡ Ok y → (mandatory ≡ true) × (min ≡ 1) × (max ≡ 1)
root_of-keeps mandatory min max y h =
    let (a, m, h1) = from_bind (check Wrong MANDATORY.now mandatory) _ y h in
    let (b, n, h2) = from_bind (check Wrong MIN.now (min == 1)) _ y h1 in
    (check-ok Wrong MANDATORY.now mandatory a m, one min (check-ok Wrong MIN.now (min == 1) b n), one max (check-ok Wrong MAX.now (max == 1) y h2))
  where
    one : (k : ℕ) → k == 1 ≡ true → k ≡ 1
    one k is = grind (arith, nat_tests)

-- one more entry behind some
record IsNextEntry (definitions : Definitions) (entries : List TypePlace) (entry : TypePlace) : Type 0 where
  is : IsEntry definitions entry
  new : list_any (nat_eq entry.segment) (entry_types entries) ≡ false
  first : entries ≡ [] → (entry.mandatory ≡ true) × (entry.min ≡ 1) × (entry.max ≡ 1)

type_place_of-keeps : (types : List (List ℕ)) (definitions : Definitions) (entries : List TypePlace) (d : Data) (entry : TypePlace) →
    length types ≡ length definitions.types
    → type_place_of types entries d ≡ Ok entry → IsNextEntry definitions entries entry
unfolding type_place_of
type_place_of-keeps types definitions entries d entry same h =
    let (table, t, h1) = from_bind (entry_of (map (λ key. key.now) ENTRY_KEYS) d) _ entry h in
    let (segment, s, h2) = from_bind (new_type_at types (entry_types entries) table) _ entry h1 in
    let (parent, p, h3) = from_bind (parent_at types (entry_types entries ++ segment ∷ []) entries table) _ entry h2 in
    let (times, n, h4) = from_bind (times_at table) _ entry h3 in
    let (root, r, h5) = from_bind (root_of entries times.0 times.1 times.2) _ entry h4 in
    let e : ◌≡◌ {A = TypePlace} (record { segment = segment; parent = parent; mandatory = times.0; min = times.1; max = times.2 }) entry = cc in
    let new = new_type_at-keeps types (entry_types entries) table segment s in
    let are = times_at-keeps table times n in
    subst (IsNextEntry definitions entries) e (record {
      is = record { known = omega (arith, new.0, same); least = are.least; ordered = are.ordered; most = are.most; optional = are.optional };
      new = new.1;
      first = λ none. root_of-keeps times.0 times.1 times.2 root (ap (λ es. root_of es times.0 times.1 times.2) (sym none) ∙ r);
    })

-- what entries are, so far
record AreEntries (definitions : Definitions) (entries : List TypePlace) : Type 0 where
  each : AllByRecursion (IsEntry definitions) entries
  apart : IsDistinct nat_eq (entry_types entries)
  preorder : IsPreorder 0 [] entries
  root : (first : TypePlace) → slice_get entries 0 ≡ Some first → IsRootEntry (Some first)

no_parent : (parent : Option ℕ) → ForSome parent (Contains []) → parent ≡ None
no_parent None none = refl
no_parent (Some place) none = absurd (Contains-nil place (none place refl))

root-push : (types : List (List ℕ)) (definitions : Definitions) (entries : List TypePlace) (d : Data) (entry : TypePlace) → AreEntries definitions entries →
    IsNextEntry definitions entries entry
    → type_place_of types entries d ≡ Ok entry → (first : TypePlace) → slice_get (entries ++ entry ∷ []) 0 ≡ Some first → IsRootEntry (Some first)
root-push types definitions [] d entry are next is first here =
    let once = next.first refl in
    let follows = type_place_of-follows types [] d entry is in
    subst (λ e. IsRootEntry (Some e)) (same_Some entry first here) (no_parent entry.parent follows.0, once.0, once.1, once.2)
root-push types definitions (other ∷ entries) d entry are next is first here = are.root first here

AreEntries-push : (types : List (List ℕ)) (definitions : Definitions) (entries : List TypePlace) (d : Data) (entry : TypePlace) →
    length types ≡ length definitions.types
    → AreEntries definitions entries → type_place_of types entries d ≡ Ok entry → AreEntries definitions (entries ++ entry ∷ [])
AreEntries-push types definitions entries d entry same are is = let next = type_place_of-keeps types definitions entries d entry same is in record {
  each = AllByRecursion-snoc (IsEntry definitions) entries entry are.each next.is;
  apart = subst (IsDistinct nat_eq) (sym (map_push (λ (e : TypePlace). e.segment) entries entry))
      (IsDistinct-push nat_eq nat_eq-symmetric (entry_types entries) entry.segment are.apart next.new);
  preorder = type_place_of-preorder types entries d entry are.preorder is;
  root = root-push types definitions entries d entry are next is;
}

entries_of-keeps : (types : List (List ℕ)) (definitions : Definitions) (ds : Items) (entries : List TypePlace) → length types ≡ length definitions.types
    → entries_of types ds ≡ Ok entries → AreEntries definitions entries
unfolding IsDistinct
entries_of-keeps types definitions ds entries same h =
    each-invariant SEGMENT.now (λ (done : List TypePlace) (d : Data). type_place_of types done d) (AreEntries definitions)
    (λ done d entry so_far is. AreEntries-push types definitions done d entry same so_far is)
    0 [] ds entries (record { each = tt; apart = tt; preorder = tt; root = λ first here. absurd (cc) }) h

-- one more IDoc type behind others
record IsNextIdocType (definitions : Definitions) (names : List (List ℕ)) (type : IdocType) : Type 0 where
  is : IsIdocType definitions type
  short : length type.segments ≤ MOST_ENTRIES
  new : list_any (is_text type.name) names ≡ false

root_of_some : (entries : List TypePlace) → 1 ≤ length entries → ((first : TypePlace) → slice_get entries 0 ≡ Some first → IsRootEntry (Some first)) →
    IsRootEntry (slice_get entries 0)
root_of_some [] some root = absurd (omega arith)
root_of_some (first ∷ entries) some root = root first refl

idoc_type_of-keeps : (types names : List (List ℕ)) (definitions : Definitions) (d : Data) (type : IdocType) → length types ≡ length definitions.types
    → idoc_type_of types names d ≡ Ok type → IsNextIdocType definitions names type
unfolding idoc_type_of
idoc_type_of-keeps types names definitions d type same h =
    let (table, t, h1) = from_bind (entry_of (map (λ key. key.now) IDOCTYPE_KEYS) d) _ type h in
    let (name, n, h2) = from_bind (new_name_at LONGEST_NAME NAME.now names table) _ type h1 in
    let (ds, l, h3) = from_bind (some_list_at MOST_ENTRIES SEGMENT.now table) _ type h2 in
    let (entries, s, h4) = from_bind (entries_of types ds) _ type h3 in
    let e : ◌≡◌ {A = IdocType} (record { name = name; segments = entries }) type = cc in
    let new = new_name_at-keeps LONGEST_NAME NAME.now names table name n in
    let list = some_list_at-keeps MOST_ENTRIES SEGMENT.now table ds l in
    let long = each-length SEGMENT.now (λ (done : List TypePlace) (d : Data). type_place_of types done d) 0 [] ds entries s in
    let are = entries_of-keeps types definitions ds entries same s in
    subst (IsNextIdocType definitions names) e (record {
      is = record {
        named = (IsName_decided name).0 new.1;
        root = root_of_some entries (omega (arith, list.1, long)) are.root;
        each = are.each;
        apart = are.apart;
        preorder = are.preorder;
      };
      short = omega (arith, list.2, long);
      new = new.0.new;
    })

-- what IDoc types are, so far
record AreTypes (definitions : Definitions) (types : List IdocType) : Type 0 where
  each : AllByRecursion (IsIdocType definitions) types
  short : AllByRecursion (λ type. length type.segments ≤ MOST_ENTRIES) types
  apart : IsDistinct is_text (idoc_type_names types)

AreTypes-push : (definitions : Definitions) (types : List IdocType) (type : IdocType) → AreTypes definitions types →
    IsNextIdocType definitions (idoc_type_names types) type → AreTypes definitions (types ++ type ∷ [])
AreTypes-push definitions types type are next = record {
  each = AllByRecursion-snoc (IsIdocType definitions) types type are.each next.is;
  short = AllByRecursion-snoc (λ (t : IdocType). length t.segments ≤ MOST_ENTRIES) types type are.short next.short;
  apart = subst (IsDistinct is_text) (sym (map_push (λ (t : IdocType). t.name) types type))
      (IsDistinct-push is_text is_text-symmetric (idoc_type_names types) type.name are.apart next.new);
}

pub idoc_types_at-keeps : (names : List (List ℕ)) (definitions : Definitions) (table : Members) (types : List IdocType) →
    length names ≡ length definitions.types
    → idoc_types_at names table ≡ Ok types → AreIdocTypes definitions types
unfolding idoc_types_at IsDistinct
idoc_types_at-keeps names definitions table types same h =
    let read = λ (done : List IdocType) (d : Data). idoc_type_of names (idoc_type_names done) d in
    let (ds, l, g) = from_bind (list_or_none_at MOST_IDOC_TYPES IDOCTYPE.now table) (λ ds. each IDOCTYPE.now read 0 [] ds) types h in
    let long = each-length IDOCTYPE.now read 0 [] ds types g in
    let few = list_or_none_at-keeps MOST_IDOC_TYPES IDOCTYPE.now table ds l in
    let are = each-invariant IDOCTYPE.now read (AreTypes definitions)
    (λ done d type so_far is. AreTypes-push definitions done type so_far (idoc_type_of-keeps names (idoc_type_names done) definitions d type same is))
    0 [] ds types (record { each = tt; short = tt; apart = tt }) g in
    record { few = omega (arith, long, few); each = are.each; short = are.short; apart = are.apart }
