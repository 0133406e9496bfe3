-- Kinds that were read keep their rules, and are what the text says.
use Rattle.std.specs.List.{AllByRecursion, IsDistinct, list_any}
use Rattle.std.proofs.Common.{◌≡◌, ℕ, ◌<◌, false, Ok, List, [], ◌∷◌, ◌++◌, map, refl, sym, subst, arith}
use Rattle.std.proofs.lemmas.List.{length-map, map_push}
use Rattle.std.proofs.lemmas.Option.{slice_get_within}
use Rattle.toml.specs.Data.{Data, Items, Members, get_member}
use Rattle.ale_base.specs.Text.{is_text}
use Rattle.ale_base.proofs.SnocLemmas.{AllByRecursion-snoc}
use Rattle.segment_defs.specs.declared.limits.TheConstants.{LONGEST_NAME}
use Rattle.segment_defs.specs.declared.definitions.Definitions.{Definitions}
use Rattle.segment_defs.specs.declared.segment_type.SegmentType.{SegmentType}
use Rattle.segment_defs.specs.Definitions.{versions_of}
use Rattle.segment_defs.proofs.NameLemmas.{IsName_decided}
use Rattle.dist_model.specs.declared.kind.Kind.{Kind}
use Rattle.dist_model.specs.declared.limits.TheConstants.{MOST_KINDS}
use Rattle.dist_model.specs.Field.{first_fields}
use Rattle.dist_model.specs.Kind.{kind_names, AreKinds, IsKind}
use Rattle.dist_model.specs.Model.{type_names}
use Rattle.dist_model.proofs.DistinctLemmas.{is_text-symmetric, IsDistinct-push}
use Rattle.model_keys.specs.declared.finding.Cause.TheVariants.{Wrong}
use Rattle.model_keys.specs.Finding.{required}
use Rattle.model_keys.specs.Each.{each}
use Rattle.model_keys.specs.Keys.{entry_of, list_or_none_at, name_at, new_name_at, segment_type_at}
use Rattle.model_keys.specs.Says.{SaysListOrNone, SaysPlace}
use Rattle.model_keys.proofs.KeepsLemmas.{each-invariant, each-length, from_bind, list_or_none_at-keeps, name_at-keeps, new_name_at-keeps, required-ok}
use Rattle.model_keys.proofs.KeepsLemmas.{segment_type_at-keeps}
use Rattle.model_keys.proofs.SaysLemmas.{all-says, entry_of-table, list_or_none-says}
use Rattle.model_messages.specs.declared.keys.TheConstants.{KEY, KIND, KIND_KEYS, NAME, SEGMENT}
use Rattle.model_keys.specs.Fields.{field_named, field_names}
use Rattle.model_messages.specs.Kinds.{key_at, kind_of, kinds_at, kinds_of}
use Rattle.model_messages.specs.Says.{SaysKind}
use Rattle.model_keys.proofs.FieldLemmas.{field_named-keeps, field_there}

key_at-keeps : (definitions : Definitions) (segment : ℕ) (table : Members) (key : ℕ) → key_at definitions segment table ≡ Ok key
    → SaysPlace (field_names (first_fields (versions_of definitions segment))) KEY.now table key
unfolding key_at
key_at-keeps definitions segment table key h =
    let fields = first_fields (versions_of definitions segment) in
    let (name, n, g) = from_bind (name_at LONGEST_NAME KEY.now table) (λ name. required Wrong KEY.now (field_named fields name)) key h in
    (name, (name_at-keeps LONGEST_NAME KEY.now table name n).0, field_named-keeps fields name key (required-ok Wrong KEY.now (field_named fields name) key g))

-- one more kind behind others
record IsNextKind (definitions : Definitions) (before : List Kind) (d : Data) (kind : Kind) : Type 0 where
  is : IsKind definitions kind
  new : list_any (is_text kind.name) (kind_names before) ≡ false
  says : SaysKind definitions before d kind

kind_of-keeps : (definitions : Definitions) (before : List Kind) (d : Data) (kind : Kind) → kind_of definitions (kind_names before) d ≡ Ok kind →
    IsNextKind definitions before d kind
unfolding kind_of
kind_of-keeps definitions before d kind h =
    let (table, t, h1) = from_bind (entry_of (map (λ key. key.now) KIND_KEYS) d) _ kind h in
    let (name, n, h2) = from_bind (new_name_at LONGEST_NAME NAME.now (kind_names before) table) _ kind h1 in
    let (segment, s, h3) = from_bind (segment_type_at SEGMENT.now (type_names definitions.types) table) _ kind h2 in
    let (key, k, h4) = from_bind (key_at definitions segment table) _ kind h3 in
    let e : ◌≡◌ {A = Kind} (record { name = name; segment = segment; key = key }) kind = cc in
    let new = new_name_at-keeps LONGEST_NAME NAME.now (kind_names before) table name n in
    let typed = segment_type_at-keeps SEGMENT.now (type_names definitions.types) table segment s in
    let keyed = key_at-keeps definitions segment table key k in
    subst (IsNextKind definitions before d) e (record {
      is = record {
        named = (IsName_decided name).0 new.1;
        known = subst (λ many. segment < many) (length-map definitions.types (λ (type : SegmentType). type.name))
            (slice_get_within (type_names definitions.types) segment typed.0 typed.2);
        key = field_there (first_fields (versions_of definitions segment)) keyed.0 key keyed.2;
      };
      new = new.0.new;
      says = record { table = table; is = entry_of-table (map (λ key. key.now) KIND_KEYS) d table t; name = new.0.text; segment = typed; key = keyed };
    })

-- what kinds are, so far
record AreKindsSoFar (definitions : Definitions) (kinds : List Kind) : Type 0 where
  each : AllByRecursion (IsKind definitions) kinds
  apart : IsDistinct is_text (kind_names kinds)

kinds-push : (definitions : Definitions) (before : List Kind) (d : Data) (kind : Kind) → AreKindsSoFar definitions before → IsNextKind definitions before d kind
    → AreKindsSoFar definitions (before ++ kind ∷ [])
kinds-push definitions before d kind are next = record {
  each = AllByRecursion-snoc (IsKind definitions) before kind are.each next.is;
  apart = subst (IsDistinct is_text) (sym (map_push (λ (k : Kind). k.name) before kind))
      (IsDistinct-push is_text is_text-symmetric (kind_names before) kind.name are.apart next.new);
}

-- kinds that were read keep the rules of kinds
pub kinds_at-keeps : (definitions : Definitions) (table : Members) (kinds : List Kind) → kinds_at definitions table ≡ Ok kinds → AreKinds definitions kinds
unfolding kinds_at IsDistinct
kinds_at-keeps definitions table kinds h =
    let read = λ (done : List Kind) (d : Data). kind_of definitions (kind_names done) d in
    let (ds, l, g) = from_bind (list_or_none_at MOST_KINDS KIND.now table) (λ ds. each KIND.now read 0 [] ds) kinds h in
    let long = each-length KIND.now read 0 [] ds kinds g in
    let few = list_or_none_at-keeps MOST_KINDS KIND.now table ds l in
    let are = each-invariant KIND.now read (AreKindsSoFar definitions)
    (λ done d kind so_far is. kinds-push definitions done d kind so_far (kind_of-keeps definitions done d kind is))
    0 [] ds kinds (record { each = tt; apart = tt }) g in
    record { few = omega (arith, long, few); each = are.each; apart = are.apart }

-- and are what the text says
pub kinds_at-says : (definitions : Definitions) (table : Members) (kinds : List Kind) → kinds_at definitions table ≡ Ok kinds →
    SaysListOrNone (SaysKind definitions) KIND.now table kinds
unfolding kinds_at list_or_none_at
kinds_at-says definitions table kinds h =
    let read = λ (done : List Kind) (d : Data). kind_of definitions (kind_names done) d in
    let (ds, l, g) = from_bind (list_or_none_at MOST_KINDS KIND.now table) (λ ds. each KIND.now read 0 [] ds) kinds h in (
      ds,
      list_or_none-says MOST_KINDS KIND.now (get_member KIND.now table) ds l,
      all-says KIND.now read (SaysKind definitions) (λ done d kind is. (kind_of-keeps definitions done d kind is).says) ds kinds g,
    )

-- the list at the key is the one that is read
pub kinds_at-list : (definitions : Definitions) (table : Members) (ds : Items) → list_or_none_at MOST_KINDS KIND.now table ≡ Ok ds →
    kinds_at definitions table ≡ kinds_of definitions ds
unfolding kinds_at
kinds_at-list definitions table ds is = rw is refl
