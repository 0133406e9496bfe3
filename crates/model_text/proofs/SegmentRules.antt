-- Segment types that were read keep their rules.
use Rattle.std.specs.Prelude.{AllPairs, slice_get}
use Rattle.std.specs.List.{AllByRecursion, IsDistinct, flat_map, list_any}
use Rattle.std.specs.Option.{option_map_or}
use Rattle.std.proofs.Common.{◌≡◌, ℕ, ◌-◌, ◌<◌, ◌≤◌, nat_lt, true, false, cond, Some, Ok, Err, List, [], ◌∷◌, ◌++◌, length, get_or, map, refl, sym, ap, subst}
use Rattle.std.proofs.Common.{◌∙◌, append_assoc, append-nil, inl, inr, arith}
use Rattle.std.proofs.Math.Nat.{eq-or-lt_of_le}
use Rattle.std.proofs.lemmas.Bool.Decides.{nat_tests}
use Rattle.std.proofs.lemmas.List.{map_push}
use Rattle.std.proofs.lemmas.List.Quantifiers.{all_pairs_push}
use Rattle.std.proofs.lemmas.Option.{slice_get-get_or, slice_get_within}
use Rattle.toml.specs.Data.{Data, Items, Members}
use Rattle.ale_base.specs.Text.{is_text}
use Rattle.ale_base.proofs.ListLemmas.{AllByRecursion-at}
use Rattle.ale_base.proofs.OptionLemmas.{none_or_some}
use Rattle.ale_base.proofs.SnocLemmas.{AllByRecursion-snoc}
use Rattle.segment_defs.specs.declared.limits.TheConstants.{MOST_TYPES, MOST_VERSIONS}
use Rattle.segment_defs.specs.declared.version.Version.{Version}
use Rattle.segment_defs.specs.declared.segment_type.SegmentType.{SegmentType}
use Rattle.segment_defs.specs.Version.{AreFields, IsVersion}
use Rattle.segment_defs.specs.SegmentType.{Continues, IsSegmentType}
use Rattle.segment_defs.specs.Definitions.{AreDefinitions, names_of}
use Rattle.segment_defs.proofs.NameLemmas.{IsSegmentName_decided}
use Rattle.segment_defs.proofs.RuleLemmas.{Continues-trans}
use Rattle.dist_model.specs.declared.limits.TheConstants.{LONGEST_RELEASE}
use Rattle.dist_model.specs.Model.{IsReleased}
use Rattle.model_keys.specs.declared.finding.Cause.TheVariants.{Wrong}
use Rattle.model_keys.specs.Finding.{at}
use Rattle.model_keys.specs.Each.{each}
use Rattle.model_keys.specs.Keys.{any_list_at, entry_of, list_or_none_at, new_segment_name_at, reference_at, some_list_at}
use Rattle.dist_model.proofs.DistinctLemmas.{is_text-symmetric, IsDistinct-push}
use Rattle.model_keys.proofs.KeepsLemmas.{each-invariant, each-length, from_bind, list_or_none_at-keeps, new_segment_name_at-keeps, reference_at-keeps}
use Rattle.model_keys.proofs.KeepsLemmas.{some_list_at-keeps, tested}
use Rattle.model_text.specs.declared.keys.TheConstants.{ADDS, NAME, RELEASE, SEGMENT, SEGMENT_KEYS, TYPE, VERSION, VERSION_KEYS}
use Rattle.model_text.specs.Fields.{fields_of}
use Rattle.dist_model.specs.Field.{last_fields}
use Rattle.model_text.specs.Segments.{is_later, release_at, segment_of, segments_at, version_names, version_of, versions_of}
use Rattle.model_text.proofs.FieldRules.{AreFields-none, fields_of-keeps}
use Rattle.model_text.proofs.SegmentLemmas.{all_names-push}

-- the last of some definitions
abbrev Last : List Version → Version → Type 0
Last versions last = slice_get versions (length versions - 1) ≡ Some last

last_fields-are : (versions : List Version) → AllByRecursion IsVersion versions → AreFields (last_fields versions)
last_fields-are versions all = elim (none_or_some (slice_get versions (length versions - 1))) [
  | inl none ↦ subst AreFields (sym (ap (λ last. option_map_or (λ (v : Version). v.fields) last []) none)) AreFields-none
  | inr some ↦
      let version = AllByRecursion-at IsVersion versions (length versions - 1) some.0 all some.1 in
      subst AreFields (sym (ap (λ last. option_map_or (λ (v : Version). v.fields) last []) some.1)) version.fields
]

-- a release that was read is one of the landscape, and later than the last one
release_at-keeps : (releases : List (List ℕ)) (versions : List Version) (table : Members) (release : ℕ) → release_at releases versions table ≡ Ok release
    → (release < length releases) × ((last : Version) → Last versions last → last.release < release)
unfolding release_at
release_at-keeps releases versions table release h =
    let (place, r, g) = from_bind (reference_at LONGEST_RELEASE RELEASE.now releases table)
    (λ place. cond (is_later place versions) (Ok place) (Err (at Wrong RELEASE.now))) release h in
    let (later, e) = tested (is_later place versions) place release (at Wrong RELEASE.now) g in
    let (name, text, here) = reference_at-keeps LONGEST_RELEASE RELEASE.now releases table place r in (
      subst (λ k. k < length releases) e (slice_get_within releases place name here),
      λ last is. subst (λ k. last.release < k) e
          (less last.release place (sym (ap (λ last. option_map_or (λ (v : Version). nat_lt v.release place) last true) is) ∙ later)),
    )
  where
    less : (a b : ℕ) → nat_lt a b ≡ true → a < b
    less a b is = grind (arith, nat_tests)

-- one more definition behind some
record IsNext (releases names : List (List ℕ)) (versions : List Version) (version : Version) : Type 0 where
  is : IsVersion version
  continues : (last : Version) → Last versions last → Continues last version
  released : version.release < length releases
  new : list_any (is_text version.name) names ≡ false

version_of-keeps : (releases names : List (List ℕ)) (versions : List Version) (d : Data) (version : Version) → AllByRecursion IsVersion versions
    → version_of releases names versions d ≡ Ok version → IsNext releases names versions version
unfolding version_of
version_of-keeps releases names versions d version all h =
    let (table, t, h1) = from_bind (entry_of (map (λ key. key.now) VERSION_KEYS) d) _ version h in
    let (name, n, h2) = from_bind (new_segment_name_at NAME.now names table) _ version h1 in
    let (release, r, h3) = from_bind (release_at releases versions table) _ version h2 in
    let (ds, l, h4) = from_bind (any_list_at ADDS.now table) _ version h3 in
    let (fields, f, h5) = from_bind (fields_of (last_fields versions) ds) _ version h4 in
    let e : ◌≡◌ {A = Version} (record { name = name; release = release; fields = fields }) version = cc in
    let new = new_segment_name_at-keeps NAME.now names table name n in
    let later = release_at-keeps releases versions table release r in
    let all_fields = fields_of-keeps (last_fields versions) ds fields (last_fields-are versions all) f in
    subst (IsNext releases names versions) e (record {
      is = record { named = IsSegmentName_decided name new.1; fields = all_fields.0 };
      continues = λ last here. record {
        later = later.1 last here;
        added = all_fields.1.0;
        fields = all_fields.1.1 ∙ ap (λ found. option_map_or (λ (v : Version). v.fields) found [] ++ all_fields.1.0) here;
      };
      released = later.0;
      new = new.0.new;
    })

-- what continues the last one continues them all
continues-all : (versions : List Version) (newer : Version) → AllPairs Continues versions → ((last : Version) → Last versions last → Continues last newer)
    → (k : ℕ) (d : Version) → k < length versions → Continues (get_or versions k d) newer
continues-all versions newer all from k d within =
    let end = length versions - 1 in
    let next = from (get_or versions end d) (slice_get-get_or versions end d (omega arith)) in
    let near : k ≤ end = omega arith in
    elim (eq-or-lt_of_le near) [
      | inr less ↦ Continues-trans (get_or versions k d) (get_or versions end d) newer (all k end d less (omega arith)) next
      | inl same ↦ subst (λ i. Continues (get_or versions i d) newer) (sym same) next
    ]

-- what definitions are, behind names so far
record AreVersions (releases names : List (List ℕ)) (versions : List Version) : Type 0 where
  each : AllByRecursion IsVersion versions
  continued : AllPairs Continues versions
  released : AllByRecursion (λ version. version.release < length releases) versions
  apart : IsDistinct is_text (names ++ version_names versions)

AreVersions-push : (releases names : List (List ℕ)) (versions : List Version) (version : Version) → AreVersions releases names versions
    → IsNext releases (names ++ version_names versions) versions version → AreVersions releases names (versions ++ version ∷ [])
AreVersions-push releases names versions version are next = record {
  each = AllByRecursion-snoc IsVersion versions version are.each next.is;
  continued = all_pairs_push Continues versions version are.continued (continues-all versions version are.continued next.continues);
  released = AllByRecursion-snoc (λ (v : Version). v.release < length releases) versions version are.released next.released;
  apart =
      let one = IsDistinct-push is_text is_text-symmetric (names ++ version_names versions) version.name are.apart next.new in
      let grouped : (names ++ version_names versions) ++ version.name ∷ [] ≡ names ++ version_names (versions ++ version ∷ []) =
      append_assoc names (version_names versions) (version.name ∷ []) ∙ ap (λ ns. names ++ ns) (sym (map_push (λ (v : Version). v.name) versions version)) in
      subst (IsDistinct is_text) grouped one;
}

versions_of-keeps : (releases names : List (List ℕ)) (ds : Items) (versions : List Version) → IsDistinct is_text names →
    versions_of releases names ds ≡ Ok versions → AreVersions releases names versions
versions_of-keeps releases names ds versions apart h =
    each-invariant VERSION.now (λ (done : List Version) (d : Data). version_of releases (names ++ version_names done) done d) (AreVersions releases names)
    (λ done d version so_far is. AreVersions-push releases names done version so_far
    (version_of-keeps releases (names ++ version_names done) done d version so_far.each is))
    0 [] ds versions (record {
      each = tt;
      continued = λ i j d less within. absurd (omega arith);
      released = tt;
      apart = subst (IsDistinct is_text) (sym (append-nil names)) apart;
    }) h

-- a segment type behind others
record IsNextType (releases names : List (List ℕ)) (type : SegmentType) : Type 0 where
  is : IsSegmentType type
  released : IsReleased (length releases) type
  apart : IsDistinct is_text (names ++ type.name ∷ [] ++ version_names type.versions)

segment_of-keeps : (releases names : List (List ℕ)) (d : Data) (type : SegmentType) → IsDistinct is_text names → segment_of releases names d ≡ Ok type →
    IsNextType releases names type
unfolding segment_of
segment_of-keeps releases names d type apart h =
    let (table, t, h1) = from_bind (entry_of (map (λ key. key.now) SEGMENT_KEYS) d) _ type h in
    let (name, n, h2) = from_bind (new_segment_name_at TYPE.now names table) _ type h1 in
    let (ds, l, h3) = from_bind (some_list_at MOST_VERSIONS VERSION.now table) _ type h2 in
    let (versions, v, h4) = from_bind (versions_of releases (names ++ name ∷ []) ds) _ type h3 in
    let e : ◌≡◌ {A = SegmentType} (record { name = name; versions = versions }) type = cc in
    let new = new_segment_name_at-keeps TYPE.now names table name n in
    let list = some_list_at-keeps MOST_VERSIONS VERSION.now table ds l in
    let are = versions_of-keeps releases (names ++ name ∷ []) ds versions (IsDistinct-push is_text is_text-symmetric names name apart new.0.new) v in
    let long = each-length VERSION.now (λ (done : List Version) (d : Data). version_of releases ((names ++ name ∷ []) ++ version_names done) done d) 0 [] ds
    versions v in
    subst (IsNextType releases names) e (record {
      is = record {
        named = IsSegmentName_decided name new.1;
        some = omega (arith, list.1, long);
        few = omega (arith, list.2, long);
        each = are.each;
        continued = are.continued;
      };
      released = are.released;
      apart = are.apart;
    })

-- what segment types are, so far
record AreTypes (releases : List (List ℕ)) (types : List SegmentType) : Type 0 where
  each : AllByRecursion IsSegmentType types
  released : AllByRecursion (IsReleased (length releases)) types
  apart : IsDistinct is_text (flat_map names_of types)

AreTypes-push : (releases : List (List ℕ)) (types : List SegmentType) (type : SegmentType) → AreTypes releases types →
    IsNextType releases (flat_map names_of types) type → AreTypes releases (types ++ type ∷ [])
AreTypes-push releases types type are next = record {
  each = AllByRecursion-snoc IsSegmentType types type are.each next.is;
  released = AllByRecursion-snoc (IsReleased (length releases)) types type are.released next.released;
  apart = subst (IsDistinct is_text) (all_names-push (flat_map names_of types) types type refl) next.apart;
}

pub segments_at-keeps : (releases : List (List ℕ)) (table : Members) (types : List SegmentType) → segments_at releases table ≡ Ok types
    → AreDefinitions (record { types = types }) × AllByRecursion (IsReleased (length releases)) types
unfolding segments_at IsDistinct
segments_at-keeps releases table types h =
    let read = λ (done : List SegmentType) (d : Data). segment_of releases (flat_map names_of done) d in
    let (ds, l, g) = from_bind (list_or_none_at MOST_TYPES SEGMENT.now table) (λ ds. each SEGMENT.now read 0 [] ds) types h in
    let long = each-length SEGMENT.now read 0 [] ds types g in
    let few = list_or_none_at-keeps MOST_TYPES SEGMENT.now table ds l in
    let are = each-invariant SEGMENT.now read (AreTypes releases)
    (λ done d type so_far is. AreTypes-push releases done type so_far (segment_of-keeps releases (flat_map names_of done) d type so_far.apart is))
    0 [] ds types (record { each = tt; released = tt; apart = tt }) g in
    (record { few = omega (arith, long, few); each = are.each; apart = are.apart }, are.released)
