-- Segment types: the last of some definitions, and all names.
use Rattle.std.specs.Prelude.{slice_get}
use Rattle.std.specs.List.{flat_map, list_any}
use Rattle.std.specs.Option.{option_map_or}
use Rattle.std.proofs.Common.{◌≡◌, ℕ, ◌-◌, ◌||◌, Bool, true, false, Some, Ok, List, [], ◌∷◌, ◌++◌, length, map, refl, sym, ap, subst, ◌∙◌, append_assoc}
use Rattle.std.proofs.Common.{append-nil, not, arith}
use Rattle.std.proofs.lemmas.List.{length-append, map_push}
use Rattle.std.proofs.lemmas.List.Concat.{flat_map-cons}
use Rattle.std.proofs.lemmas.Grind.{flat_map-append}
use Rattle.std.proofs.lemmas.List.Folds.{list_any-append}
use Rattle.std.proofs.lemmas.Option.{slice_get_read}
use Rattle.std.proofs.Math.Seq.{get_or-append_seam}
use Rattle.toml.specs.Data.{Data}
use Rattle.ale_base.specs.Text.{is_text}
use Rattle.model_keys.specs.Keys.{entry_of, new_segment_name_at, some_list_at}
use Rattle.model_keys.proofs.KeepsLemmas.{from_bind, new_segment_name_at-keeps}
use Rattle.model_text.specs.declared.keys.TheConstants.{SEGMENT_KEYS, TYPE, VERSION}
use Rattle.segment_defs.specs.declared.limits.TheConstants.{MOST_VERSIONS}
use Rattle.segment_defs.specs.declared.version.Version.{Version}
use Rattle.segment_defs.specs.declared.segment_type.SegmentType.{SegmentType}
use Rattle.segment_defs.specs.Definitions.{names_of}
use Rattle.dist_model.specs.Field.{last_fields}
use Rattle.dist_model.specs.Model.{type_names}
use Rattle.model_text.specs.Segments.{segment_of, version_names, versions_of}

or_false_parts : (a b : Bool) → (a || b) ≡ false → (a ≡ false) × (b ≡ false)
or_false_parts false b none = (refl, none)
or_false_parts true b none = absurd (cc)

or_false : (a b : Bool) → a ≡ false → b ≡ false → (a || b) ≡ false
or_false false b first second = second
or_false true b first second = first

last_at : (versions : List Version) (version : Version) → slice_get (versions ++ version ∷ []) (length (versions ++ version ∷ []) - 1) ≡ Some version
last_at versions version =
    let whole = versions ++ version ∷ [] in
    let at : length whole - 1 ≡ length versions = omega (arith, length-append versions (version ∷ [])) in
    rw at (slice_get_read whole (length whole) (length versions) version refl (omega (arith, length-append versions (version ∷ [])))
    (sym (get_or-append_seam versions version [] version)))

-- the last definition is the one that was added
pub last_fields-push : (versions : List Version) (version : Version) → last_fields (versions ++ version ∷ []) ≡ version.fields
last_fields-push versions version = ap (λ last. option_map_or (λ (v : Version). v.fields) last []) (last_at versions version)

pub version_names-push : (before names : List (List ℕ)) (versions : List Version) (version : Version) → names ≡ before ++ version_names versions →
    names ++ version.name ∷ [] ≡ before ++ version_names (versions ++ version ∷ [])
version_names-push before names versions version is =
    ap (λ ns. ns ++ version.name ∷ []) is ∙ append_assoc before (version_names versions) (version.name ∷ [])
    ∙ ap (λ ns. before ++ ns) (sym (map_push (λ (v : Version). v.name) versions version))

-- none of all names is that of a type where none of them is at all
names_of-types : (test : List ℕ → Bool) (types : List SegmentType) → list_any test (flat_map names_of types) ≡ false → list_any test (type_names types) ≡ false
names_of-types test [] none = refl
names_of-types test (type ∷ types) none =
    let whole : list_any test (names_of type ++ flat_map names_of types) ≡ false = ap (list_any test) (sym (flat_map-cons names_of type types)) ∙ none in
    let parts = or_false_parts (list_any test (names_of type)) (list_any test (flat_map names_of types))
    (sym (list_any-append test (names_of type) (flat_map names_of types)) ∙ whole) in
    let own = or_false_parts (test type.name) (list_any test (version_names type.versions)) parts.0 in
    or_false (test type.name) (list_any test (type_names types)) own.0 (names_of-types test types parts.1)

-- a segment type that was read has a new name
pub segment_of-new : (releases names : List (List ℕ)) (d : Data) (segment : SegmentType) → segment_of releases names d ≡ Ok segment →
    list_any (is_text segment.name) names ≡ false
unfolding segment_of
segment_of-new releases names d segment h =
    let (table, t, h1) = from_bind (entry_of (map (λ key. key.now) SEGMENT_KEYS) d) _ segment h in
    let (name, n, h2) = from_bind (new_segment_name_at TYPE.now names table) _ segment h1 in
    let (ds, l, h3) = from_bind (some_list_at MOST_VERSIONS VERSION.now table) _ segment h2 in
    let (versions, v, h4) = from_bind (versions_of releases (names ++ name ∷ []) ds) _ segment h3 in
    let e : ◌≡◌ {A = SegmentType} (record { name = name; versions = versions }) segment = cc in
    subst (λ (s : SegmentType). list_any (is_text s.name) names ≡ false) e (new_segment_name_at-keeps TYPE.now names table name n).0.new

-- so it is new among the types
pub type_names-new : (releases : List (List ℕ)) (types : List SegmentType) (d : Data) (segment : SegmentType) → segment_of releases (flat_map names_of types) d
    ≡ Ok segment → list_any (is_text segment.name) (type_names types) ≡ false
type_names-new releases types d segment h =
    names_of-types (is_text segment.name) types (segment_of-new releases (flat_map names_of types) d segment h)

pub type_names-push : (names : List (List ℕ)) (types : List SegmentType) (segment : SegmentType) → names ≡ type_names types →
    names ++ segment.name ∷ [] ≡ type_names (types ++ segment ∷ [])
type_names-push names types segment is = ap (λ ns. ns ++ segment.name ∷ []) is ∙ sym (map_push (λ (s : SegmentType). s.name) types segment)

pub all_names-push : (names : List (List ℕ)) (types : List SegmentType) (segment : SegmentType) → names ≡ flat_map names_of types
    → names ++ segment.name ∷ [] ++ version_names segment.versions ≡ flat_map names_of (types ++ segment ∷ [])
all_names-push names types segment is =
    append_assoc names (segment.name ∷ []) (version_names segment.versions) ∙ ap (λ ns. ns ++ names_of segment) is
    ∙ ap (λ ns. flat_map names_of types ++ ns) (sym (flat_map-cons names_of segment [] ∙ append-nil (names_of segment)))
    ∙ sym (flat_map-append names_of types (segment ∷ []))

-- the table of types has one more name where it was new
pub types-added : (releases names types after : List (List ℕ)) (segments : List SegmentType) (d : Data) (segment : SegmentType) (new : Bool)
    → names ≡ flat_map names_of segments → types ≡ type_names segments → segment_of releases names d ≡ Ok segment
    → new ≡ not (list_any (is_text segment.name) types) → (new ≡ true → after ≡ types ++ segment.name ∷ []) → after ≡ type_names (segments ++ segment ∷ [])
types-added releases names types after segments d segment new named typed is fresh added =
    let none : list_any (is_text segment.name) types ≡ false =
    ap (list_any (is_text segment.name)) typed ∙ type_names-new releases segments d segment (ap (λ ns. segment_of releases ns d) (sym named) ∙ is) in
    added (fresh ∙ ap not none) ∙ type_names-push types segments segment typed
