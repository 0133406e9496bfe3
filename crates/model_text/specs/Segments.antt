-- The section `segment`: segment types with their definitions.
use Rattle.std.specs.Prelude.{ℕ, ◌-◌, Bool, true, List, [], ◌∷◌, ◌++◌, length, map, nat_lt, slice_get, Result, Ok, Err, if◌then◌else◌}
use Rattle.std.specs.List.{flat_map}
use Rattle.std.specs.Option.{option_map_or}
use Rattle.toml.specs.Data.{Data, Items, Members}
use Rattle.segment_defs.specs.declared.limits.TheConstants.{MOST_TYPES, MOST_VERSIONS}
use Rattle.segment_defs.specs.declared.version.Version.{Version}
use Rattle.segment_defs.specs.declared.segment_type.SegmentType.{SegmentType}
use Rattle.segment_defs.specs.Definitions.{names_of}
use Rattle.dist_model.specs.declared.limits.TheConstants.{LONGEST_RELEASE}
use Rattle.dist_model.specs.Field.{last_fields}
use Rattle.model_keys.specs.declared.finding.Finding.{Finding}
use Rattle.model_keys.specs.declared.finding.Cause.TheVariants.{Wrong}
use Rattle.model_keys.specs.Finding.{◌>>=◌, at}
use Rattle.model_keys.specs.Each.{each}
use Rattle.model_keys.specs.Keys.{any_list_at, entry_of, list_or_none_at, new_segment_name_at, reference_at, some_list_at}
use Rattle.model_text.specs.declared.keys.TheConstants.{ADDS, NAME, RELEASE, SEGMENT, SEGMENT_KEYS, TYPE, VERSION, VERSION_KEYS}
use Rattle.model_text.specs.Fields.{fields_of}

-- whether a release is later than that of the last of some definitions
abbrev pub is_later : ℕ → List Version → Bool
is_later release versions = option_map_or (λ last. nat_lt last.release release) (slice_get versions (length versions - 1)) true

-- the release of one more definition behind some, by its place
unfoldable pub release_at : List (List ℕ) → List Version → Members → Result ℕ Finding
release_at releases versions table = do
  release ← reference_at LONGEST_RELEASE RELEASE.now releases table
  if is_later release versions then Ok release else Err (at Wrong RELEASE.now)

-- the names of some definitions, in order
abbrev pub version_names : List Version → List (List ℕ)
version_names versions = map (λ version. version.name) versions

-- one more definition behind some, with a name that none of the names so far is; it has their fields, and adds some
unfoldable pub version_of : List (List ℕ) → List (List ℕ) → List Version → Data → Result Version Finding
version_of releases names versions d = do
  table ← entry_of (map (λ key. key.now) VERSION_KEYS) d
  name ← new_segment_name_at NAME.now names table
  release ← release_at releases versions table
  ds ← any_list_at ADDS.now table
  fields ← fields_of (last_fields versions) ds
  Ok (record { name = name; release = release; fields = fields })

-- the definitions of a list, each behind those before it; their names are new among these and each other
abbrev pub versions_of : List (List ℕ) → List (List ℕ) → Items → Result (List Version) Finding
versions_of releases names ds =
    each VERSION.now (λ done d. version_of releases (names ++ version_names done) done d) 0 [] ds

-- a segment type whose names are new among all names so far
unfoldable pub segment_of : List (List ℕ) → List (List ℕ) → Data → Result SegmentType Finding
segment_of releases names d = do
  table ← entry_of (map (λ key. key.now) SEGMENT_KEYS) d
  name ← new_segment_name_at TYPE.now names table
  ds ← some_list_at MOST_VERSIONS VERSION.now table
  versions ← versions_of releases (names ++ name ∷ []) ds
  Ok (record { name = name; versions = versions })

-- the segment types of a list, each behind those before it
abbrev pub segments_of : List (List ℕ) → Items → Result (List SegmentType) Finding
segments_of releases ds = each SEGMENT.now (λ done d. segment_of releases (flat_map names_of done) d) 0 [] ds

-- no segment types where the key is absent
unfoldable pub segments_at : List (List ℕ) → Members → Result (List SegmentType) Finding
segments_at releases table = do
  ds ← list_or_none_at MOST_TYPES SEGMENT.now table
  segments_of releases ds
