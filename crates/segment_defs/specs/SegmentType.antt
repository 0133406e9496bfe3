-- A segment type: its definitions, one a version, each later one with fields appended.
use Rattle.std.specs.Prelude.{◌≡◌, ℕ, suc, ◌<◌, ◌≤◌, Bool, List, [], ◌∷◌, ◌++◌, length, nat_le, Option, Some, None, slice_get, AllPairs, if◌then◌else◌}
use Rattle.std.specs.List.{AllByRecursion}
use Rattle.segment_defs.specs.declared.field.Field.{Field}
use Rattle.segment_defs.specs.declared.version.Version.{Version}
use Rattle.segment_defs.specs.declared.segment_type.SegmentType.{SegmentType}
use Rattle.segment_defs.specs.declared.limits.TheConstants.{MOST_VERSIONS}
use Rattle.segment_defs.specs.Name.{IsSegmentName}
use Rattle.segment_defs.specs.Version.{IsVersion}

-- a later definition has a later release, and the fields of an earlier one with others behind them
pub record Continues (earlier newer : Version) : Type 0 where
  pub later : earlier.release < newer.release
  pub added : List Field
  pub fields : newer.fields ≡ earlier.fields ++ added

-- a segment type has a name, and one or more definitions, not too many, that continue each other
pub record IsSegmentType (type : SegmentType) : Type 0 where
  pub named : IsSegmentName type.name
  pub some : 1 ≤ length type.versions
  pub few : length type.versions ≤ MOST_VERSIONS
  pub each : AllByRecursion IsVersion type.versions
  pub continued : AllPairs Continues type.versions

-- the last place that counts: one further than that among the later ones, or the first if it counts
abbrev pub last_place : Bool → Option ℕ → Option ℕ
last_place counts None = if counts then Some 0 else None
last_place counts (Some place) = Some (suc place)

-- the place of the newest definition that is not after a release; none where the first one is
abbrev pub newest_by : ℕ → List Version → Option ℕ
newest_by release [] = None
newest_by release (version ∷ versions) = last_place (nat_le version.release release) (newest_by release versions)

-- the definition at this place is not after a release, and each later one is
pub record IsNewestBy (release : ℕ) (versions : List Version) (place : ℕ) : Type 0 where
  pub version : Version
  pub here : slice_get versions place ≡ Some version
  pub not_after : version.release ≤ release
  pub newest : (later : ℕ) (other : Version) → place < later → slice_get versions later ≡ Some other → release < other.release
