-- What profiles leave of documents: nothing that is mandatory is missed.
use Rattle.std.specs.Prelude.{ℕ, ◌==◌, Bool, true, List, length, map, filter, nat_eq, position, Option, Some, None, Result, Ok, Err}
use Rattle.std.specs.List.{list_any}
use Rattle.segment_defs.specs.declared.definitions.Definitions.{Definitions}
use Rattle.segment_defs.specs.declared.idoc_type.IdocType.{IdocType}
use Rattle.segment_defs.specs.declared.idoc_type.TypePlace.{TypePlace}
use Rattle.dist_model.specs.declared.message.Message.{Message}
use Rattle.dist_model.specs.declared.outbound.Outbound.{Outbound}
use Rattle.dist_model.specs.Message.{message_entries}
use Rattle.dist_model.specs.Outbound.{drops, gone, is_missed, leaves_out, removes}
use Rattle.model_keys.specs.declared.finding.Finding.{Finding}
use Rattle.model_keys.specs.declared.finding.Cause.TheVariants.{MandatoryRemoved, NoVersion}
use Rattle.model_keys.specs.Finding.{◌>>=◌, at, check, element}
use Rattle.model_text.specs.declared.keys.TheConstants.{OUTBOUND, RELEASE, REMOVE}
use Rattle.model_text.specs.declared.leaving.By.{By}
use Rattle.model_text.specs.declared.leaving.By.TheVariants as ways
use Rattle.model_text.specs.Checked.{checked}

-- whether a segment type leaves a document by this way: by the removals of a profile, for want of a definition by its
-- release, or by either
abbrev pub leaves_by : By → Definitions → Outbound → ℕ → Bool
leaves_by ways.Removal definitions profile segment = removes profile segment
leaves_by ways.Release definitions profile segment = drops definitions profile segment
leaves_by ways.Either definitions profile segment = leaves_out definitions profile segment

-- the segment types of those entries that are mandatory and go by themselves, though what is above them stays; these
-- entries are gone
abbrev pub missed_with : (ℕ → Bool) → List Bool → List TypePlace → List ℕ
missed_with goes gone entries = map (λ entry. entry.segment) (filter (is_missed goes gone) entries)

-- the same where all that leaves is gone
abbrev pub missed : (ℕ → Bool) → (ℕ → Bool) → List TypePlace → List ℕ
missed goes leaves entries = missed_with goes (gone leaves entries) entries

-- no removal is at fault, or the one at a place is
abbrev pub no_fault : Option ℕ → Result Bool Finding
no_fault None = Ok true
no_fault (Some place) = Err (at MandatoryRemoved (element REMOVE.now place))

-- a profile removes no segment type that would be missed
unfoldable pub removes_none : List TypePlace → Outbound → Result Bool Finding
removes_none entries profile =
    no_fault (position (λ segment. list_any (nat_eq segment) (missed (removes profile) (removes profile) entries)) profile.remove)

-- the release of a profile drops no segment type that would be missed
unfoldable pub drops_none : Definitions → List TypePlace → Outbound → Result Bool Finding
drops_none definitions entries profile =
    check NoVersion RELEASE.now (length (missed (drops definitions profile) (leaves_out definitions profile) entries) == 0)

-- a profile leaves all that is mandatory
unfoldable pub whole : Definitions → List TypePlace → Outbound → Result Bool Finding
whole definitions entries profile = do
  removed ← removes_none entries profile
  drops_none definitions entries profile

-- the same of each profile, by the IDoc type of its message type
abbrev pub all_whole : Definitions → List IdocType → List Message → List Outbound → Result Bool Finding
all_whole definitions types messages profiles =
    checked OUTBOUND.now (λ profile. whole definitions (message_entries types messages profile.message) profile) 0 profiles
