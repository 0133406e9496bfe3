-- Profiles of what is sent.
use Rattle.std.specs.Prelude.{◌≡◌, ℕ, ◌<◌, ◌≤◌, ◌||◌, ◌&&◌, ◌⊎◌, Bool, false, not, List, [], ◌∷◌, ◌++◌, length, nat_eq, Option, Some, None, slice_get, is_none}
use Rattle.std.specs.Prelude.{IsTrue}
use Rattle.std.specs.List.{AllByRecursion, IsDistinct, list_any}
use Rattle.std.specs.Option.{ForSome, option_map_or}
use Rattle.ale_base.specs.QueueName.{IsQueueName}
use Rattle.segment_defs.specs.declared.definitions.Definitions.{Definitions}
use Rattle.segment_defs.specs.declared.idoc_type.IdocType.{IdocType}
use Rattle.segment_defs.specs.declared.idoc_type.TypePlace.{TypePlace}
use Rattle.segment_defs.specs.Definitions.{versions_of}
use Rattle.segment_defs.specs.Name.{is_name_within, IsName}
use Rattle.segment_defs.specs.SegmentType.{newest_by}
use Rattle.dist_model.specs.declared.limits.TheConstants.{LONGEST_PORT, MOST_CONVERSIONS, MOST_OUTBOUND, MOST_PACKET, MOST_RULES}
use Rattle.dist_model.specs.declared.message.Message.{Message}
use Rattle.dist_model.specs.declared.message.Reduced.{Reduced}
use Rattle.dist_model.specs.declared.outbound.Convert.{Convert}
use Rattle.dist_model.specs.declared.outbound.Outbound.{Outbound}
use Rattle.dist_model.specs.declared.outbound.QueueRule.{QueueRule}
use Rattle.dist_model.specs.Field.{IsValueOf}
use Rattle.dist_model.specs.Message.{IsPlaceOf}
use Rattle.dist_model.specs.Way.{IsWay, outbound_way, outbound_ways, same_way}

-- a value of a field that another value of the field replaces
pub record IsConvert (definitions : Definitions) (convert : Convert) : Type 0 where
  pub from : IsValueOf definitions convert.segment convert.field convert.from
  pub to : IsValueOf definitions convert.segment convert.field convert.to

-- a rule has a text that may begin the name of a queue, and perhaps a field of the message type; none where documents are
-- collected
pub record IsQueueRule (definitions : Definitions) (types : List IdocType) (messages : List Message) (message mode : ℕ) (rule : QueueRule) : Type 0 where
  pub text : (rule.text ≡ []) ⊎ IsQueueName rule.text
  pub place : ForSome rule.place (IsPlaceOf definitions types messages message)
  pub collected : mode ≡ 4 → rule.place ≡ None

-- such rules, not too many
pub record AreQueueRules (definitions : Definitions) (types : List IdocType) (messages : List Message) (message mode : ℕ)
    (rules : List QueueRule) : Type 0 where
  pub few : length rules ≤ MOST_RULES
  pub each : AllByRecursion (IsQueueRule definitions types messages message mode) rules

-- the reduced message type at a place is one of this message type
pub record IsReductionOf (reduced : List Reduced) (message place : ℕ) : Type 0 where
  pub one : Reduced
  pub here : slice_get reduced place ≡ Some one
  pub own : one.message ≡ message

-- a profile of what is sent
pub record IsOutbound (releases systems : ℕ) (definitions : Definitions) (types : List IdocType) (messages : List Message) (reduced : List Reduced)
    (profile : Outbound) : Type 0 where
  pub way : IsWay systems (length messages) (outbound_way profile)
  pub mode : (profile.outmod ≡ 2) ⊎ (profile.outmod ≡ 4)
  pub some : 1 ≤ profile.packet
  pub few : profile.packet ≤ MOST_PACKET
  pub single : profile.outmod ≡ 2 → profile.packet ≡ 1
  pub release : profile.release < releases
  pub reduction : ForSome profile.reduced (IsReductionOf reduced profile.message)
  pub remove : AllByRecursion (λ segment. segment < length definitions.types) profile.remove
  pub few_converts : length profile.convert ≤ MOST_CONVERSIONS
  pub convert : AllByRecursion (IsConvert definitions) profile.convert
  pub port : (profile.port ≡ []) ⊎ IsTrue (is_name_within LONGEST_PORT profile.port)
  pub function : IsName profile.function
  pub outq : AreQueueRules definitions types messages profile.message profile.outmod profile.outq
  pub inq : AreQueueRules definitions types messages profile.message profile.outmod profile.inq

-- not too many profiles, each with a way of its own
pub record AreOutbound (releases systems : ℕ) (definitions : Definitions) (types : List IdocType) (messages : List Message) (reduced : List Reduced)
    (profiles : List Outbound) : Type 0 where
  pub few : length profiles ≤ MOST_OUTBOUND
  pub each : AllByRecursion (IsOutbound releases systems definitions types messages reduced) profiles
  pub apart : IsDistinct same_way (outbound_ways profiles)

-- whether what stands below a parent goes with it, where these entries go; the document itself never goes
abbrev pub goes_below : List Bool → Option ℕ → Bool
goes_below gone None = false
goes_below gone (Some parent) = option_map_or (λ goes. goes) (slice_get gone parent) false

-- which of some entries go, behind others: those that go by themselves, and all below one that goes
abbrev pub gone_behind : (ℕ → Bool) → List Bool → List TypePlace → List Bool
gone_behind goes before [] = before
gone_behind goes before (entry ∷ entries) = gone_behind goes (before ++ (goes entry.segment || goes_below before entry.parent) ∷ []) entries

-- which entries of an IDoc type go, where these segment types go by themselves
abbrev pub gone : (ℕ → Bool) → List TypePlace → List Bool
gone goes entries = gone_behind goes [] entries

-- whether an entry that is mandatory goes by itself, though its parent stays
abbrev pub is_missed : (ℕ → Bool) → List Bool → TypePlace → Bool
is_missed goes gone entry = entry.mandatory && (goes entry.segment && not (goes_below gone entry.parent))

-- whether a profile removes a segment type
abbrev pub removes : Outbound → ℕ → Bool
removes profile segment = list_any (nat_eq segment) profile.remove

-- whether a segment type has no definition by the release of a profile
abbrev pub drops : Definitions → Outbound → ℕ → Bool
drops definitions profile segment = is_none (newest_by profile.release (versions_of definitions segment))

-- whether a profile removes a segment type or drops it
abbrev pub leaves_out : Definitions → Outbound → ℕ → Bool
leaves_out definitions profile segment = removes profile segment || drops definitions profile segment

-- What a profile leaves of a document that has these entries lacks nothing that is mandatory: each mandatory entry that is
-- removed is below one that is removed, and each that has no definition by the release is below one that is removed or has
-- none either.
pub record LeavesWhole (definitions : Definitions) (profile : Outbound) (entries : List TypePlace) : Type 0 where
  pub removed : AllByRecursion (λ entry. is_missed (removes profile) (gone (removes profile) entries) entry ≡ false) entries
  pub dropped : AllByRecursion (λ entry. is_missed (drops definitions profile) (gone (leaves_out definitions profile) entries) entry ≡ false) entries
