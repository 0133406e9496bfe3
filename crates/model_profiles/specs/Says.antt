-- What a text says of rows and profiles, and no order of checks: each entry of the text stands for one of the model's, and
-- what it names is what stands there.
use Rattle.std.specs.Prelude.{◌≡◌, ℕ, pos, suc, ◌-◌, List, [], ◌∷◌, length, Option, Some, None, slice_get, MatchOption}
use Rattle.toml.specs.Data.{Data, Items, Members, no_members, member, get_member, as_str, as_integer, as_array, as_table}
use Rattle.ale_base.specs.Blanks.{trimmed}
use Rattle.segment_defs.specs.declared.definitions.Definitions.{Definitions}
use Rattle.segment_defs.specs.declared.field.Field.{Field}
use Rattle.dist_model.specs.declared.filter.FieldPlace.{FieldPlace}
use Rattle.dist_model.specs.declared.filter.Filter.{Filter}
use Rattle.dist_model.specs.declared.inbound.Inbound.{Inbound}
use Rattle.dist_model.specs.declared.inbound.InboundMode.{InboundMode}
use Rattle.dist_model.specs.declared.inbound.InboundMode.TheVariants.{Background, Immediate}
use Rattle.dist_model.specs.declared.message.Message.{Message}
use Rattle.dist_model.specs.declared.message.Reduced.{Reduced}
use Rattle.dist_model.specs.declared.outbound.Convert.{Convert}
use Rattle.dist_model.specs.declared.outbound.Outbound.{Outbound}
use Rattle.dist_model.specs.declared.outbound.QueueRule.{QueueRule}
use Rattle.dist_model.specs.declared.row.Choice.{Choice}
use Rattle.dist_model.specs.declared.row.Group.{Group}
use Rattle.dist_model.specs.declared.row.Row.{Row}
use Rattle.dist_model.specs.Field.{all_fields}
use Rattle.dist_model.specs.Message.{message_names, reduced_names}
use Rattle.dist_model.specs.Way.{outbound_way, row_way, Way}
use Rattle.model_keys.specs.Says.{HasText, IsPlaceNamed, IsValueText, OneForOne, SaysListOrNone, SaysPlace}
use Rattle.model_profiles.specs.declared.keys.TheConstants.{BACKGROUND, CONVERT, FIELD, FROM, FUNCTION, GROUP, IMMEDIATE, INQ, MESSAGE, MODE, OUTMOD, OUTQ}
use Rattle.model_profiles.specs.declared.keys.TheConstants.{PACKET, PORT, RECEIVER, REDUCED, RELEASE, REMOVE, SEGMENT, SENDER, STANDARD_FUNCTION, TEXT, TO}

-- the name at a key is that of the system of this number, counted from 1
abbrev pub SaysSystem : List (List ℕ) → List ℕ → Members → ℕ → Type 0
SaysSystem systems key table system = (place : ℕ) × (suc place ≡ system) × SaysPlace systems key table place

-- sender, receiver and message type are those of the names
pub record SaysWay (systems messages : List (List ℕ)) (table : Members) (way : Way) : Type 0 where
  pub sender : SaysSystem systems SENDER.now table way.0
  pub receiver : SaysSystem systems RECEIVER.now table way.1
  pub message : SaysPlace messages MESSAGE.now table way.2

-- a value of a filter is the text that stands there, blanks at its end included; blanks alone are no bytes
pub record SaysFilterValue (before : List (List ℕ)) (d : Data) (value : List ℕ) : Type 0 where
  pub text : List ℕ
  pub is : as_str d ≡ Some text
  pub blank : trimmed text ≡ [] → value ≡ []
  pub whole : (trimmed text ≡ [] → ⊥) → value ≡ text

-- the condition at a key of a group: the key is the name of the filter
pub record SaysChoice (filters : List Filter) (message : ℕ) (key : List ℕ) (d : Data) (choice : Choice) : Type 0 where
  pub filter : Filter
  pub here : slice_get filters choice.filter ≡ Some filter
  pub own : filter.message ≡ message
  pub named : filter.name ≡ key
  pub list : Items
  pub is : as_array d ≡ Some list
  pub values : OneForOne SaysFilterValue [] list choice.values

-- the keys of a group say its conditions one for one
abbrev pub SaysChoices : List Filter → ℕ → Members → List Choice → Type 0
SaysChoices filters message no_members [] = Unit {0}
SaysChoices filters message (member key d rest) (choice ∷ choices) = SaysChoice filters message key d choice × SaysChoices filters message rest choices
SaysChoices filters message no_members (choice ∷ choices) = ⊥
SaysChoices filters message (member key d rest) [] = ⊥

-- a group
pub record SaysGroup (filters : List Filter) (message : ℕ) (before : List Group) (d : Data) (group : Group) : Type 0 where
  pub table : Members
  pub is : as_table d ≡ Some table
  pub choices : SaysChoices filters message table group.choices

-- a row
pub record SaysRow (systems messages : List (List ℕ)) (filters : List Filter) (before : List Row) (d : Data) (row : Row) : Type 0 where
  pub table : Members
  pub is : as_table d ≡ Some table
  pub way : SaysWay systems messages table (row_way row)
  pub groups : SaysListOrNone (SaysGroup filters row.message) GROUP.now table row.group

-- the name at the key of fields is that of a field of a segment type
pub record SaysField (definitions : Definitions) (segment : ℕ) (table : Members) (place : ℕ) : Type 0 where
  pub field : Field
  pub here : slice_get (all_fields definitions segment) place ≡ Some field
  pub named : HasText FIELD.now table field.name

-- the value of a field at a key
abbrev pub HasValue : List ℕ → Members → List ℕ → Type 0
HasValue key table value = (d : Data) × (get_member key table ≡ Some d) × IsValueText d value

-- a value, and the one that replaces it
pub record SaysConvert (types : List (List ℕ)) (definitions : Definitions) (before : List Convert) (d : Data) (convert : Convert) : Type 0 where
  pub table : Members
  pub is : as_table d ≡ Some table
  pub segment : SaysPlace types SEGMENT.now table convert.segment
  pub field : SaysField definitions convert.segment table convert.field
  pub from : HasValue FROM.now table convert.from
  pub to : HasValue TO.now table convert.to

-- segment type and field of a rule are absent, or those of the names
abbrev pub SaysRulePlace : List (List ℕ) → Definitions → Members → Option FieldPlace → Type 0
SaysRulePlace types definitions table None = (get_member SEGMENT.now table ≡ None) × (get_member FIELD.now table ≡ None)
SaysRulePlace types definitions table (Some place) = SaysPlace types SEGMENT.now table place.segment × SaysField definitions place.segment table place.field

-- a rule that names a queue
pub record SaysRule (types : List (List ℕ)) (definitions : Definitions) (before : List QueueRule) (d : Data) (rule : QueueRule) : Type 0 where
  pub table : Members
  pub is : as_table d ≡ Some table
  pub text : MatchOption (get_member TEXT.now table) (rule.text ≡ []) (λ text. as_str text ≡ Some rule.text)
  pub place : SaysRulePlace types definitions table rule.place

-- a segment type that is removed
abbrev pub SaysType : List (List ℕ) → List ℕ → Data → ℕ → Type 0
SaysType types before d segment = IsPlaceNamed types d segment

-- a reduced message type by its name
abbrev pub SaysReduced : List Reduced → Option ℕ → Data → Type 0
SaysReduced reduced reduction d = (place : ℕ) × (reduction ≡ Some place) × IsPlaceNamed (reduced_names reduced) d place

-- A profile of what is sent. Where it says nothing of them, each document is sent by itself, one a unit, by the last
-- release, whole, to no port and the standard function, in no queues.
pub record SaysOutbound (releases systems types : List (List ℕ)) (definitions : Definitions) (messages : List Message) (reduced : List Reduced)
    (before : List Outbound) (d : Data) (profile : Outbound) : Type 0 where
  pub table : Members
  pub is : as_table d ≡ Some table
  pub way : SaysWay systems (message_names messages) table (outbound_way profile)
  pub outmod : MatchOption (get_member OUTMOD.now table) (profile.outmod ≡ 2) (λ d. as_integer d ≡ Some (pos profile.outmod))
  pub packet : MatchOption (get_member PACKET.now table) (profile.packet ≡ 1) (λ d. as_integer d ≡ Some (pos profile.packet))
  pub release : MatchOption (get_member RELEASE.now table) (profile.release ≡ length releases - 1) (λ d. IsPlaceNamed releases d profile.release)
  pub reduction : MatchOption (get_member REDUCED.now table) (profile.reduced ≡ None) (SaysReduced reduced profile.reduced)
  pub remove : SaysListOrNone (SaysType types) REMOVE.now table profile.remove
  pub convert : SaysListOrNone (SaysConvert types definitions) CONVERT.now table profile.convert
  pub port : MatchOption (get_member PORT.now table) (profile.port ≡ []) (λ d. as_str d ≡ Some profile.port)
  pub function : MatchOption (get_member FUNCTION.now table) (profile.function ≡ STANDARD_FUNCTION.now) (λ d. as_str d ≡ Some profile.function)
  pub outq : SaysListOrNone (SaysRule types definitions) OUTQ.now table profile.outq
  pub inq : SaysListOrNone (SaysRule types definitions) INQ.now table profile.inq

-- the word of a mode
abbrev pub mode_word : InboundMode → List ℕ
mode_word Immediate = IMMEDIATE.now
mode_word Background = BACKGROUND.now

-- a profile of what is received: documents are posted with their unit where it says nothing of that
pub record SaysInbound (systems : List (List ℕ)) (before : List Inbound) (d : Data) (profile : Inbound) : Type 0 where
  pub table : Members
  pub is : as_table d ≡ Some table
  pub receiver : SaysSystem systems RECEIVER.now table profile.receiver
  pub sender : SaysSystem systems SENDER.now table profile.sender
  pub message : HasText MESSAGE.now table profile.message
  pub mode : MatchOption (get_member MODE.now table) (profile.mode ≡ Immediate) (λ mode. as_str mode ≡ Some (mode_word profile.mode))
