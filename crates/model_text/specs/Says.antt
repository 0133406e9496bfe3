-- What a text says of a model, and no order of checks: section by section, each entry of the text stands for one of the
-- model's, and what it names is what stands there.
use Rattle.std.specs.Prelude.{◌≡◌, ℕ, pos, false, List, [], ◌∷◌, ◌++◌, Option, Some, None, slice_get, decimal, MatchOption}
use Rattle.toml.specs.Parse.{parse_document}
use Rattle.toml.specs.Data.{Data, Items, Members, get_member, as_str, as_integer, as_bool, as_table}
use Rattle.segment_defs.specs.declared.field.Field.{Field}
use Rattle.segment_defs.specs.declared.version.Version.{Version}
use Rattle.segment_defs.specs.declared.segment_type.SegmentType.{SegmentType}
use Rattle.segment_defs.specs.declared.idoc_type.TypePlace.{TypePlace}
use Rattle.segment_defs.specs.declared.idoc_type.IdocType.{IdocType}
use Rattle.dist_model.specs.declared.system.System.{System}
use Rattle.dist_model.specs.declared.lists.Lists.{Lists}
use Rattle.dist_model.specs.Field.{last_fields}
use Rattle.dist_model.specs.Message.{message_names}
use Rattle.dist_model.specs.Model.{system_names, type_names}
use Rattle.model_keys.specs.Says.{HasList, HasText, OneForOne, SaysList, SaysListOrNone, SaysName, SaysNames}
use Rattle.model_text.specs.declared.keys.TheConstants.{ADDS, CLIENT, FILTER, FUNCTIONS, IDOCTYPE, INBOUND, KIND, MANDATORY, MAX, MESSAGE, MIN, NAME, OUTBOUND}
use Rattle.model_text.specs.declared.keys.TheConstants.{PARENT, REDUCED, RELEASE, RELEASES, ROW, SEGMENT, STANDARD_CLIENT, STANDARD_FUNCTION, SYSTEM, TYPE}
use Rattle.model_text.specs.declared.keys.TheConstants.{VERSION}
use Rattle.model_messages.specs.Says.{SaysFilter, SaysKind, SaysMessage, SaysReduced}
use Rattle.model_profiles.specs.Says.{SaysInbound, SaysOutbound, SaysRow}
use Rattle.model_text.specs.Entries.{entry_types}

-- a system: the client is 000, and one function is offered, where the entry says nothing of them
pub record SaysSystem (before : List System) (d : Data) (system : System) : Type 0 where
  pub table : Members
  pub is : as_table d ≡ Some table
  pub name : HasText NAME.now table system.name
  pub client : MatchOption (get_member CLIENT.now table) (system.client ≡ STANDARD_CLIENT) (λ client. as_str client ≡ Some system.client)
  pub functions : MatchOption (get_member FUNCTIONS.now table) (system.functions ≡ STANDARD_FUNCTION.now ∷ []) (SaysNames system.functions)

-- a field: its name, a blank, and its length in decimal digits
abbrev pub SaysField : List Field → Data → Field → Type 0
SaysField before d field = as_str d ≡ Some (field.name ++ 32 ∷ decimal field.length)

-- a definition of a segment type: its release is that of the name, and its fields are those of the one before it and the
-- fields that it adds
pub record SaysVersion (releases : List (List ℕ)) (before : List Version) (d : Data) (version : Version) : Type 0 where
  pub table : Members
  pub is : as_table d ≡ Some table
  pub name : HasText NAME.now table version.name
  pub release_name : List ℕ
  pub release : HasText RELEASE.now table release_name
  pub released : slice_get releases version.release ≡ Some release_name
  pub list : Items
  pub adds : HasList ADDS.now table list
  pub added : List Field
  pub each : OneForOne SaysField (last_fields before) list added
  pub fields : version.fields ≡ last_fields before ++ added

-- a segment type
pub record SaysSegment (releases : List (List ℕ)) (before : List SegmentType) (d : Data) (type : SegmentType) : Type 0 where
  pub table : Members
  pub is : as_table d ≡ Some table
  pub name : HasText TYPE.now table type.name
  pub versions : SaysList (SaysVersion releases) VERSION.now table type.versions

-- the parent of an entry is the one whose segment type has this name
pub record SaysParent (types : List (List ℕ)) (segments : List ℕ) (parent : Option ℕ) (d : Data) : Type 0 where
  pub text : List ℕ
  pub is : as_str d ≡ Some text
  pub place : ℕ
  pub parent_is : parent ≡ Some place
  pub segment : ℕ
  pub here : slice_get segments place ≡ Some segment
  pub named : slice_get types segment ≡ Some text

-- an entry of an IDoc type: it is optional and occurs once where it says nothing of that
pub record SaysEntry (types : List (List ℕ)) (before : List TypePlace) (d : Data) (entry : TypePlace) : Type 0 where
  pub table : Members
  pub is : as_table d ≡ Some table
  pub type_name : List ℕ
  pub type : HasText TYPE.now table type_name
  pub typed : slice_get types entry.segment ≡ Some type_name
  pub parent : MatchOption (get_member PARENT.now table) (entry.parent ≡ None) (SaysParent types (entry_types before ++ entry.segment ∷ []) entry.parent)
  pub mandatory : MatchOption (get_member MANDATORY.now table) (entry.mandatory ≡ false) (λ d. as_bool d ≡ Some entry.mandatory)
  pub min : MatchOption (get_member MIN.now table) (entry.min ≡ 1) (λ d. as_integer d ≡ Some (pos entry.min))
  pub max : MatchOption (get_member MAX.now table) (entry.max ≡ 1) (λ d. as_integer d ≡ Some (pos entry.max))

-- an IDoc type
pub record SaysIdocType (types : List (List ℕ)) (before : List IdocType) (d : Data) (type : IdocType) : Type 0 where
  pub table : Members
  pub is : as_table d ≡ Some table
  pub name : HasText NAME.now table type.name
  pub entries : SaysList (SaysEntry types) SEGMENT.now table type.segments

-- the sections of a text
pub record SaysModel (table : Members) (model : Lists) : Type 0 where
  pub releases : SaysList SaysName RELEASES.now table model.releases
  pub systems : SaysList SaysSystem SYSTEM.now table model.systems
  pub segments : SaysListOrNone (SaysSegment model.releases) SEGMENT.now table model.definitions.types
  pub types : SaysListOrNone (SaysIdocType (type_names model.definitions.types)) IDOCTYPE.now table model.types
  pub kinds : SaysListOrNone (SaysKind model.definitions) KIND.now table model.kinds
  pub messages : SaysListOrNone (SaysMessage model.definitions model.types model.kinds) MESSAGE.now table model.messages
  pub reduced : SaysListOrNone (SaysReduced model.definitions model.messages) REDUCED.now table model.reduced
  pub filters : SaysListOrNone (SaysFilter model.definitions model.messages) FILTER.now table model.filters
  pub rows : SaysListOrNone (SaysRow (system_names model.systems) (message_names model.messages) model.filters) ROW.now table model.rows
  pub outbound : SaysListOrNone (SaysOutbound model.releases (system_names model.systems) (type_names model.definitions.types) model.definitions model.messages
      model.reduced) OUTBOUND.now table model.outbound
  pub inbound : SaysListOrNone (SaysInbound (system_names model.systems)) INBOUND.now table model.inbound

-- these bytes say this model
abbrev pub SaysText : List ℕ → Lists → Type 0
SaysText bytes model = (table : Members) × (parse_document bytes ≡ Some table) × SaysModel table model
