-- What a whole text says: its sections in their order, behind the known keys, and checks over all of them.
use Rattle.std.specs.Prelude.{ℕ, List, [], ◌++◌, map, Result, Ok}
use Rattle.toml.specs.Data.{Members}
use Rattle.segment_defs.specs.declared.idoc_type.IdocType.{IdocType}
use Rattle.segment_defs.specs.declared.segment_type.SegmentType.{SegmentType}
use Rattle.dist_model.specs.declared.filter.Filter.{Filter}
use Rattle.dist_model.specs.declared.kind.Kind.{Kind}
use Rattle.dist_model.specs.declared.lists.Lists.{Lists}
use Rattle.dist_model.specs.declared.message.Message.{Message}
use Rattle.dist_model.specs.declared.message.Reduced.{Reduced}
use Rattle.dist_model.specs.declared.system.System.{System}
use Rattle.dist_model.specs.Message.{message_names, reduced_names}
use Rattle.dist_model.specs.Model.{idoc_type_names, system_names, type_names}
use Rattle.model_keys.specs.declared.finding.Finding.{Finding}
use Rattle.model_keys.specs.Finding.{◌>>=◌}
use Rattle.model_keys.specs.Keys.{only_known}
use Rattle.model_messages.specs.Kinds.{kinds_at}
use Rattle.model_messages.specs.Messages.{messages_at}
use Rattle.model_messages.specs.Reduced.{reduced_at}
use Rattle.model_messages.specs.Filters.{filters_at}
use Rattle.model_profiles.specs.Rows.{rows_at}
use Rattle.model_profiles.specs.Outbound.{outbound_at}
use Rattle.model_profiles.specs.Inbound.{inbound_at}
use Rattle.model_text.specs.Profiled.{all_profiled}
use Rattle.model_text.specs.Whole.{all_whole}
use Rattle.model_text.specs.declared.basics.Basics.{Basics}
use Rattle.model_text.specs.declared.subjects.Subjects.{Subjects}
use Rattle.model_text.specs.declared.traffic.Traffic.{Traffic}
use Rattle.model_text.specs.declared.keys.TheConstants.{TOP_KEYS}
use Rattle.model_text.specs.Releases.{releases_at}
use Rattle.model_text.specs.Systems.{systems_at}
use Rattle.model_text.specs.Segments.{segments_at}
use Rattle.model_text.specs.IdocTypes.{idoc_types_at}

-- releases, systems, segment types and IDoc types, with the names of each
abbrev pub basics : List (List ℕ) → List System → List SegmentType → List IdocType → Basics
basics releases systems segments types = record {
  releases = releases;
  release_names = releases;
  systems = systems;
  system_names = system_names systems;
  definitions = record { types = segments };
  segment_names = type_names segments;
  types = types;
  type_names = idoc_type_names types;
}

-- the part of `basics_of` behind releases and systems
unfoldable pub basics_on : List (List ℕ) → List System → Members → Result Basics Finding
basics_on releases systems table = do
  segments ← segments_at releases table
  types ← idoc_types_at (type_names segments) table
  Ok (basics releases systems segments types)

-- the sections on them
unfoldable pub basics_of : Members → Result Basics Finding
basics_of table = do
  releases ← releases_at table
  systems ← systems_at table
  segments ← segments_at releases table
  types ← idoc_types_at (type_names segments) table
  Ok (basics releases systems segments types)

-- kinds, message types, reduced ones and filters, with the names of what is sent
abbrev pub subjects : List Kind → List Message → List Reduced → List Filter → Subjects
subjects kinds messages reduced filters = record {
  kinds = kinds;
  messages = messages;
  message_names = message_names messages;
  reduced = reduced;
  all_names = message_names messages ++ reduced_names reduced;
  filters = filters;
}

-- the part of `subjects_of` behind message types
unfoldable pub subjects_on : Basics → List Kind → List Message → Members → Result Subjects Finding
subjects_on on kinds messages table = do
  reduced ← reduced_at on.definitions on.types messages table
  filters ← filters_at on.definitions on.types messages table
  Ok (subjects kinds messages reduced filters)

-- the sections on them
unfoldable pub subjects_of : Basics → Members → Result Subjects Finding
subjects_of on table = do
  kinds ← kinds_at on.definitions table
  messages ← messages_at on.definitions on.types kinds table
  reduced ← reduced_at on.definitions on.types messages table
  filters ← filters_at on.definitions on.types messages table
  Ok (subjects kinds messages reduced filters)

-- the sections on rows and profiles, and the checks over them
unfoldable pub traffic_of : Basics → Subjects → Members → Result Traffic Finding
traffic_of on of table = do
  rows ← rows_at on.system_names on.definitions of.message_names of.filters table
  outbound ← outbound_at on.release_names on.system_names on.segment_names on.definitions on.types of.messages of.reduced table
  inbound ← inbound_at on.system_names of.all_names table
  profiled ← all_profiled outbound rows
  whole ← all_whole on.definitions on.types of.messages outbound
  Ok (record { rows = rows; outbound = outbound; inbound = inbound })

-- the lists of a model
abbrev pub lists : Basics → Subjects → Traffic → Lists
lists on of by = record {
  releases = on.releases;
  systems = on.systems;
  definitions = on.definitions;
  types = on.types;
  kinds = of.kinds;
  messages = of.messages;
  reduced = of.reduced;
  filters = of.filters;
  rows = by.rows;
  outbound = by.outbound;
  inbound = by.inbound;
}

-- the part of `model_of` behind what a model stands on
unfoldable pub model_on : Basics → Members → Result Lists Finding
model_on on table = do
  of ← subjects_of on table
  by ← traffic_of on of table
  Ok (lists on of by)

-- the model of a whole text, which is this table
unfoldable pub model_of : Members → Result Lists Finding
model_of table = do
  known ← only_known [] (map (λ key. key.now) TOP_KEYS) table
  on ← basics_of table
  of ← subjects_of on table
  by ← traffic_of on of table
  Ok (lists on of by)
