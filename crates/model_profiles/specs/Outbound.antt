-- The section `outbound`: how documents of a message type are sent from one system to another.
use Rattle.std.specs.Prelude.{ℕ, ◌-◌, Bool, false, List, [], ◌++◌, length, map, nat_eq, nat_lt, position, slice_get, Option, Some, None, option_and_then}
use Rattle.std.specs.Prelude.{Result, Ok, Err, if◌then◌else◌}
use Rattle.std.specs.Option.{option_map_or}
use Rattle.toml.specs.Data.{Data, Items, Members, get_member}
use Rattle.ale_base.specs.Text.{is_text}
use Rattle.segment_defs.specs.declared.definitions.Definitions.{Definitions}
use Rattle.segment_defs.specs.declared.idoc_type.IdocType.{IdocType}
use Rattle.segment_defs.specs.declared.idoc_type.TypePlace.{TypePlace}
use Rattle.segment_defs.specs.declared.limits.TheConstants.{LONGEST_NAME}
use Rattle.dist_model.specs.declared.limits.TheConstants.{LONGEST_PORT, LONGEST_RELEASE, MOST_OUTBOUND, MOST_PACKET}
use Rattle.dist_model.specs.declared.message.Message.{Message}
use Rattle.dist_model.specs.declared.message.Reduced.{Reduced}
use Rattle.dist_model.specs.declared.outbound.Convert.{Convert}
use Rattle.dist_model.specs.declared.outbound.Outbound.{Outbound}
use Rattle.dist_model.specs.declared.outbound.QueueRule.{QueueRule}
use Rattle.dist_model.specs.Message.{message_entries, message_names, reduced_names}
use Rattle.dist_model.specs.Way.{outbound_ways, Way}
use Rattle.model_keys.specs.declared.finding.Finding.{Finding}
use Rattle.model_keys.specs.declared.finding.Cause.TheVariants.{Unknown, Wrong}
use Rattle.model_keys.specs.Finding.{◌>>=◌, at, required}
use Rattle.model_keys.specs.Each.{each}
use Rattle.model_keys.specs.Keys.{entry_of, list_or_none_at, name_of, number_of, or_else}
use Rattle.model_profiles.specs.declared.keys.TheConstants.{FUNCTION, INQ, OUTBOUND, OUTBOUND_KEYS, OUTMOD, OUTQ, PACKET, PORT, REDUCED, RELEASE}
use Rattle.model_profiles.specs.declared.keys.TheConstants.{STANDARD_FUNCTION}
use Rattle.model_profiles.specs.Changes.{converts_at, removes_at}
use Rattle.model_profiles.specs.QueueRules.{rules_at}
use Rattle.model_profiles.specs.Ways.{new_way_at}

-- 2, each document by itself, or 4, collected
unfoldable pub outmod_of : Data → Result ℕ Finding
outmod_of d = do
  number ← number_of 2 4 OUTMOD.now d
  if nat_eq number 3 then Err (at Wrong OUTMOD.now) else Ok number

-- 2 where the key is absent
unfoldable pub outmod_at : Members → Result ℕ Finding
outmod_at table = or_else 2 outmod_of (get_member OUTMOD.now table)

-- the most documents of a unit, which only those that are collected have
unfoldable pub packet_of : ℕ → Data → Result ℕ Finding
packet_of outmod d = do
  packet ← number_of 1 MOST_PACKET PACKET.now d
  if nat_eq outmod 4 then Ok packet else Err (at Wrong PACKET.now)

-- 1 where the key is absent
unfoldable pub packet_at : ℕ → Members → Result ℕ Finding
packet_at outmod table = or_else 1 (packet_of outmod) (get_member PACKET.now table)

-- the release of a name
unfoldable pub release_of : List (List ℕ) → Data → Result ℕ Finding
release_of releases d = do
  name ← name_of LONGEST_RELEASE RELEASE.now d
  required Unknown RELEASE.now (position (is_text name) releases)

-- the last release where the key is absent
unfoldable pub release_at : List (List ℕ) → Members → Result ℕ Finding
release_at releases table = or_else (length releases - 1) (release_of releases) (get_member RELEASE.now table)

-- the place of a reduced message type, by that of its name behind so many names of message types
abbrev pub reduced_place : ℕ → ℕ → Option ℕ
reduced_place messages place = if nat_lt place messages then None else Some (place - messages)

-- the reduced message type of a name
abbrev pub reduced_named : List Message → List Reduced → List ℕ → Option ℕ
reduced_named messages reduced name =
    option_and_then (reduced_place (length messages)) (position (is_text name) (message_names messages ++ reduced_names reduced))

-- whether the reduced message type at a place is one of a message type
abbrev pub is_reduction : List Reduced → ℕ → ℕ → Bool
is_reduction reduced message place = option_map_or (λ one. nat_eq message one.message) (slice_get reduced place) false

-- the reduced message type of a name, which is one of this message type
unfoldable pub reduced_of : List Message → List Reduced → ℕ → Data → Result (Option ℕ) Finding
reduced_of messages reduced message d = do
  name ← name_of LONGEST_NAME REDUCED.now d
  place ← required Unknown REDUCED.now (reduced_named messages reduced name)
  if is_reduction reduced message place then Ok (Some place) else Err (at Wrong REDUCED.now)

-- none where the key is absent
unfoldable pub reduced_at : List Message → List Reduced → ℕ → Members → Result (Option ℕ) Finding
reduced_at messages reduced message table = or_else None (reduced_of messages reduced message) (get_member REDUCED.now table)

-- how documents are collected, and by which release and reduction they are sent
unfoldable pub sending_at : List (List ℕ) → List Message → List Reduced → ℕ → Members → Result (ℕ × ℕ × ℕ × Option ℕ) Finding
sending_at releases messages reduced message table = do
  outmod ← outmod_at table
  packet ← packet_at outmod table
  release ← release_at releases table
  reduction ← reduced_at messages reduced message table
  Ok (outmod, packet, release, reduction)

-- which segment types are removed, and which values are replaced
unfoldable pub changes_at : List (List ℕ) → Definitions → Members → Result (List ℕ × List Convert) Finding
changes_at types definitions table = do
  remove ← removes_at types table
  convert ← converts_at types definitions table
  Ok (remove, convert)

-- the port of the receiver, none where the key is absent
unfoldable pub port_at : Members → Result (List ℕ) Finding
port_at table = or_else [] (name_of LONGEST_PORT PORT.now) (get_member PORT.now table)

-- the function of the receiver, the standard one where the key is absent
unfoldable pub function_at : Members → Result (List ℕ) Finding
function_at table = or_else STANDARD_FUNCTION.now (name_of LONGEST_NAME FUNCTION.now) (get_member FUNCTION.now table)

-- port and function of the receiver
unfoldable pub target_at : Members → Result (List ℕ × List ℕ) Finding
target_at table = do
  port ← port_at table
  function ← function_at table
  Ok (port, function)

-- the rules that name the queues of both sides
unfoldable pub queues_at : List (List ℕ) → Definitions → List TypePlace → ℕ → Members → Result (List QueueRule × List QueueRule) Finding
queues_at types definitions entries outmod table = do
  outq ← rules_at types definitions entries outmod OUTQ.now table
  inq ← rules_at types definitions entries outmod INQ.now table
  Ok (outq, inq)

-- a profile, by releases, systems and segment types of these names, whose way none of the others has
unfoldable pub outbound_of : List (List ℕ) → List (List ℕ) → List (List ℕ) → Definitions → List IdocType → List Message → List Reduced → List Way → Data →
    Result Outbound Finding
outbound_of releases systems types definitions idoc_types messages reduced ways d = do
  table ← entry_of (map (λ key. key.now) OUTBOUND_KEYS) d
  way ← new_way_at systems (message_names messages) ways table
  sending ← sending_at releases messages reduced way.2 table
  changes ← changes_at types definitions table
  target ← target_at table
  queues ← queues_at types definitions (message_entries idoc_types messages way.2) sending.0 table
  Ok (record {
    sender = way.0;
    receiver = way.1;
    message = way.2;
    outmod = sending.0;
    packet = sending.1;
    release = sending.2;
    reduced = sending.3;
    remove = changes.0;
    convert = changes.1;
    port = target.0;
    function = target.1;
    outq = queues.0;
    inq = queues.1;
  })

-- the profiles of a list, each behind those before it
abbrev pub outbounds_of : List (List ℕ) → List (List ℕ) → List (List ℕ) → Definitions → List IdocType → List Message → List Reduced → Items →
    Result (List Outbound) Finding
outbounds_of releases systems types definitions idoc_types messages reduced ds =
    each OUTBOUND.now (λ done d. outbound_of releases systems types definitions idoc_types messages reduced (outbound_ways done) d) 0 [] ds

-- the profiles of what is sent of a text, none where the key is absent
unfoldable pub outbound_at : List (List ℕ) → List (List ℕ) → List (List ℕ) → Definitions → List IdocType → List Message → List Reduced → Members →
    Result (List Outbound) Finding
outbound_at releases systems types definitions idoc_types messages reduced table = do
  ds ← list_or_none_at MOST_OUTBOUND OUTBOUND.now table
  outbounds_of releases systems types definitions idoc_types messages reduced ds
