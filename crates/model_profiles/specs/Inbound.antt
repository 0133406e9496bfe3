-- The section `inbound`: how a system posts what it receives.
use Rattle.std.specs.Prelude.{ℕ, List, [], map, position, Option, Some, None, Result, Ok, if◌then◌else◌}
use Rattle.toml.specs.Data.{Data, Items, Members, get_member, as_str}
use Rattle.ale_base.specs.Text.{is_text}
use Rattle.segment_defs.specs.declared.limits.TheConstants.{LONGEST_NAME}
use Rattle.dist_model.specs.declared.inbound.Inbound.{Inbound}
use Rattle.dist_model.specs.declared.inbound.InboundMode.{InboundMode}
use Rattle.dist_model.specs.declared.inbound.InboundMode.TheVariants.{Background, Immediate}
use Rattle.dist_model.specs.declared.limits.TheConstants.{MOST_INBOUND}
use Rattle.dist_model.specs.Index.{inbound_triple}
use Rattle.model_keys.specs.declared.finding.Finding.{Finding}
use Rattle.model_keys.specs.declared.finding.Cause.TheVariants.{Unknown, Wrong}
use Rattle.model_keys.specs.Finding.{◌>>=◌, required}
use Rattle.model_keys.specs.Each.{each}
use Rattle.model_keys.specs.Keys.{entry_of, list_or_none_at, name_at, or_else}
use Rattle.model_profiles.specs.declared.keys.TheConstants.{BACKGROUND, IMMEDIATE, INBOUND, INBOUND_KEYS, MESSAGE, MODE, RECEIVER, SENDER}
use Rattle.model_profiles.specs.Ways.{new_triple, other_system_at, system_at}

-- the mode of a word
abbrev pub mode_in : List ℕ → Option InboundMode
mode_in text =
    if is_text text IMMEDIATE.now then Some Immediate else if is_text text BACKGROUND.now then Some Background else None

-- the same of the text that stands there
unfoldable pub mode_of : Data → Result InboundMode Finding
mode_of d = do
  text ← required Wrong MODE.now (as_str d)
  required Wrong MODE.now (mode_in text)

-- the mode of a profile, with the unit where the key is absent
unfoldable pub mode_at : Members → Result InboundMode Finding
mode_at table = or_else Immediate mode_of (get_member MODE.now table)

-- the name of a message type or of a reduced one, and its place among those names
unfoldable pub named_at : List (List ℕ) → Members → Result (List ℕ × ℕ) Finding
named_at names table = do
  name ← name_at LONGEST_NAME MESSAGE.now table
  place ← required Unknown MESSAGE.now (position (is_text name) names)
  Ok (name, place)

-- receiver, sender and name, which together none of some others are
unfoldable pub new_ends_at : List (List ℕ) → List (List ℕ) → List (ℕ × ℕ × ℕ) → Members → Result (ℕ × ℕ × List ℕ) Finding
new_ends_at systems names others table = do
  receiver ← system_at RECEIVER.now systems table
  sender ← other_system_at SENDER.now receiver systems table
  named ← named_at names table
  new ← new_triple others (receiver, sender, named.1)
  Ok (receiver, sender, named.0)

-- a profile of what is received, by systems and message types of these names
unfoldable pub inbound_of : List (List ℕ) → List (List ℕ) → List (ℕ × ℕ × ℕ) → Data → Result Inbound Finding
inbound_of systems names others d = do
  table ← entry_of (map (λ key. key.now) INBOUND_KEYS) d
  ends ← new_ends_at systems names others table
  mode ← mode_at table
  Ok (record { receiver = ends.0; sender = ends.1; message = ends.2; mode = mode })

-- what tells some profiles apart: receiver, sender, and the place of the name
abbrev pub inbound_triples : List (List ℕ) → List Inbound → List (ℕ × ℕ × ℕ)
inbound_triples names profiles = map (inbound_triple names) profiles

-- the profiles of a list, each behind those before it
abbrev pub inbounds_of : List (List ℕ) → List (List ℕ) → Items → Result (List Inbound) Finding
inbounds_of systems names ds = each INBOUND.now (λ done d. inbound_of systems names (inbound_triples names done) d) 0 [] ds

-- the profiles of what is received of a text, none where the key is absent
unfoldable pub inbound_at : List (List ℕ) → List (List ℕ) → Members → Result (List Inbound) Finding
inbound_at systems names table = do
  ds ← list_or_none_at MOST_INBOUND INBOUND.now table
  inbounds_of systems names ds
