-- The rules of a profile that name queues.
use Rattle.std.specs.Prelude.{ℕ, ◌&&◌, Bool, not, List, [], length, map, nat_eq, nat_le, position, is_some, Option, Some, None, option_and_then, Result, Ok}
use Rattle.std.specs.Prelude.{Err, if◌then◌else◌}
use Rattle.std.specs.List.{list_all}
use Rattle.toml.specs.Data.{Data, Items, Members, get_member, as_str}
use Rattle.ale_base.specs.Text.{is_text}
use Rattle.segment_defs.specs.declared.definitions.Definitions.{Definitions}
use Rattle.segment_defs.specs.declared.idoc_type.TypePlace.{TypePlace}
use Rattle.segment_defs.specs.IdocType.{entry_of as entry_of_type}
use Rattle.dist_model.specs.declared.filter.FieldPlace.{FieldPlace}
use Rattle.dist_model.specs.declared.limits.TheConstants.{MOST_RULES}
use Rattle.dist_model.specs.declared.outbound.QueueRule.{QueueRule}
use Rattle.model_keys.specs.declared.finding.Finding.{Finding}
use Rattle.model_keys.specs.declared.finding.Cause.TheVariants.{Wrong}
use Rattle.model_keys.specs.Finding.{◌>>=◌, at, required}
use Rattle.model_keys.specs.Each.{each}
use Rattle.model_keys.specs.Keys.{entry_of, list_or_none_at, or_else}
use Rattle.model_profiles.specs.declared.keys.TheConstants.{FIELD, RULE_KEYS, SEGMENT, TEXT}
use Rattle.model_profiles.specs.Values.{field_place}

-- a byte that a name of a queue may have
abbrev pub is_queue_byte : ℕ → Bool
is_queue_byte byte = nat_le 33 byte && nat_le byte 126

-- a text that is no longer than a name of a queue, and has bytes of one
abbrev pub is_rule_text : List ℕ → Bool
is_rule_text text = nat_le (length text) 24 && list_all is_queue_byte text

-- the text of a rule
unfoldable pub text_of : Data → Result (List ℕ) Finding
text_of d = do
  text ← required Wrong TEXT.now (as_str d)
  if is_rule_text text then Ok text else Err (at Wrong TEXT.now)

-- no bytes where the key is absent
unfoldable pub text_at : Members → Result (List ℕ) Finding
text_at table = or_else [] text_of (get_member TEXT.now table)

-- whether a rule may speak of a segment type: documents are not collected, and it stands among these entries
abbrev pub may_name : List TypePlace → ℕ → ℕ → Bool
may_name entries outmod segment = not (nat_eq outmod 4) && is_some (entry_of_type entries segment)

-- the segment type whose name stands there
abbrev pub type_named : List (List ℕ) → Data → Option ℕ
type_named types d = option_and_then (λ name. position (is_text name) types) (as_str d)

-- the segment type of a rule
unfoldable pub rule_segment_of : List (List ℕ) → List TypePlace → ℕ → Data → Result (Option ℕ) Finding
rule_segment_of types entries outmod d = do
  segment ← required Wrong SEGMENT.now (type_named types d)
  if may_name entries outmod segment then Ok (Some segment) else Err (at Wrong SEGMENT.now)

-- the same at its key, which is absent only where that of the field is
abbrev pub rule_segment_at : List (List ℕ) → List TypePlace → ℕ → Option Data → Option Data → Result (Option ℕ) Finding
rule_segment_at types entries outmod (Some segment) field = rule_segment_of types entries outmod segment
rule_segment_at types entries outmod None (Some field) = Err (at Wrong SEGMENT.now)
rule_segment_at types entries outmod None None = Ok None

-- the field of a rule, one of this segment type
unfoldable pub rule_field_of : Definitions → ℕ → Members → Result (Option FieldPlace) Finding
rule_field_of definitions segment table = do
  d ← required Wrong FIELD.now (get_member FIELD.now table)
  name ← required Wrong FIELD.now (as_str d)
  field ← required Wrong FIELD.now (field_place definitions segment name)
  Ok (Some (record { segment = segment; field = field }))

-- the same of a rule that has a segment type
abbrev pub rule_field_at : Definitions → Option ℕ → Members → Result (Option FieldPlace) Finding
rule_field_at definitions None table = Ok None
rule_field_at definitions (Some segment) table = rule_field_of definitions segment table

-- segment type and field of a rule, which come together
unfoldable pub place_at : List (List ℕ) → Definitions → List TypePlace → ℕ → Members → Result (Option FieldPlace) Finding
place_at types definitions entries outmod table = do
  segment ← rule_segment_at types entries outmod (get_member SEGMENT.now table) (get_member FIELD.now table)
  rule_field_at definitions segment table

-- a rule
unfoldable pub rule_of : List (List ℕ) → Definitions → List TypePlace → ℕ → Data → Result QueueRule Finding
rule_of types definitions entries outmod d = do
  table ← entry_of (map (λ key. key.now) RULE_KEYS) d
  text ← text_at table
  place ← place_at types definitions entries outmod table
  Ok (record { text = text; place = place })

-- the rules of a list
abbrev pub rules_of : List (List ℕ) → Definitions → List TypePlace → ℕ → List ℕ → Items → Result (List QueueRule) Finding
rules_of types definitions entries outmod key ds = each key (λ done d. rule_of types definitions entries outmod d) 0 [] ds

-- none where the key is absent
unfoldable pub rules_at : List (List ℕ) → Definitions → List TypePlace → ℕ → List ℕ → Members → Result (List QueueRule) Finding
rules_at types definitions entries outmod key table = do
  ds ← list_or_none_at MOST_RULES key table
  rules_of types definitions entries outmod key ds
