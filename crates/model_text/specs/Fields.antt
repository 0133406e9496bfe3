-- The fields that a definition of a segment type adds: each is a name and a length, with one blank between them.
use Rattle.std.specs.Prelude.{ℕ, ◌+◌, ◌-◌, ◌*◌, ◌==◌, ◌&&◌, Bool, List, [], ◌∷◌, length, map, take, drop, position, nat_lt, nat_le, Option, Some, None}
use Rattle.std.specs.Prelude.{option_and_then, Result, Ok, decimal, if◌then◌else◌}
use Rattle.std.specs.Char.{is_ascii_digit}
use Rattle.std.specs.Option.{option_map}
use Rattle.toml.specs.Data.{Data, Items, as_str}
use Rattle.ale_base.specs.Text.{is_text}
use Rattle.segment_defs.specs.declared.limits.TheConstants.{LONGEST_NAME, MOST_BYTES, MOST_FIELDS}
use Rattle.segment_defs.specs.declared.field.Field.{Field}
use Rattle.segment_defs.specs.Name.{is_name_within}
use Rattle.segment_defs.specs.Version.{width_of}
use Rattle.model_keys.specs.declared.finding.Finding.{Finding}
use Rattle.model_keys.specs.declared.finding.Cause.TheVariants.{Wrong, Limit}
use Rattle.model_keys.specs.Finding.{◌>>=◌, required, check}
use Rattle.model_keys.specs.Each.{each}
use Rattle.model_keys.specs.Keys.{new_name}
use Rattle.model_text.specs.declared.keys.TheConstants.{ADDS}

-- the number that digits spell behind a number; none where a byte is no digit, or it gets much too large for a length
abbrev pub digits_on : ℕ → List ℕ → Option ℕ
digits_on number [] = Some number
digits_on number (digit ∷ digits) =
    if is_ascii_digit digit && nat_le number MOST_BYTES then digits_on (10 * number + (digit - 48)) digits else None

-- a length, in its one spelling
abbrev pub is_length : ℕ → List ℕ → Bool
is_length number text = nat_le 1 number && (nat_le number MOST_BYTES && is_text (decimal number) text)

-- the number, if it is a length that the text spells
abbrev pub length_spelled : List ℕ → ℕ → Option ℕ
length_spelled text number = if is_length number text then Some number else None

-- the length that a text spells
abbrev pub length_in : List ℕ → Option ℕ
length_in text = option_and_then (length_spelled text) (digits_on 0 text)

-- the name before a blank and the length behind it
abbrev pub parts_at : List ℕ → ℕ → Option (List ℕ × ℕ)
parts_at text at =
    if is_name_within LONGEST_NAME (take at text) then option_map (λ n. (take at text, n)) (length_in (drop (at + 1) text)) else None

-- the name before the first blank and the length behind it
abbrev pub field_parts : List ℕ → Option (List ℕ × ℕ)
field_parts text = option_and_then (parts_at text) (position (λ byte. byte == 32) text)

-- the same of the text that stands there
unfoldable pub parts_of : Data → Result (List ℕ × ℕ) Finding
parts_of d = do
  text ← required Wrong [] (as_str d)
  required Wrong [] (field_parts text)

-- the names of some fields, in order
abbrev pub field_names : List Field → List (List ℕ)
field_names fields = map (λ field. field.name) fields

-- one more field, behind others: not too many, nor too wide, and with a name of its own
unfoldable pub field_of : List Field → Data → Result Field Finding
field_of fields d = do
  parts ← parts_of d
  fits ← check Limit [] (nat_lt (length fields) MOST_FIELDS && nat_le (width_of fields + parts.1) MOST_BYTES)
  name ← new_name [] (field_names fields) parts.0
  Ok (record { name = name; offset = width_of fields; length = parts.1 })

-- some fields, and behind them those of a list
abbrev pub fields_of : List Field → Items → Result (List Field) Finding
fields_of fields ds = each ADDS.now (λ done d. field_of done d) 0 fields ds
