-- Names of segment types and their definitions, of fields and of IDoc types. This project's own.
use Rattle.std.specs.Prelude.{ℕ, ◌≤◌, ◌==◌, ◌||◌, ◌&&◌, Bool, not, List, length, IsTrue, nat_eq, nat_le, codes}
use Rattle.std.specs.Char.{is_ascii_alphanumeric}
use Rattle.std.specs.List.{list_all, starts_with}
use Rattle.segment_defs.specs.declared.limits.TheConstants.{LONGEST_NAME}

-- a byte of a name: a letter, a digit, `_` or `/`
abbrev pub is_name_byte : ℕ → Bool
is_name_byte byte = is_ascii_alphanumeric byte || (byte == 95 || byte == 47)

-- a name has one or more of these bytes, not too many
pub record IsName (name : List ℕ) : Type 0 where
  pub least : 1 ≤ length name
  pub most : length name ≤ LONGEST_NAME
  pub bytes : IsTrue (list_all is_name_byte name)

-- whether a text is a name of at most so many bytes
abbrev pub is_name_within : ℕ → List ℕ → Bool
is_name_within longest name = nat_le 1 (length name) && (nat_le (length name) longest && list_all is_name_byte name)

-- a name of a segment type or of a definition does not begin as those of the interface's own tables do
pub record IsSegmentName (name : List ℕ) : Type 0 where
  pub named : IsName name
  pub own : IsTrue (not (starts_with nat_eq name (codes "EDI_")))

-- whether a text is a name of a segment type or of a definition
abbrev pub is_segment_name : List ℕ → Bool
is_segment_name name = is_name_within LONGEST_NAME name && not (starts_with nat_eq name (codes "EDI_"))
