-- A fault of a model's text in words, as it is told.
use Rattle.std.specs.Prelude.{ℕ, ◌+◌, ◌/◌, ◌%◌, ◌==◌, ◌||◌, nat_lt, List, [], ◌∷◌, ◌++◌, codes, if◌then◌else◌}
use Rattle.std.specs.List.{flat_map}
use Rattle.model_text.specs.declared.fault.ModelFault.{ModelFault}
use Rattle.model_text.specs.declared.fault.ModelFault.TheVariants.{Toml, Missing, Unknown, Wrong, Twice, Limit, MandatoryRemoved, NoVersion}
use Rattle.model_text.specs.declared.fault.ModelFault.TheVariants.{OutOfMemory}

-- what is wrong with a model's text, with a blank where a path follows
abbrev pub fault_name : ModelFault → List ℕ
fault_name Toml = codes "Toml"
fault_name (Missing path) = codes "Missing "
fault_name (Unknown path) = codes "Unknown "
fault_name (Wrong path) = codes "Wrong "
fault_name (Twice path) = codes "Twice "
fault_name (Limit path) = codes "Limit "
fault_name (MandatoryRemoved path) = codes "MandatoryRemoved "
fault_name (NoVersion path) = codes "NoVersion "
fault_name OutOfMemory = codes "OutOfMemory"

-- the path to it
abbrev pub fault_path : ModelFault → List ℕ
fault_path Toml = []
fault_path (Missing path) = path
fault_path (Unknown path) = path
fault_path (Wrong path) = path
fault_path (Twice path) = path
fault_path (Limit path) = path
fault_path (MandatoryRemoved path) = path
fault_path (NoVersion path) = path
fault_path OutOfMemory = []

-- a hexadecimal digit
abbrev pub hex_digit : ℕ → ℕ
hex_digit digit = if nat_lt digit 10 then 48 + digit else 55 + digit

-- a byte of a path, as it is told: a control byte, which a key between quotes may have, by its number, and any other as it is
abbrev pub shown_byte : ℕ → List ℕ
shown_byte byte = if nat_lt byte 32 || byte == 127 then codes "\\x" ++ (hex_digit (byte / 16) ∷ hex_digit (byte % 16) ∷ []) else byte ∷ []

-- both, in one line
abbrev pub fault_words : ModelFault → List ℕ
fault_words fault = fault_name fault ++ flat_map shown_byte (fault_path fault)
