-- The control record EDI_DC40.
use Rattle.std.specs.Prelude.{◌≡◌, ℕ, ◌≤◌, List, [], ◌∷◌, ◌++◌, length, Bool, ◌||◌, not, IsTrue, ⊤, nat_lt, codes, Result, Ok, Err, if◌then◌else◌}
use Rattle.std.specs.Char.{is_ascii_digit}
use Rattle.std.specs.List.{list_all}
use Rattle.ale_base.specs.Blanks.{trimmed, padded}
use Rattle.ale_base.specs.Text.{is_text, told_length}
use Rattle.idoc_record.specs.declared.control.TheConstants.{CONTROL_LEN}
use Rattle.idoc_record.specs.declared.control_field.ControlField.{ControlField}
use Rattle.idoc_record.specs.declared.control_field.ControlField.TheVariants.{Tabnam, Docnum, Direct}
use Rattle.idoc_record.specs.declared.fault.RecordFault.{RecordFault}
use Rattle.idoc_record.specs.declared.fault.RecordFault.TheVariants.{TooLong, WrongTable, BadNumber}
use Rattle.idoc_record.specs.ControlField.{span_of, all_fields, is_field}
use Rattle.idoc_record.specs.Parts.{text_at}

-- the text of a field of a control record, without the blanks at its end
abbrev pub field_of : List ℕ → ControlField → List ℕ
field_of control field = text_at (span_of field) control

-- the name of the table of control records
abbrev pub is_control_table : List ℕ → Bool
is_control_table text = is_text text (codes "EDI_DC40")

-- digits alone, or nothing
abbrev pub is_number : List ℕ → Bool
is_number text = list_all is_ascii_digit text

-- `1` for outbound, `2` for inbound, or blank
abbrev pub is_direction : List ℕ → Bool
is_direction text = is_text text (codes "1") || (is_text text (codes "2") || is_text text [])

-- a control record is 524 bytes that name their table, with a number and a direction
pub record IsControl (control : List ℕ) : Type 0 where
  pub whole : length control ≡ CONTROL_LEN
  pub table : IsTrue (is_control_table (field_of control Tabnam))
  pub number : IsTrue (is_number (field_of control Docnum))
  pub direction : IsTrue (is_direction (field_of control Direct))

-- the line is this control record: what it lacks at its end is blank
pub record IsControlLine (line control : List ℕ) : Type 0 where
  pub fits : length (trimmed line) ≤ CONTROL_LEN
  pub bytes : control ≡ padded CONTROL_LEN (trimmed line)
  pub kept : IsControl control

-- what each field may hold
abbrev pub IsAllowed : ControlField → List ℕ → Type 0
IsAllowed Tabnam text = IsTrue (is_control_table text)
IsAllowed Docnum text = IsTrue (is_number text)
IsAllowed Direct text = IsTrue (is_direction text)
IsAllowed _ text = ⊤

-- 524 bytes as a control record, or the first that is wrong with them
abbrev pub control_of : List ℕ → Result (List ℕ) RecordFault
control_of bytes =
    if not (is_control_table (field_of bytes Tabnam)) then Err WrongTable
    else (if not (is_number (field_of bytes Docnum)) then Err (BadNumber Docnum)
    else (if not (is_direction (field_of bytes Direct)) then Err (BadNumber Direct)
    else Ok bytes))

-- a line as a control record, or the first that is wrong with it
abbrev pub control_read : List ℕ → Result (List ℕ) RecordFault
control_read line =
    if nat_lt CONTROL_LEN (length (trimmed line)) then Err (TooLong (told_length (length (trimmed line))))
    else control_of (padded CONTROL_LEN (trimmed line))

-- the texts of fields one behind another, each with blanks up to the length of its field
abbrev pub fields_joined : List ControlField → (ControlField → List ℕ) → List ℕ
fields_joined [] texts = []
fields_joined (field ∷ fields) texts = padded (span_of field).length (texts field) ++ fields_joined fields texts

-- the record in which each field has this text
abbrev pub control_with : (ControlField → List ℕ) → List ℕ
control_with texts = fields_joined all_fields texts

-- each field has room for its text
abbrev pub HasRoom : (ControlField → List ℕ) → Type 0
HasRoom texts = (field : ControlField) → length (texts field) ≤ (span_of field).length

-- these texts, but for one field, which has this one
abbrev pub written_at : ControlField → List ℕ → (ControlField → List ℕ) → ControlField → List ℕ
written_at field text texts other = if is_field field other then text else texts other

-- TABNAM names the table of control records, and all else is blank
abbrev pub blank_text : ControlField → List ℕ
blank_text Tabnam = codes "EDI_DC40"
blank_text _ = []
