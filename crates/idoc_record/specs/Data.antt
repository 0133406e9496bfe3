-- The data record EDI_DD40, 1,063 bytes. Source: SAP Library, IDoc interface, data record.
use Rattle.std.specs.Prelude.{◌≡◌, ℕ, ◌≤◌, List, [], ◌∷◌, length, Bool, true, not, IsTrue, nat_eq, nat_lt, codes, Result, Ok, Err, if◌then◌else◌}
use Rattle.std.specs.List.{starts_with}
use Rattle.ale_base.specs.Blanks.{trimmed, padded}
use Rattle.ale_base.specs.Text.{told_length}
use Rattle.idoc_record.specs.declared.data.TheConstants.{DATA_LEN}
use Rattle.idoc_record.specs.declared.span.Span.{Span}
use Rattle.idoc_record.specs.declared.fault.RecordFault.{RecordFault}
use Rattle.idoc_record.specs.declared.fault.RecordFault.TheVariants.{TooLong, WrongTable}
use Rattle.idoc_record.specs.ControlField.{span}
use Rattle.idoc_record.specs.Parts.{text_at}

-- the name of the segment. Between it and its data stand MANDT (3 bytes at 30), DOCNUM (16 at 33), SEGNUM (6 at 49),
-- PSGNUM (6 at 55) and HLEVEL (2 at 61), which are not consulted
abbrev pub segnam : Span
segnam = span 0 30

-- the data of the segment
abbrev pub sdata : Span
sdata = span 63 1000

-- a data record: the name of its segment, and its data without the blanks at their end
pub record DataRecord : Type 0 where
  pub segnam : List ℕ
  pub sdata : List ℕ

-- a name that is blank, or that another table of the interface has
abbrev pub is_no_segment : List ℕ → Bool
is_no_segment [] = true
is_no_segment (b ∷ name) = starts_with nat_eq (b ∷ name) (codes "EDI_")

-- what a data record may hold: a name of at most 30 bytes that no other table has, and at most 1,000 bytes of data, both
-- of which end in no blank
pub record IsDataRecord (data_record : DataRecord) : Type 0 where
  pub named : length data_record.segnam ≤ 30
  pub segnam : IsTrue (not (is_no_segment data_record.segnam))
  pub ends : trimmed data_record.segnam ≡ data_record.segnam
  pub fits : length data_record.sdata ≤ 1000
  pub sdata : trimmed data_record.sdata ≡ data_record.sdata

-- the line is this data record: what it lacks at its end is blank
pub record IsDataLine (line : List ℕ) (data_record : DataRecord) : Type 0 where
  pub fits : length (trimmed line) ≤ DATA_LEN
  pub segnam : data_record.segnam ≡ text_at segnam (padded DATA_LEN (trimmed line))
  pub sdata : data_record.sdata ≡ text_at sdata (padded DATA_LEN (trimmed line))
  pub kept : IsDataRecord data_record

-- 1,063 bytes as a data record, or the first that is wrong with them
abbrev pub data_of : List ℕ → Result DataRecord RecordFault
data_of bytes =
    if is_no_segment (text_at segnam bytes) then Err WrongTable
    else Ok (record { segnam = text_at segnam bytes; sdata = text_at sdata bytes })

-- a line as a data record, or the first that is wrong with it
abbrev pub data_read : List ℕ → Result DataRecord RecordFault
data_read line =
    if nat_lt DATA_LEN (length (trimmed line)) then Err (TooLong (told_length (length (trimmed line))))
    else data_of (padded DATA_LEN (trimmed line))
