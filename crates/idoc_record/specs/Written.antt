-- The bytes of a data record that is written.
use Rattle.std.specs.Prelude.{ℕ, List, replicate}
use Rattle.idoc_record.specs.declared.data.TheConstants.{DATA_LEN}
use Rattle.idoc_record.specs.declared.place.Place.{Place}
use Rattle.idoc_record.specs.declared.span.Span.{Span}
use Rattle.idoc_record.specs.declared.control_field.ControlField.TheVariants.{Mandt, Docnum}
use Rattle.idoc_record.specs.ControlField.{span}
use Rattle.idoc_record.specs.Parts.{with_text}
use Rattle.idoc_record.specs.Control.{field_of}
use Rattle.idoc_record.specs.Data.{DataRecord, segnam, sdata}
use Rattle.idoc_record.specs.Digits.{decimal_digits}

-- the places between the name and the data of a segment
abbrev pub mandt : Span
mandt = span 30 3

abbrev pub docnum : Span
docnum = span 33 16

abbrev pub segnum : Span
segnum = span 49 6

abbrev pub psgnum : Span
psgnum = span 55 6

abbrev pub hlevel : Span
hlevel = span 61 2

-- 1,063 blanks
unfoldable pub blank_record : List ℕ
blank_record = replicate DATA_LEN 32

-- a record with client and number of the document
abbrev pub addressed : List ℕ → List ℕ → List ℕ
addressed control bytes = with_text docnum (field_of control Docnum) (with_text mandt (field_of control Mandt) bytes)

-- a record with the place of its segment, in digits with leading zeros
abbrev pub placed : Place → List ℕ → List ℕ
placed place bytes =
    with_text hlevel (decimal_digits 2 place.level)
    (with_text psgnum (decimal_digits 6 place.parent) (with_text segnum (decimal_digits 6 place.segnum) bytes))

-- the 1,063 bytes of a data record: the segment's name and data, client and number of the document, and the segment's place
abbrev pub data_line : List ℕ → Place → DataRecord → List ℕ
data_line control place data_record =
    with_text sdata data_record.sdata (placed place (addressed control (with_text segnam data_record.segnam blank_record)))
