-- The spelling of entries: a record, with or without the moment at which it was written.
use Rattle.std.specs.Prelude.{ℕ, ◌-◌, ◌==◌, Option, Some, None, List, [], ◌∷◌, ◌++◌, length, IfSome, Result, Ok, Err, if◌then◌else◌}
use Rattle.std.specs.Int.{w64}
use Rattle.unit_core.specs.declared.records.Record.{Record}
use Rattle.unit_codec.specs.declared.entry.Entry.{Entry}
use Rattle.unit_codec.specs.declared.fault.CodecFault.{CodecFault}
use Rattle.unit_codec.specs.declared.fault.CodecFault.TheVariants.{Bad}
use Rattle.unit_codec.specs.declared.reading.TheConstants.{MOMENT_BYTE}
use Rattle.unit_codec.specs.Reading.{Reading, ◌>>=◌}
use Rattle.unit_codec.specs.Kind.{Kind, number, byte}
use Rattle.unit_codec.specs.Records.{a_record}

-- the entry of a record, with this moment or without one
abbrev pub entry_with : Option ℕ → Record → Entry
entry_with moment what = record { moment = moment; what = what }

-- a moment in eight bytes behind its byte, where there is one
abbrev pub moment_spelling : Option ℕ → List ℕ
moment_spelling None = []
moment_spelling (Some moment) = byte.spell MOMENT_BYTE ++ (number w64).spell moment

-- a record behind the moment that was read
abbrev pub entry_at : Option ℕ → List ℕ → Reading Entry
entry_at moment bytes = a_record.read bytes >>= λ what. Ok (record { moment = moment; what = what.0 }, what.1)

abbrev pub entry_read : List ℕ → Reading Entry
entry_read [] = entry_at None []
entry_read (first ∷ bytes) =
    if first == MOMENT_BYTE then ((number w64).read bytes >>= λ moment. entry_at (Some moment.0) moment.1)
    else entry_at None (first ∷ bytes)

-- an entry: its moment, and its record
unfoldable pub an_entry : Kind Entry
an_entry = record {
  spell = λ entry. moment_spelling entry.moment ++ a_record.spell entry.what;
  Fits = λ entry. IfSome entry.moment (number w64).Fits × a_record.Fits entry.what;
  read = entry_read;
}

-- an entry has a spelling
abbrev pub EntryHasSpelling : Entry → Type 0
EntryHasSpelling entry = an_entry.Fits entry

-- the one spelling of an entry
abbrev pub entry_spelling : Entry → List ℕ
entry_spelling entry = an_entry.spell entry

-- All of the bytes as one value, or the place of the first field that does not follow its rule. Where bytes follow the
-- last field it is the place of these.
abbrev pub whole : {A : Type 0} → ℕ → Reading A → Result A CodecFault
whole size (Ok x) = if length x.1 == 0 then Ok x.0 else Err (Bad (size - length x.1))
whole size (Err left) = Err (Bad (size - left))

-- what the bytes are read as: a record, and an entry
abbrev pub record_read_as : List ℕ → Result Record CodecFault
record_read_as bytes = whole (length bytes) (a_record.read bytes)

abbrev pub entry_read_as : List ℕ → Result Entry CodecFault
entry_read_as bytes = whole (length bytes) (an_entry.read bytes)
