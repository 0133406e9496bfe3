-- Parts of records.
use Rattle.std.specs.Prelude.{ℕ, ◌+◌, List, ◌++◌, take, drop}
use Rattle.ale_base.specs.Blanks.{trimmed, padded}
use Rattle.idoc_record.specs.declared.span.Span.{Span}

-- the bytes of a record at a place
abbrev pub part : Span → List ℕ → List ℕ
part place bytes = take place.length (drop place.offset bytes)

-- the text at a place, without the blanks at its end
abbrev pub text_at : Span → List ℕ → List ℕ
text_at place bytes = trimmed (part place bytes)

-- the record with this text, and blanks behind it, at a place
abbrev pub with_text : Span → List ℕ → List ℕ → List ℕ
with_text place text bytes = take place.offset bytes ++ (padded place.length text ++ drop (place.offset + place.length) bytes)
