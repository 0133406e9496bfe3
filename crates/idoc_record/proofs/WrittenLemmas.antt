-- A record that was written is read again.
use Rattle.std.proofs.Common.{◌≡◌, ℕ, zero, suc, ◌+◌, ◌/◌, ◌≤◌, true, List, length, refl, sym, ap, subst, ◌∙◌, arith, length-append}
use Rattle.std.proofs.lemmas.List.{length-replicate}
use Rattle.ale_base.specs.Blanks.{trimmed, padded}
use Rattle.ale_base.specs.TrimmedLemmas.{padded-trimmed_at, length-trimmed}
use Rattle.idoc_record.specs.declared.place.Place.{Place}
use Rattle.idoc_record.specs.declared.span.Span.{Span}
use Rattle.idoc_record.specs.declared.control_field.ControlField.TheVariants.{Mandt, Docnum}
use Rattle.idoc_record.specs.ControlField.{span_of}
use Rattle.idoc_record.specs.Parts.{text_at, with_text}
use Rattle.idoc_record.specs.Control.{IsControl, IsControlLine, field_of}
use Rattle.idoc_record.specs.Data.{DataRecord, IsDataRecord, IsDataLine, segnam, sdata}
use Rattle.idoc_record.specs.Digits.{decimal_digits}
use Rattle.idoc_record.specs.Written.{mandt, docnum, segnum, psgnum, hlevel, blank_record, addressed, placed, data_line}
use Rattle.idoc_record.proofs.PartLemmas.{is_apart, length-text_at, length-with_text, text_at-same, part-apart}

-- a control record is its own line
pub IsControlLine-same : (control : List ℕ) → IsControl control → IsControlLine control control
IsControlLine-same control is = record {
  fits = let long = length-trimmed control in let whole = is.whole in omega arith;
  bytes = sym (padded-trimmed_at 524 control is.whole);
  kept = is;
}

-- so many digits
pub length-decimal_digits : (count number : ℕ) → length (decimal_digits count number) ≡ count
unfolding decimal_digits
length-decimal_digits zero number = refl
length-decimal_digits (suc count) number = simp length-append (omega (arith, length-decimal_digits count (number / 10)))

length-blank_record : length blank_record ≡ 1063
unfolding blank_record
length-blank_record = length-replicate {A = ℕ} 1063 32

-- a text at its place in a record of 1,063 bytes
module _ (p : Span) (text bytes : List ℕ) (fits : length text ≤ p.length) (within : p.offset + p.length ≤ 1063) (long : length bytes ≡ 1063) where
  in_record : p.offset + p.length ≤ length bytes
  in_record = subst (λ (n : ℕ). p.offset + p.length ≤ n) (sym long) within

  stays_long : length (with_text p text bytes) ≡ 1063
  stays_long = length-with_text p text bytes fits in_record ∙ long

  -- another place has the text that it had
  other_text : (q : Span) → is_apart p q ≡ true → text_at q (with_text p text bytes) ≡ text_at q bytes
  other_text q apart = ap trimmed (part-apart p q text bytes fits in_record apart)

  own_text : text_at p (with_text p text bytes) ≡ trimmed text
  own_text = text_at-same p text bytes fits in_record

digits_fit : (count number : ℕ) → length (decimal_digits count number) ≤ count
digits_fit count number = omega (arith, length-decimal_digits count number)

-- a record with the client and the number of a document, and one with the place of a segment, keep their length
length-addressed : (control bytes : List ℕ) → length bytes ≡ 1063 → length (addressed control bytes) ≡ 1063
length-addressed control bytes long =
    stays_long docnum (field_of control Docnum) (with_text mandt (field_of control Mandt) bytes) (length-text_at (span_of Docnum) control) (omega arith)
    (stays_long mandt (field_of control Mandt) bytes (length-text_at (span_of Mandt) control) (omega arith) long)

length-placed : (place : Place) (bytes : List ℕ) → length bytes ≡ 1063 → length (placed place bytes) ≡ 1063
length-placed place bytes long =
    let r1 = with_text segnum (decimal_digits 6 place.segnum) bytes in
    let l1 : length r1 ≡ 1063 = stays_long segnum (decimal_digits 6 place.segnum) bytes (digits_fit 6 place.segnum) (omega arith) long in
    let r2 = with_text psgnum (decimal_digits 6 place.parent) r1 in
    let l2 : length r2 ≡ 1063 = stays_long psgnum (decimal_digits 6 place.parent) r1 (digits_fit 6 place.parent) (omega arith) l1 in
    stays_long hlevel (decimal_digits 2 place.level) r2 (digits_fit 2 place.level) (omega arith) l2

-- the length of a data record
pub length-data_line : (control : List ℕ) (place : Place) (data_record : DataRecord) → IsDataRecord data_record → length (data_line control place data_record)
    ≡ 1063
length-data_line control place data_record is =
    let named = with_text segnam data_record.segnam blank_record in
    let l0 : length named ≡ 1063 = stays_long segnam data_record.segnam blank_record is.named (omega arith) length-blank_record in
    let l1 : length (addressed control named) ≡ 1063 = length-addressed control named l0 in
    stays_long sdata data_record.sdata (placed place (addressed control named)) is.fits (omega arith) (length-placed place (addressed control named) l1)

-- the line of a data record is read as it again
pub IsDataLine-written : (control : List ℕ) (place : Place) (data_record : DataRecord) → IsDataRecord data_record →
    IsDataLine (data_line control place data_record) data_record
IsDataLine-written control place data_record is =
    let client = field_of control Mandt in
    let number = field_of control Docnum in
    let client_fits : length client ≤ 3 = length-text_at (span_of Mandt) control in
    let number_fits : length number ≤ 16 = length-text_at (span_of Docnum) control in
    let segnum_digits = decimal_digits 6 place.segnum in
    let parent_digits = decimal_digits 6 place.parent in
    let level_digits = decimal_digits 2 place.level in
    let r1 = with_text segnam data_record.segnam blank_record in
    let l1 : length r1 ≡ 1063 = stays_long segnam data_record.segnam blank_record is.named (omega arith) length-blank_record in
    let r2 = with_text mandt client r1 in
    let l2 : length r2 ≡ 1063 = stays_long mandt client r1 client_fits (omega arith) l1 in
    let r3 = with_text docnum number r2 in
    let l3 : length r3 ≡ 1063 = stays_long docnum number r2 number_fits (omega arith) l2 in
    let r4 = with_text segnum segnum_digits r3 in
    let l4 : length r4 ≡ 1063 = stays_long segnum segnum_digits r3 (digits_fit 6 place.segnum) (omega arith) l3 in
    let r5 = with_text psgnum parent_digits r4 in
    let l5 : length r5 ≡ 1063 = stays_long psgnum parent_digits r4 (digits_fit 6 place.parent) (omega arith) l4 in
    let r6 = with_text hlevel level_digits r5 in
    let l6 : length r6 ≡ 1063 = stays_long hlevel level_digits r5 (digits_fit 2 place.level) (omega arith) l5 in
    let line = with_text sdata data_record.sdata r6 in
    let long : length line ≡ 1063 = stays_long sdata data_record.sdata r6 is.fits (omega arith) l6 in
    let whole : padded 1063 (trimmed line) ≡ line = padded-trimmed_at 1063 line long in
    let name : text_at segnam line ≡ data_record.segnam =
    other_text sdata data_record.sdata r6 is.fits (omega arith) l6 segnam refl
    ∙ other_text hlevel level_digits r5 (digits_fit 2 place.level) (omega arith) l5 segnam refl
    ∙ other_text psgnum parent_digits r4 (digits_fit 6 place.parent) (omega arith) l4 segnam refl
    ∙ other_text segnum segnum_digits r3 (digits_fit 6 place.segnum) (omega arith) l3 segnam refl
    ∙ other_text docnum number r2 number_fits (omega arith) l2 segnam refl
    ∙ other_text mandt client r1 client_fits (omega arith) l1 segnam refl
    ∙ own_text segnam data_record.segnam blank_record is.named (omega arith) length-blank_record
    ∙ is.ends in
    let content : text_at sdata line ≡ data_record.sdata = own_text sdata data_record.sdata r6 is.fits (omega arith) l6 ∙ is.sdata in
    record {
      fits = omega (arith, length-trimmed line, long);
      segnam = sym (ap (text_at segnam) whole ∙ name);
      sdata = sym (ap (text_at sdata) whole ∙ content);
      kept = is;
    }
