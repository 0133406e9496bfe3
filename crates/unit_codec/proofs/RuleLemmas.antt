-- The rules of fields, and what their types say.
use Rattle.std.specs.Prelude.{MatchOption, IfOk, IsOk, All}
use Rattle.std.specs.Bool.{Decides}
use Rattle.std.specs.Result.{result_ok}
use Rattle.std.specs.List.{list_all}
use Rattle.std.specs.Cmp.Lexicographic.{bytes_decides}
use Rattle.std.proofs.Common.{◌≡◌, ℕ, ◌≤◌, Bool, true, false, ◌&&◌, nat_le, IsTrue, not, Option, Some, None, List, length, take, drop, Result, Ok, Err, refl}
use Rattle.std.proofs.Common.{sym, ◌∙◌, subst, arith, ◌↔◌}
use Rattle.std.proofs.lemmas.Bool.{leb-true, le-leb}
use Rattle.std.proofs.lemmas.Bool.Decides.{Decides-by_and}
use Rattle.std.proofs.lemmas.Option.{cond_some}
use Rattle.ale_base.specs.Blanks.{trimmed}
use Rattle.ale_base.specs.TrimmedLemmas.{padded-trimmed_at, length-trimmed}
use Rattle.ale_base.specs.Text.{is_text}
use Rattle.ale_base.specs.QueueName.{IsQueueName, IsNameByte}
use Rattle.ale_base.specs.declared.queue_name.NameFault.{NameFault}
use Rattle.idoc_record.specs.declared.fault.RecordFault.{RecordFault}
use Rattle.idoc_record.specs.declared.control_field.ControlField.TheVariants.{Tabnam, Docnum}
use Rattle.idoc_record.specs.Control.{IsControl, IsControlLine, field_of, is_control_table, is_number}
use Rattle.idoc_record.specs.Data.{IsDataRecord, is_no_segment}
use Rattle.unit_codec.specs.Fields.{is_between, ends_in_no_blank, is_name, is_function, is_segment, is_segment_data, is_queue, is_queue_byte, is_control}

-- ---- tests

pub both : (a b : Bool) → a ≡ true → b ≡ true → (a && b) ≡ true
both a b p q = rw (p, q) refl

pub parts : (a b : Bool) → (a && b) ≡ true → (a ≡ true) × (b ≡ true)
parts true b is = (refl, is)
parts false b is = absurd cc

pub not_true : (b : Bool) → (b ≡ true → ⊥) → b ≡ false
not_true true never = absurd (never refl)
not_true false never = refl

pub between : (least most n : ℕ) → least ≤ n → n ≤ most → is_between least most n ≡ true
between least most n low high = both _ _ (le-leb least n low) (le-leb n most high)

pub is_between-parts : (least most n : ℕ) → is_between least most n ≡ true → (least ≤ n) × (n ≤ most)
is_between-parts least most n is = let p = parts (nat_le least n) (nat_le n most) is in (leb-true least n p.0, leb-true n most p.1)

-- ---- names of queues

queue_decides : (text : List ℕ) → Decides (is_queue text) (IsQueueName text)
queue_decides text =
    let bytes : Decides (list_all is_queue_byte text) (All IsNameByte text) = Decides-by_and is_queue_byte IsNameByte (list_all is_queue_byte) byte_decides refl
    (λ _ _. refl) text in (
      λ is.
          let p = parts (is_between 1 24 (length text)) (list_all is_queue_byte text) is in
          let long = is_between-parts 1 24 (length text) p.0 in
          record { least = long.0; most = long.1; graphic = bytes.0 p.1 },
      λ is. both _ _ (between 1 24 (length text) is.least is.most) (bytes.1 is.graphic),
    )
  where
    byte_decides : (b : ℕ) → Decides (is_queue_byte b) (IsNameByte b)
    byte_decides b = (λ is. is_between-parts 33 126 b is, λ is. between 33 126 b is.0 is.1)

pub is_queue_name : (text : List ℕ) → IsQueueName text → is_queue text ≡ true
is_queue_name text is = (queue_decides text).1 is

pub queue_found : (text : List ℕ) (r : Result (List ℕ) NameFault) → IfOk r (λ name. (name ≡ text) × IsQueueName text) → (IsQueueName text → IsOk r)
    → MatchOption (result_ok r) (is_queue text ≡ false) (λ name. (name ≡ text) × IsTrue (is_queue text))
queue_found text (Ok name) is complete = (is.0, is_queue_name text is.1)
queue_found text (Err fault) is complete = not_true (is_queue text) (λ yes. let ok : false ≡ true = complete ((queue_decides text).0 yes) in absurd cc)

-- ---- control records

line_of : (bytes : List ℕ) → length bytes ≡ 524 → is_control bytes ≡ true → IsControlLine bytes bytes
line_of bytes whole is =
    let one = parts (is_control_table (field_of bytes Tabnam)) _ is in
    let two = parts (is_number (field_of bytes Docnum)) _ one.1 in
    record {
      fits = omega (arith, length-trimmed bytes, whole);
      bytes = sym (padded-trimmed_at 524 bytes whole);
      kept = record { whole = whole; table = one.0; number = two.0; direction = two.1 };
    }

pub is_control_kept : (control : List ℕ) → IsControl control → is_control control ≡ true
is_control_kept control is = both _ _ is.table (both _ _ is.number is.direction)

pub control_found : (bytes : List ℕ) (r : Result (List ℕ) RecordFault) → length bytes ≡ 524 →
    ((control : List ℕ) → (r ≡ Ok control) ↔ IsControlLine bytes control)
    → MatchOption (result_ok r) (is_control bytes ≡ false) (λ control. (control ≡ bytes) × IsTrue (is_control bytes))
control_found bytes (Ok control) whole exact =
    let line = (exact control).0 refl in
    let same : control ≡ bytes = line.bytes ∙ padded-trimmed_at 524 bytes whole in
    (same, subst (λ (c : List ℕ). is_control c ≡ true) same (is_control_kept control line.kept))
control_found bytes (Err fault) whole exact = not_true (is_control bytes) (λ yes. let ok = (exact bytes).1 (line_of bytes whole yes) in absurd cc)

-- ---- names and data of segments

pub is_segment-parts : (text : List ℕ) → is_segment text ≡ true → (length text ≤ 30) × IsTrue (ends_in_no_blank text) × IsTrue (not (is_no_segment text))
is_segment-parts text is =
    let one = parts (is_function text) (not (is_no_segment text)) is in
    let two = parts (is_name text) (ends_in_no_blank text) one.0 in
    ((is_between-parts 1 30 (length text) two.0).1, two.1, one.1)

pub IsDataRecord-of : (name text : List ℕ) → is_segment name ≡ true → is_segment_data text ≡ true → IsDataRecord (record { segnam = name; sdata = text })
IsDataRecord-of name text named fits =
    let n = is_segment-parts name named in
    let d = parts (nat_le (length text) 1000) (ends_in_no_blank text) fits in
    record {
      named = n.0;
      segnam = n.2;
      ends = (bytes_decides (trimmed name) name).0 n.1;
      fits = leb-true (length text) 1000 d.0;
      sdata = (bytes_decides (trimmed text) text).0 d.1;
    }
