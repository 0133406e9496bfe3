-- A line is one record at most, and a record has no fault.
use Rattle.std.proofs.Common.{◌≡◌, ℕ, true, false, inl, inr, Ok, List, [], ◌∷◌, length, take, refl, sym, ap, subst, ◌∙◌, arith}
use Rattle.std.specs.Prelude.{codes, not}
use Rattle.std.proofs.lemmas.Bool.{false≢true, cases_Bool, not-true, le-ltb}
use Rattle.std.specs.List.{AllZip}
use Rattle.std.specs.Cmp.Lexicographic.{bytes_decides}
use Rattle.std.proofs.lemmas.Bool.Decides.{eqb_tells}
use Rattle.ale_base.specs.Blanks.{before_trimmed, trimmed, padded}
use Rattle.ale_base.specs.TrimmedLemmas.{trimmed-take-padded, padded-trimmed, length-trimmed}
use Rattle.idoc_record.specs.declared.control_field.ControlField.TheVariants.{Tabnam}
use Rattle.idoc_record.specs.Control.{IsControl, IsControlLine, is_control_table, field_of, control_of, control_read}
use Rattle.idoc_record.specs.Parts.{text_at}
use Rattle.idoc_record.specs.Data.{DataRecord, IsDataLine, segnam, sdata, is_no_segment, data_read}
use Rattle.idoc_file.specs.DocumentFile.{FileRecord, control, segment, IsLineOf, is_control_kind}

-- a text begins with the byte that it is trimmed to begin with
before_trimmed-front : (a b c : ℕ) (text more : List ℕ) → before_trimmed a text ≡ b ∷ c ∷ more → (a ≡ b) × (text ≡ c ∷ more)
before_trimmed-front a b c [] more same =
    elim (eqb_tells a 32) [
      | inl h ↦ let none : [] ≡ b ∷ c ∷ more = rw h.0 at same in absurd (cc)
      | inr h ↦ let one : a ∷ [] ≡ b ∷ c ∷ more = rw h.0 at same in absurd (cc)
    ]
before_trimmed-front a b c (d ∷ ds) more same = (cc, cc)

-- a byte that is no blank stays at the front
before_trimmed-95 : (text : List ℕ) → before_trimmed 95 text ≡ 95 ∷ text
before_trimmed-95 [] = refl
before_trimmed-95 (b ∷ bs) = refl

-- a line that names the table of control records names no segment
names_no_segment : (text : List ℕ) → trimmed (take 10 text) ≡ codes "EDI_DC40" → is_no_segment (trimmed (take 30 text)) ≡ true
names_no_segment [] same = refl
names_no_segment (a ∷ []) same = absurd (omega (arith, length-trimmed (a ∷ []), ap length same))
names_no_segment (a ∷ b ∷ []) same = absurd (omega (arith, length-trimmed (a ∷ b ∷ []), ap length same))
names_no_segment (a ∷ b ∷ c ∷ []) same = absurd (omega (arith, length-trimmed (a ∷ b ∷ c ∷ []), ap length same))
names_no_segment (a ∷ b ∷ c ∷ d ∷ text) same =
    let first = before_trimmed-front a 69 68 (trimmed (take 9 (b ∷ c ∷ d ∷ text))) (codes "I_DC40") same in
    let second = before_trimmed-front b 68 73 (trimmed (take 8 (c ∷ d ∷ text))) (codes "_DC40") first.1 in
    let third = before_trimmed-front c 73 95 (trimmed (take 7 (d ∷ text))) (codes "DC40") second.1 in
    let fourth = before_trimmed-front d 95 68 (trimmed (take 6 text)) (codes "C40") third.1 in
    rw (first.0, second.0, third.0, fourth.0, before_trimmed-95 (trimmed (take 26 text))) refl

-- the front of a line does not depend on the blanks at its end
trimmed-take-trimmed : (n : ℕ) (line : List ℕ) → trimmed (take n (trimmed line)) ≡ trimmed (take n line)
trimmed-take-trimmed n line =
    sym (trimmed-take-padded n (length line) (trimmed line)) ∙ ap (λ bytes. trimmed (take n bytes)) (padded-trimmed line)

-- a control record is a control line by its first ten bytes
pub control_kind : (line bytes : List ℕ) → IsControlLine line bytes → is_control_kind line ≡ true
control_kind line bytes is =
    let text = trimmed line in
    let table : trimmed (take 10 (padded 524 text)) ≡ codes "EDI_DC40" =
    (bytes_decides (trimmed (take 10 (padded 524 text))) (codes "EDI_DC40")).0
    (subst (λ (bs : List ℕ). is_control_table (field_of bs Tabnam) ≡ true) is.bytes is.kept.table) in
    (bytes_decides (trimmed (take 10 line)) (codes "EDI_DC40")).1 (sym (trimmed-take-trimmed 10 line) ∙ sym (trimmed-take-padded 10 524 text) ∙ table)

-- and a data record is none
pub data_kind : (line : List ℕ) (data_record : DataRecord) → IsDataLine line data_record → is_control_kind line ≡ false
data_kind line data_record is =
    elim (cases_Bool (is_control_kind line)) [
      | inl named ↦ let kind : trimmed (take 10 line) ≡ codes "EDI_DC40" = (bytes_decides (trimmed (take 10 line)) (codes "EDI_DC40")).0 named in
          let none : is_no_segment data_record.segnam ≡ true =
          ap is_no_segment (is.segnam ∙ trimmed-take-padded 30 1063 (trimmed line)) ∙ names_no_segment (trimmed line) (trimmed-take-trimmed 10 line ∙ kind) in
          let differs : not true ≡ true = rw none at is.kept.segnam in
          absurd (false≢true differs)
      | inr other ↦ other
    ]

-- no line is a control record and a data record
one_kind : (line bytes : List ℕ) (data_record : DataRecord) → IsControlLine line bytes → IsDataLine line data_record → ⊥
one_kind line bytes data_record is_control is_data = false≢true (sym (data_kind line data_record is_data) ∙ control_kind line bytes is_control)

control_of-same : (bytes : List ℕ) → IsControl bytes → control_of bytes ≡ Ok bytes
control_of-same bytes is = rw (is.table, is.number, is.direction) refl

-- a control record is read as it
pub control_read-Ok : (line bytes : List ℕ) → IsControlLine line bytes → control_read line ≡ Ok bytes
control_read-Ok line bytes is =
    rw (le-ltb 524 (length (trimmed line)) is.fits) (ap control_of (sym is.bytes) ∙ control_of-same bytes is.kept)

-- and a data record is read
pub data_read-Ok : (line : List ℕ) (data_record : DataRecord) → IsDataLine line data_record → (new : DataRecord) × (data_read line ≡ Ok new)
data_read-Ok line data_record is =
    let named : is_no_segment (text_at segnam (padded 1063 (trimmed line))) ≡ false =
    ap is_no_segment (sym is.segnam) ∙ not-true (is_no_segment data_record.segnam) is.kept.segnam in (
      record { segnam = text_at segnam (padded 1063 (trimmed line)); sdata = text_at sdata (padded 1063 (trimmed line)) },
      rw
          (le-ltb 1063 (length (trimmed line)) is.fits, named) refl,
    )

-- a line is one record at most
pub one_record : (line : ℕ × List ℕ) (r q : FileRecord) → IsLineOf line r → IsLineOf line q → r ≡ q
one_record line (control m a) (control n b) is_a is_b =
    let number : m ≡ n = sym is_a.0 ∙ is_b.0 in
    let bytes : a ≡ b = is_a.1.bytes ∙ sym is_b.1.bytes in
    λ i. control (number i) (bytes i)
one_record line (control m a) (segment b) is_a is_b = absurd (one_kind line.1 a b is_a.1 is_b)
one_record line (segment a) (control n b) is_a is_b = absurd (one_kind line.1 b a is_b.1 is_a)
one_record line (segment a) (segment b) is_a is_b =
    let same_name : a.segnam ≡ b.segnam = is_a.segnam ∙ sym is_b.segnam in
    let same_data : a.sdata ≡ b.sdata = is_a.sdata ∙ sym is_b.sdata in
    ap segment (λ i. record { segnam = same_name i; sdata = same_data i })

pub same_records : (lines : List (ℕ × List ℕ)) (rs qs : List FileRecord) → AllZip IsLineOf lines rs → AllZip IsLineOf lines qs → rs ≡ qs
same_records [] [] [] are_rs are_qs = refl
same_records [] [] (q ∷ qs) are_rs are_qs = absurd are_qs
same_records [] (r ∷ rs) qs are_rs are_qs = absurd are_rs
same_records (line ∷ lines) [] qs are_rs are_qs = absurd are_rs
same_records (line ∷ lines) (r ∷ rs) [] are_rs are_qs = absurd are_qs
same_records (line ∷ lines) (r ∷ rs) (q ∷ qs) are_rs are_qs =
    let first = one_record line r q are_rs.0 are_qs.0 in
    let others = same_records lines rs qs are_rs.1 are_qs.1 in
    λ i. first i ∷ others i
