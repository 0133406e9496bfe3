-- Documents and the lines that they are read from.
use Rattle.std.proofs.Common.{◌≡◌, ℕ, ◌+◌, ◌-◌, ◌<◌, ◌≤◌, true, false, inl, inr, Some, None, List, [], ◌∷◌, ◌++◌, length, map, refl, sym, ap, subst, ◌∙◌, arith}
use Rattle.std.proofs.Common.{append_assoc, append-nil, length-append}
use Rattle.std.specs.Prelude.{sum_by, slice_get, nat_eq}
use Rattle.std.specs.Option.{option_map_or}
use Rattle.std.specs.List.{AllZip, AllByRecursion, flat_map}
use Rattle.std.proofs.lemmas.Grind.{flat_map-append}
use Rattle.std.proofs.lemmas.Bool.{cases_Bool, le-ltb, lt-leb}
use Rattle.std.proofs.lemmas.Bool.Decides.{eqb_tells}
use Rattle.std.proofs.lemmas.List.{map-append}
use Rattle.std.proofs.lemmas.List.Sums.{sum_by-append}
use Rattle.idoc_record.specs.Control.{IsControlLine}
use Rattle.idoc_record.specs.Data.{DataRecord, IsDataLine}
use Rattle.idoc_file.specs.declared.raw_doc.RawDoc.{RawDoc}
use Rattle.idoc_file.specs.DocumentFile.{is_blank, filled_from, FileRecord, control, segment, records_of, IsLineOf, segment_count, last_count, begun}
use Rattle.idoc_file.specs.DocumentFile.{with_segment, AreDocuments, first_fault}
use Rattle.ale_base.proofs.SnocLemmas.{Snoc, none, some, snoc, AllByRecursion-snoc, AllByRecursion-front, AllZip-snoc, AllZip-front, AllZip-long}
use Rattle.idoc_file.proofs.RecordLemmas.{control_kind, data_kind, control_read-Ok, data_read-Ok, same_records}

-- the lines that are not skipped, with one line more
filled-blank : (n : ℕ) (lines : List (List ℕ)) (line : List ℕ) → is_blank line ≡ true → filled_from n (lines ++ line ∷ []) ≡ filled_from n lines
filled-blank n [] line blank = rw blank refl
filled-blank n (first ∷ lines) line blank =
    elim (cases_Bool (is_blank first)) [
      | inl skipped ↦ rw skipped (filled-blank (n + 1) lines line blank)
      | inr filled ↦ rw filled (ap (λ others. (n, first) ∷ others) (filled-blank (n + 1) lines line blank))
    ]

filled-line : (n k : ℕ) (lines : List (List ℕ)) (line : List ℕ) → is_blank line ≡ false → k ≡ length lines + n →
    filled_from n (lines ++ line ∷ []) ≡ filled_from n lines ++ (k, line) ∷ []
filled-line n k [] line filled is = let same : n ≡ k = omega arith in rw filled (ap (λ m. (m, line) ∷ []) same)
filled-line n k (first ∷ lines) line filled is =
    let further : k ≡ length lines + (n + 1) = omega arith in
    elim (cases_Bool (is_blank first)) [
      | inl skipped ↦ rw skipped (filled-line (n + 1) k lines line filled further)
      | inr kept ↦ rw kept (ap (λ others. (n, first) ∷ others) (filled-line (n + 1) k lines line filled further))
    ]

-- the records with a document behind them
records-begun : (documents : List RawDoc) (number : ℕ) (bytes : List ℕ) → flat_map records_of (documents ++ begun number bytes ∷ [])
    ≡ flat_map records_of documents ++ control number bytes ∷ []
records-begun documents number bytes = flat_map-append records_of documents (begun number bytes ∷ [])

-- the records with a segment behind them
records-with_segment : (front : List RawDoc) (document : RawDoc) (new : DataRecord)
    → flat_map records_of (front ++ with_segment document new ∷ []) ≡ flat_map records_of (front ++ document ∷ []) ++ segment new ∷ []
records-with_segment front document new =
    let last = records_of document ++ [] in
    let one : records_of (with_segment document new) ++ [] ≡ last ++ segment new ∷ [] =
    ap (λ rs. control document.line document.control ∷ (rs ++ [])) (map-append segment document.segments (new ∷ []))
    ∙ append-nil (records_of document ++ segment new ∷ [])
    ∙ ap (λ rs. rs ++ segment new ∷ []) (sym (append-nil (records_of document))) in
    flat_map-append records_of front (with_segment document new ∷ [])
    ∙ ap (λ rs. flat_map records_of front ++ rs) one
    ∙ sym (append_assoc (flat_map records_of front) last (segment new ∷ []))
    ∙ ap (λ rs. rs ++ segment new ∷ []) (sym (flat_map-append records_of front (document ∷ [])))

sum-snoc : (documents : List RawDoc) (document : RawDoc) → sum_by segment_count (documents ++ document ∷ [])
    ≡ sum_by segment_count documents + segment_count document
sum-snoc documents document = omega (arith, sum_by-append segment_count documents (document ∷ []))

count-with_segment : (document : RawDoc) (new : DataRecord) → segment_count (with_segment document new) ≡ segment_count document + 1
count-with_segment document new = simp length-append

-- the last document
last_get : (front : List RawDoc) (document : RawDoc) (n : ℕ) → n ≡ length front → slice_get (front ++ document ∷ []) n ≡ Some document
last_get [] document n is = subst (λ k. slice_get (document ∷ []) k ≡ Some document) (sym is) refl
last_get (first ∷ front) document n is =
    subst (λ k. slice_get (first ∷ (front ++ document ∷ [])) k ≡ Some document) (sym is) (last_get front document (length front) refl)

pub last_count-snoc : (front : List RawDoc) (document : RawDoc) → last_count (front ++ document ∷ []) ≡ segment_count document
last_count-snoc front document =
    let place : length (front ++ document ∷ []) - 1 ≡ length front = omega (arith, length-append front (document ∷ [])) in
    ap (λ found. option_map_or segment_count found 0) (last_get front document (length (front ++ document ∷ []) - 1) place)

-- no line is those of no documents
pub AreDocuments-none : AreDocuments [] []
AreDocuments-none = record { spelled = tt; short = tt; few = omega arith; each = tt; within = omega arith }

-- a blank line is skipped
pub AreDocuments-skipped : (lines : List (List ℕ)) (documents : List RawDoc) (line : List ℕ) → AreDocuments lines documents → length line ≤ 4096 →
    is_blank line ≡ true
    → AreDocuments (lines ++ line ∷ []) documents
AreDocuments-skipped lines documents line are short blank = record {
  spelled = subst (λ filled. AllZip IsLineOf filled (flat_map records_of documents)) (sym (filled-blank 1 lines line blank)) are.spelled;
  short = AllByRecursion-snoc (λ line. length line ≤ 4096) lines line are.short short;
  few = are.few;
  each = are.each;
  within = are.within;
}

spelled-more : (lines : List (List ℕ)) (number : ℕ) (line : List ℕ) (rs more : List FileRecord) (r : FileRecord) → AllZip IsLineOf (filled_from 1 lines) rs →
    is_blank line ≡ false
    → number ≡ length lines + 1 → IsLineOf (number, line) r → more ≡ rs ++ r ∷ [] → AllZip IsLineOf (filled_from 1 (lines ++ line ∷ [])) more
spelled-more lines number line rs more r spelled filled is_number is same =
    subst (AllZip IsLineOf (filled_from 1 (lines ++ line ∷ []))) (sym same)
    (subst (λ lines. AllZip IsLineOf lines (rs ++ r ∷ [])) (sym (filled-line 1 number lines line filled is_number))
    (AllZip-snoc IsLineOf (filled_from 1 lines) rs (number, line) r spelled is))

-- a control record begins a document
pub AreDocuments-begun : (lines : List (List ℕ)) (documents : List RawDoc) (number : ℕ) (line bytes : List ℕ) → AreDocuments lines documents →
    length line ≤ 4096 → is_blank line ≡ false
    → number ≡ length lines + 1 → IsControlLine line bytes → length documents < 4096 → AreDocuments (lines ++ line ∷ []) (documents ++ begun number bytes ∷ [])
AreDocuments-begun lines documents number line bytes are short filled is_number is room = record {
  spelled = spelled-more lines number line (flat_map records_of documents) (flat_map records_of (documents ++ begun number bytes ∷ []))
      (control number bytes) are.spelled filled is_number (refl, is) (records-begun documents number bytes);
  short = AllByRecursion-snoc (λ line. length line ≤ 4096) lines line are.short short;
  few = simp length-append (omega arith);
  each = AllByRecursion-snoc (λ document. segment_count document ≤ 10000) documents (begun number bytes) are.each (omega arith);
  within = omega (arith, are.within, sum-snoc documents (begun number bytes));
}

-- a data record goes on with the last document
pub AreDocuments-with_segment : (lines : List (List ℕ)) (front : List RawDoc) (document : RawDoc) (line : List ℕ) (new : DataRecord)
    → AreDocuments lines (front ++ document ∷ []) → length line ≤ 4096 → is_blank line ≡ false → IsDataLine line new → segment_count document < 10000
    → sum_by segment_count (front ++ document ∷ []) < 1000000 → AreDocuments (lines ++ line ∷ []) (front ++ with_segment document new ∷ [])
AreDocuments-with_segment lines front document line new are short filled is room within = record {
  spelled = spelled-more lines (length lines + 1) line (flat_map records_of (front ++ document ∷ []))
      (flat_map records_of (front ++ with_segment document new ∷ [])) (segment new) are.spelled filled refl is (records-with_segment front document new);
  short = AllByRecursion-snoc (λ line. length line ≤ 4096) lines line are.short short;
  few = simp length-append (simp length-append at are.few);
  each =
      let parts = AllByRecursion-front (λ document. segment_count document ≤ 10000) front document are.each in
      AllByRecursion-snoc (λ document. segment_count document ≤ 10000) front (with_segment document new) parts.0
      (omega (arith, room, count-with_segment document new));
  within = omega (arith, within, count-with_segment document new, sum-snoc front document, sum-snoc front (with_segment document new));
}

-- records that begin with a data record are those of no documents
starts_apart : (others : List FileRecord) (new : DataRecord) (documents : List RawDoc) → segment new ∷ others ≡ flat_map records_of documents → ⊥
starts_apart others new [] same = cc
starts_apart others new (document ∷ documents) same = cc

same_segments : (xs ys : List DataRecord) (a b : List RawDoc) → map segment xs ++ flat_map records_of a ≡ map segment ys ++ flat_map records_of b →
    (xs ≡ ys) × (flat_map records_of a ≡ flat_map records_of b)
same_segments [] [] a b same = (refl, same)
same_segments [] (y ∷ ys) a b same = absurd (starts_apart (map segment ys ++ flat_map records_of b) y a (sym same))
same_segments (x ∷ xs) [] a b same = absurd (starts_apart (map segment xs ++ flat_map records_of a) x b same)
same_segments (x ∷ xs) (y ∷ ys) a b same =
    let behind : map segment xs ++ flat_map records_of a ≡ map segment ys ++ flat_map records_of b = cc in
    let first : x ≡ y = cc in
    let others = same_segments xs ys a b behind in
    (λ i. first i ∷ others.0 i, others.1)

-- documents are determined by their records
same_by_records : (a b : List RawDoc) → flat_map records_of a ≡ flat_map records_of b → a ≡ b
same_by_records [] [] same = refl
same_by_records [] (e ∷ es) same = absurd (cc)
same_by_records (d ∷ ds) [] same = absurd (cc)
same_by_records (d ∷ ds) (e ∷ es) same =
    let number : d.line ≡ e.line = cc in
    let first : d.control ≡ e.control = cc in
    let behind : map segment d.segments ++ flat_map records_of ds ≡ map segment e.segments ++ flat_map records_of es = cc in
    let parts = same_segments d.segments e.segments ds es behind in
    let others = same_by_records ds es parts.1 in
    λ i. record { control = first i; segments = parts.0 i; line = number i } ∷ others i

-- lines are those of one list of documents at most
pub same_documents : (lines : List (List ℕ)) (a b : List RawDoc) → AreDocuments lines a → AreDocuments lines b → a ≡ b
same_documents lines a b are_a are_b =
    same_by_records a b (same_records (filled_from 1 lines) (flat_map records_of a) (flat_map records_of b) are_a.spelled are_b.spelled)

-- lines of documents that end in this line: the lines before it are those of documents, behind which it has no fault
pub record Follows (lines : List (List ℕ)) (line : List ℕ) : Type 0 where
  pub before : List RawDoc
  pub are : AreDocuments lines before
  pub good : first_fault (length lines + 1) before line ≡ None

module _ (lines : List (List ℕ)) (line : List ℕ) where
  short_line : (documents : List RawDoc) → AreDocuments (lines ++ line ∷ []) documents →
      AllByRecursion (λ line. length line ≤ 4096) lines × (length line ≤ 4096)
  short_line documents are = AllByRecursion-front (λ line. length line ≤ 4096) lines line are.short

  follows_skipped : (documents : List RawDoc) → is_blank line ≡ true → AreDocuments (lines ++ line ∷ []) documents → Follows lines line
  follows_skipped documents blank are =
      let short = short_line documents are in
      record {
        before = documents;
        are = record {
          spelled = subst (λ filled. AllZip IsLineOf filled (flat_map records_of documents)) (filled-blank 1 lines line blank) are.spelled;
          short = short.0;
          few = are.few;
          each = are.each;
          within = are.within;
        };
        good = rw (le-ltb 4096 (length line) short.1, blank) refl;
      }

  spelled_front : (rs more : List FileRecord) (r : FileRecord) → is_blank line ≡ false → more ≡ rs ++ r ∷ [] →
      AllZip IsLineOf (filled_from 1 (lines ++ line ∷ [])) more
      → AllZip IsLineOf (filled_from 1 lines) rs × IsLineOf (length lines + 1, line) r
  spelled_front rs more r filled same spelled =
      AllZip-front IsLineOf (filled_from 1 lines) rs (length lines + 1, line) r
      (subst (λ lines. AllZip IsLineOf lines (rs ++ r ∷ [])) (filled-line 1 (length lines + 1) lines line filled refl)
      (subst (AllZip IsLineOf (filled_from 1 (lines ++ line ∷ []))) same spelled))

  follows_last : (front : List RawDoc) (number : ℕ) (bytes : List ℕ) (segments : List DataRecord) → Snoc segments → is_blank line ≡ false
      → AreDocuments (lines ++ line ∷ []) (front ++ record { control = bytes; segments = segments; line = number } ∷ []) → Follows lines line
  follows_last front number bytes _ none filled are =
      let documents = front ++ begun number bytes ∷ [] in
      let short = short_line documents are in
      let parts = spelled_front (flat_map records_of front) (flat_map records_of documents) (control number bytes) filled
      (records-begun front number bytes) are.spelled in
      let room : length front + 1 ≤ 4096 = simp length-append at are.few in
      record {
        before = front;
        are = record {
          spelled = parts.0;
          short = short.0;
          few = omega arith;
          each = (AllByRecursion-front (λ document. segment_count document ≤ 10000) front (begun number bytes) are.each).0;
          within = omega (arith, are.within, sum-snoc front (begun number bytes));
        };
        good = rw (
          le-ltb 4096 (length line) short.1,
          filled,
          control_kind line bytes parts.1.1,
          control_read-Ok line bytes parts.1.1,
          lt-leb 4096
              (length front) (omega arith),
        ) refl;
      }
  follows_last front number bytes _ (some segments new) filled are =
      let document : RawDoc = record { control = bytes; segments = segments; line = number } in
      let documents = front ++ with_segment document new ∷ [] in
      let before = front ++ document ∷ [] in
      let short = short_line documents are in
      let parts = spelled_front (flat_map records_of before) (flat_map records_of documents) (segment new) filled
      (records-with_segment front document new) are.spelled in
      let counts = AllByRecursion-front (λ document. segment_count document ≤ 10000) front (with_segment document new) are.each in
      let room : last_count before < 10000 = omega (arith, last_count-snoc front document, counts.1, count-with_segment document new) in
      let within : sum_by segment_count before < 1000000 = omega
      (arith, are.within, count-with_segment document new, sum-snoc front document, sum-snoc front (with_segment document new)) in
      let read = data_read-Ok line new parts.1 in
      let filled_before : nat_eq (length before) 0 ≡ false = not_none front document in
      record {
        before = before;
        are = record {
          spelled = parts.0;
          short = short.0;
          few = simp length-append (simp length-append at are.few);
          each = AllByRecursion-snoc (λ document. segment_count document ≤ 10000) front document counts.0
              (omega (arith, counts.1, count-with_segment document new));
          within = omega arith;
        };
        good = rw (
          le-ltb 4096 (length line) short.1,
          filled,
          data_kind line new parts.1,
          filled_before,
          read.1,
          lt-leb 1000000
              (sum_by segment_count before) within,
          lt-leb 10000 (last_count before) room,
        ) refl;
      }
    where
      not_none : (front : List RawDoc) (document : RawDoc) → nat_eq (length (front ++ document ∷ [])) 0 ≡ false
      not_none front document =
          elim (eqb_tells (length (front ++ document ∷ [])) 0) [
            | inl h ↦ absurd (omega (arith, h.1, length-append front (document ∷ [])))
            | inr h ↦ h.0
          ]

  follows_by : (documents : List RawDoc) → Snoc documents → is_blank line ≡ false → AreDocuments (lines ++ line ∷ []) documents → Follows lines line
  follows_by _ none filled are =
      absurd (AllZip-long IsLineOf (filled_from 1 lines) (length lines + 1, line)
      (subst (λ lines. AllZip IsLineOf lines []) (filled-line 1 (length lines + 1) lines line filled refl) are.spelled))
  follows_by _ (some front last) filled are = follows_last front last.line last.control last.segments (snoc last.segments) filled are

  -- the lines before the last one
  pub follows : (documents : List RawDoc) → AreDocuments (lines ++ line ∷ []) documents → Follows lines line
  follows documents are =
      elim (cases_Bool (is_blank line)) [
        | inl blank ↦ follows_skipped documents blank are
        | inr filled ↦ follows_by documents (snoc documents) filled are
      ]
