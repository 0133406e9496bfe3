-- Lines of documents and of segments.
use Rattle.std.specs.Prelude.{slice_get}
use Rattle.std.specs.List.{AllByRecursion, cons_option}
use Rattle.std.specs.Option.{option_map}
use Rattle.std.proofs.Common.{◌≡◌, ℕ, zero, suc, ◌≤◌, Option, Some, None, List, [], ◌∷◌, ◌++◌, length, map, drop, refl, sym, ap, ◌∙◌, append_assoc, arith}
use Rattle.std.proofs.lemmas.List.{append-nil}
use Rattle.idoc_record.specs.declared.place.Place.{Place}
use Rattle.idoc_record.specs.Data.{DataRecord}
use Rattle.idoc_tree.proofs.NodeLemmas.{drop-past}
use Rattle.status_log.specs.declared.line.DocLine.{DocLine}
use Rattle.status_log.specs.declared.line.SegmentLine.{SegmentLine}
use Rattle.listings.specs.DocumentLines.{numbered}
use Rattle.listings.specs.OneDocument.{placed_lines}
use Rattle.listings.specs.Places.{HasDigits}

-- the lines of documents from one on begin with its own
numbered-drop : {A : Type 0} (line : ℕ → A → DocLine) (number place : ℕ) (all : List A)
    → numbered line number (drop place all) ≡ cons_option (option_map (line number) (slice_get all place)) (numbered line (suc number) (drop (suc place) all))
numbered-drop line number zero [] = refl
numbered-drop line number (suc place) [] = refl
numbered-drop line number zero (one ∷ all) = refl
numbered-drop line number (suc place) (one ∷ all) = numbered-drop line number place all

-- one more, if there is one, and others behind it
pub cons-split : {A : Type 0} (o : Option A) (xs : List A) → cons_option o [] ++ xs ≡ cons_option o xs
cons-split None xs = refl
cons-split (Some x) xs = refl

-- one more document is listed
pub numbered-step : {A : Type 0} (line : ℕ → A → DocLine) (place next : ℕ) (all : List A) (before after whole : List DocLine) → next ≡ suc place
    → before ++ numbered line (suc place) (drop place all) ≡ whole
    → after ≡ before ++ cons_option (option_map (line (suc place)) (slice_get all place)) []
    → after ++ numbered line (suc next) (drop next all) ≡ whole
numbered-step line place next all before after whole counted so_far is =
    ap (λ n. after ++ numbered line (suc n) (drop n all)) counted
    ∙ ap (λ (ls : List DocLine). ls ++ numbered line (suc (suc place)) (drop (suc place) all)) is
    ∙ append_assoc before (cons_option (option_map (line (suc place)) (slice_get all place)) []) (numbered line (suc (suc place)) (drop (suc place) all))
    ∙ ap (λ (ls : List DocLine). before ++ ls)
    (cons-split (option_map (line (suc place)) (slice_get all place)) (numbered line (suc (suc place)) (drop (suc place) all))
    ∙ sym (numbered-drop line (suc place) place all))
    ∙ so_far

-- all are listed
pub numbered-end : {A : Type 0} (line : ℕ → A → DocLine) (place : ℕ) (all : List A) (before whole : List DocLine) → length all ≤ place
    → before ++ numbered line (suc place) (drop place all) ≡ whole → before ≡ whole
numbered-end line place all before whole past so_far =
    sym (append-nil before) ∙ ap (λ ds. before ++ numbered line (suc place) ds) (sym (drop-past all place past)) ∙ so_far

-- data records at their places: each is there, and fits
pub placed-whole : (places : List Place) (lines : List DataRecord) → length places ≡ length lines
    → map (λ (one : SegmentLine). one.line) (placed_lines places lines) ≡ lines
placed-whole [] [] same = refl
placed-whole [] (line ∷ lines) same = absurd (omega arith)
placed-whole (place ∷ places) [] same = absurd (omega arith)
placed-whole (place ∷ places) (line ∷ lines) same = ap (λ (ls : List DataRecord). line ∷ ls) (placed-whole places lines (omega arith))

pub placed-fits : (places : List Place) (lines : List DataRecord) → AllByRecursion HasDigits places
    → AllByRecursion (λ one. HasDigits one.place) (placed_lines places lines)
placed-fits [] lines all = tt
placed-fits (place ∷ places) [] all = tt
placed-fits (place ∷ places) (line ∷ lines) all = (all.0, placed-fits places lines all.1)
