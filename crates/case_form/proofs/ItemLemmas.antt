-- The items of a file, line by line.
use Rattle.std.proofs.Common.{◌≡◌, ℕ, Bool, false, Ok, Err, List, [], ◌∷◌, ◌++◌, map, drop, refl, sym, ap, ◌∙◌, append_assoc, append-nil}
use Rattle.std.proofs.lemmas.List.{map-append}
use Rattle.case_form.specs.declared.item.BlockLine.{BlockLine}
use Rattle.case_form.specs.declared.item.Item.{Item}
use Rattle.case_form.specs.declared.line.Kind.{Kind}
use Rattle.case_form.specs.declared.line.Kind.TheVariants.{Skipped, Title, Mark, Head, Indented}
use Rattle.case_form.specs.declared.line.Place.{Place}
use Rattle.case_form.specs.declared.line.Place.TheVariants.{Start, Titled, Marked, Open}
use Rattle.case_form.specs.Rules.{Reading}
use Rattle.case_form.specs.Text.{before, behind}
use Rattle.case_form.specs.Items.{Line, Said, kind_of, follow_read, ended, next, places_read, onto_block, block_in, item_at, marked_behind, items_in}
use Rattle.case_form.specs.Items.{lines_read, line_seen, seen}
use Rattle.case_form.specs.Items.{with_lines, extend_last, grown, is_marked, with_line, with_block, joined}

-- the last item with more lines
pub extend_last-snoc : (lines : List Line) (items : List Said) (item : Said) → extend_last lines (items ++ item ∷ []) ≡ items ++ with_lines item lines ∷ []
extend_last-snoc lines [] item = refl
extend_last-snoc lines (first ∷ []) item = refl
extend_last-snoc lines (first ∷ second ∷ items) item = ap (λ more. first ∷ more) (extend_last-snoc lines (second ∷ items) item)

pub extend_last-none : (items : List Said) → extend_last [] items ≡ items
extend_last-none [] = refl
extend_last-none (item ∷ []) =
    ap (λ block. record { line = item.line; differs = item.differs; word = item.word; rest = item.rest; block = block } ∷ []) (append-nil item.block)
extend_last-none (item ∷ other ∷ items) = ap (λ more. item ∷ more) (extend_last-none (other ∷ items))

pub extend_last-more : (line : Line) (lines : List Line) (items : List Said) → extend_last lines (extend_last (line ∷ []) items) ≡ extend_last (line ∷ lines) items
extend_last-more line lines [] = refl
extend_last-more line lines (item ∷ []) =
    ap (λ block. record { line = item.line; differs = item.differs; word = item.word; rest = item.rest; block = block } ∷ [])
    (append_assoc item.block (line ∷ []) lines)
extend_last-more line lines (item ∷ other ∷ []) = ap (λ more. item ∷ more) (extend_last-more line lines (other ∷ []))
extend_last-more line lines (item ∷ other ∷ third ∷ items) = ap (λ more. item ∷ more) (extend_last-more line lines (other ∷ third ∷ items))

-- the last item with one line more in its block
pub last-grown : (old front new : List Item) (item after : Item) (line : BlockLine) (text : List ℕ) → old ≡ front ++ item ∷ [] → new ≡ front ++ after ∷ []
    → after.line ≡ item.line → after.differs ≡ item.differs → after.word ≡ item.word → after.rest ≡ item.rest
    → after.block.items ≡ item.block.items ++ line ∷ [] → line.text.items ≡ text
    → map seen new ≡ extend_last (record { number = line.line; text = text } ∷ []) (map seen old)
last-grown old front new item after line text before now number differs word rest block holds =
    let last : seen after ≡ with_lines (seen item) (record { number = line.line; text = text } ∷ []) =
    rw (number, differs, word, rest, block, map-append line_seen item.block.items (line ∷ []), holds) refl in
    rw (before, now, map-append seen front (item ∷ []), map-append seen front (after ∷ []), extend_last-snoc _ (map seen front) (seen item), last) refl

-- one line more, by what it is
step_kind : (kind : Reading Kind) (place after : Place) (item : Said) (line : Line) (items : List Said) (block : List Line) (later : Bool → List Said)
    → follow_read place kind ≡ Ok after
    → with_block place items (onto_block kind line block) ++ (item_at kind (with_lines item block) ++ later (marked_behind (is_marked place) kind))
    ≡ with_block after (grown kind item line items) block ++ later (is_marked after)
step_kind (Err rule) place after item line items block later read = absurd (cc)
step_kind (Ok Skipped) place after item line items block later read = let e : place ≡ after = cc in rw (← e) refl
step_kind (Ok Title) Start after item line items block later read = let e : Titled ≡ after = cc in rw (← e) refl
step_kind (Ok Title) Titled after item line items block later read = absurd (cc)
step_kind (Ok Title) Marked after item line items block later read = absurd (cc)
step_kind (Ok Title) Open after item line items block later read = absurd (cc)
step_kind (Ok Mark) Start after item line items block later read = absurd (cc)
step_kind (Ok Mark) Titled after item line items block later read = let e : Marked ≡ after = cc in rw (← e) refl
step_kind (Ok Mark) Marked after item line items block later read = absurd (cc)
step_kind (Ok Mark) Open after item line items block later read = let e : Marked ≡ after = cc in rw (← e, extend_last-none items) refl
step_kind (Ok Head) Start after item line items block later read = absurd (cc)
step_kind (Ok Head) Titled after item line items block later read =
    let e : Open ≡ after = cc in rw (← e, extend_last-snoc block items item) (sym (append_assoc items (with_lines item block ∷ []) (later false)))
step_kind (Ok Head) Marked after item line items block later read =
    let e : Open ≡ after = cc in rw (← e, extend_last-snoc block items item) (sym (append_assoc items (with_lines item block ∷ []) (later false)))
step_kind (Ok Head) Open after item line items block later read =
    let e : Open ≡ after = cc in
    rw (← e, extend_last-none items, extend_last-snoc block items item) (sym (append_assoc items (with_lines item block ∷ []) (later false)))
step_kind (Ok Indented) Start after item line items block later read = absurd (cc)
step_kind (Ok Indented) Titled after item line items block later read = absurd (cc)
step_kind (Ok Indented) Marked after item line items block later read = absurd (cc)
step_kind (Ok Indented) Open after item line items block later read =
    let e : Open ≡ after = cc in rw (← e, extend_last-more line block items) refl

-- one line more is where it may be
pub places-step : (place after : Place) (n number : ℕ) (line : List ℕ) (lines : List (List ℕ)) → number ≡ next n
    → follow_read place (kind_of line) ≡ Ok after → places_read place n (line ∷ lines) ≡ places_read after number lines
places-step place after n number line lines is read = rw (is, read) refl

-- and what it adds to the items
pub items-step : (place after : Place) (items : List Said) (n number : ℕ) (line : List ℕ) (lines : List (List ℕ)) → number ≡ next n
    → follow_read place (kind_of line) ≡ Ok after → joined place items n (line ∷ lines) ≡ joined after (with_line place number line items) number lines
items-step place after items n number line lines is read =
    rw is
    (step_kind (kind_of line) place after
    (record { line = next n; differs = is_marked place; word = before 32 line; rest = behind 32 line; block = [] })
    (record { number = next n; text = drop 2 line }) items (block_in (next n) lines) (λ marked. items_in marked (next n) lines) read)

-- a file that may end where it does
pub end-items : (place : Place) (n : ℕ) (all : List (List ℕ)) (items : List Said) → places_read Start 0 all ≡ places_read place n []
    → items_in false 0 all ≡ joined place items n [] → ended place ≡ Ok Open → lines_read all ≡ Ok items
end-items Start n all items so_far same ends = absurd (cc)
end-items Titled n all items so_far same ends = absurd (cc)
end-items Marked n all items so_far same ends = absurd (cc)
end-items Open n all items so_far same ends = rw so_far (ap Ok (same ∙ append-nil (extend_last [] items) ∙ extend_last-none items))
