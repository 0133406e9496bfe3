-- The items of a case file: which line may follow which, and what the items are.
use Rattle.std.specs.Prelude.{ℕ, ◌+◌, ◌-◌, ◌==◌, Bool, true, false, nat_eq, Result, Ok, Err, List, [], ◌∷◌, ◌++◌, length, map, take, drop, codes}
use Rattle.std.specs.Prelude.{if◌then◌else◌}
use Rattle.std.specs.List.{starts_with, ends_with}
use Rattle.ale_base.specs.Text.{is_text, told_length}
use Rattle.case_form.specs.declared.item.BlockLine.{BlockLine}
use Rattle.case_form.specs.declared.item.Item.{Item}
use Rattle.case_form.specs.declared.line.Kind.{Kind}
use Rattle.case_form.specs.declared.line.Kind.TheVariants.{Skipped, Title, Mark, Head, Indented}
use Rattle.case_form.specs.declared.line.Place.{Place}
use Rattle.case_form.specs.declared.line.Place.TheVariants.{Start, Titled, Marked, Open}
use Rattle.case_form.specs.Rules.{Reading, Outcome, at_line, not_named_case, blank_at_end, one_title, no_item, no_block}
use Rattle.case_form.specs.Text.{before, behind, parts, text_read, both}

-- an empty line, or a comment
abbrev pub is_skipped : List ℕ → Bool
is_skipped [] = true
is_skipped (b ∷ bs) = b == 35

-- a title says something
abbrev pub title_kind : List ℕ → Reading Kind
title_kind title = if length title == 0 then Err one_title else Ok Title

-- a line that is not indented
abbrev pub head_kind : List ℕ → Reading Kind
head_kind line =
    if is_text (before 32 line) (codes "title") then title_kind (behind 32 line) else (if is_text line (codes "differs") then Ok Mark else Ok Head)

-- what a line is
abbrev pub filled_kind : List ℕ → Reading Kind
filled_kind line =
    if ends_with nat_eq line (codes " ") then Err blank_at_end
    else (if starts_with nat_eq line (codes "  ") then Ok Indented else head_kind line)

abbrev pub kind_of : List ℕ → Reading Kind
kind_of line = if is_skipped line then Ok Skipped else filled_kind line

-- which line may follow: the title is first, and once; a mark is behind it; an item follows title, mark or item; and
-- indented lines follow an item
abbrev pub follow : Place → Kind → Reading Place
follow place Skipped = Ok place
follow Start Title = Ok Titled
follow Titled Title = Err one_title
follow Marked Title = Err one_title
follow Open Title = Err one_title
follow Start Mark = Err one_title
follow Titled Mark = Ok Marked
follow Marked Mark = Err no_item
follow Open Mark = Ok Marked
follow Start Head = Err one_title
follow Titled Head = Ok Open
follow Marked Head = Ok Open
follow Open Head = Ok Open
follow Start Indented = Err no_block
follow Titled Indented = Err no_block
follow Marked Indented = Err no_block
follow Open Indented = Ok Open

-- a file ends behind an item
abbrev pub ended : Place → Reading Place
ended Start = Err one_title
ended Titled = Err no_item
ended Marked = Err no_item
ended Open = Ok Open

-- the same, of a line
abbrev pub follow_read : Place → Reading Kind → Reading Place
follow_read place (Err rule) = Err rule
follow_read place (Ok kind) = follow place kind

-- the number of the next line. Lines from 4,294,967,295 on have that number
abbrev pub next : ℕ → ℕ
next n = told_length (n + 1)

-- where what is read is one thing more, or the first breach
abbrev pub and_then : {A B E : Type 0} → Result A E → (A → Result B E) → Result B E
and_then (Err fault) more = Err fault
and_then (Ok a) more = more a

-- each line, from the next number on, may be where it is, and so may the end; or the first that may not
abbrev pub places_read : Place → ℕ → List (List ℕ) → Outcome Place
places_read place n [] = at_line n (ended place)
places_read place n (line ∷ lines) = and_then (at_line (next n) (follow_read place (kind_of line))) (λ place. places_read place (next n) lines)

-- a line of a block, and an item
pub record Line : Type 0 where
  pub number : ℕ
  pub text : List ℕ

pub record Said : Type 0 where
  pub line : ℕ
  pub differs : Bool
  pub word : List ℕ
  pub rest : List ℕ
  pub block : List Line

-- the lines of the block that is open: those that are indented, up to the next line that is not
abbrev pub onto_block : Reading Kind → Line → List Line → List Line
onto_block (Ok Skipped) line block = block
onto_block (Ok Indented) line block = line ∷ block
onto_block _ line block = []

abbrev pub block_in : ℕ → List (List ℕ) → List Line
block_in n [] = []
block_in n (line ∷ lines) = onto_block (kind_of line) (record { number = next n; text = drop 2 line }) (block_in (next n) lines)

-- the item that a line begins, if it begins one
abbrev pub item_at : Reading Kind → Said → List Said
item_at (Ok Head) item = item ∷ []
item_at _ item = []

-- whether the next item is marked
abbrev pub marked_behind : Bool → Reading Kind → Bool
marked_behind marked (Ok Mark) = true
marked_behind marked (Ok Head) = false
marked_behind marked _ = marked

-- the items that lines begin, from the next number on, each with its mark and its block
abbrev pub items_in : Bool → ℕ → List (List ℕ) → List Said
items_in marked n [] = []
items_in marked n (line ∷ lines) =
    item_at (kind_of line) (record { line = next n; differs = marked; word = before 32 line; rest = behind 32 line; block = block_in (next n) lines })
    ++ items_in (marked_behind marked (kind_of line)) (next n) lines

-- they are items where each line may be where it is
abbrev pub given : Outcome Place → List Said → Outcome (List Said)
given (Err breach) items = Err breach
given (Ok place) items = Ok items

abbrev pub lines_read : List (List ℕ) → Outcome (List Said)
lines_read lines = given (places_read Start 0 lines) (items_in false 0 lines)

-- the LF at the end of a file is no line of its own
abbrev pub without_end : List ℕ → List ℕ
without_end bytes = if is_text (drop (length bytes - 1) bytes) (10 ∷ []) then take (length bytes - 1) bytes else bytes

-- the items of a file, or the first line that breaks a rule
abbrev pub file_read : List ℕ → List ℕ → Outcome (List Said)
file_read name bytes =
    if ends_with nat_eq name (codes ".case") then lines_read (parts 10 (without_end bytes)) else Err (record { line = 1; rule = not_named_case })

-- items as they are said
abbrev pub line_seen : BlockLine → Line
line_seen line = record { number = line.line; text = line.text.items }

abbrev pub seen : Item → Said
seen item = record { line = item.line; differs = item.differs; word = item.word.items; rest = item.rest.items; block = map line_seen item.block.items }

-- what a line of a block stands for, with LF behind it
abbrev pub line_read : BlockLine → Outcome (List ℕ)
line_read line = at_line line.line (both (text_read line.text.items) (Ok (10 ∷ [])))

-- what a block stands for, or its first line that breaks a rule
abbrev pub block_read : List BlockLine → Outcome (List ℕ)
block_read [] = Ok []
block_read (line ∷ lines) = both (line_read line) (block_read lines)

-- for `lines_read`, while a file is read: the last item has these lines too
abbrev pub with_lines : Said → List Line → Said
with_lines item lines = record { line = item.line; differs = item.differs; word = item.word; rest = item.rest; block = item.block ++ lines }

abbrev pub extend_last : List Line → List Said → List Said
extend_last lines [] = []
extend_last lines (item ∷ []) = with_lines item lines ∷ []
extend_last lines (item ∷ other ∷ items) = item ∷ extend_last lines (other ∷ items)

-- the items with one line more
abbrev pub grown : Reading Kind → Said → Line → List Said → List Said
grown (Ok Head) item line items = items ++ item ∷ []
grown (Ok Indented) item line items = extend_last (line ∷ []) items
grown _ item line items = items

abbrev pub is_marked : Place → Bool
is_marked Marked = true
is_marked _ = false

abbrev pub with_line : Place → ℕ → List ℕ → List Said → List Said
with_line place n line items =
    grown (kind_of line) (record { line = n; differs = is_marked place; word = before 32 line; rest = behind 32 line; block = [] })
    (record { number = n; text = drop 2 line }) items

-- the items so far, with what the lines left add to the block that is open and to the items
abbrev pub with_block : Place → List Said → List Line → List Said
with_block Open items lines = extend_last lines items
with_block _ items lines = items

abbrev pub joined : Place → List Said → ℕ → List (List ℕ) → List Said
joined place items n lines = with_block place items (block_in n lines) ++ items_in (is_marked place) n lines
