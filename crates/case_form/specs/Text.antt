-- Words, numbers and texts of case files.
use Rattle.std.specs.Prelude.{ℕ, ◌==◌, ◌&&◌, ◌^◌, nat_lt, Bool, Option, Some, None, Result, Ok, Err, List, [], ◌∷◌, ◌++◌, length, take, drop, codes}
use Rattle.std.specs.Prelude.{if◌then◌else◌}
use Rattle.std.specs.Borrow.{Bor}
use Rattle.std.specs.Char.{is_ascii_digit}
use Rattle.std.specs.Option.{is_some}
use Rattle.std.specs.List.{list_all, position, before_first, after_first, slice_split, repeat}
use Rattle.ale_base.specs.Decimal.{decimal_value}
use Rattle.ale_base.specs.Text.{is_text}
use Rattle.case_form.specs.Rules.{Reading, bad_number, open_brace}

-- a text has such a byte
abbrev pub has : ℕ → List ℕ → Bool
has at text = is_some (position (λ b. b == at) text)

-- what is before the first such byte, all where there is none; and what is behind it
abbrev pub before : ℕ → List ℕ → List ℕ
before at text = before_first (λ b. b == at) text

abbrev pub behind : ℕ → List ℕ → List ℕ
behind at text = after_first (λ b. b == at) text

-- the parts of a text before, between and behind such bytes
abbrev pub parts : ℕ → List ℕ → List (List ℕ)
parts at text = slice_split (λ b. b == at) text

-- decimal digits, one at least, that spell a number of 32 bits
abbrev pub is_number : List ℕ → Bool
is_number digits = list_all is_ascii_digit digits && (nat_lt 0 (length digits) && nat_lt (decimal_value digits) (2 ^ 32))

-- the number that they spell
abbrev pub number_read : List ℕ → Reading ℕ
number_read digits = if is_number digits then Ok (decimal_value digits) else Err bad_number

-- a number of a byte
abbrev pub byte_of : Reading ℕ → Reading (List ℕ)
byte_of (Err rule) = Err rule
byte_of (Ok number) = if nat_lt number 256 then Ok (number ∷ []) else Err bad_number

-- the byte of a name
abbrev pub byte_named : List ℕ → Option ℕ
byte_named name =
    if is_text (codes "blank") name then Some 32 else (if is_text (codes "CR") name then Some 13 else (if is_text (codes "LF") name then Some 10 else None))

-- what stands for itself where it is no name
abbrev pub named_or : List ℕ → Option ℕ → List ℕ
named_or text None = text
named_or text (Some b) = b ∷ []

-- `#` and a number, a name, or any other text
abbrev pub what_read : List ℕ → Reading (List ℕ)
what_read what = if is_text (take 1 what) (codes "#") then byte_of (number_read (drop 1 what)) else Ok (named_or what (byte_named what))

-- the count before the first `*`; where there is none, it is 1
abbrev pub count_read : List ℕ → Reading ℕ
count_read inner = if has 42 inner then number_read (before 42 inner) else Ok 1

-- what stands behind it
abbrev pub counted : List ℕ → List ℕ
counted inner = if has 42 inner then behind 42 inner else inner

-- so many times what is read
abbrev pub times : Reading ℕ → Reading (List ℕ) → Reading (List ℕ)
times (Err rule) what = Err rule
times (Ok count) (Err rule) = Err rule
times (Ok count) (Ok what) = Ok (repeat count what)

-- what stands between braces: `WHAT`, or `COUNT*WHAT`
abbrev pub braced_read : List ℕ → Reading (List ℕ)
braced_read inner = times (count_read inner) (what_read (counted inner))

-- the bytes of both, or the first fault
abbrev pub both : {E : Type 0} → Result (List ℕ) E → Result (List ℕ) E → Result (List ℕ) E
both (Err fault) more = Err fault
both (Ok bytes) (Err fault) = Err fault
both (Ok bytes) (Ok more) = Ok (bytes ++ more)

-- what is behind an open brace: up to the first closing one it stands for other bytes, and behind that for itself
abbrev pub part_read : List ℕ → Reading (List ℕ)
part_read part =
    if has 125 part then both (braced_read (before 125 part)) (Ok (behind 125 part)) else Err open_brace

abbrev pub parts_read : List (List ℕ) → Reading (List ℕ)
parts_read [] = Ok []
parts_read (part ∷ parts) = both (part_read part) (parts_read parts)

-- the first part stands for itself, each other one is behind an open brace
abbrev pub split_read : List (List ℕ) → Reading (List ℕ)
split_read [] = Ok []
split_read (plain ∷ parts) = both (Ok plain) (parts_read parts)

-- the bytes that a text stands for, or the first rule that it breaks
abbrev pub text_read : List ℕ → Reading (List ℕ)
text_read text = split_read (parts 123 text)

-- for `parts`: those of what is left behind such a byte, if there is one
abbrev pub parts_left : ℕ → Option (Bor (List ℕ)) → List (List ℕ)
parts_left at None = []
parts_left at (Some text) = parts at text.now
