-- Letters, and those that are left of units.
use Rattle.std.specs.Prelude.{ℕ, Bool, ◌==◌, ◌&&◌, Option, Some, None, List, [], ◌∷◌, ◌++◌, filter_map, if◌then◌else◌}
use Rattle.std.specs.Option.{unwrap_or}
use Rattle.std.specs.Map.{lookup}
use Rattle.ale_base.specs.Tid.{TidOf, is_tid}
use Rattle.unit_works.specs.declared.letter.Letter.{Letter}
use Rattle.unit_works.specs.declared.letter.Letter.TheVariants.{Whole, LostRequest, LostReply, Twice, LostConfirmation, ReceiverFalls}

-- the letter that a byte says: `o`, `q`, `r`, `t`, `c` and `f`, in the order of the letters; any other byte says none
abbrev pub letter_said : ℕ → Option Letter
letter_said byte =
    if byte == 111 then Some Whole
    else (if byte == 113 then Some LostRequest
    else (if byte == 114 then Some LostReply
    else (if byte == 116 then Some Twice
    else (if byte == 99 then Some LostConfirmation
    else (if byte == 102 then Some ReceiverFalls else None)))))

-- the letters that bytes say
abbrev pub letters_said : List ℕ → List Letter
letters_said bytes = filter_map letter_said bytes

-- the letter that is taken next: all goes through where none is left
abbrev pub next_letter : List Letter → Letter
next_letter [] = Whole
next_letter (letter ∷ rest) = letter

-- the letters that are left once one was taken
abbrev pub rest_letters : List Letter → List Letter
rest_letters [] = []
rest_letters (letter ∷ rest) = rest

-- whether numbers are those of an id
abbrev pub are_numbers_of : TidOf → ℕ × ℕ → Bool
are_numbers_of tid numbers = (tid.system == numbers.0) && (tid.unit == numbers.1)

-- the letters that are left of a unit, by what is kept; none where nothing is kept of it
abbrev pub letters_left : List ((ℕ × ℕ) × List Letter) → TidOf → List Letter
letters_left kept tid = unwrap_or (lookup (are_numbers_of tid) kept) []

-- what is left of each unit once letters were added to one: they are behind those that it has
abbrev pub after_add : TidOf → List Letter → (TidOf → List Letter) → TidOf → List Letter
after_add tid more left other = if is_tid tid other then left tid ++ more else left other

-- what is left of each unit once a letter of one was taken
abbrev pub after_take : TidOf → (TidOf → List Letter) → TidOf → List Letter
after_take tid left other = if is_tid tid other then rest_letters (left tid) else left other
