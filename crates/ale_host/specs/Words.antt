-- The words of a command line.
use Rattle.std.specs.Prelude.{ℕ, ◌≤◌, ⊤, List, [], ◌∷◌, length, get_or, slice_get, ◌-◌, Bool, false, not, ◌&&◌, ◌==◌, nat_le, codes, Option, Some, None}
use Rattle.std.specs.Prelude.{if◌then◌else◌}
use Rattle.std.specs.Char.{is_ascii_digit}
use Rattle.std.specs.List.{list_all}
use Rattle.std.specs.Option.{option_and_then, option_map}
use Rattle.ale_base.specs.Decimal.{decimal_value}
use Rattle.ale_base.specs.Text.{is_text}
use Rattle.ale_host.specs.declared.words.TheConstants.{MAX_MASTERS, MAX_WORKERS}
use Rattle.ale_host.specs.declared.words.Form.{Form}
use Rattle.ale_host.specs.declared.words.Form.TheVariants.{Pass, Run, Load}

-- at most four digits, of which the first is no zero, that spell a number of at most this size
abbrev pub is_count : ℕ → List ℕ → Bool
is_count most [] = false
is_count most (b ∷ bs) = not (b == 48) && (nat_le (length (b ∷ bs)) 4 && (list_all is_ascii_digit (b ∷ bs) && nat_le (decimal_value (b ∷ bs)) most))

-- the number that such digits spell
abbrev pub count_in : ℕ → List ℕ → Option ℕ
count_in most text = if is_count most text then Some (decimal_value text) else None

-- `pass DOCS`
abbrev pub pass_form : List ℕ → Option Form
pass_form command = if is_text command (codes "pass") then Some Pass else None

-- `load N WORKERS`, with N from 1 to 4,096 and 1 to 16 workers
abbrev pub load_form : List ℕ → List ℕ → List ℕ → Option Form
load_form command masters workers =
    if is_text command (codes "load") && is_count MAX_WORKERS workers then option_map Load (count_in MAX_MASTERS masters) else None

-- `run MODEL DOCS SCRIPT WORKERS`, with 1 to 16 workers
abbrev pub run_form : List ℕ → List ℕ → Option Form
run_form command workers = if is_text command (codes "run") && is_count MAX_WORKERS workers then Some Run else None

-- the form that the words have, if they have one
abbrev pub form_of : List (List ℕ) → Option Form
form_of (command ∷ docs ∷ []) = pass_form command
form_of (command ∷ masters ∷ workers ∷ []) = load_form command masters workers
form_of (command ∷ model ∷ docs ∷ script ∷ workers ∷ []) = run_form command workers
form_of _ = None

-- the name of the document file, which is the second word of `pass`
abbrev pub document_file : List (List ℕ) → List ℕ
document_file (command ∷ docs ∷ others) = docs
document_file _ = []

-- the names of the files that `run` reads: its second, third and fourth word
abbrev pub model_file : List (List ℕ) → List ℕ
model_file words = get_or words 1 []

abbrev pub documents_file : List (List ℕ) → List ℕ
documents_file words = get_or words 2 []

abbrev pub script_file : List (List ℕ) → List ℕ
script_file words = get_or words 3 []

-- ---- what only private functions cite

-- how many workers a number asks for: as many as it is, if it is from 1 to 16, and else one
abbrev pub workers_for : Option ℕ → ℕ
workers_for None = 1
workers_for (Some count) = if nat_le 1 count && nat_le count MAX_WORKERS then count else 1

-- how many workers words ask for: as many as the last one says
abbrev pub workers_in : List (List ℕ) → ℕ
workers_in words = workers_for (option_and_then (count_in MAX_WORKERS) (slice_get words (length words - 1)))

-- a load has at most 4,096 masters
abbrev pub IsFew : Form → Type 0
IsFew (Load masters) = masters ≤ MAX_MASTERS
IsFew _ = ⊤
