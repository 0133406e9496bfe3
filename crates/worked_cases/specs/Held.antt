-- What volumes are made to hold before a run.
use Rattle.std.specs.Prelude.{◌≡◌, ℕ, ◌-◌, List, [], ◌∷◌, ◌++◌, map, take, drop, get_or, set}
use Rattle.byte_journal.specs.Log.{Stands, records, closed_gate}
use Rattle.worked_cases.specs.declared.held.Holding.{Holding}
use Rattle.worked_cases.specs.declared.held.Held.{Held}
use Rattle.worked_cases.specs.declared.held.Held.TheVariants.{Front, Journal}
use Rattle.worked_cases.specs.declared.held.Given.{Given}
use Rattle.worked_cases.specs.declared.held.Given.TheVariants.{Copy, Bare, Bytes}

-- what the volume of a system holds, where all hold this
abbrev pub volume_in : List (List ℕ) → ℕ → List ℕ
volume_in contents system = get_or contents (system - 1) []

-- The record that is given, if there is one: that of a number, from 1, of the log that the volume of a system stands for, whole or without
-- the nine bytes of its moment; or these bytes. Of bytes that stand for no log nothing is said.
abbrev pub IsGiven : List (List ℕ) → Given → List (List ℕ) → Type 0
IsGiven contents (Copy system number) bodies =
    (log : List (List ℕ)) → Stands (volume_in contents system) log → bodies ≡ take 1 (drop (number - 1) log)
IsGiven contents (Bare system number) bodies =
    (log : List (List ℕ)) → Stands (volume_in contents system) log → bodies ≡ map (drop 9) (take 1 (drop (number - 1) log))
IsGiven contents (Bytes body) bodies = bodies ≡ body ∷ []

-- the records that are given, in order
abbrev pub AreGiven : List (List ℕ) → List Given → List (List ℕ) → Type 0
AreGiven contents [] bodies = bodies ≡ []
AreGiven contents (given ∷ rest) bodies =
    (one others : List (List ℕ)) × IsGiven contents given one × AreGiven contents rest others × (bodies ≡ one ++ others)

-- what the volume of a system is made to hold: so many of its first bytes, or a journal of the records that are given
abbrev pub MayHold : List (List ℕ) → ℕ → Held → List ℕ → Type 0
MayHold contents system (Front count) bytes = bytes ≡ take count (volume_in contents system)
MayHold contents system (Journal given) bytes =
    (bodies : List (List ℕ)) × AreGiven contents given bodies × (bytes ≡ records bodies ++ closed_gate ∷ [])

abbrev pub IsHeld : List (List ℕ) → Holding → List ℕ → Type 0
IsHeld contents holding bytes = MayHold contents holding.system holding.what bytes

-- what all volumes hold once those that are named, one after another, hold what is said of them
abbrev pub AreHeld : List (List ℕ) → List Holding → List (List ℕ) → Type 0
AreHeld contents [] after = after ≡ contents
AreHeld contents (holding ∷ rest) after =
    (bytes : List ℕ) × IsHeld contents holding bytes × AreHeld (set contents (holding.system - 1) bytes) rest after
