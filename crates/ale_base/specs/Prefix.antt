-- One list begins another.
use Rattle.std.specs.Prelude.{◌≡◌, List, ◌++◌}

-- a list goes on as another
abbrev pub IsPrefix : {A : Type 0} → List A → List A → Type 0
IsPrefix {A} front whole = (rest : List A) × (front ++ rest ≡ whole)
