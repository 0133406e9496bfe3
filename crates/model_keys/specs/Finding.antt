-- What is wrong in a text, and where: a reading gives a value or its first finding. Steps of a reading that stand below one
-- another are done in this order, and the first that finds something ends it.
use Rattle.std.specs.Prelude.{◌≡◌, ◌==◌, ℕ, Bool, List, [], ◌∷◌, ◌++◌, Option, Some, None, Result, Ok, Err, codes, decimal, if◌then◌else◌}
use Rattle.model_keys.specs.declared.finding.Cause.{Cause}
use Rattle.model_keys.specs.declared.finding.Finding.{Finding}
use Rattle.model_keys.specs.declared.finding.ReadError.{ReadError}
use Rattle.model_keys.specs.declared.finding.ReadError.TheVariants as errors

-- a cause at a path
abbrev pub at : Cause → List ℕ → Finding
at cause path = record { cause = cause; path = path }

-- a step, and what is read with its value
infixl 10 ◌>>=◌
abbrev pub ◌>>=◌ : {A B : Type 0} → Result A Finding → (A → Result B Finding) → Result B Finding
(Ok value) >>= next = next value
(Err finding) >>= next = Err finding

-- what failed so is what the reading finds, unless memory ran out
abbrev pub Fails : {B : Type 0} → ReadError → Result B Finding → Type 0
Fails errors.Memory reading = Unit {0}
Fails (errors.Found finding) reading = reading ≡ Err finding

-- what a function returned, seen so, is what the reading gives, unless memory ran out
abbrev pub Gives : {A B : Type 0} → (A → B) → Result A ReadError → Result B Finding → Type 0
Gives view (Ok value) reading = reading ≡ Ok (view value)
Gives view (Err error) reading = Fails error reading

-- the value that is there, or a finding
abbrev pub required : {A : Type 0} → Cause → List ℕ → Option A → Result A Finding
required cause path None = Err (at cause path)
required cause path (Some value) = Ok value

-- it has to be so
abbrev pub check : Cause → List ℕ → Bool → Result Bool Finding
check cause path test = if test then Ok test else Err (at cause path)

-- a path below a place: the place alone for what is wrong with the whole, and else with one dot between them, which may
-- stand at the front of the path, as it does where the path is an empty key
abbrev pub joined : List ℕ → List ℕ → List ℕ
joined place [] = place
joined place (byte ∷ path) = if byte == 46 then place ++ (byte ∷ path) else place ++ codes "." ++ (byte ∷ path)

-- the element at a place of the list at a key
abbrev pub element : List ℕ → ℕ → List ℕ
element key place = key ++ codes "[" ++ decimal place ++ codes "]"

-- a finding inside an element, seen from outside
abbrev pub within : {A : Type 0} → List ℕ → ℕ → Result A Finding → Result A Finding
within key place (Ok value) = Ok value
within key place (Err finding) = Err (at finding.cause (joined (element key place) finding.path))

-- the outside of an error is that of what was found
abbrev pub Deepens : List ℕ → ℕ → ReadError → ReadError → Type 0
Deepens key place errors.Memory outside = outside ≡ errors.Memory
Deepens key place (errors.Found finding) outside = Fails {B = Unit {0}} outside (within key place (Err finding))
