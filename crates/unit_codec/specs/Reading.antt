-- What reading from the front of some bytes gives.
use Rattle.std.specs.Prelude.{◌≡◌, ℕ, ◌-◌, ◌≤◌, List, ◌∷◌, Bool, true, false, Option, Some, None, Result, Ok, Err, if◌then◌else◌}
use Rattle.unit_codec.specs.declared.fault.FieldFault.{FieldFault}
use Rattle.unit_codec.specs.declared.fault.FieldFault.TheVariants.{Bad, OutOfMemory}
use Rattle.unit_codec.specs.declared.fault.CodecFault.{CodecFault}
use Rattle.unit_codec.specs.declared.fault.CodecFault.TheVariants as codec

-- a value and the bytes behind it; or how many bytes are left where the first field begins that does not follow its rule
abbrev pub Reading : Type 0 → Type 0
Reading A = Result (A × List ℕ) ℕ

-- reading goes on behind a value
infixl 10 ◌>>=◌
abbrev pub ◌>>=◌ : {A B : Type 0} → Reading A → (A × List ℕ → Reading B) → Reading B
(Ok x) >>= next = next x
(Err left) >>= next = Err left

-- a value that follows a rule, or a field that is bad where so many bytes are left
abbrev pub ruled : {A : Type 0} → ℕ → Bool → A × List ℕ → Reading A
ruled left follows x = if follows then Ok x else Err left

-- a value that was found, or a field that is bad where so many bytes are left
abbrev pub found : {A : Type 0} → ℕ → Option A → List ℕ → Reading A
found left (Some x) rest = Ok (x, rest)
found left None rest = Err left

-- ---- what only private functions cite

-- What a call took from the front of the bytes, as this view sees it, and what is left behind it, are what reading gives.
-- Memory may run out.
abbrev pub Takes : {X Y : Type 0} → (X → Y) → Result X FieldFault → List ℕ → Reading Y → Type 0
Takes view (Ok x) rest reading = reading ≡ Ok (view x, rest)
Takes view (Err (Bad left)) rest reading = reading ≡ Err left
Takes view (Err OutOfMemory) rest reading = Unit {0}

-- whether this byte was first and was taken from the front
abbrev pub SkipsByte : ℕ → List ℕ → List ℕ → Bool → Type 0
SkipsByte byte old new true = old ≡ byte ∷ new
SkipsByte byte old new false = (new ≡ old) × ((rest : List ℕ) → old ≡ byte ∷ rest → ⊥)

-- a bad field begins within so many bytes
abbrev pub IsWithin : ℕ → FieldFault → Type 0
IsWithin size (Bad left) = left ≤ size
IsWithin size OutOfMemory = Unit {0}

-- the fault of a field, told by its place in so many bytes
abbrev pub fault_in : ℕ → FieldFault → CodecFault
fault_in size (Bad left) = codec.Bad (size - left)
fault_in size OutOfMemory = codec.OutOfMemory
