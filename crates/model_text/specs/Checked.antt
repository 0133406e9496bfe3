-- The elements of a list of a model, each checked.
use Rattle.std.specs.Prelude.{ℕ, suc, Bool, true, List, [], ◌∷◌, Result, Ok}
use Rattle.model_keys.specs.declared.finding.Finding.{Finding}
use Rattle.model_keys.specs.Finding.{◌>>=◌, within}

-- the elements of a list at a key from a place on, each checked by itself
unfoldable pub checked : {A : Type 0} → List ℕ → (A → Result Bool Finding) → ℕ → List A → Result Bool Finding
checked key test place [] = Ok true
checked key test place (a ∷ rest) = do
  one ← within key place (test a)
  checked key test (suc place) rest
