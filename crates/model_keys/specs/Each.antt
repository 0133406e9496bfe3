-- Lists, element by element.
use Rattle.std.specs.Prelude.{ℕ, suc, List, [], ◌∷◌, ◌++◌, Result, Ok}
use Rattle.toml.specs.Data.{Data, Items, no_items, item}
use Rattle.model_keys.specs.declared.finding.Finding.{Finding}
use Rattle.model_keys.specs.Finding.{◌>>=◌, within}

-- the elements of a list from a place on, each read behind those before it, which are done
unfoldable pub each : {A : Type 0} → List ℕ → (List A → Data → Result A Finding) → ℕ → List A → Items → Result (List A) Finding
each key read place done no_items = Ok done
each key read place done (item «data» rest) = do
  value ← within key place (read done «data»)
  each key read (suc place) (done ++ value ∷ []) rest
