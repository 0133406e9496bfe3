-- Texts that were read, with their models.
use Rattle.std.specs.Prelude.{◌≡◌, ◌⊎◌, ℕ, List, [], ◌∷◌, Some}
use Rattle.std.specs.List.{AllByRecursion}
use Rattle.dist_model.specs.declared.lists.Lists.{Lists}
use Rattle.said_models.specs.Said.{said}

-- a text, and a model
pub record Reading : Type 0 where
  pub text : List ℕ
  pub model : Lists

-- the model is the one that the text says
abbrev pub IsReading : Reading → Type 0
IsReading reading = said reading.text ≡ Some reading.model

-- each does
abbrev pub AreReadings : List Reading → Type 0
AreReadings readings = AllByRecursion IsReading readings

-- a text is among those that were read, with this model
abbrev pub IsAmong : List Reading → List ℕ → Lists → Type 0
IsAmong [] text model = ⊥
IsAmong (reading ∷ readings) text model = ((reading.text ≡ text) × (reading.model ≡ model)) ⊎ IsAmong readings text model

-- what was read stays so
abbrev pub Stay : List Reading → List Reading → Type 0
Stay before after = (text : List ℕ) (model : Lists) → IsAmong before text model → IsAmong after text model
