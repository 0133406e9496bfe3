-- The names of systems, as an operator is shown them.
use Rattle.std.specs.Prelude.{ℕ, List, [], Option}
use Rattle.std.specs.Option.{option_map_or}
use Rattle.dist_model.specs.declared.lists.Lists.{Lists}
use Rattle.dist_model.specs.Named.{system_name}

-- the name of the system of a number by the model in force; no bytes where there is no model
abbrev pub name_under : Option Lists → ℕ → List ℕ
name_under model system = option_map_or (λ model. system_name model system) model []
