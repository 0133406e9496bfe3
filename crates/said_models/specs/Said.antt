-- The model that a text says.
use Rattle.std.specs.Prelude.{List, ℕ, Option, Some, None, Result, Ok, Err}
use Rattle.dist_model.specs.declared.lists.Lists.{Lists}
use Rattle.model_text.specs.declared.fault.ModelFault.{ModelFault}
use Rattle.model_text.specs.Text.{answer_to}

-- the model of an answer, if it is one
abbrev pub of_answer : Result Lists ModelFault → Option Lists
of_answer (Ok model) = Some model
of_answer (Err fault) = None

-- the model that a text says; none where it says none. An `abbrev` would be unfolded to the reading of the text in every goal
unfoldable pub said : List ℕ → Option Lists
said text = of_answer (answer_to text)
