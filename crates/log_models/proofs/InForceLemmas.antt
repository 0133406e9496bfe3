-- One more record of a log, and its models.
use Rattle.std.specs.Prelude.{fold}
use Rattle.std.proofs.Common.{◌≡◌, ℕ, zero, suc, ◌≤◌, List, [], ◌∷◌, ◌++◌, length, refl, arith}
use Rattle.std.proofs.lemmas.List.Sums.{fold_push}
use Rattle.ale_base.proofs.ListLemmas.{slice_get-front}
use Rattle.dist_model.specs.declared.lists.Lists.{Lists}
use Rattle.unit_core.specs.declared.records.Record.{Record}
use Rattle.unit_core.specs.declared.records.Record.TheVariants.{Genesis, Model}
use Rattle.log_models.specs.InForce.{in_force, models_after, models_in}

-- the models of a log with one more record
pub models_in-push : (log : List Record) (next : Record) → models_in (log ++ next ∷ []) ≡ models_after (models_in log) next
models_in-push log next = fold_push models_after 0 log next

-- no record takes a model away
pub models-least : (count : ℕ) (next : Record) → count ≤ models_after count next
models-least count (Genesis system text) = omega arith
models-least count (Model text) = omega arith
models-least count _ = omega arith

pub models-grow : (count : ℕ) (log : List Record) → count ≤ fold models_after count log
models-grow count [] = omega arith
models-grow count (next ∷ rest) = let one = models-least count next in let more = models-grow (models_after count next) rest in omega (arith, one, more)

-- models of later records make no difference
pub in_force-before : (models more : List Lists) (count : ℕ) → count ≤ length models → in_force (models ++ more) count ≡ in_force models count
in_force-before models more zero within = refl
in_force-before models more (suc last) within = slice_get-front models more last (omega arith)
