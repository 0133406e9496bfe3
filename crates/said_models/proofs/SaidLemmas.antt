-- A text that says a model says one that keeps the rules of models; and texts among those that were read.
use Rattle.std.specs.Prelude.{Result, slice_index_or, if◌then◌else◌}
use Rattle.std.specs.List.{AllByRecursion}
use Rattle.std.specs.Str.{is_utf8}
use Rattle.std.proofs.Common.{◌≡◌, ℕ, zero, suc, ◌<◌, Option, Some, None, Ok, Err, List, [], ◌∷◌, length, refl, sym, subst, arith}
use Rattle.std.proofs.lemmas.Option.{same_Some}
use Rattle.toml.specs.Parse.{parse_document}
use Rattle.toml.specs.Data.{Members}
use Rattle.dist_model.specs.declared.lists.Lists.{Lists}
use Rattle.dist_model.specs.Model.{IsModel}
use Rattle.model_keys.specs.declared.finding.Finding.{Finding}
use Rattle.model_text.specs.Model.{model_of}
use Rattle.model_text.specs.Text.{answer, answer_of_table}
use Rattle.model_text.proofs.ModelRules.{model_of-keeps}
use Rattle.said_models.specs.Said.{of_answer, said}

of_reading : (table : Members) (model : Lists) (read : Result Lists Finding) → model_of table ≡ read → of_answer (answer read) ≡ Some model → IsModel model
of_reading table model (Ok lists) is same = subst IsModel (same_Some lists model same) (model_of-keeps table lists is)
of_reading table model (Err finding) is same = absurd (cc)

of_parsed : (parsed : Option Members) (model : Lists) → of_answer (answer_of_table parsed) ≡ Some model → IsModel model
of_parsed None model same = absurd (cc)
of_parsed (Some table) model same = of_reading table model (model_of table) refl same

-- the rules of models are kept
pub said-kept : (text : List ℕ) (model : Lists) → said text ≡ Some model → IsModel model
unfolding said
said-kept text model same = of_parsed (if is_utf8 text then parse_document text else None) model same

-- ---- texts that were read

-- what is true of each element is true of the one at an index
pub all-index : {A : Type 0} (P : A → Type 0) (xs : List A) (i : ℕ) (d x : A) → AllByRecursion P xs → i < length xs → x ≡ slice_index_or xs i d → P x
all-index P [] i d x all within is = absurd (omega arith)
all-index P (y ∷ ys) zero d x all within is = subst P (sym is) all.0
all-index P (y ∷ ys) (suc i) d x all within is = all-index P ys i d x all.1 (omega arith) is
