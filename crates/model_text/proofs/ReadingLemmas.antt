-- The answer to the bytes of a text.
use Rattle.std.specs.Prelude.{IfOk, MatchResult}
use Rattle.std.proofs.Common.{◌≡◌, ℕ, cond, Option, None, Result, Ok, Err, List, ap, sym, subst, ◌∙◌, inl, inr}
use Rattle.dist_model.specs.declared.lists.Lists.{Lists}
use Rattle.model_text.specs.declared.fault.ModelFault.{ModelFault}
use Rattle.std.specs.Str.{is_utf8, IsUtf8}
use Rattle.std.proofs.lemmas.Bool.{cases_Bool}
use Rattle.std.proofs.lemmas.Str.{is_utf8-from_IsUtf8, IsUtf8-from_is_utf8}
use Rattle.toml.specs.Parse.{parse_document}
use Rattle.toml.specs.Data.{Members}
use Rattle.model_keys.specs.declared.finding.Cause.TheVariants as causes
use Rattle.model_keys.specs.declared.finding.Cause.{Cause}
use Rattle.model_keys.specs.declared.finding.ReadError.{ReadError}
use Rattle.model_keys.specs.declared.finding.ReadError.TheVariants as errors
use Rattle.model_keys.specs.Finding.{Fails}
use Rattle.model_text.specs.declared.fault.ModelFault.TheVariants.{OutOfMemory, Toml}
use Rattle.model_text.specs.Model.{model_of}
use Rattle.model_text.specs.Text.{answer, answer_of_table, answer_to, fault_at, fault_of, Reads}

-- bytes that are no UTF-8 are no text
pub answer_to-no_text : (bytes : List ℕ) → (IsUtf8 bytes → ⊥) → answer_to bytes ≡ Err Toml
answer_to-no_text bytes not_text = elim (cases_Bool (is_utf8 bytes)) [
  | inl is ↦ absurd (not_text (IsUtf8-from_is_utf8 bytes is))
  | inr none ↦ ap (λ b. answer_of_table (cond b (parse_document bytes) None)) none
]

-- the answer to a text is that to what the reader of TOML makes of it
pub answer_to-text : (bytes : List ℕ) (found : Option Members) → IsUtf8 bytes → parse_document bytes ≡ found → answer_to bytes ≡ answer_of_table found
answer_to-text bytes found is parsed =
    ap (λ b. answer_of_table (cond b (parse_document bytes) None)) (is_utf8-from_IsUtf8 bytes is) ∙ ap answer_of_table parsed

fault-said : (cause : Cause) (path : List ℕ) (bytes : List ℕ) → answer_to bytes ≡ Err (fault_at cause path) → Reads (Err (fault_at cause path)) bytes
fault-said causes.Missing path bytes is = is
fault-said causes.Unknown path bytes is = is
fault-said causes.Wrong path bytes is = is
fault-said causes.Twice path bytes is = is
fault-said causes.Limit path bytes is = is
fault-said causes.MandatoryRemoved path bytes is = is
fault-said causes.NoVersion path bytes is = is

-- what fails so is answered so
pub Reads-fails : (bytes : List ℕ) (table : Members) (error : ReadError) → answer_to bytes ≡ answer (model_of table) → Fails error (model_of table) →
    Reads (Err (fault_of error)) bytes
Reads-fails bytes table errors.Memory is fails = tt
Reads-fails bytes table (errors.Found finding) is fails = fault-said finding.cause finding.path bytes (is ∙ ap answer fails)

-- the lists with their index, or want of memory
abbrev IsIndexed : Lists → Result Lists ModelFault → Type 0
IsIndexed lists r = MatchResult r (λ model. model ≡ lists) (λ fault. fault ≡ OutOfMemory)

-- what is read of lists with their index is what is read of them
pub Reads-indexed : (bytes : List ℕ) (lists : Lists) (r : Result Lists ModelFault) → IsIndexed lists r → answer_to bytes ≡ Ok lists → Reads r bytes
Reads-indexed bytes lists (Ok model) same is = is ∙ ap Ok (sym same)
Reads-indexed bytes lists (Err fault) memory is = subst (λ (f : ModelFault). Reads (Err f) bytes) (sym memory) tt

-- what holds of lists holds of them with their index
pub IfOk-indexed : (P : Lists → Type 0) (lists : Lists) (r : Result Lists ModelFault) → IsIndexed lists r → P lists → IfOk r P
IfOk-indexed P lists (Ok model) same here = subst P (sym same) here
IfOk-indexed P lists (Err fault) memory here = tt
