-- Words of a command line, by their count.
use Rattle.std.specs.Prelude.{codes}
use Rattle.std.specs.Option.{option_map}
use Rattle.ale_base.specs.Text.{is_text}
use Rattle.std.proofs.Common.{◌≡◌, ℕ, zero, suc, Bool, true, false, cond, ◌<◌, ◌≤◌, Option, Some, None, List, [], ◌∷◌, length, map, get_or, refl, sym, ap}
use Rattle.std.proofs.Common.{arith}
use Rattle.ale_host.specs.declared.words.Form.TheVariants.{Load, Pass, Run}
use Rattle.ale_host.specs.Words.{form_of, pass_form, document_file}

-- two words
pub form_of-two : {A : Type 0} (f : A → List ℕ) (words : List A) (command : A) → 2 ≤ length words → length words < 3 → command ≡ get_or words 0 command →
    form_of (map f words) ≡ pass_form (f command)
form_of-two f [] command least most here = absurd (omega arith)
form_of-two f (a ∷ []) command least most here = absurd (omega arith)
form_of-two f (a ∷ b ∷ []) command least most here = ap (λ word. pass_form (f word)) (sym here)
form_of-two f (a ∷ b ∷ c ∷ more) command least most here = absurd (omega arith)

-- four words
pub form_of-four : {A : Type 0} (f : A → List ℕ) (words : List A) → 4 ≤ length words → length words < 5 → form_of (map f words) ≡ None
form_of-four f [] least most = absurd (omega arith)
form_of-four f (a ∷ []) least most = absurd (omega arith)
form_of-four f (a ∷ b ∷ []) least most = absurd (omega arith)
form_of-four f (a ∷ b ∷ c ∷ []) least most = absurd (omega arith)
form_of-four f (a ∷ b ∷ c ∷ d ∷ []) least most = refl
form_of-four f (a ∷ b ∷ c ∷ d ∷ e ∷ more) least most = absurd (omega arith)

pub ruleset four_words = (form_of-four)

-- the second word of `pass` is the name of the document file
pub document_file-second : {A : Type 0} (f : A → List ℕ) (words : List A) (word : A) → form_of (map f words) ≡ Some Pass → word ≡ get_or words 1 word →
    document_file (map f words) ≡ f word
document_file-second f [] word is_pass here = absurd (cc)
document_file-second f (a ∷ []) word is_pass here = absurd (cc)
document_file-second f (a ∷ b ∷ more) word is_pass here = ap f (sym here)

-- a word of the command line, as it is named by its place
pub word-at : {A : Type 0} (f : A → List ℕ) (words : List A) (place : ℕ) (word : A) → place < length words → word ≡ get_or words place word → get_or
    (map f words) place [] ≡ f word
word-at f [] place word within here = absurd (omega (arith, within))
word-at f (first ∷ words) zero word within here = ap f (sym here)
word-at f (first ∷ words) (suc place) word within here = word-at f words place word (omega (arith, within)) here

-- `run` has five words
pub run-five : {A : Type 0} (f : A → List ℕ) (words : List A) → form_of (map f words) ≡ Some Run → 5 ≤ length words
run-five f [] is_run = absurd (cc)
run-five f (a ∷ []) is_run = absurd (cc)
run-five f (a ∷ b ∷ []) is_run = absurd (no_pass (is_text (f a) (codes "pass")) is_run)
  where
    no_pass : (b : Bool) → cond b (Some Pass) None ≡ Some Run → ⊥
    no_pass true h = cc
    no_pass false h = cc
run-five f (a ∷ b ∷ c ∷ []) is_run = absurd (no_load _ _ is_run)
  where
    no_load : (b : Bool) (count : Option ℕ) → cond b (option_map Load count) None ≡ Some Run → ⊥
    no_load true (Some n) h = cc
    no_load true None h = cc
    no_load false count h = cc
run-five f (a ∷ b ∷ c ∷ d ∷ []) is_run = absurd (cc)
run-five f (a ∷ b ∷ c ∷ d ∷ e ∷ more) is_run = omega arith
