-- Lists, each element checked: how a loop over a list checks it.
use Rattle.std.proofs.Common.{◌≡◌, ℕ, suc, ◌+◌, ◌<◌, ◌≤◌, Bool, true, List, [], ◌∷◌, length, drop, get_or, Result, Ok, Err, sym, ap, ◌∙◌, arith}
use Rattle.std.proofs.lemmas.List.{drop_all, drop_more}
use Rattle.std.specs.List.{AllByRecursion}
use Rattle.model_keys.specs.declared.finding.Finding.{Finding}
use Rattle.model_keys.specs.declared.finding.ReadError.{ReadError}
use Rattle.model_keys.specs.declared.finding.ReadError.TheVariants as errors
use Rattle.model_keys.specs.Finding.{within, Deepens, Fails}
use Rattle.model_keys.proofs.KeepsLemmas.{from_bind, within-ok}
use Rattle.model_text.specs.Checked.{checked}

module _ {A : Type 0} (key : List ℕ) (test : A → Result Bool Finding) where
  goes : (place : ℕ) (a : A) (rest : List A) (total : Result Bool Finding) → test a ≡ Ok true → checked key test place (a ∷ rest) ≡ total →
      checked key test (suc place) rest ≡ total
  unfolding checked
  goes place a rest total is so_far =
      let one : checked key test place (a ∷ rest) ≡ checked key test (suc place) rest = rw is in
      sym one ∙ so_far

  fails : (e out : ReadError) (place : ℕ) (a : A) (rest : List A) (total : Result Bool Finding) → Fails e (test a) → Deepens key place e out →
      checked key test place (a ∷ rest) ≡ total → Fails out total
  unfolding checked
  fails errors.Memory out place a rest total is deep so_far = rw deep tt
  fails (errors.Found f) errors.Memory place a rest total is deep so_far = tt
  fails (errors.Found f) (errors.Found g) place a rest total is deep so_far =
      let inner : within {A = Bool} key place (test a) ≡ Err g = rw is cc in
      let one : checked key test place (a ∷ rest) ≡ Err g = rw inner in
      sym so_far ∙ one

  ends : (place : ℕ) (total : Result Bool Finding) → checked key test place [] ≡ total → total ≡ Ok true
  unfolding checked
  ends place total so_far = sym so_far

  -- each element passed
  pub checked-keeps : (place : ℕ) (all : List A) (y : Bool) → checked key test place all ≡ Ok y → AllByRecursion (λ a. (b : Bool) × (test a ≡ Ok b)) all
  unfolding checked
  checked-keeps place [] y h = tt
  checked-keeps place (a ∷ rest) y h =
      let (one, is, next) = from_bind (within key place (test a)) (λ one. checked key test (suc place) rest) y h in
      ((one, within-ok key place (test a) one is), checked-keeps (suc place) rest y next)

module _ {A : Type 0} (key : List ℕ) (test : A → Result Bool Finding) (all : List A) (place : ℕ) (total : Result Bool Finding) where
  at_item : (a : A) → a ≡ get_or all place a → place < length all → checked key test place (drop place all) ≡ checked key test place (a ∷ drop (place + 1) all)
  at_item a there more = ap (checked key test place) (drop_more all place a more ∙ ap (λ x. x ∷ drop (place + 1) all) (sym there))

  -- one more element passed
  pub loop-goes : (a : A) → a ≡ get_or all place a → place < length all → test a ≡ Ok true
      → checked key test place (drop place all) ≡ total → checked key test (place + 1) (drop (place + 1) all) ≡ total
  loop-goes a there more is so_far =
      let next : place + 1 ≡ suc place = omega arith in
      ap (λ k. checked key test k (drop (place + 1) all)) next ∙ goes key test place a (drop (place + 1) all) total is (sym (at_item a there more) ∙ so_far)

  -- an element does not pass
  pub loop-fails : (e out : ReadError) (a : A) → a ≡ get_or all place a → place < length all → Fails e (test a) → Deepens key place e out
      → checked key test place (drop place all) ≡ total → Fails out total
  loop-fails e out a there more is deep so_far = fails key test e out place a (drop (place + 1) all) total is deep (sym (at_item a there more) ∙ so_far)

  -- all passed
  pub loop-ends : length all ≤ place → checked key test place (drop place all) ≡ total → total ≡ Ok true
  loop-ends none so_far = ends key test place total (ap (checked key test place) (sym (drop_all place all none)) ∙ so_far)
