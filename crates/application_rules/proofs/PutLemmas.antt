-- What is found in a list.
use Rattle.std.specs.Prelude.{cond}
use Rattle.std.specs.List.{AllByRecursion, find}
use Rattle.std.proofs.Common.{◌≡◌, Bool, true, false, Option, Some, List, [], ◌∷◌, subst}
use Rattle.std.proofs.lemmas.Option.{same_Some}

found-step : {A : Type 0} (P : A → Type 0) (b : Bool) (y x : A) (rest : Option A) → P y → (rest ≡ Some x → P x) → cond b (Some y) rest ≡ Some x → P x
found-step P true y x rest first others is = subst P (same_Some y x is) first
found-step P false y x rest first others is = others is

-- what holds of each element holds of the one that is found
pub find-keeps : {A : Type 0} (P : A → Type 0) (test : A → Bool) (xs : List A) (x : A) → AllByRecursion P xs → find test xs ≡ Some x → P x
find-keeps P test [] x all is = absurd (cc)
find-keeps P test (y ∷ ys) x all is = found-step P (test y) y x (find test ys) all.0 (find-keeps P test ys x all.1) is
