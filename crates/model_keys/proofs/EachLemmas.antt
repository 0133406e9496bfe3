-- Lists, element by element: how a loop over the values of a list reads it, and what it keeps.
use Rattle.std.proofs.Common.{◌≡◌, ℕ, suc, ◌+◌, ◌<◌, ◌≤◌, length, List, [], ◌∷◌, ◌++◌, Result, Ok, Err, drop, get_or, sym, ap, ◌∙◌, arith}
use Rattle.std.proofs.lemmas.List.{drop_all}
use Rattle.toml.specs.Data.{Data, Items, no_items, item}
use Rattle.toml.specs.View.{view, items_view}
use Rattle.toml.specs.declared.value.Value.{Value}
use Rattle.toml.proofs.Views.{items_view-drop}
use Rattle.model_keys.specs.declared.finding.Finding.{Finding}
use Rattle.model_keys.specs.declared.finding.ReadError.{ReadError}
use Rattle.model_keys.specs.declared.finding.ReadError.TheVariants as errors
use Rattle.model_keys.specs.Finding.{within, Fails, Deepens}
use Rattle.model_keys.specs.Each.{each}

module _ {A : Type 0} (key : List ℕ) (read : List A → Data → Result A Finding) where
  each-goes : (place : ℕ) (done : List A) (d : Data) (rest : Items) (a : A) (total : Result (List A) Finding) → read done d ≡ Ok a
      → each key read place done (item d rest) ≡ total → each key read (suc place) (done ++ a ∷ []) rest ≡ total
  unfolding each
  each-goes place done d rest a total is so_far =
      let one : each key read place done (item d rest) ≡ each key read (suc place) (done ++ a ∷ []) rest = rw is in
      sym one ∙ so_far

  each-fails : (e out : ReadError) (place : ℕ) (done : List A) (d : Data) (rest : Items) (total : Result (List A) Finding) → Fails e (read done d)
      → Deepens key place e out → each key read place done (item d rest) ≡ total → Fails out total
  unfolding each
  each-fails errors.Memory out place done d rest total is deep so_far = rw deep tt
  each-fails (errors.Found f) errors.Memory place done d rest total is deep so_far = tt
  each-fails (errors.Found f) (errors.Found g) place done d rest total is deep so_far =
      let inner : within {A = A} key place (read done d) ≡ Err g = rw is cc in
      let one : each key read place done (item d rest) ≡ Err g = rw inner in
      sym so_far ∙ one

  each-ends : (place : ℕ) (done : List A) (total : Result (List A) Finding) → each key read place done no_items ≡ total → total ≡ Ok done
  unfolding each
  each-ends place done total so_far = sym so_far

module _ {A : Type 0} (key : List ℕ) (read : List A → Data → Result A Finding) (values : List Value) (place : ℕ) (total : Result (List A) Finding) where
  at_item : (done : List A) (v : Value) → v ≡ get_or values place v → place < length values
      → each key read place done (items_view (drop place values)) ≡ each key read place done (item (view v) (items_view (drop (place + 1) values)))
  at_item done v there more = ap (each key read place done)
      (items_view-drop values place v more ∙ ap (λ w. item (view w) (items_view (drop (place + 1) values))) (sym there))

  -- one more element of the list was read
  pub loop-goes : (done : List A) (v : Value) (a : A) → v ≡ get_or values place v → place < length values → read done (view v) ≡ Ok a
      → each key read place done (items_view (drop place values)) ≡ total → each key read (place + 1) (done ++ a ∷ []) (items_view (drop (place + 1) values))
      ≡ total
  loop-goes done v a there more is so_far =
      let next : place + 1 ≡ suc place = omega arith in
      ap (λ k. each key read k (done ++ a ∷ []) (items_view (drop (place + 1) values))) next
      ∙ each-goes key read place done (view v) (items_view (drop (place + 1) values)) a total is (sym (at_item done v there more) ∙ so_far)

  -- an element is not read
  pub loop-fails : (e out : ReadError) (done : List A) (v : Value) → v ≡ get_or values place v → place < length values → Fails e (read done (view v))
      → Deepens key place e out → each key read place done (items_view (drop place values)) ≡ total → Fails out total
  loop-fails e out done v there more is deep so_far =
      each-fails key read e out place done (view v) (items_view (drop (place + 1) values)) total is deep (sym (at_item done v there more) ∙ so_far)

  -- all were read
  pub loop-ends : (done : List A) → length values ≤ place → each key read place done (items_view (drop place values)) ≡ total → total ≡ Ok done
  loop-ends done all so_far = each-ends key read place done total (ap (λ vs. each key read place done (items_view vs)) (sym (drop_all place values all))
      ∙ so_far)
