-- Entries whose keys have texts, and the same entries by these texts alone.
use Rattle.std.specs.declared.cmp.Ordering.{Ordering}
use Rattle.std.specs.declared.cmp.Ordering.TheVariants.{Less, Equal, Greater}
use Rattle.std.specs.Ordering.{nat_cmp, is_eq, match_ordering}
use Rattle.std.specs.Cmp.{IsTotalOrder, nat_cmp_total}
use Rattle.std.specs.Cmp.Lexicographic.{slice_cmp, lists_total}
use Rattle.std.specs.List.{AllByRecursion, AllZip, flat_map}
use Rattle.std.specs.BTreeMap.{is_at, insert_entry}
use Rattle.std.specs.Map.{keys_of, lookup, remove_entry, set_value}
use Rattle.std.specs.Option.{IsSome, unwrap_or}
use Rattle.std.specs.List.Sorted.{IsStrictlySortedBy}
use Rattle.std.proofs.Common.{◌≡◌, ℕ, Bool, true, false, cond, Option, Some, None, List, [], ◌∷◌, ◌++◌, map, refl, sym, ap, subst, ◌∙◌}
use Rattle.std.proofs.lemmas.Map.Keys.{sorted_head, sorted_tail}
use Rattle.std.proofs.lemmas.Map.Text.{is_eq-slice_cmp}
use Rattle.ale_base.specs.Text.{is_text}
use Rattle.object_store.specs.Texts.{entry_at, with_entry, without_entry}

texts_total : IsTotalOrder (slice_cmp nat_cmp)
texts_total = lists_total nat_cmp_total

module _ {K X : Type 0} (f : K → List ℕ) where
  -- the entries by the texts of their keys
  abbrev pub by_text : List (K × X) → List (List ℕ × X)
  by_text entries = map (λ entry. (f entry.0, entry.1)) entries

  -- what is found at a text is what is at it
  pub lookup-by_text : (text : List ℕ) (entries : List (K × X))
      → lookup (is_at (λ key. slice_cmp nat_cmp text (f key))) entries ≡ entry_at text (by_text entries)
  lookup-by_text text [] = refl
  lookup-by_text text (entry ∷ entries) =
      ap (λ b. cond b (Some entry.1) (lookup (is_at (λ key. slice_cmp nat_cmp text (f key))) entries)) (is_eq-slice_cmp text (f entry.0))
      ∙ ap (λ found. cond (is_text text (f entry.0)) (Some entry.1) found) (lookup-by_text text entries)

  -- an entry that is removed by its text
  pub remove-by_text : (text : List ℕ) (entries : List (K × X))
      → by_text (remove_entry (is_at (λ key. slice_cmp nat_cmp text (f key))) entries) ≡ without_entry text (by_text entries)
  remove-by_text text [] = refl
  remove-by_text text (entry ∷ entries) = step (is_at (λ key. slice_cmp nat_cmp text (f key)) entry.0) (is_text text (f entry.0))
      (is_eq-slice_cmp text (f entry.0)) (remove-by_text text entries)
    where
      step : (at its : Bool) → at ≡ its
          → by_text (remove_entry (is_at (λ key. slice_cmp nat_cmp text (f key))) entries) ≡ without_entry text (by_text entries)
          → by_text (cond at entries (entry ∷ remove_entry (is_at (λ key. slice_cmp nat_cmp text (f key))) entries))
          ≡ cond its (by_text entries) ((f entry.0, entry.1) ∷ without_entry text (by_text entries))
      step true its same rest = ap (λ b. cond b (by_text entries) ((f entry.0, entry.1) ∷ without_entry text (by_text entries))) same
      step false its same rest =
          ap (λ others. (f entry.0, entry.1) ∷ others) rest
          ∙ ap (λ b. cond b (by_text entries) ((f entry.0, entry.1) ∷ without_entry text (by_text entries))) same

  -- an entry that is inserted
  pub insert-by_text : (key : K) (value : X) (entries : List (K × X))
      → by_text (insert_entry (λ a b. slice_cmp nat_cmp (f a) (f b)) entries key value) ≡ with_entry (f key) value (by_text entries)
  insert-by_text key value [] = refl
  insert-by_text key value (entry ∷ entries) = step (slice_cmp nat_cmp (f key) (f entry.0)) (insert-by_text key value entries)
    where
      step : (order : Ordering)
          → by_text (insert_entry (λ a b. slice_cmp nat_cmp (f a) (f b)) entries key value) ≡ with_entry (f key) value (by_text entries)
          → by_text (match_ordering order ((key, value) ∷ entry ∷ entries) ((entry.0, value) ∷ entries)
          (entry ∷ insert_entry (λ a b. slice_cmp nat_cmp (f a) (f b)) entries key value))
          ≡ match_ordering order ((f key, value) ∷ (f entry.0, entry.1) ∷ by_text entries) ((f entry.0, value) ∷ by_text entries)
          ((f entry.0, entry.1) ∷ with_entry (f key) value (by_text entries))
      step Less rest = refl
      step Equal rest = refl
      step Greater rest = ap (λ others. (f entry.0, entry.1) ∷ others) rest

  -- a text that is below the first of some ascending ones is at none of the others
  not-after : (text first : List ℕ) (entries : List (K × X)) → slice_cmp nat_cmp text first ≡ Less
      → AllByRecursion (λ key. slice_cmp nat_cmp first (f key) ≡ Less) (keys_of entries)
      → lookup (is_at (λ key. slice_cmp nat_cmp text (f key))) entries ≡ None
  not-after text first [] less all = refl
  not-after text first (entry ∷ entries) less all =
      ap (λ order. cond (is_eq order) (Some entry.1) (lookup (is_at (λ key. slice_cmp nat_cmp text (f key))) entries))
      (texts_total.trans text first (f entry.0) less all.0)
      ∙ not-after text first entries less all.1

  -- what is written at a text that is there is an entry in the place of that, since those before it are below it
  pub set-by_text : (text : List ℕ) (value : X) (entries : List (K × X))
      → IsStrictlySortedBy (λ a b. slice_cmp nat_cmp (f a) (f b)) (keys_of entries)
      → IsSome (lookup (is_at (λ key. slice_cmp nat_cmp text (f key))) entries)
      → by_text (set_value (is_at (λ key. slice_cmp nat_cmp text (f key))) entries value) ≡ with_entry text value (by_text entries)
  set-by_text text value [] sorted there = absurd (cc)
  set-by_text text value (entry ∷ entries) sorted there =
      step (slice_cmp nat_cmp text (f entry.0)) refl
      (set-by_text text value entries (sorted_tail (λ a b. slice_cmp nat_cmp (f a) (f b)) entry.0 (keys_of entries) sorted)) there
    where
      its : K → Bool
      its = is_at (λ key. slice_cmp nat_cmp text (f key))

      step : (order : Ordering) → slice_cmp nat_cmp text (f entry.0) ≡ order
          → (IsSome (lookup its entries) → by_text (set_value its entries value) ≡ with_entry text value (by_text entries))
          → IsSome (cond (is_eq order) (Some entry.1) (lookup its entries))
          → by_text (cond (is_eq order) ((entry.0, value) ∷ entries) (entry ∷ set_value its entries value))
          ≡ match_ordering order ((text, value) ∷ (f entry.0, entry.1) ∷ by_text entries) ((f entry.0, value) ∷ by_text entries)
          ((f entry.0, entry.1) ∷ with_entry text value (by_text entries))
      step Less less rest there =
          let none = not-after text (f entry.0) entries less (sorted_head (λ a b. slice_cmp nat_cmp (f a) (f b)) entry.0 (keys_of entries) sorted) in
          let there_is : IsSome {T = X} None = subst IsSome none there in
          cc
      step Equal same rest there = refl
      step Greater more rest there = ap (λ others. (f entry.0, entry.1) ∷ others) (rest there)

  -- what is found at a text
  pub found-by_text : (text : List ℕ) (found : Option X) (default : X) (entries : List (K × X)) (seen : List (List ℕ × X))
      → lookup (is_at (λ key. slice_cmp nat_cmp text (f key))) entries ≡ found → by_text entries ≡ seen
      → unwrap_or found default ≡ unwrap_or (entry_at text seen) default
  found-by_text text found default entries seen is view =
      ap (λ other. unwrap_or other default) (sym is ∙ lookup-by_text text entries ∙ ap (entry_at text) view)

  -- entries that are copies of others are the same by their texts
  pub copied-by_text : (IsKey : K → K → Type 0) (IsValue : X → X → Type 0) → ((a b : K) → IsKey a b → f b ≡ f a) → ((a b : X) → IsValue a b → b ≡ a)
      → (entries copies : List (K × X)) → AllZip (λ p q. IsKey p.0 q.0 × IsValue p.1 q.1) entries copies → by_text copies ≡ by_text entries
  copied-by_text IsKey IsValue keys values [] [] all = refl
  copied-by_text IsKey IsValue keys values [] (copy ∷ copies) all = absurd all
  copied-by_text IsKey IsValue keys values (entry ∷ entries) [] all = absurd all
  copied-by_text IsKey IsValue keys values (entry ∷ entries) (copy ∷ copies) all =
      let key = keys entry.0 copy.0 all.0.0 in
      let value = values entry.1 copy.1 all.0.1 in
      ap (λ text. (text, copy.1) ∷ by_text copies) key
      ∙ ap (λ bytes. (f entry.0, bytes) ∷ by_text copies) value
      ∙ ap (λ rest. (f entry.0, entry.1) ∷ rest) (copied-by_text IsKey IsValue keys values entries copies all.1)

  -- what is made of each entry by its text
  pub map-by_text : {Y : Type 0} (g : List ℕ × X → Y) (entries : List (K × X)) → map (λ entry. g (f entry.0, entry.1)) entries ≡ map g (by_text entries)
  map-by_text g [] = refl
  map-by_text g (entry ∷ entries) = ap (λ rest. g (f entry.0, entry.1) ∷ rest) (map-by_text g entries)

  pub flat_map-by_text : {Y : Type 0} (g : List ℕ × X → List Y) (entries : List (K × X)) → flat_map (λ entry. g (f entry.0, entry.1)) entries
      ≡ flat_map g (by_text entries)
  flat_map-by_text g [] = refl
  flat_map-by_text g (entry ∷ entries) = ap (λ rest. g (f entry.0, entry.1) ++ rest) (flat_map-by_text g entries)
