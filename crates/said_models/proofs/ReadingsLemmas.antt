-- Texts that were read, by the entries of a map.
use Rattle.std.specs.declared.cmp.Ordering.{Ordering}
use Rattle.std.specs.declared.cmp.Ordering.TheVariants.{Less, Equal, Greater}
use Rattle.std.specs.Ordering.{nat_cmp, is_eq, match_ordering}
use Rattle.std.specs.Cmp.Lexicographic.{same_text, slice_cmp}
use Rattle.std.specs.BTreeMap.{is_at, insert_entry}
use Rattle.std.specs.Map.{lookup}
use Rattle.std.proofs.Common.{◌≡◌, ◌⊎◌, inl, inr, ℕ, Bool, true, false, cond, Option, Some, None, List, [], ◌∷◌, map, refl, sym, ap, ◌∙◌}
use Rattle.std.proofs.lemmas.Map.Text.{is_eq-slice_cmp}
use Rattle.std.proofs.lemmas.Option.{same_Some}
use Rattle.ale_base.specs.Text.{is_text}
use Rattle.dist_model.specs.declared.lists.Lists.{Lists}
use Rattle.said_models.specs.Said.{said}
use Rattle.said_models.specs.Readings.{Reading, AreReadings, IsAmong, Stay}

module _ {K X : Type 0} (f : K → List ℕ) (g : X → Lists) where
  -- the readings of entries
  abbrev pub by_text : List (K × X) → List Reading
  by_text entries = map (λ entry. record { text = f entry.0; model = g entry.1 }) entries

  -- texts that compare as equal are the same
  equal-text : (text other : List ℕ) → is_eq (slice_cmp nat_cmp text other) ≡ true → text ≡ other
  equal-text text other same = same_text text other (sym (sym (is_eq-slice_cmp text other) ∙ same))

  -- what is found at a text is the model that it says
  pub found-said : (text : List ℕ) (entries : List (K × X)) (found : X) → AreReadings (by_text entries)
      → lookup (is_at (λ key. slice_cmp nat_cmp text (f key))) entries ≡ Some found → said text ≡ Some (g found)
  found-said text [] found are is = absurd (cc)
  found-said text (entry ∷ entries) found are is =
      step (is_eq (slice_cmp nat_cmp text (f entry.0))) refl (found-said text entries found are.1) is
    where
      step : (b : Bool) → is_eq (slice_cmp nat_cmp text (f entry.0)) ≡ b
          → (lookup (is_at (λ key. slice_cmp nat_cmp text (f key))) entries ≡ Some found → said text ≡ Some (g found))
          → cond b (Some entry.1) (lookup (is_at (λ key. slice_cmp nat_cmp text (f key))) entries) ≡ Some found → said text ≡ Some (g found)
      step true same rest is =
          ap said (equal-text text (f entry.0) same) ∙ are.0 ∙ ap (λ x. Some (g x)) (same_Some entry.1 found is)
      step false same rest is = rest is

  -- a text that is entered with the model that it says is a reading among the others
  pub entered-said : (key : K) (value : X) (entries : List (K × X)) → said (f key) ≡ Some (g value) → AreReadings (by_text entries)
      → AreReadings (by_text (insert_entry (λ a b. slice_cmp nat_cmp (f a) (f b)) entries key value))
  entered-said key value [] says are = (says, tt)
  entered-said key value (entry ∷ entries) says are =
      step (slice_cmp nat_cmp (f key) (f entry.0)) refl (entered-said key value entries says are.1)
    where
      step : (order : Ordering) → slice_cmp nat_cmp (f key) (f entry.0) ≡ order
          → AreReadings (by_text (insert_entry (λ a b. slice_cmp nat_cmp (f a) (f b)) entries key value))
          → AreReadings (by_text (match_ordering order ((key, value) ∷ entry ∷ entries) ((entry.0, value) ∷ entries)
          (entry ∷ insert_entry (λ a b. slice_cmp nat_cmp (f a) (f b)) entries key value)))
      step Less is rest = (says, are)
      step Equal is rest = (ap said (sym (equal-text (f key) (f entry.0) (ap is_eq is))) ∙ says, are.1)
      step Greater is rest = (are.0, rest)

  -- what is found at a text is among the readings
  pub found-among : (text : List ℕ) (entries : List (K × X)) (found : X)
      → lookup (is_at (λ key. slice_cmp nat_cmp text (f key))) entries ≡ Some found → IsAmong (by_text entries) text (g found)
  found-among text [] found is = absurd (cc)
  found-among text (entry ∷ entries) found is =
      step (is_eq (slice_cmp nat_cmp text (f entry.0))) refl (found-among text entries found) is
    where
      step : (b : Bool) → is_eq (slice_cmp nat_cmp text (f entry.0)) ≡ b
          → (lookup (is_at (λ key. slice_cmp nat_cmp text (f key))) entries ≡ Some found → IsAmong (by_text entries) text (g found))
          → cond b (Some entry.1) (lookup (is_at (λ key. slice_cmp nat_cmp text (f key))) entries) ≡ Some found
          → IsAmong (by_text (entry ∷ entries)) text (g found)
      step true same rest is = inl (sym (equal-text text (f entry.0) same), ap g (same_Some entry.1 found is))
      step false same rest is = inr (rest is)

  -- a text that is entered is among the readings
  pub entered-among : (key : K) (value : X) (entries : List (K × X))
      → IsAmong (by_text (insert_entry (λ a b. slice_cmp nat_cmp (f a) (f b)) entries key value)) (f key) (g value)
  entered-among key value [] = inl (refl, refl)
  entered-among key value (entry ∷ entries) = step (slice_cmp nat_cmp (f key) (f entry.0)) refl (entered-among key value entries)
    where
      step : (order : Ordering) → slice_cmp nat_cmp (f key) (f entry.0) ≡ order
          → IsAmong (by_text (insert_entry (λ a b. slice_cmp nat_cmp (f a) (f b)) entries key value)) (f key) (g value)
          → IsAmong (by_text (match_ordering order ((key, value) ∷ entry ∷ entries) ((entry.0, value) ∷ entries)
          (entry ∷ insert_entry (λ a b. slice_cmp nat_cmp (f a) (f b)) entries key value))) (f key) (g value)
      step Less is rest = inl (refl, refl)
      step Equal is rest = inl (sym (equal-text (f key) (f entry.0) (ap is_eq is)), refl)
      step Greater is rest = inr rest

  -- what was read before a text is entered with the model that it says stays so: a text says one model
  pub entered-stay : (key : K) (value : X) (entries : List (K × X)) → said (f key) ≡ Some (g value) → AreReadings (by_text entries)
      → Stay (by_text entries) (by_text (insert_entry (λ a b. slice_cmp nat_cmp (f a) (f b)) entries key value))
  entered-stay key value [] says are text model was = absurd was
  entered-stay key value (entry ∷ entries) says are text model was =
      step (slice_cmp nat_cmp (f key) (f entry.0)) refl was (entered-stay key value entries says are.1 text model)
    where
      one_model : slice_cmp nat_cmp (f key) (f entry.0) ≡ Equal → g value ≡ g entry.1
      one_model is = same_Some (g value) (g entry.1) (sym says ∙ ap said (equal-text (f key) (f entry.0) (ap is_eq is)) ∙ are.0)

      step : (order : Ordering) → slice_cmp nat_cmp (f key) (f entry.0) ≡ order → IsAmong (by_text (entry ∷ entries)) text model
          → (IsAmong (by_text entries) text model
          → IsAmong (by_text (insert_entry (λ a b. slice_cmp nat_cmp (f a) (f b)) entries key value)) text model)
          → IsAmong (by_text (match_ordering order ((key, value) ∷ entry ∷ entries) ((entry.0, value) ∷ entries)
          (entry ∷ insert_entry (λ a b. slice_cmp nat_cmp (f a) (f b)) entries key value))) text model
      step Less is was rest = inr was
      step Equal is (inl its) rest = inl (its.0, one_model is ∙ its.1)
      step Equal is (inr its) rest = inr its
      step Greater is (inl its) rest = inl its
      step Greater is (inr its) rest = inr (rest its)
