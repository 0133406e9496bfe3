-- The rows of a model, by their places.
use Rattle.std.specs.Prelude.{nat_eq, option_and_then, position, slice_get, ◌&&◌}
use Rattle.std.specs.List.{AllByRecursion}
use Rattle.std.specs.Option.{option_map, option_map_or}
use Rattle.std.proofs.Common.{◌≡◌, inl, inr, ℕ, suc, ◌+◌, ◌<◌, Bool, true, Option, Some, None, List, [], ◌∷◌, ◌++◌, length, refl, ap, subst, sym, ◌∙◌, arith}
use Rattle.std.proofs.Common.{length-append, append_assoc}
use Rattle.std.proofs.lemmas.Bool.{and_parts, cases_Bool, cond-true, cond-false, eqb-true}
use Rattle.std.proofs.lemmas.List.Quantifiers.{position-Some}
use Rattle.std.proofs.lemmas.Option.{get_or_from_slice_get, slice_get-map}
use Rattle.ale_base.proofs.ListLemmas.{AllByRecursion-weaker}
use Rattle.dist_model.specs.declared.lists.Lists.{Lists}
use Rattle.dist_model.specs.declared.outbound.Outbound.{Outbound}
use Rattle.dist_model.specs.declared.row.Row.{Row}
use Rattle.dist_model.specs.Way.{outbound_way, outbound_ways, row_way, same_way}
use Rattle.dist_model.specs.Model.{places_from, goes_from, outbound_of, receivers_of}
use Rattle.outbound_build.specs.Sent.{message_of}

slice_get-here : {A : Type 0} (front rest : List A) (x : A) → slice_get (front ++ x ∷ rest) (length front) ≡ Some x
slice_get-here [] rest x = refl
slice_get-here (y ∷ front) rest x = slice_get-here front rest x

-- the places of elements that pass are places of the list
pub places_from-within : {A : Type 0} (test : A → Bool) (place : ℕ) (xs : List A) → AllByRecursion (λ k. k < place + length xs) (places_from test place xs)
places_from-within test place [] = tt
places_from-within test place (x ∷ xs) =
    let rest : AllByRecursion (λ k. k < place + suc (length xs)) (places_from test (suc place) xs) =
    AllByRecursion-weaker (λ k. k < suc place + length xs) (λ k. k < place + suc (length xs)) (places_from test (suc place) xs) (λ k less. omega arith)
    (places_from-within test (suc place) xs) in
    let here : place < place + suc (length xs) = omega arith in
    elim (cases_Bool (test x)) [
      | inl is ↦
          subst (AllByRecursion (λ k. k < place + suc (length xs)))
          (sym (cond-true (test x) (place ∷ places_from test (suc place) xs) (places_from test (suc place) xs) is)) (here, rest)
      | inr other ↦
          subst (AllByRecursion (λ k. k < place + suc (length xs)))
          (sym (cond-false (test x) (place ∷ places_from test (suc place) xs) (places_from test (suc place) xs) other)) rest
    ]

-- the rows of a sender and a message type are rows of the model
pub receivers-within : (sender message : ℕ) (model : Lists) → AllByRecursion (λ row. row < length model.rows) (receivers_of sender message model)
receivers-within sender message model =
    AllByRecursion-weaker (λ k. k < 0 + length model.rows) (λ k. k < length model.rows) (receivers_of sender message model) (λ k less. omega arith)
    (places_from-within (goes_from sender message) 0 model.rows)

-- a profile is of the way of a row
pub record IsOfRow (row : Row) (profile : Outbound) : Type 0 where
  pub sender : profile.sender ≡ row.sender
  pub receiver : profile.receiver ≡ row.receiver
  pub message : profile.message ≡ row.message

-- the profile of a row is of its way
pub profile-row : (model : Lists) (place : ℕ) (row : Row) (profile : Outbound) → slice_get model.rows place ≡ Some row
    → outbound_of model place ≡ Some profile → IsOfRow row profile
profile-row model place row profile at found =
    by_place (position (same_way (row_way row)) (outbound_ways model.outbound)) refl
    (sym (ap (option_and_then (λ r. option_and_then (slice_get model.outbound) (position (same_way (row_way r)) (outbound_ways model.outbound)))) at) ∙ found)
  where
    by_place : (o : Option ℕ) → position (same_way (row_way row)) (outbound_ways model.outbound) ≡ o
        → option_and_then (slice_get model.outbound) o ≡ Some profile → IsOfRow row profile
    by_place None is here = absurd (cc)
    by_place (Some k) is here =
        let way = outbound_way profile in
        let there : slice_get (outbound_ways model.outbound) k ≡ Some way = slice_get-map (λ (p : Outbound). outbound_way p) model.outbound k
        ∙ ap (option_map (λ (p : Outbound). outbound_way p)) here in
        let passes = (position-Some (same_way (row_way row)) (outbound_ways model.outbound) k way is).1 in
        let same : same_way (row_way row) way ≡ true
        = sym (ap (same_way (row_way row)) (get_or_from_slice_get (outbound_ways model.outbound) k way way there)) ∙ passes in
        let first = and_parts (nat_eq row.sender profile.sender) (nat_eq row.receiver profile.receiver && nat_eq row.message profile.message) same in
        let last = and_parts (nat_eq row.receiver profile.receiver) (nat_eq row.message profile.message) first.1 in
        record {
          sender = sym (eqb-true row.sender profile.sender first.0);
          receiver = sym (eqb-true row.receiver profile.receiver last.0);
          message = sym (eqb-true row.message profile.message last.1);
        }

-- the profile of a row is of the row's message type
pub profile-message : (model : Lists) (place : ℕ) (profile : Outbound) → outbound_of model place ≡ Some profile → profile.message ≡ message_of model place
profile-message model place profile found = of_row (slice_get model.rows place) refl found
  where
    of_row : (o : Option Row) → slice_get model.rows place ≡ o
        → option_and_then (λ is. option_and_then (slice_get model.outbound) (position (same_way (row_way is)) (outbound_ways model.outbound))) o ≡ Some profile
        → profile.message ≡ option_map_or (λ is. is.message) o 0
    of_row None at found = absurd (cc)
    of_row (Some row) at is = (profile-row model place row profile at found).message

-- at a place of a list is an element that passes
pub record HasAt {A : Type 0} (test : A → Bool) (all : List A) (place : ℕ) : Type 0 where
  pub element : A
  pub here : slice_get all place ≡ Some element
  pub passes : test element ≡ true

-- at each place of elements that pass is one
pub places_from-pass : {A : Type 0} (test : A → Bool) (place : ℕ) (front xs : List A) → length front ≡ place
    → AllByRecursion (HasAt test (front ++ xs)) (places_from test place xs)
places_from-pass test place front [] long = tt
places_from-pass {A} test place front (x ∷ xs) long =
    let all = front ++ x ∷ xs in
    let longer : length (front ++ x ∷ []) ≡ suc place = omega (arith, length-append front (x ∷ [])) in
    let rest : AllByRecursion (HasAt test all) (places_from test (suc place) xs)
    = subst (λ (ys : List A). AllByRecursion (HasAt test ys) (places_from test (suc place) xs)) (append_assoc front (x ∷ []) xs)
    (places_from-pass test (suc place) (front ++ x ∷ []) xs longer) in
    elim (cases_Bool (test x)) [
      | inl is ↦
          subst (AllByRecursion (HasAt test all)) (sym (cond-true (test x) (place ∷ places_from test (suc place) xs) (places_from test (suc place) xs) is))
          (record { element = x; here = ap (slice_get all) (sym long) ∙ slice_get-here front xs x; passes = is }, rest)
      | inr other ↦
          subst (AllByRecursion (HasAt test all))
          (sym (cond-false (test x) (place ∷ places_from test (suc place) xs) (places_from test (suc place) xs) other)) rest
    ]

-- the rows of a sender and a message type are of that message type
pub receivers-message : (sender message : ℕ) (model : Lists) → AllByRecursion (λ row. message_of model row ≡ message) (receivers_of sender message model)
receivers-message sender message model =
    AllByRecursion-weaker (HasAt (goes_from sender message) model.rows) (λ row. message_of model row ≡ message) (receivers_of sender message model) told
    (places_from-pass (goes_from sender message) 0 [] model.rows refl)
  where
    told : (k : ℕ) → HasAt (goes_from sender message) model.rows k → message_of model k ≡ message
    told k has =
        let row = has.element in
        ap (λ (o : Option Row). option_map_or (λ is. is.message) o 0) has.here
        ∙ sym (eqb-true message row.message (and_parts (nat_eq sender row.sender) (nat_eq message row.message) has.passes).1)
