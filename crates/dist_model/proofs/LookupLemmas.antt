-- What is looked up in a model through its index.
use Rattle.std.specs.Prelude.{Contains, filter, nat_eq, nat_lt, option_and_then, position, slice_get, ◌↔◌}
use Rattle.std.specs.List.{AllByRecursion, find}
use Rattle.std.specs.Option.{option_map, option_map_or}
use Rattle.std.proofs.Common.{◌≡◌, ℕ, suc, ◌+◌, ◌-◌, ◌<◌, ◌≤◌, ◌&&◌, Bool, true, false, cond, Option, Some, None, List, [], ◌∷◌, ◌++◌, length, map, refl, sym}
use Rattle.std.proofs.Common.{ap, ◌∙◌, append_assoc, inl, inr, arith}
use Rattle.std.proofs.lemmas.Bool.{cases_Bool}
use Rattle.std.proofs.lemmas.Bool.Decides.{nat_tests}
use Rattle.std.proofs.lemmas.List.{length-append, length-map}
use Rattle.std.proofs.lemmas.List.Quantifiers.{position-Some}
use Rattle.std.proofs.lemmas.Option.{slice_get-map, slice_get_within}
use Rattle.ale_base.specs.Text.{is_text}
use Rattle.ale_base.proofs.ListLemmas.{Contains-at, slice_get-behind, slice_get-front, slice_get-within}
use Rattle.ale_base.proofs.MemberLemmas.{Contains-cons, Contains-nil}
use Rattle.ale_base.proofs.OptionLemmas.{none_or_some, option_map-Some}
use Rattle.segment_defs.proofs.NameLemmas.{position-name, position-none, position-only}
use Rattle.dist_model.specs.Triple.{same_triple}
use Rattle.dist_model.specs.declared.inbound.Inbound.{Inbound}
use Rattle.dist_model.specs.declared.lists.Lists.{Lists}
use Rattle.dist_model.specs.declared.message.Message.{Message}
use Rattle.dist_model.specs.declared.message.Reduced.{Reduced}
use Rattle.dist_model.specs.declared.outbound.Outbound.{Outbound}
use Rattle.dist_model.specs.declared.row.Row.{Row}
use Rattle.dist_model.specs.Inbound.{is_inbound}
use Rattle.dist_model.specs.Message.{message_names, reduced_names}
use Rattle.dist_model.specs.Way.{outbound_way, outbound_ways, row_way, same_way, Way}
use Rattle.dist_model.specs.Model.{all_names, basic_at, goes_from, IsModel, IsReducedName, message_named, places_from, StandsForMessage}
use Rattle.dist_model.specs.Index.{AreProfilesOf, inbound_triple, is_from, is_of}
use Rattle.dist_model.proofs.IndexLemmas.{find-position, inbound-place, some_same}

place_in : {A : Type 0} (xs : List A) (x : A) → Contains xs x → (i : ℕ) × (slice_get xs i ≡ Some x)
place_in [] x among = absurd (Contains-nil x among)
place_in (y ∷ xs) x among = elim (Contains-cons y xs x among) [
  | inl here ↦ (0, ap Some here)
  | inr there ↦ (let (i, is) = place_in xs x there in (suc i, is))
]

and_then-Some : {A B : Type 0} (f : A → Option B) (o : Option A) (y : B) → option_and_then f o ≡ Some y → (x : A) × (o ≡ Some x) × (f x ≡ Some y)
and_then-Some f (Some x) y h = (x, refl, h)
and_then-Some f None y h = absurd (cc)

module _ (model : Lists) (is_model : IsModel model) (name : List ℕ) where
  own : List (List ℕ)
  own = message_names model.messages

  counted : length (message_names model.messages) ≡ length model.messages
  counted = length-map model.messages (λ (m : Message). m.name)

  -- the message type of the name at a place is one that the name stands for
  stands-at : (place number : ℕ) → slice_get (all_names model) place ≡ Some name → basic_at model place ≡ Some number → StandsForMessage model name number
  stands-at place number here is = elim (cases_Bool (nat_lt place (length model.messages))) [
    | inl less ↦ (
        let same : place ≡ number = some_same place number
        (sym (ap (λ b. cond b (Some place) (option_map (λ (one : Reduced). one.message) (slice_get model.reduced (place - length model.messages)))) less)
        ∙ is) in
        inl (ap (slice_get (message_names model.messages)) (sym same)
        ∙ sym (slice_get-front (message_names model.messages) (reduced_names model.reduced) place (within less)) ∙ here)
        )
    | inr more ↦ (
        let found : option_map (λ (one : Reduced). one.message) (slice_get model.reduced (place - length model.messages)) ≡ Some number =
        sym (ap (λ b. cond b (Some place) (option_map (λ (one : Reduced). one.message) (slice_get model.reduced (place - length model.messages)))) more) ∙ is in
        let (one, at, basic) = option_map-Some (λ (one : Reduced). one.message) (slice_get model.reduced (place - length model.messages)) number found in
        let behind : slice_get (reduced_names model.reduced) (place - length model.messages) ≡ Some name =
        ap (λ n. slice_get (reduced_names model.reduced) (place - n)) (sym counted)
        ∙ sym (slice_get-behind (message_names model.messages) (reduced_names model.reduced) place (past more)) ∙ here in
        let named : Some one.name ≡ Some name = sym (slice_get-map (λ (r : Reduced). r.name) model.reduced (place - length model.messages)
        ∙ ap (option_map (λ (r : Reduced). r.name)) at) ∙ behind in
        inr (record {
          one = one;
          among = Contains-at model.reduced (place - length model.messages) one at;
          named = some_same one.name name named;
          basic = basic;
        })
        )
  ]
    where
      within : nat_lt place (length model.messages) ≡ true → place < length (message_names model.messages)
      within less = grind (arith, nat_tests, counted)

      past : nat_lt place (length model.messages) ≡ false → length (message_names model.messages) ≤ place
      past more = grind (arith, nat_tests, counted)

  message-stands : (number : ℕ) → message_named name model ≡ Some number → StandsForMessage model name number
  message-stands number h =
      let (place, found, is) = and_then-Some (basic_at model) (position (is_text name) (all_names model)) number h in
      stands-at place number (position-name name (all_names model) place found) is

  -- the name of a message type stands for it
  own-found : (number : ℕ) → slice_get (message_names model.messages) number ≡ Some name → message_named name model ≡ Some number
  own-found number here =
      let less : number < length (message_names model.messages) = slice_get_within (message_names model.messages) number name here in
      let there : slice_get (all_names model) number ≡ Some name = slice_get-front (message_names model.messages) (reduced_names model.reduced) number less
      ∙ here in
      let found = position-only name (all_names model) number is_model.reduced.apart there in
      ap (option_and_then (basic_at model)) found
      ∙ ap (λ b. cond b (Some number) (option_map (λ (one : Reduced). one.message) (slice_get model.reduced (number - length model.messages)))) (tells less)
    where
      tells : number < length (message_names model.messages) → nat_lt number (length model.messages) ≡ true
      tells less = grind (arith, nat_tests, counted)

  -- the name of a reduced message type stands for the one that is reduced
  reduced-found : (number : ℕ) → IsReducedName model name number → message_named name model ≡ Some number
  reduced-found number is =
      let (i, here) = place_in model.reduced is.one is.among in
      let place = length model.messages + i in
      let back : length model.messages + i - length (message_names model.messages) ≡ i = omega (arith, counted) in
      let back_own : length model.messages + i - length model.messages ≡ i = omega arith in
      let there : slice_get (all_names model) place ≡ Some name =
      slice_get-behind (message_names model.messages) (reduced_names model.reduced) place (omega (arith, counted))
      ∙ ap (slice_get (reduced_names model.reduced)) back
      ∙ slice_get-map (λ (r : Reduced). r.name) model.reduced i ∙ ap (option_map (λ (r : Reduced). r.name)) here ∙ ap Some is.named in
      let found = position-only name (all_names model) place is_model.reduced.apart there in
      ap (option_and_then (basic_at model)) found
      ∙ ap (λ b. cond b (Some place) (option_map (λ (one : Reduced). one.message) (slice_get model.reduced (place - length model.messages)))) (tells i)
      ∙ ap (λ k. option_map (λ (one : Reduced). one.message) (slice_get model.reduced k)) back_own ∙ ap (option_map (λ (one : Reduced). one.message)) here
      ∙ ap Some is.basic
    where
      tells : (i : ℕ) → nat_lt (length model.messages + i) (length model.messages) ≡ false
      tells i = grind (arith, nat_tests)

  message-found : (number : ℕ) → StandsForMessage model name number → message_named name model ≡ Some number
  message-found number (inl own) = own-found number own
  message-found number (inr reduced) = reduced-found number reduced

  -- the message type that is found is one that the name stands for, and there is no other
  pub message-named : (r : Option ℕ) → r ≡ message_named name model → (number : ℕ) → (r ≡ Some number) ↔ StandsForMessage model name number
  message-named r found number = (λ is. message-stands number (sym found ∙ is), λ stands. found ∙ message-found number stands)

  -- none is found exactly where nothing has the name
  pub message-none : (r : Option ℕ) → r ≡ message_named name model → (r ≡ None) ↔ (Contains (all_names model) name → ⊥)
  message-none r found = (
    λ none among. absent (sym found ∙ none) among,
    λ absent. found
        ∙ ap (option_and_then (basic_at model)) ((position-none name (all_names model)).1 absent),
  )
    where
      absent : message_named name model ≡ None → Contains (all_names model) name → ⊥
      absent none among =
          let (place, here) = place_in (all_names model) name among in
          elim (none_or_some (position (is_text name) (all_names model))) [
            | inl nothing ↦ (position-none name (all_names model)).0 nothing among
            | inr some ↦ (let total = known some.0 some.1 in let clash : None ≡ Some total.0 = sym none ∙ ap (option_and_then (basic_at model)) some.1
                ∙ total.1 in cc)
          ]
        where
          known : (place : ℕ) → position (is_text name) (all_names model) ≡ Some place → (number : ℕ) × (basic_at model place ≡ Some number)
          known place found = elim (cases_Bool (nat_lt place (length model.messages))) [
            | inl less ↦ (
              place,
              ap (λ b. cond b (Some place)
                  (option_map (λ (one : Reduced). one.message) (slice_get model.reduced (place - length model.messages)))) less,
            )
            | inr more ↦ (
                let long = length-append (message_names model.messages) (reduced_names model.reduced) in
                let names = length-map model.reduced (λ (r : Reduced). r.name) in
                let within = slice_get_within (all_names model) place name (position-name name (all_names model) place found) in
                let (one, at) = slice_get-within model.reduced (place - length model.messages) (bound place more within long names) in (
                  one.message,
                  ap (λ b. cond b (Some place)
                      (option_map (λ (one : Reduced). one.message) (slice_get model.reduced (place - length model.messages)))) more
                      ∙ ap (option_map (λ (one : Reduced). one.message)) at,
                )
                )
          ]
            where
              bound : (place : ℕ) → nat_lt place (length model.messages) ≡ false → place < length (all_names model) →
                  length (all_names model) ≡ length (message_names model.messages) + length (reduced_names model.reduced)
                  → length (reduced_names model.reduced) ≡ length model.reduced → place - length model.messages < length model.reduced
              bound place more within long names = grind (arith, nat_tests, counted)

-- the profile of a row stands at the place that the index has for it
pub profile-at : (rows : List Row) (profiles : List Outbound) (places : List ℕ) (k : ℕ) (row : Row) (place : ℕ) → AreProfilesOf rows profiles places →
    slice_get rows k ≡ Some row → slice_get places k ≡ Some place
    → position (same_way (row_way row)) (outbound_ways profiles) ≡ Some place
profile-at rows profiles places k row place are here there =
    let found = λ (r : Row). position (same_way (row_way r)) (outbound_ways profiles) in
    some_same (found row) (Some place) (
    ap (option_map found) (sym here) ∙ sym (slice_get-map found rows k) ∙ ap (λ os. slice_get os k) are ∙ slice_get-map (λ (p : ℕ). Some p) places k
    ∙ ap (option_map (λ (p : ℕ). Some p)) there
    )

pub profile-within : (profiles : List Outbound) (row : Row) (place : ℕ) → position (same_way (row_way row)) (outbound_ways profiles) ≡ Some place →
    place < length profiles
profile-within profiles row place found =
    omega (
      arith,
      (position-Some (same_way (row_way row)) (outbound_ways profiles) place (row_way row) found).0,
      length-map profiles
          (λ (p : Outbound). outbound_way p),
    )

slice_get-length : {A : Type 0} (before rest : List A) (x : A) → slice_get (before ++ x ∷ rest) (length before) ≡ Some x
slice_get-length [] rest x = refl
slice_get-length (y ∷ before) rest x = slice_get-length before rest x

and_no : (b : Bool) → (b && false) ≡ false
and_no true = refl
and_no false = refl

-- the rows of a message type, and of those the ones of a sender
filter-places : (sender message : ℕ) (before rest : List Row) → filter (is_from (before ++ rest) sender) (places_from (is_of message) (length before) rest)
    ≡ places_from (goes_from sender message) (length before) rest
filter-places sender message before [] = refl
filter-places sender message before (row ∷ rest) =
    let one : length (before ++ row ∷ []) ≡ suc (length before) = omega (arith, length-append before (row ∷ [])) in
    let next : filter (is_from (before ++ row ∷ rest) sender) (places_from (is_of message) (suc (length before)) rest)
    ≡ places_from (goes_from sender message) (suc (length before)) rest =
    ap (λ rows. filter (is_from rows sender) (places_from (is_of message) (suc (length before)) rest)) (sym (append_assoc before (row ∷ []) rest))
    ∙ ap (λ n. filter (is_from ((before ++ row ∷ []) ++ rest) sender) (places_from (is_of message) n rest)) (sym one)
    ∙ filter-places sender message (before ++ row ∷ []) rest ∙ ap (λ n. places_from (goes_from sender message) n rest) one in
    let here : is_from (before ++ row ∷ rest) sender (length before) ≡ nat_eq sender row.sender =
    ap (λ o. option_map_or (λ (r : Row). nat_eq sender r.sender) o false) (slice_get-length before rest row) in
    elim (cases_Bool (nat_eq message row.message)) [
      | inl same ↦ elim (cases_Bool (nat_eq sender row.sender)) [
        | inl from ↦ rw (same, from) (rw (here ∙ from) (ap (λ ps. length before ∷ ps) next))
        | inr other ↦ rw (same, other) (rw (here ∙ other) next)
      ]
      | inr differs ↦ rw (differs, and_no (nat_eq sender row.sender)) next
    ]

pub receivers-found : (sender message : ℕ) (rows : List Row) → filter (is_from rows sender) (places_from (is_of message) 0 rows)
    ≡ places_from (goes_from sender message) 0 rows
receivers-found sender message rows = filter-places sender message [] rows

-- the profile of what is received that the index finds
pub inbound-found : (names : List (List ℕ)) (receiver sender place : ℕ) (name : List ℕ) (profiles : List Inbound) (triples : List Way) (r s : ℕ)
    (found : Option ℕ)
    → position (is_text name) names ≡ Some place → AllByRecursion (λ (profile : Inbound). Contains names profile.message) profiles
    → triples ≡ map (inbound_triple names) profiles → r ≡ receiver → s ≡ sender → found ≡ position (same_triple (r, s, place)) triples
    → option_and_then (slice_get profiles) found ≡ find (is_inbound receiver sender name) profiles
inbound-found names receiver sender place name profiles triples r s found here named are is_r is_s sought =
    ap (option_and_then (slice_get profiles)) (
    sought ∙ ap (λ n. position (same_triple (n, s, place)) triples) is_r ∙ ap (λ n. position (same_triple (receiver, n, place)) triples) is_s
    ∙ ap (position (same_triple (receiver, sender, place))) are ∙ inbound-place names receiver sender place name here profiles named
    ) ∙ sym (find-position (is_inbound receiver sender name) profiles)
