-- The index of a model: what its loops make, and what is looked up in it.
use Rattle.std.specs.Cmp.Lexicographic.{bytes_decides}
use Rattle.std.specs.Prelude.{Contains, IsSome, option_and_then, nat_eq, position, slice_get, slice_set}
use Rattle.std.specs.List.{AllByRecursion, IsDistinct, find, list_any}
use Rattle.std.specs.Option.{option_map, option_map_or}
use Rattle.std.proofs.Common.{◌≡◌, ◌≢◌, ℕ, suc, ◌+◌, ◌<◌, ◌||◌, ◌&&◌, Bool, true, false, cond, Option, Some, None, List, [], ◌∷◌, ◌++◌, length, map, take}
use Rattle.std.proofs.Common.{get_or, refl, sym, ap, subst, ◌∙◌, append-nil, inl, inr, arith}
use Rattle.std.proofs.lemmas.Bool.{cases_Bool, false≢true}
use Rattle.std.proofs.lemmas.Bool.Decides.{eqb_tells, nat_tests}
use Rattle.std.proofs.lemmas.List.{get_or-set_other, get_or-set_same, length-set, length-take-le, map_push, take_more}
use Rattle.std.proofs.lemmas.Option.{get_or_from_slice_get, slice_get-get_or}
use Rattle.ale_base.specs.Text.{is_text}
use Rattle.ale_base.proofs.ListLemmas.{AllByRecursion-weaker}
use Rattle.segment_defs.proofs.NameLemmas.{position-behind, position-here, position-name, position-none}
use Rattle.dist_model.proofs.DistinctLemmas.{keys_more}
use Rattle.dist_model.specs.Triple.{same_triple}
use Rattle.dist_model.specs.declared.inbound.Inbound.{Inbound}
use Rattle.dist_model.specs.declared.row.Row.{Row}
use Rattle.dist_model.specs.Inbound.{is_inbound, IsInbound, same_inbound}
use Rattle.dist_model.specs.Model.{places_from}
use Rattle.dist_model.specs.Index.{AreRowsOf, inbound_triple, is_of, name_place}

-- two that are the same within an option
pub some_same : {A : Type 0} (a b : A) → Some a ≡ Some b → a ≡ b
some_same a b h = cc

-- what is not nothing is something
pub is_some : {A : Type 0} (o : Option A) → (o ≡ None → ⊥) → IsSome o
is_some None some = absurd (some refl)
is_some (Some x) some = refl

-- an element passes a test, so a first one is found
pub position-found : {A : Type 0} (test : A → Bool) (xs : List A) → list_any test xs ≡ true → position test xs ≡ None → ⊥
position-found test [] any none = cc
position-found test (x ∷ xs) any none = elim (cases_Bool (test x)) [
  | inl passes ↦ (let here = position-here test x xs passes in cc)
  | inr fails ↦ position-found test xs (behind (test x) (list_any test xs) fails any) (no_map (position test xs) (sym (position-behind test x xs fails) ∙ none))
]
  where
    behind : (a b : Bool) → a ≡ false → (a || b) ≡ true → b ≡ true
    behind false b fails any = any
    behind true b fails any = absurd (false≢true (sym fails))

    no_map : (o : Option ℕ) → option_map suc o ≡ None → o ≡ None
    no_map None h = refl
    no_map (Some n) h = absurd (cc)

-- the places of the profiles of one more row
pub places_more : {A : Type 0} (found : A → Option ℕ) (rows : List A) (i : ℕ) (row : A) (places : List ℕ) (place : ℕ) → row ≡ get_or rows i row →
    i < length rows
    → map found (take i rows) ≡ map (λ p. Some p) places → found row ≡ Some place → map found (take (i + 1) rows) ≡ map (λ p. Some p) (places ++ place ∷ [])
places_more found rows i row places place is within so_far here =
    keys_more found rows i row is within ∙ ap (λ os. os ++ found row ∷ []) so_far ∙ ap (λ o. map (λ p. Some p) places ++ o ∷ []) here
    ∙ sym (map_push (λ (p : ℕ). Some p) places place)

-- the places in a list that has one more element
places_from-push : {A : Type 0} (test : A → Bool) (from : ℕ) (xs : List A) (x : A) → places_from test from (xs ++ x ∷ []) ≡ places_from test from xs
    ++ cond (test x) ((from + length xs) ∷ []) []
places_from-push test from [] x = let same : from + 0 ≡ from = omega arith in rw same refl
places_from-push test from (y ∷ xs) x =
    let further : suc from + length xs ≡ from + suc (length xs) = omega arith in
    let rest = places_from-push test (suc from) xs x in
    elim (cases_Bool (test y)) [
      | inl passes ↦ rw passes (ap (λ ps. from ∷ ps) rest ∙ ap (λ n. from ∷ places_from test (suc from) xs ++ cond (test x) (n ∷ []) []) further)
      | inr fails ↦ rw fails (rest ∙ ap (λ n. places_from test (suc from) xs ++ cond (test x) (n ∷ []) []) further)
    ]

-- the rows of each message type, with one more row
pub rows_more : (messages : ℕ) (rows : List Row) (lists : List (List ℕ)) (i : ℕ) (row : Row) (old new : List ℕ) → row ≡ get_or rows i row → i < length rows →
    row.message < messages
    → length lists ≡ messages → AreRowsOf messages (take i rows) lists → slice_get lists row.message ≡ Some old → new ≡ old ++ i ∷ []
    → (length (slice_set lists row.message new) ≡ messages) × AreRowsOf messages (take (i + 1) rows) (slice_set lists row.message new)
rows_more messages rows lists i row old new is within known long so_far here written = (
  length-set lists row.message new ∙ long,
  λ message less. elim (eqb_tells message row.message) [
    | inl same ↦ at_own message less same.1 same.0
    | inr other ↦ at_other message less other.1 other.0
  ],
)
  where
    next : take (i + 1) rows ≡ take i rows ++ row ∷ []
    next = take_more rows i row within ∙ ap (λ y. take i rows ++ y ∷ []) (sym is)

    counted : 0 + length (take i rows) ≡ i
    counted = omega (arith, length-take-le i rows (omega (arith, within)))

    pushed : (message : ℕ) → places_from (is_of message) 0 (take (i + 1) rows) ≡ places_from (is_of message) 0 (take i rows)
        ++ cond (is_of message row) (i ∷ []) []
    pushed message = ap (places_from (is_of message) 0) next ∙ places_from-push (is_of message) 0 (take i rows) row
        ∙ ap (λ n. places_from (is_of message) 0 (take i rows) ++ cond (is_of message row) (n ∷ []) []) counted

    at_own : (message : ℕ) → message < messages → message ≡ row.message → nat_eq message row.message ≡ true →
        slice_get (slice_set lists row.message new) message ≡ Some (places_from (is_of message) 0 (take (i + 1) rows))
    at_own message less same equal =
        let bound : row.message < length lists = omega (arith, known, long) in
        let bound_new : message < length (slice_set lists row.message new) = omega (arith, less, long, length-set lists row.message new) in
        let got : get_or (slice_set lists row.message new) message [] ≡ new = ap (λ m. get_or (slice_set lists row.message new) m []) same
        ∙ get_or-set_same lists row.message new [] bound in
        let before : Some old ≡ Some (places_from (is_of message) 0 (take i rows)) = sym here ∙ ap (slice_get lists) (sym same) ∙ so_far message less in
        let old_is : old ≡ places_from (is_of message) 0 (take i rows) = cc in
        slice_get-get_or (slice_set lists row.message new) message [] bound_new
        ∙ ap Some (got ∙ written ∙ ap (λ ps. ps ++ i ∷ []) old_is
        ∙ sym (pushed message ∙ ap (λ b. places_from (is_of message) 0 (take i rows) ++ cond b (i ∷ []) []) equal))

    at_other : (message : ℕ) → message < messages → message ≢ row.message → nat_eq message row.message ≡ false →
        slice_get (slice_set lists row.message new) message ≡ Some (places_from (is_of message) 0 (take (i + 1) rows))
    at_other message less differ unequal =
        let bound : message < length lists = omega (arith, less, long) in
        let bound_new : message < length (slice_set lists row.message new) = omega (arith, less, long, length-set lists row.message new) in
        slice_get-get_or (slice_set lists row.message new) message [] bound_new
        ∙ ap Some (get_or-set_other lists row.message message new [] differ
        ∙ get_or_from_slice_get lists message (places_from (is_of message) 0 (take i rows)) [] (so_far message less))
        ∙ ap Some (sym (append-nil (places_from (is_of message) 0 (take i rows)))
        ∙ sym (pushed message ∙ ap (λ b. places_from (is_of message) 0 (take i rows) ++ cond b (i ∷ []) []) unequal))

-- a name that stands among some has a place
pub name-found : (names : List (List ℕ)) (name : List ℕ) → Contains names name → IsSome (position (is_text name) names)
name-found names name among = is_some (position (is_text name) names) (λ none. (position-none name names).0 none among)

-- it is the one at its place
pub name_place-is : (names : List (List ℕ)) (name : List ℕ) → Contains names name → position (is_text name) names ≡ Some (name_place names name)
name_place-is names name among = there (position (is_text name) names) (name-found names name among)
  where
    there : (o : Option ℕ) → IsSome o → o ≡ Some (option_map_or (λ (place : ℕ). place) o 0)
    there None some = absurd (cc)
    there (Some place) some = refl

-- the place where a name was found
pub name_place-found : (names : List (List ℕ)) (name : List ℕ) (place : ℕ) → position (is_text name) names ≡ Some place → place ≡ name_place names name
name_place-found names name place found = ap (λ o. option_map_or (λ (p : ℕ). p) o 0) (sym found)

pub triple_same : (a b c d e f : ℕ) → a ≡ d → b ≡ e → c ≡ f → ◌≡◌ {A = ℕ × ℕ × ℕ} (a, b, c) (d, e, f)
triple_same a b c d e f first second third = cc

-- profiles whose names are among those of a model
pub AreNamed-of : (systems : ℕ) (names : List (List ℕ)) (profiles : List Inbound) → AllByRecursion (IsInbound systems names) profiles →
    AllByRecursion (λ (profile : Inbound). Contains names profile.message) profiles
AreNamed-of systems names profiles each = AllByRecursion-weaker (IsInbound systems names) (λ (profile : Inbound). Contains names profile.message) profiles
    (λ profile is. is.named) each

-- two names are one where their places are
place-decides : (names : List (List ℕ)) (name other : List ℕ) (place : ℕ) → position (is_text name) names ≡ Some place → Contains names other →
    nat_eq place (name_place names other) ≡ is_text name other
place-decides names name other place here among = elim (cases_Bool (is_text name other)) [
  | inl same ↦ (
      let e : name ≡ other = (bytes_decides name other).0 same in
      let places : place ≡ name_place names other = some_same place (name_place names other) (sym here ∙ ap (λ n. position (is_text n) names) e
      ∙ name_place-is names other among) in
      ap (λ n. nat_eq n (name_place names other)) places ∙ nat_eq-refl (name_place names other) ∙ sym same
      )
  | inr differ ↦ elim (cases_Bool (nat_eq place (name_place names other))) [
    | inl equal ↦ (
        let places : place ≡ name_place names other = nat_eq-same place (name_place names other) equal in
        let e : Some name ≡ Some other = sym (position-name name names place here) ∙ ap (slice_get names) places
        ∙ position-name other names (name_place names other) (name_place-is names other among) in
        absurd (false≢true (sym differ ∙ (bytes_decides name other).1 (some_same name other e)))
        )
    | inr unequal ↦ unequal ∙ sym differ
  ]
]
  where
    nat_eq-refl : (n : ℕ) → nat_eq n n ≡ true
    nat_eq-refl n = grind (arith, nat_tests)

    nat_eq-same : (a b : ℕ) → nat_eq a b ≡ true → a ≡ b
    nat_eq-same a b is = grind (arith, nat_tests)

-- a profile is of a receiver, a sender and a name where its triple is theirs
pub same_triple-inbound : (names : List (List ℕ)) (receiver sender place : ℕ) (name : List ℕ) (profile : Inbound) → position (is_text name) names ≡ Some place →
    Contains names profile.message
    → same_triple (receiver, sender, place) (inbound_triple names profile) ≡ is_inbound receiver sender name profile
same_triple-inbound names receiver sender place name profile here among =
    ap (λ b. nat_eq receiver profile.receiver && (nat_eq sender profile.sender && b)) (place-decides names name profile.message place here among)

-- the profiles so named, by a record of what they have
abbrev AreNamed : List (List ℕ) → List Inbound → Type 0
AreNamed names profiles = AllByRecursion (λ (profile : Inbound). Contains names profile.message) profiles

-- profiles that differ have triples that differ
pub triples-apart : (names : List (List ℕ)) (profiles : List Inbound) → AreNamed names profiles → IsDistinct same_inbound profiles →
    IsDistinct same_triple (map (inbound_triple names) profiles)
unfolding IsDistinct
triples-apart names [] named apart = tt
triples-apart names (profile ∷ profiles) named apart = (heads profiles named.1 apart.0, triples-apart names profiles named.1 apart.1)
  where
    heads : (others : List Inbound) → AreNamed names others → AllByRecursion (λ other. same_inbound profile other ≡ false) others
        → AllByRecursion (λ triple. same_triple (inbound_triple names profile) triple ≡ false) (map (inbound_triple names) others)
    heads [] all differ = tt
    heads (other ∷ others) all differ = (
      same_triple-inbound names profile.receiver profile.sender (name_place names profile.message) profile.message other
          (name_place-is names profile.message named.0) all.0 ∙ differ.0,
      heads others all.1 differ.1,
    )

-- the place of the first profile of a receiver, a sender and a name is that of their triple
pub inbound-place : (names : List (List ℕ)) (receiver sender place : ℕ) (name : List ℕ) → position (is_text name) names ≡ Some place →
    (profiles : List Inbound) → AreNamed names profiles
    → position (same_triple (receiver, sender, place)) (map (inbound_triple names) profiles) ≡ position (is_inbound receiver sender name) profiles
inbound-place names receiver sender place name here [] named = refl
inbound-place names receiver sender place name here (profile ∷ profiles) named =
    let test = same_triple (receiver, sender, place) in
    let triple = inbound_triple names profile in
    let triples = map (inbound_triple names) profiles in
    let rest = inbound-place names receiver sender place name here profiles named.1 in
    let one : test triple ≡ is_inbound receiver sender name profile = same_triple-inbound names receiver sender place name profile here named.0 in
    elim (cases_Bool (test triple)) [
      | inl passes ↦ position-here test triple triples passes ∙ sym (position-here (is_inbound receiver sender name) profile profiles (sym one ∙ passes))
      | inr fails ↦ position-behind test triple triples fails ∙ ap (option_map suc) rest
          ∙ sym (position-behind (is_inbound receiver sender name) profile profiles (sym one ∙ fails))
    ]

-- a name that is none of those of the profiles has no profile
pub inbound-none : (names : List (List ℕ)) (receiver sender : ℕ) (name : List ℕ) → position (is_text name) names ≡ None → (profiles : List Inbound) →
    AreNamed names profiles → find (is_inbound receiver sender name) profiles ≡ None
inbound-none names receiver sender name none [] named = refl
inbound-none names receiver sender name none (profile ∷ profiles) named =
    let differs : is_inbound receiver sender name profile ≡ false = fails (nat_eq receiver profile.receiver) (nat_eq sender profile.sender)
    (is_text name profile.message) other in
    rw differs (inbound-none names receiver sender name none profiles named.1)
  where
    other : is_text name profile.message ≡ false
    other = elim (cases_Bool (is_text name profile.message)) [
      | inl same ↦ absurd ((position-none name names).0 none (subst (λ n. Contains names n) (sym ((bytes_decides name profile.message).0 same)) named.0))
      | inr differ ↦ differ
    ]

    fails : (a b c : Bool) → c ≡ false → (a && (b && c)) ≡ false
    fails true true c none = none
    fails true false c none = refl
    fails false b c none = refl

-- the first element that passes is that at the first place
pub find-position : {A : Type 0} (test : A → Bool) (xs : List A) → find test xs ≡ option_and_then (slice_get xs) (position test xs)
find-position test [] = refl
find-position test (x ∷ xs) = elim (cases_Bool (test x)) [
  | inl passes ↦ ap (λ b. cond b (Some x) (find test xs)) passes ∙ ap (option_and_then (slice_get (x ∷ xs))) (sym (position-here test x xs passes))
  | inr fails ↦ ap (λ b. cond b (Some x) (find test xs)) fails
      ∙ (find-position test xs ∙ further (position test xs) ∙ ap (option_and_then (slice_get (x ∷ xs))) (sym (position-behind test x xs fails)))
]
  where
    further : (o : Option ℕ) → option_and_then (slice_get xs) o ≡ option_and_then (slice_get (x ∷ xs)) (option_map suc o)
    further None = refl
    further (Some n) = refl
