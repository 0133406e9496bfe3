-- What volumes hold, by what each holds; and what they are made to hold, one after another.
use Rattle.std.proofs.Common.{◌≡◌, ℕ, ◌+◌, ◌<◌, ◌-◌, List, [], ◌∷◌, ◌++◌, length, get_or, map, set, take, refl, subst, sym, ap, ◌∙◌, arith}
use Rattle.std.specs.List.{flat_map, range_with_len}
use Rattle.std.specs.Prelude.{Result, Ok, Err}
use Rattle.std.specs.Result.{OnOk}
use Rattle.std.proofs.lemmas.List.{append_assoc, append-nil, flat_map_more, get_or-set_same, map-append, map-id, take_more}
use Rattle.std.proofs.lemmas.List.FromFn.{map-range_with_len_more}
use Rattle.std.proofs.lemmas.List.Edits.{fill_by_more}
use Rattle.worked_cases.specs.declared.held.Holding.{Holding}
use Rattle.worked_cases.specs.declared.held.Given.{Given}
use Rattle.ale_volumes.specs.Memory.{MemoryOf}
use Rattle.ale_volumes.specs.MemoryLemmas.{volume_now}
use Rattle.worked_cases.specs.Held.{IsHeld, AreHeld, IsGiven, AreGiven}
use Rattle.worked_cases.specs.Starts.{fresh}

-- one more is what its place is to hold
pub filled_more : (held : ℕ → List ℕ) (contents : List (List ℕ)) (n place : ℕ) (bytes : List ℕ) → place ≡ n → bytes ≡ held n → n < 16
    → length contents ≡ 16 → ((k : ℕ) → k < n → get_or contents k [] ≡ held k)
    → (k : ℕ) → k < n + 1 → get_or (set contents place bytes) k [] ≡ held k
filled_more held contents n place bytes at is low long before k within =
    let within_length : n < length contents = omega (arith, low, long) in
    subst (λ p. get_or (set contents p bytes) k [] ≡ held k) (sym at)
    (subst (λ bs. get_or (set contents n bs) k [] ≡ held k) (sym is) (fill_by_more held contents n [] within_length before k within))

-- one volume more is made to hold what is said of it
pub AreHeld-snoc : (start contents : List (List ℕ)) (holds : List Holding) (holding : Holding) (bytes : List ℕ) → AreHeld start holds contents
    → IsHeld contents holding bytes → AreHeld start (holds ++ holding ∷ []) (set contents (holding.system - 1) bytes)
AreHeld-snoc start contents [] holding bytes held is =
    (bytes, subst (λ c. IsHeld c holding bytes) held is, ap (λ c. set c (holding.system - 1) bytes) held)
AreHeld-snoc start contents (first ∷ rest) holding bytes held is =
    (held.0, held.1, AreHeld-snoc (set start (first.system - 1) held.0) contents rest holding bytes held.2 is)

-- one record more is given
pub AreGiven-snoc : (contents : List (List ℕ)) (given : List Given) (next : Given) (bodies one : List (List ℕ)) → AreGiven contents given bodies
    → IsGiven contents next one → AreGiven contents (given ++ next ∷ []) (bodies ++ one)
AreGiven-snoc contents [] next bodies one none is = (one, [], is, refl, ap (λ b. b ++ one) none ∙ sym (append-nil one))
AreGiven-snoc contents (first ∷ rest) next bodies one all is = (
  all.0,
  all.1 ++ one,
  all.2,
  AreGiven-snoc contents rest next all.1 one all.3 is,
  ap (λ b. b ++ one) all.4 ∙ append_assoc all.0 all.1 one,
)

-- one number more
range_more : (n : ℕ) → range_with_len 0 (n + 1) ≡ range_with_len 0 n ++ n ∷ []
range_more n =
    sym (map-id (range_with_len 0 (n + 1))) ∙ map-range_with_len_more (λ x. x) 0 n n (omega arith) ∙ ap (λ l. l ++ n ∷ []) (map-id (range_with_len 0 n))

-- what is made of one number more
pub flat_map-range_more : {A : Type 0} (f : ℕ → List A) (before : List A) (n : ℕ) →
    (before ++ flat_map f (range_with_len 0 n)) ++ f n ≡ before ++ flat_map f (range_with_len 0 (n + 1))
flat_map-range_more f before n =
    flat_map_more f before (range_with_len 0 n) n ∙ ap (λ numbers. before ++ flat_map f numbers) (sym (range_more n))

pub map-range_more : {A : Type 0} (f : ℕ → A) (before : List A) (n : ℕ) →
    (before ++ map f (range_with_len 0 n)) ++ f n ∷ [] ≡ before ++ map f (range_with_len 0 (n + 1))
map-range_more f before n =
    append_assoc before (map f (range_with_len 0 n)) (f n ∷ [])
    ∙ ap (λ l. before ++ l) (sym (map-range_with_len_more f 0 n n (omega arith)))

-- one item more of a list
pub take_item : {X : Type 0} (xs : List X) (i : ℕ) (item : X) → i < length xs → item ≡ get_or xs i item → take (i + 1) xs ≡ take i xs ++ item ∷ []
take_item xs i item within is = take_more xs i item within ∙ ap (λ x. take i xs ++ x ∷ []) (sym is)

pub flat_map-item_more : {X A : Type 0} (f : X → List A) (before : List A) (xs : List X) (i : ℕ) (item : X) → i < length xs → item ≡ get_or xs i item →
    (before ++ flat_map f (take i xs)) ++ f item ≡ before ++ flat_map f (take (i + 1) xs)
flat_map-item_more f before xs i item within is =
    flat_map_more f before (take i xs) item ∙ ap (λ l. before ++ flat_map f l) (sym (take_item xs i item within is))

pub map-item_more : {X A : Type 0} (f : X → A) (before : List A) (xs : List X) (i : ℕ) (item : X) → i < length xs → item ≡ get_or xs i item →
    (before ++ map f (take i xs)) ++ f item ∷ [] ≡ before ++ map f (take (i + 1) xs)
map-item_more f before xs i item within is =
    append_assoc before (map f (take i xs)) (f item ∷ [])
    ∙ ap (λ l. before ++ l) (sym (map-append f (take i xs) (item ∷ [])) ∙ ap (map f) (sym (take_item xs i item within is)))

-- what follows where there is a value
pub OnOk-map : {T E P Q : Type 0} (r : Result T E) → (P → Q) → OnOk r P → OnOk r Q
OnOk-map (Ok x) f p = f p
OnOk-map (Err e) f p = p

-- the only volume that holds anything
pub held_alone : (others : List (List ℕ)) (bytes : List ℕ) (vols : MemoryOf) → length others ≡ 16 → vols ≡ fresh (set others 0 bytes) [] →
    (volume_now vols 0).contents ≡ bytes
held_alone others bytes vols long is =
    let within : 0 < length others = omega (arith, long) in
    subst (λ v. (volume_now v 0).contents ≡ bytes) (sym is) (get_or-set_same others 0 bytes [] within)
