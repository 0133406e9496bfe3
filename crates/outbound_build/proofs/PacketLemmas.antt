-- Documents cut in packets.
use Rattle.std.specs.Prelude.{◌/◌, ◌*◌, ◌==◌, slice_get, slice_set}
use Rattle.std.specs.List.{AllByRecursion, range_with_len}
use Rattle.std.proofs.Common.{◌≡◌, ◌⊎◌, inl, inr, ℕ, zero, suc, ◌+◌, ◌-◌, ◌<◌, ◌≤◌, List, [], ◌∷◌, length, take, drop, map, refl, ap, sym, ◌∙◌, arith, ◌++◌}
use Rattle.std.proofs.Common.{Some, get_or, length-drop, length-set, nat_le, true, false, subst}
use Rattle.std.proofs.lemmas.Bool.{eqb-false}
use Rattle.std.proofs.lemmas.Bool.Decides.{leb_tells, eqb_tells}
use Rattle.std.proofs.lemmas.Option.{same_Some}
use Rattle.std.proofs.lemmas.List.{drop-drop, take_more}
use Rattle.std.proofs.Math.Nat.{add-div_right, div-eq_of_lt, suc-mul, zero-mul}
use Rattle.outbound_build.specs.declared.added.Waiting.{Waiting}
use Rattle.ale_base.proofs.ListLemmas.{AllByRecursion-map, AllByRecursion-of, slice_get-set, slice_get-set_other}
use Rattle.ale_base.proofs.MemberLemmas.{filter-kept, filter-left_out}
use Rattle.outbound_build.specs.Added.{packet_count, packets, waiting_for}
use Rattle.outbound_build.specs.steps.Packets.{AreWaitingFor}

whole_more : (k size : ℕ) → 1 ≤ size → (k + size) / size ≡ suc (k / size)
whole_more k size some = let more = add-div_right k {k = size} (omega arith) in omega (arith, more)

none_more : (size : ℕ) → 1 ≤ size → (0 + size - 1) / size ≡ 0
none_more size some = div-eq_of_lt {n = 0 + size - 1} {m = size} (omega arith)

-- there is one packet fewer behind the first
count-more : (size n : ℕ) → 1 ≤ size → 1 ≤ n → packet_count size n ≡ suc (packet_count size (n - size))
count-more size n some any =
    let k = n - 1 in
    let all : n + size - 1 ≡ k + size = omega arith in
    ap (λ (m : ℕ). m / size) all ∙ whole_more k size some ∙ ap suc (rest (leb_tells size n))
  where
    rest : ((nat_le size n ≡ true) × (size ≤ n)) ⊎ ((nat_le size n ≡ false) × (n < size)) → (n - 1) / size ≡ packet_count size (n - size)
    rest (inl (is, fits)) = let same : n - 1 ≡ n - size + size - 1 = omega arith in ap (λ (m : ℕ). m / size) same
    rest (inr (is, short)) =
        let bare : 0 + size - 1 ≡ n - size + size - 1 = omega arith in
        div-eq_of_lt {n = n - 1} {m = size} (omega arith) ∙ sym (none_more size some) ∙ ap (λ (m : ℕ). m / size) bare

shifted : {A : Type 0} (f g : ℕ → A) (a n : ℕ) → ((k : ℕ) → f (k + 1) ≡ g k) → map f (range_with_len (a + 1) n) ≡ map g (range_with_len a n)
shifted f g a zero same = refl
shifted {A} f g a (suc n) same = ap (λ (x : A). x ∷ map f (range_with_len (a + 1 + 1) n)) (same a) ∙ ap (λ (xs : List A). g a ∷ xs) (shifted f g (a + 1) n same)

all-take : {A : Type 0} (P : A → Type 0) (n : ℕ) (xs : List A) → AllByRecursion P xs → AllByRecursion P (take n xs)
all-take P zero xs all = tt
all-take P (suc n) [] all = tt
all-take P (suc n) (x ∷ xs) all = (all.0, all-take P n xs all.1)

all-drop : {A : Type 0} (P : A → Type 0) (n : ℕ) (xs : List A) → AllByRecursion P xs → AllByRecursion P (drop n xs)
all-drop P zero xs all = all
all-drop P (suc n) [] all = tt
all-drop P (suc n) (x ∷ xs) all = all-drop P n xs all.1

-- what holds of each document holds of each in each packet
pub packets-all : (P : Waiting → Type 0) (size : ℕ) (waiting : List Waiting) → AllByRecursion P waiting →
    AllByRecursion (AllByRecursion P) (packets size waiting)
packets-all P size waiting all =
    let packet : ℕ → List Waiting = λ place. take size (drop (place * size) waiting) in
    let places = range_with_len 0 (packet_count size (length waiting)) in
    AllByRecursion-map (AllByRecursion P) packet places
    (AllByRecursion-of (λ place. AllByRecursion P (packet place))
    (λ place. all-take P size (drop (place * size) waiting) (all-drop P (place * size) waiting all))
    places)

-- the packets of some documents are the first one, and those of the documents behind it
pub packets-first : (size : ℕ) (waiting : List Waiting) → 1 ≤ size → 1 ≤ length waiting
    → packets size waiting ≡ take size waiting ∷ packets size (drop size waiting)
packets-first size waiting some any =
    let n = length waiting in
    let f : ℕ → List Waiting = λ place. take size (drop (place * size) waiting) in
    let g : ℕ → List Waiting = λ place. take size (drop (place * size) (drop size waiting)) in
    let left : length (drop size waiting) ≡ n - size = omega (arith, length-drop size waiting) in
    let here : f 0 ≡ take size waiting = ap (λ (k : ℕ). take size (drop k waiting)) (zero-mul size) in
    ap (λ (k : ℕ). map f (range_with_len 0 k)) (count-more size n some any)
    ∙ ap (λ (x : List Waiting). x ∷ map f (range_with_len (0 + 1) (packet_count size (n - size)))) here
    ∙ ap (λ (xs : List (List Waiting)). take size waiting ∷ xs)
    (shifted f g 0 (packet_count size (n - size)) next ∙ ap (λ (k : ℕ). map g (range_with_len 0 (packet_count size k))) (sym left))
  where
    next : (k : ℕ) → take size (drop ((k + 1) * size) waiting) ≡ take size (drop (k * size) (drop size waiting))
    next k =
        let one : k + 1 ≡ suc k = omega arith in
        let turned : k * size + size ≡ size + k * size = omega arith in
        ap (λ (m : ℕ). take size (drop (m * size) waiting)) one
        ∙ ap (λ (m : ℕ). take size (drop m waiting)) (suc-mul k size ∙ turned)
        ∙ ap (take size) (sym (drop-drop (k * size) size waiting))

-- no documents make no packet
pub packets-none : (size : ℕ) → 1 ≤ size → packets size [] ≡ []
packets-none size some = ap (λ (k : ℕ). map (λ (place : ℕ). take size (drop (place * size) [])) (range_with_len 0 k)) (none_more size some)

-- what is not empty has an element
pub some_left : (waiting : List Waiting) → (length waiting == 0) ≡ false → 1 ≤ length waiting
some_left waiting some = let not_none = eqb-false (length waiting) 0 some in elim (leb_tells 1 (length waiting)) [
  | inl (is, any) ↦ any
  | inr (is, none) ↦ absurd (not_none (omega arith))
]

-- the documents that wait for each row, with one more
pub waits_more : (waiting : List Waiting) (lists : List (List Waiting)) (i : ℕ) (one : Waiting) (old new : List Waiting) → one ≡ get_or waiting i one
    → i < length waiting
    → AreWaitingFor (take i waiting) lists → slice_get lists one.row ≡ Some old → new ≡ old ++ one ∷ []
    → AreWaitingFor (take (i + 1) waiting) (slice_set lists one.row new)
waits_more waiting lists i one old new is within so_far here written = λ row less.
    let long : row < length lists = omega (arith, length-set lists one.row new) in
    let next : take (i + 1) waiting ≡ take i waiting ++ one ∷ [] = take_more waiting i one within ∙ ap (λ y. take i waiting ++ y ∷ []) (sym is) in
    let before = so_far row long in
    elim (eqb_tells one.row row) [
      | inl (known, same) ↦
          let own : slice_get lists row ≡ Some old = ap (slice_get lists) (sym same) ∙ here in
          let kept : old ≡ waiting_for row (take i waiting) = same_Some old (waiting_for row (take i waiting)) (sym own ∙ before) in
          ap (slice_get (slice_set lists one.row new)) (sym same) ∙ slice_get-set lists one.row old new here
          ∙ ap Some (written ∙ ap (λ xs. xs ++ one ∷ []) kept ∙ sym (filter-kept (λ w. w.row == row) (take i waiting) one known)
          ∙ ap (waiting_for row) (sym next))
      | inr (known, other) ↦
          slice_get-set_other lists one.row row new (λ same. other (sym same)) ∙ before
          ∙ ap Some (sym (filter-left_out (λ w. w.row == row) (take i waiting) one known) ∙ ap (waiting_for row) (sym next))
    ]

-- and with one more that waits for no row of the model
pub waits_past : (waiting : List Waiting) (lists : List (List Waiting)) (i : ℕ) (one : Waiting) → one ≡ get_or waiting i one → i < length waiting
    → AreWaitingFor (take i waiting) lists → length lists ≤ one.row → AreWaitingFor (take (i + 1) waiting) lists
waits_past waiting lists i one is within so_far past = λ row less.
    let next : take (i + 1) waiting ≡ take i waiting ++ one ∷ [] = take_more waiting i one within ∙ ap (λ y. take i waiting ++ y ∷ []) (sym is) in
    let other : (one.row == row) ≡ false
    = elim (eqb_tells one.row row) as (λ _. (one.row == row) ≡ false) [ inl (known, same) ↦ absurd (omega arith) | inr (known, differ) ↦ known ] in
    so_far row less ∙ ap Some (sym (filter-left_out (λ w. w.row == row) (take i waiting) one other) ∙ ap (waiting_for row) (sym next))

-- a copy of it is put at the place of its row
pub waits_put : (waiting : List Waiting) (lists all : List (List Waiting)) (i place : ℕ) (one copy : Waiting) (old new : List Waiting) → place ≡ one.row
    → one ≡ get_or waiting i one
    → i < length waiting → AreWaitingFor (take i waiting) lists → slice_get lists place ≡ Some old → copy ≡ one → new ≡ old ++ copy ∷ []
    → all ≡ slice_set lists place new
    → AreWaitingFor (take (i + 1) waiting) all
waits_put waiting lists all i place one copy old new at is within so_far here same written put =
    let own : slice_get lists one.row ≡ Some old = ap (slice_get lists) (sym at) ∙ here in
    let lasts : new ≡ old ++ one ∷ [] = written ∙ ap (λ (w : Waiting). old ++ w ∷ []) same in
    let whole : slice_set lists one.row new ≡ all = ap (λ (k : ℕ). slice_set lists k new) (sym at) ∙ sym put in
    subst (AreWaitingFor (take (i + 1) waiting)) whole (waits_more waiting lists i one old new is within so_far own lasts)
