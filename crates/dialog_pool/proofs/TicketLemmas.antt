-- Each step of a hand keeps the law of the ring.
use Rattle.std.proofs.Common.{◌≡◌, ◌≢◌, ⊎_elim, ℕ, zero, suc, ◌+◌, ◌<◌, ◌≤◌, ◌==◌, Bool, true, false, List, [], ◌∷◌, ◌++◌, map, set, sym, refl, ap, ◌∙◌, subst}
use Rattle.std.proofs.Common.{arith, cond, sum_by}
use mathlib.Core.Option.{some, some-injective, some-ne-none}
use lib.ListN.{get_elem?}
use Rattle.std.proofs.lemmas.List.Sums.{sum_by_push, sum_by-cons}
use Rattle.std.proofs.lemmas.List.{map-append}
use Rattle.std.proofs.lemmas.Bool.{eq-eqb, ne_eqb, cases_eq, cases_lt}
use Rattle.crossbeam_queue.specs.Fifo.{Pushes, Pops, Forks}
use Rattle.dialog_pool.specs.declared.ring.Hand.{Hand}
use Rattle.dialog_pool.specs.Tickets.{hand, pushed_one, popped_one, pushing, pushed, times, popped, AreOnce}

-- a sum over the hands after one of them changed
sum_set : (f : Hand → ℕ) (hands : List Hand) (seat : ℕ) (v w : Hand) → get_elem? hands seat ≡ some v → sum_by f (set hands seat w) + f v ≡ sum_by f hands + f w
sum_set f [] seat v w at = absurd (some-ne-none v (sym at))
sum_set f (h ∷ hands) zero v w at = let same = ap f (some-injective h v at) in omega (arith, sum_by-cons f w hands, sum_by-cons f h hands)
sum_set f (h ∷ hands) (suc seat) v w at = let rest = sum_set f hands seat v w at in omega (arith, sum_by-cons f h (set hands seat w), sum_by-cons f h hands)

abbrev one_if : Bool → ℕ
one_if b = cond b 1 0

-- the parts of a sum over hands that one more hand makes
pushing-cons : (h : Hand) (hands : List Hand) → pushing (h ∷ hands) ≡ one_if h.pushes + pushing hands
pushing-cons h hands = sum_by-cons (λ (x : Hand). one_if x.pushes) h hands

pushed-cons : (h : Hand) (hands : List Hand) → pushed (h ∷ hands) ≡ cond h.pushes h.count 0 + pushed hands
pushed-cons h hands = sum_by-cons (λ (x : Hand). cond x.pushes x.count 0) h hands

no_count : (b : Bool) (n : ℕ) → one_if b ≡ 0 → cond b n 0 ≡ 0
no_count true n none = absurd (omega arith)
no_count false n none = refl

-- where no hand pushes, no ticket was pushed
none_pushed : (hands : List Hand) → pushing hands ≡ 0 → pushed hands ≡ 0
none_pushed [] none = refl
none_pushed (h ∷ hands) none =
    let parts = pushing-cons h hands in
    let mine = no_count h.pushes h.count (omega arith) in
    let rest = none_pushed hands (omega arith) in
    omega (arith, pushed-cons h hands)

-- a hand that pushes is counted
counted : (hands : List Hand) (seat : ℕ) (v : Hand) → get_elem? hands seat ≡ some v → v.pushes ≡ true → 1 ≤ pushing hands
counted [] seat v at may = absurd (some-ne-none v (sym at))
counted (h ∷ hands) zero v at may =
    let mine : one_if h.pushes ≡ 1 = ap one_if (ap (λ (x : Hand). x.pushes) (some-injective h v at) ∙ may) in
    omega (arith, pushing-cons h hands)
counted (h ∷ hands) (suc seat) v at may = let rest = counted hands seat v at may in omega (arith, pushing-cons h hands)

-- what the one hand that pushes has pushed is all that was pushed
pushed_by : (hands : List Hand) (seat : ℕ) (v : Hand) → pushing hands ≡ 1 → get_elem? hands seat ≡ some v → v.pushes ≡ true → pushed hands ≡ v.count
pushed_by [] seat v one at may = absurd (some-ne-none v (sym at))
pushed_by (h ∷ hands) zero v one at may =
    let is = some-injective h v at in
    let pushes : h.pushes ≡ true = ap (λ (x : Hand). x.pushes) is ∙ may in
    let mine : one_if h.pushes ≡ 1 = ap one_if pushes in
    let parts = pushing-cons h hands in
    let rest = none_pushed hands (omega arith) in
    let count : cond h.pushes h.count 0 ≡ h.count = ap (λ (b : Bool). cond b h.count 0) pushes in
    let same : h.count ≡ v.count = ap (λ (x : Hand). x.count) is in
    omega (arith, pushed-cons h hands)
pushed_by (h ∷ hands) (suc seat) v one at may =
    let parts = pushing-cons h hands in
    let some_pushes = counted hands seat v at may in
    let mine = no_count h.pushes h.count (omega arith) in
    let rest = pushed_by hands seat v (omega arith) at may in
    omega (arith, pushed-cons h hands)

-- a number is once more in a list with it at the end, and any other as often as before
times_more : (number n : ℕ) (numbers : List ℕ) → times number (numbers ++ n ∷ []) ≡ times number numbers + one_if (n == number)
times_more number n numbers = sum_by_push (λ (m : ℕ). one_if (m == number)) numbers n

times_cons : (number n : ℕ) (numbers : List ℕ) → times number (n ∷ numbers) ≡ one_if (n == number) + times number numbers
times_cons number n numbers = sum_by-cons (λ (m : ℕ). one_if (m == number)) n numbers

hit : (n number : ℕ) → n ≡ number → one_if (n == number) ≡ 1
hit n number same = ap one_if (eq-eqb n number same)

miss : (n number : ℕ) → n ≢ number → one_if (n == number) ≡ 0
miss n number other = ap one_if (ne_eqb n number other)

-- the law at the start: one hand, which pushes
pub begins : AreOnce [] (hand true 0 [] ∷ [])
begins = record { one_pushes = refl; each_once = λ number below. absurd (omega arith); no_other = λ number above. refl }

-- the law over tickets, which sees their numbers alone
abbrev pub Law : {T : Type 0} → (T → ℕ) → List T → List Hand → Type 0
Law number_of tickets hands = AreOnce (map number_of tickets) hands

-- the same after a hand pushed: where the number is the new one, and where it is another
pushed_each : (numbers : List ℕ) (hands after : List Hand) (count number : ℕ) → AreOnce numbers hands → pushed hands ≡ count
    → popped number after ≡ popped number hands → number < count + 1 → times number (numbers ++ count ∷ []) + popped number after ≡ 1
pushed_each numbers hands after count number kept all same below = ⊎_elim
    (λ (new : count ≡ number).
    let before = kept.no_other number (omega arith) in
    let one = hit count number new in
    omega (arith, times_more number count numbers))
    (λ (old : count ≢ number).
    let before = kept.each_once number (omega arith) in
    let none = miss count number old in
    omega (arith, times_more number count numbers))
    (cases_eq count number)

pushed_none : (numbers : List ℕ) (hands after : List Hand) (count number : ℕ) → AreOnce numbers hands → pushed hands ≡ count
    → popped number after ≡ popped number hands → count + 1 ≤ number → times number (numbers ++ count ∷ []) + popped number after ≡ 0
pushed_none numbers hands after count number kept all same above =
    let before = kept.no_other number (omega arith) in
    let none = miss count number (λ (is : count ≡ number). absurd (omega arith)) in
    omega (arith, times_more number count numbers)

-- the law after the one hand that pushes has pushed a ticket of this number
kept_pushed : (numbers : List ℕ) (hands : List Hand) (seat : ℕ) (v : Hand) → AreOnce numbers hands → get_elem? hands seat ≡ some v → v.pushes ≡ true
    → AreOnce (numbers ++ v.count ∷ []) (set hands seat (pushed_one v))
kept_pushed numbers hands seat v kept at may =
    let w = pushed_one v in
    let after = set hands seat w in
    let all = pushed_by hands seat v kept.one_pushes at may in
    let mine : cond v.pushes (v.count + 1) 0 ≡ v.count + 1 = ap (λ (b : Bool). cond b (v.count + 1) 0) may in
    let was : cond v.pushes v.count 0 ≡ v.count = ap (λ (b : Bool). cond b v.count 0) may in
    let now : pushed after ≡ v.count + 1 = (let s = sum_set (λ (x : Hand). cond x.pushes x.count 0) hands seat v w at in omega arith) in
    let same : (number : ℕ) → popped number after ≡ popped number hands =
    λ number. let s = sum_set (λ (x : Hand). times number x.popped) hands seat v w at in omega arith in
    record {
      one_pushes = (let s = sum_set (λ (x : Hand). one_if x.pushes) hands seat v w at in let one = kept.one_pushes in omega arith);
      each_once = λ number below. pushed_each numbers hands after v.count number kept all (same number) (omega arith);
      no_other = λ number above. pushed_none numbers hands after v.count number kept all (same number) (omega arith);
    }

-- the law after a hand has popped the ticket of this number
kept_popped : (n : ℕ) (numbers : List ℕ) (hands : List Hand) (seat : ℕ) (v : Hand) → AreOnce (n ∷ numbers) hands → get_elem? hands seat ≡ some v
    → AreOnce numbers (set hands seat (popped_one v n))
kept_popped n numbers hands seat v kept at =
    let w = popped_one v n in
    let after = set hands seat w in
    let now : pushed after ≡ pushed hands = (let s = sum_set (λ (x : Hand). cond x.pushes x.count 0) hands seat v w at in omega arith) in
    let moved : (number : ℕ) → times number numbers + popped number after ≡ times number (n ∷ numbers) + popped number hands =
    λ number.
    let s = sum_set (λ (x : Hand). times number x.popped) hands seat v w at in
    omega (arith, times_more number n v.popped, times_cons number n numbers) in
    record {
      one_pushes = (let s = sum_set (λ (x : Hand). one_if x.pushes) hands seat v w at in let one = kept.one_pushes in omega arith);
      each_once = λ number below. moved number ∙ kept.each_once number (omega arith);
      no_other = λ number above. moved number ∙ kept.no_other number (omega arith);
    }

-- the law after a hand was made that has done nothing and does not push
kept_split : (numbers : List ℕ) (hands : List Hand) (seat : ℕ) (v : Hand) → AreOnce numbers hands → get_elem? hands seat ≡ some v
    → AreOnce numbers (set hands seat v ++ hand false 0 [] ∷ [])
kept_split numbers hands seat v kept at =
    let new = hand false 0 [] in
    let after = set hands seat v ++ new ∷ [] in
    let now : pushed after ≡ pushed hands =
    (let s = sum_set (λ (x : Hand). cond x.pushes x.count 0) hands seat v v at in
    omega (arith, sum_by_push (λ (x : Hand). cond x.pushes x.count 0) (set hands seat v) new)) in
    let same : (number : ℕ) → popped number after ≡ popped number hands =
    λ number.
    let s = sum_set (λ (x : Hand). times number x.popped) hands seat v v at in
    omega (arith, sum_by_push (λ (x : Hand). times number x.popped) (set hands seat v) new) in
    record {
      one_pushes =
          (let s = sum_set (λ (x : Hand). one_if x.pushes) hands seat v v at in
          let one = kept.one_pushes in
          omega (arith, sum_by_push (λ (x : Hand). one_if x.pushes) (set hands seat v) new));
      each_once = λ number below. ap (λ (n : ℕ). times number numbers + n) (same number) ∙ kept.each_once number (omega arith);
      no_other = λ number above. ap (λ (n : ℕ). times number numbers + n) (same number) ∙ kept.no_other number (omega arith);
    }

module _ {T : Type 0} (number_of : T → ℕ) where
  -- the hand that pushes adds a ticket whose number is the count of those that it has pushed
  pub pushes : (room seat : ℕ) (v : Hand) (x : T) → v.pushes ≡ true → number_of x ≡ v.count → Pushes (Law number_of) room seat v x (λ w. w ≡ pushed_one v)
  pushes room seat v x may is tickets hands _ kept at =
      let added : map number_of (tickets ++ x ∷ []) ≡ map number_of tickets ++ v.count ∷ [] =
      map-append number_of tickets (x ∷ []) ∙ ap (λ (n : ℕ). map number_of tickets ++ n ∷ []) is in (
        pushed_one v,
        subst (λ (numbers : List ℕ). AreOnce numbers (set hands seat (pushed_one v))) (sym added)
            (kept_pushed (map number_of tickets) hands seat v kept at may),
        refl,
      )

  -- any hand pops the ticket at the front
  pub pops : (seat : ℕ) (v : Hand) → Pops (Law number_of) seat v (λ x w. w ≡ popped_one v (number_of x))
  pops seat v x tickets hands kept at = (popped_one v (number_of x), kept_popped (number_of x) (map number_of tickets) hands seat v kept at, refl)

  -- any hand makes one more, which does not push
  pub forks : (seat : ℕ) (v : Hand) → Forks (Law number_of) seat v v (hand false 0 [])
  forks seat v tickets hands kept at = kept_split (map number_of tickets) hands seat v kept at

-- by the law a ticket is popped once at most
pub popped_once : (number : ℕ) (numbers : List ℕ) (hands : List Hand) → AreOnce numbers hands → popped number hands ≤ 1
popped_once number numbers hands kept = ⊎_elim
    (λ (below : number < pushed hands). let once = kept.each_once number below in omega arith)
    (λ (above : pushed hands ≤ number). let none = kept.no_other number above in omega arith)
    (cases_lt number (pushed hands))
