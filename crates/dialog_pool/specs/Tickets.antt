-- The tickets on which works go through a pool's ring. This project's own.
use Rattle.std.specs.Prelude.{◌≡◌, ℕ, ◌==◌, ◌+◌, ◌<◌, ◌≤◌, Bool, List, [], ◌∷◌, ◌++◌, cond, count_by, sum_by}
use Rattle.dialog_pool.specs.declared.ring.Hand.{Hand}

-- what a hand is: whether it pushes, how many tickets it has pushed, and the numbers of those that it has popped
abbrev pub hand : Bool → ℕ → List ℕ → Hand
hand pushes count popped = record { pushes = pushes; count = count; popped = popped }

-- the hand after it pushed one more ticket
abbrev pub pushed_one : Hand → Hand
pushed_one h = hand h.pushes (h.count + 1) h.popped

-- the hand after it popped the ticket of this number
abbrev pub popped_one : Hand → ℕ → Hand
popped_one h number = hand h.pushes h.count (h.popped ++ number ∷ [])

-- how many hands push
abbrev pub pushing : List Hand → ℕ
pushing hands = count_by (λ h. h.pushes) hands

-- how many tickets were pushed, which are numbered from 0 on: as many as the hands that push have pushed
abbrev pub pushed : List Hand → ℕ
pushed hands = sum_by (λ h. cond h.pushes h.count 0) hands

-- how often a number is in a list
abbrev pub times : ℕ → List ℕ → ℕ
times number numbers = count_by (λ n. n == number) numbers

-- how often the ticket of this number was popped
abbrev pub popped : ℕ → List Hand → ℕ
popped number hands = sum_by (λ h. times number h.popped) hands

-- The law of the ring, over the numbers of the tickets in it and over all hands: exactly one hand pushes; each ticket that
-- was pushed is in the ring or was popped, and that once; and no other ticket is anywhere
pub record AreOnce (numbers : List ℕ) (hands : List Hand) : Type 0 where
  pub one_pushes : pushing hands ≡ 1
  pub each_once : (number : ℕ) → number < pushed hands → times number numbers + popped number hands ≡ 1
  pub no_other : (number : ℕ) → pushed hands ≤ number → times number numbers + popped number hands ≡ 0
