-- Queues as lists of places, with a count for each unit of the queues that are not stopped and that it heads. Private functions
-- cite this, and `IsQueues` by `AreKept`.
use Rattle.std.specs.Option.{is_none}
use Rattle.std.specs.Prelude.{◌≡◌, ◌<◌, ◌≤◌, ◌+◌, ◌*◌, ℕ, Bool, true, false, not, ◌&&◌, ◌||◌, eqb, cond, slice_set, Option, Some, None, List, [], ◌∷◌, ◌++◌}
use Rattle.std.specs.Prelude.{length}
use Rattle.std.specs.Prelude.{slice_get, is_some, find, take, ◌-◌}
use Rattle.std.specs.Prelude.{◌^◌}
use Rattle.ale_base.specs.Tid.{TidOf}
use Rattle.multi_queue.specs.Bits.{IsTreeBut, bit}
use Rattle.multi_queue.specs.declared.board.Board.{Board}
use Rattle.multi_queue.specs.declared.counting.Counting.{Counting}
use Rattle.multi_queue.specs.declared.entry.Entry.{Entry}
use Rattle.multi_queue.specs.declared.entry.Lane.{Lane}

-- whether a number is in a list
abbrev pub has : ℕ → List ℕ → Bool
has q [] = false
has q (x ∷ xs) = eqb q x || has q xs

-- no number twice
abbrev pub differ : List ℕ → Bool
differ [] = true
differ (x ∷ xs) = not (has x xs) && differ xs

-- the places, from n on, of the units that stand in a queue
abbrev pub standing : ℕ → ℕ → List Entry → List ℕ
standing q n [] = []
standing q n (u ∷ us) = cond (has q u.queues) (n ∷ standing q (n + 1) us) (standing q (n + 1) us)

abbrev pub is_first : ℕ → List ℕ → Bool
is_first p [] = false
is_first p (x ∷ _) = eqb p x

-- whether a queue counts for the unit at a place
abbrev pub tells : ℕ → Option Lane → Bool
tells p None = false
tells p (Some w) = not w.stopped && is_first p w.line

abbrev pub is_but : Option ℕ → ℕ → Bool
is_but None q = false
is_but (Some b) q = eqb b q

-- how many of these queues count for the unit at a place, without one
abbrev pub count_but : Option ℕ → List Lane → ℕ → List ℕ → ℕ
count_but but lanes p [] = 0
count_but but lanes p (q ∷ qs) = cond (not (is_but but q) && tells p (slice_get lanes q)) 1 0 + count_but but lanes p qs

pub record IsCounted (but : Option ℕ) (units : List Entry) (lanes : List Lane) (heads : List ℕ) : Type 0 where
  pub all : length heads ≡ length units
  pub lines : (q : ℕ) (w : Lane) → slice_get lanes q ≡ Some w → w.line ≡ standing q 0 units
  pub counts : (p : ℕ) (u : Entry) (h : ℕ) → slice_get units p ≡ Some u → slice_get heads p ≡ Some h → h ≡ count_but but lanes p u.queues
  pub differ : (p : ℕ) (u : Entry) → slice_get units p ≡ Some u → differ u.queues ≡ true
  pub few : (p : ℕ) (u : Entry) → slice_get units p ≡ Some u → length u.queues ≤ 8
  pub known : (p : ℕ) (u : Entry) (q : ℕ) → slice_get units p ≡ Some u → has q u.queues ≡ true → q < length lanes

-- how many entries `raise` looks at
abbrev pub looks : ℕ → List Entry → ℕ
looks q units = cond (is_some (slice_get (standing q 0 units) 0)) 1 0

-- a unit heads each of its queues
pub record HeadsAll (p : ℕ) (units : List Entry) : Type 0 where
  pub first : (u : Entry) (q : ℕ) → slice_get units p ≡ Some u → has q u.queues ≡ true → slice_get (standing q 0 units) 0 ≡ Some p

-- the queues of a unit, and those of them that another unit heads once it is gone
abbrev pub cost : List Entry → List ℕ → ℕ
cost units [] = 0
cost units (q ∷ qs) = 1 + cond (is_some (slice_get (standing q 0 units) 1)) 1 0 + cost units qs

abbrev pub cost_of : List Entry → Option Entry → ℕ
cost_of units None = 0
cost_of units (Some u) = cost units u.queues

abbrev pub cost_at : ℕ → List Entry → ℕ
cost_at p units = cost_of units (slice_get units p)

-- without the last of its queues
abbrev pub cut : Entry → Entry
cut u = record u { queues = take (length u.queues - 1) u.queues }

abbrev pub left_of : Option Entry → ℕ
left_of None = 0
left_of (Some u) = length u.queues

-- a unit that heads all its queues, and the last of them
pub record Leaving (queue place : ℕ) (units : List Entry) : Type 0 where
  pub unit : Entry
  pub stands : slice_get units place ≡ Some unit
  pub ends : unit.queues ≡ take (length unit.queues - 1) unit.queues ++ queue ∷ []
  pub heads_all : HeadsAll place units
  pub claimed : is_none unit.claim ≡ false

pub record IsCut (place : ℕ) (before after : List Entry) : Type 0 where
  pub cuts : (u : Entry) → slice_get before place ≡ Some u → after ≡ slice_set before place (cut u)

-- the unit at a place is claimed
pub record IsClaimedAt (place : ℕ) (units : List Entry) : Type 0 where
  pub claimed : (u : Entry) → slice_get units place ≡ Some u → is_none u.claim ≡ false

-- how many queues a unit has
abbrev pub left_at : ℕ → List Entry → ℕ
left_at p units = left_of (slice_get units p)

-- all but the queues of one unit is as before
pub record Leaves (p : ℕ) (before after : List Entry) : Type 0 where
  pub leaves : (u : Entry) → slice_get before p ≡ Some u → (qs : List ℕ) × (after ≡ slice_set before p (record u { queues = qs }))

-- a unit that is finished: it is in no queue and not claimed
abbrev pub gone : Entry → Entry
gone u = record u { queues = []; live = false; claim = None }

-- the unit at a place is finished, and all else is as before
pub record IsGoneAt (p : ℕ) (before after : List Entry) : Type 0 where
  pub gone_at : (u : Entry) → slice_get before p ≡ Some u → after ≡ slice_set before p (gone u)

-- a unit as it comes: in no queue, and not live yet
abbrev pub new_entry : TidOf → Entry
new_entry tid = record { tid = tid; queues = []; live = false; claim = None; mark = None }

-- a unit behind all others, with its count
abbrev pub behind : TidOf → Counting → Counting
behind tid counting = record counting {
  units = counting.units ++ new_entry tid ∷ [];
  board = record counting.board { heads = counting.board.heads ++ 0 ∷ [] };
}

-- the unit at a place is live now, and in these queues
pub record IsEntered (p : ℕ) (queues : List ℕ) (before after : List Entry) : Type 0 where
  pub entered : (u : Entry) → slice_get before p ≡ Some u → after ≡ slice_set before p (record u { queues = queues; live = true })

-- the last unit, which stands in fewer than eight queues and not in this one
pub record Joining (queue place : ℕ) (units : List Entry) : Type 0 where
  pub unit : Entry
  pub stands : slice_get units place ≡ Some unit
  pub last : length units ≡ place + 1
  pub apart : has queue unit.queues ≡ false
  pub few : length unit.queues < 8
  pub dead : unit.live ≡ false

pub record Joined (queue place : ℕ) (before after : List Entry) : Type 0 where
  pub joined : (u : Entry) → slice_get before place ≡ Some u → after ≡ slice_set before place (record u { queues = u.queues ++ queue ∷ [] })

-- whether a queue is stopped, or another unit heads it: of the stops and the units alone
abbrev pub is_stopped_at : Option Lane → Bool
is_stopped_at None = false
is_stopped_at (Some w) = w.stopped

abbrev pub is_closed : List Lane → List Entry → ℕ → ℕ → Bool
is_closed lanes units p q = is_stopped_at (slice_get lanes q) || not (is_first p (standing q 0 units))

abbrev pub first_closed_of : List Lane → List Entry → ℕ → Option Entry → Option ℕ
first_closed_of lanes units p None = None
first_closed_of lanes units p (Some u) = find (is_closed lanes units p) u.queues

abbrev pub first_closed : List Lane → List Entry → ℕ → Option ℕ
first_closed lanes units p = first_closed_of lanes units p (slice_get units p)

-- whether the unit at a place is offered, by its count
abbrev pub is_ready : Option Entry → Option ℕ → Bool
is_ready (Some u) (Some h) = u.live && is_none u.claim && is_none u.mark && eqb h (length u.queues)
is_ready (Some u) None = false
is_ready None h = false

abbrev pub is_other : Option ℕ → ℕ → Bool
is_other None p = true
is_other (Some b) p = not (eqb b p)

-- the leaves of a board's tree say which units are offered, but for one
pub record IsBoardBut (but : Option ℕ) (units : List Entry) (board : Board) : Type 0 where
  pub tree : IsTreeBut 0 board.height board.nodes
  pub fits : 2 * 2 ^ board.height < 2 ^ 64
  pub room : length units ≤ 2 ^ board.height
  pub all : length board.heads ≡ length units
  pub ready : (p : ℕ) → is_other but p ≡ true → p < 2 ^ board.height
      → bit board.nodes (2 ^ board.height + p) ≡ is_ready (slice_get units p) (slice_get board.heads p)

-- units, queues and their board belong together, where the counts leave one queue out; where there is no unit, there is no tree
pub record AreKept (but : Option ℕ) (units : List Entry) (lanes : List Lane) (board : Board) : Type 0 where
  pub counted : IsCounted but units lanes board.heads
  pub leaves : 0 < length units → IsBoardBut None units board

-- the same of what the counting body keeps
abbrev pub IsKept : Option ℕ → Counting → Type 0
IsKept but counting = AreKept but counting.units counting.lanes counting.board

-- what the public sees: the units that are not finished
abbrev pub is_live : Entry → Bool
is_live u = u.live

abbrev pub is_in : ℕ → Entry → Bool
is_in q u = has q u.queues

-- the queues have their keys and their stops still; their entries may differ
pub record KeepsLanes (before after : List Lane) : Type 0 where
  pub count : length after ≡ length before
  pub keeps : (q : ℕ) (x y : Lane) → slice_get before q ≡ Some x → slice_get after q ≡ Some y → (y.key ≡ x.key) × (y.stopped ≡ x.stopped)

-- the queues have their keys still
pub record KeepsKeys (before after : List Lane) : Type 0 where
  pub count : length after ≡ length before
  pub keys : (q : ℕ) (x y : Lane) → slice_get before q ≡ Some x → slice_get after q ≡ Some y → y.key ≡ x.key

-- queues in which no unit is and which are not stopped come behind all others
pub record Grows (before after : List Lane) : Type 0 where
  pub more : List Lane
  pub all : after ≡ before ++ more
  pub fresh : (i : ℕ) (w : Lane) → slice_get more i ≡ Some w → (w.stopped ≡ false) × (w.line ≡ [])

-- a queue is stopped or started
pub record SetsStop (queue : ℕ) (stopped : Bool) (before after : List Lane) : Type 0 where
  pub sets : (x : Lane) → slice_get before queue ≡ Some x → after ≡ slice_set before queue (record x { stopped = stopped })

-- the last unit, which is not live, and the last of its queues
pub record Parting (queue place : ℕ) (units : List Entry) : Type 0 where
  pub unit : Entry
  pub stands : slice_get units place ≡ Some unit
  pub last : length units ≡ place + 1
  pub ends : unit.queues ≡ take (length unit.queues - 1) unit.queues ++ queue ∷ []
  pub dead : unit.live ≡ false

-- the last unit is not live yet
pub record IsLastDead (place : ℕ) (units : List Entry) : Type 0 where
  pub last : length units ≡ place + 1
  pub dead : (u : Entry) → slice_get units place ≡ Some u → u.live ≡ false

-- numbers of queues that differ, at most eight
pub record AreNewQueues (queues : List ℕ) (lanes : List Lane) : Type 0 where
  pub apart : differ queues ≡ true
  pub few : length queues ≤ 8
  pub known : (q : ℕ) → has q queues ≡ true → q < length lanes

-- the unit at a place is in these queues
pub record IsIn (place : ℕ) (queues : List ℕ) (units : List Entry) : Type 0 where
  pub is_in : (u : Entry) → slice_get units place ≡ Some u → u.queues ≡ queues
