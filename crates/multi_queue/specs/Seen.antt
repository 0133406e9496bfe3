-- What is seen of the counting body: the list of units and stops of the plain definitions, and what its lists keep.
use Rattle.std.specs.Prelude.{◌≡◌, ℕ, ◌<◌, ◌==◌, ◌&&◌, Bool, false, true, Option, Some, None, List, [], ◌∷◌, map, filter, length, slice_get, if◌then◌else◌}
use Rattle.std.specs.List.{filter_map}
use Rattle.std.specs.Option.{option_map, option_map_or, option_and_then, option_or, is_none, is_some}
use Rattle.std.specs.declared.cmp.Ordering.{Ordering}
use Rattle.std.specs.Ordering.{ordering_then, nat_cmp}
use Rattle.std.specs.Cmp.Lexicographic.{slice_cmp}
use Rattle.ale_base.specs.Blanks.{padded}
use Rattle.ale_base.specs.QueueName.{IsQueueName}
use Rattle.ale_base.specs.Tid.{TidOf}
use Rattle.plain_queues.specs.declared.queue_key.QueueKey.{QueueKey}
use Rattle.plain_queues.specs.declared.queued_unit.QueuedUnit.{QueuedUnit}
use Rattle.plain_queues.specs.declared.not_offered.NotOffered.{NotOffered}
use Rattle.plain_queues.specs.declared.not_offered.NotOffered.TheVariants.{Running, Failed, Stopped, Behind}
use Rattle.plain_queues.specs.declared.queue_status.QueueStatus.{QueueStatus}
use Rattle.plain_queues.specs.declared.queue_status.QueueStatus.TheVariants.{Stop, Waitstop, Waiting, Ready}
use Rattle.plain_queues.specs.declared.queue_status.QueueStatus.TheVariants.{Running as Worked}
use Rattle.plain_queues.specs.Queues.{QueuesOf}
use Rattle.plain_queues.specs.Status.{status_of_mark}
use Rattle.multi_queue.specs.declared.board.Board.{Board}
use Rattle.multi_queue.specs.declared.entry.Entry.{Entry}
use Rattle.multi_queue.specs.declared.entry.Lane.{Lane}
use Rattle.multi_queue.specs.Counted.{has, is_first, AreKept, HeadsAll, is_live}

-- the key of the queue of a number
abbrev pub key_at : List Lane → ℕ → Option QueueKey
key_at lanes q = option_map (λ (lane : Lane). lane.key) (slice_get lanes q)

-- a unit as the plain definitions see it
abbrev pub seen_unit : List Lane → Entry → QueuedUnit
seen_unit lanes u = record { tid = u.tid; keys = filter_map (key_at lanes) u.queues; claim = u.claim; mark = u.mark }

-- the units that are not finished, and the keys of the stopped queues
abbrev pub seen : List Entry → List Lane → QueuesOf
seen units lanes = record {
  units = map (seen_unit lanes) (filter is_live units);
  stops = map (λ (lane : Lane). lane.key) (filter (λ (lane : Lane). lane.stopped) lanes);
}

-- how an id, and how a key, is looked up
abbrev pub number_of : TidOf → ℕ × ℕ
number_of tid = (tid.system, tid.unit)

abbrev pub name_of : QueueKey → ℕ × List ℕ
name_of key = (key.partner, padded 24 key.name)

-- the table of places names each live unit, and what it names is there
pub record IsPlaced (units : List Entry) (places : ℕ × ℕ → Option ℕ) : Type 0 where
  pub there : (number : ℕ × ℕ) (p : ℕ) → places number ≡ Some p → (u : Entry) × (slice_get units p ≡ Some u) × (number_of u.tid ≡ number)
  pub placed : (p : ℕ) (u : Entry) → slice_get units p ≡ Some u → u.live ≡ true → places (number_of u.tid) ≡ Some p

-- the table of names names each queue, and what it names is there; each has a proper name
pub record IsNamed (lanes : List Lane) (names : ℕ × List ℕ → Option ℕ) : Type 0 where
  pub known : (name : ℕ × List ℕ) (q : ℕ) → names name ≡ Some q → (w : Lane) × (slice_get lanes q ≡ Some w) × (name_of w.key ≡ name)
  pub named : (q : ℕ) (w : Lane) → slice_get lanes q ≡ Some w → names (name_of w.key) ≡ Some q
  pub proper : (q : ℕ) (w : Lane) → slice_get lanes q ≡ Some w → IsQueueName w.key.name

-- what the lists of the counting body keep
pub record IsQueues (units : List Entry) (lanes : List Lane) (board : Board) (places : ℕ × ℕ → Option ℕ) (names : ℕ × List ℕ → Option ℕ) : Type 0 where
  pub kept : AreKept None units lanes board
  pub placed : IsPlaced units places
  pub named : IsNamed lanes names
  pub gone : (p : ℕ) (u : Entry) → slice_get units p ≡ Some u → u.live ≡ false → u.queues ≡ []
  pub claims : (p : ℕ) (u : Entry) → slice_get units p ≡ Some u → is_none u.claim ≡ false → (u.live ≡ true) × HeadsAll p units

-- how the tables compare what they look up: first parts first
abbrev pub numbers_cmp : ℕ × ℕ → ℕ × ℕ → Ordering
numbers_cmp a b = ordering_then (nat_cmp a.0 b.0) (nat_cmp a.1 b.1)

abbrev pub names_cmp : ℕ × List ℕ → ℕ × List ℕ → Ordering
names_cmp a b = ordering_then (nat_cmp a.0 b.0) (slice_cmp nat_cmp a.1 b.1)

-- ---- what only private functions cite

-- the live unit of an id is at this place
pub record IsAt (tid : TidOf) (units : List Entry) (places : ℕ × ℕ → Option ℕ) (p : ℕ) : Type 0 where
  pub unit : Entry
  pub stands : slice_get units p ≡ Some unit
  pub live : unit.live ≡ true
  pub names : places (number_of tid) ≡ Some p

-- no live unit has the id
pub record IsNowhere (tid : TidOf) (units : List Entry) (places : ℕ × ℕ → Option ℕ) : Type 0 where
  pub nowhere : (p : ℕ) (u : Entry) → places (number_of tid) ≡ Some p → slice_get units p ≡ Some u → u.live ≡ true → ⊥

-- each number is that of a queue
abbrev pub AreKnown : List ℕ → List Lane → Type 0
AreKnown qs lanes = (q : ℕ) → has q qs ≡ true → q < length lanes

-- the first place of each line is one of a unit
abbrev pub AreHeaded : List Entry → List Lane → Type 0
AreHeaded units lanes = (q p : ℕ) (w : Lane) → slice_get lanes q ≡ Some w → slice_get w.line 0 ≡ Some p → p < length units

-- that a queue is stopped, as a reason
abbrev pub stopped_reason : Option Lane → Option NotOffered
stopped_reason None = None
stopped_reason (Some w) = if w.stopped then Some (Stopped w.key) else None

-- the first queue of these that is stopped, as a reason
abbrev pub first_stopped_of : List Lane → List ℕ → Option NotOffered
first_stopped_of lanes [] = None
first_stopped_of lanes (q ∷ qs) = option_or (stopped_reason (slice_get lanes q)) (first_stopped_of lanes qs)

-- that a unit heads a queue, which is at another place than this one, as a reason
abbrev pub head_reason : List Entry → ℕ → QueueKey → Option ℕ → Option NotOffered
head_reason units p key None = None
head_reason units p key (Some r) = if p == r then None else option_map (λ (u : Entry). Behind key u.tid) (slice_get units r)

abbrev pub behind_reason : List Entry → ℕ → Option Lane → Option NotOffered
behind_reason units p None = None
behind_reason units p (Some w) = head_reason units p w.key (slice_get w.line 0)

-- the first queue of these that a unit at another place heads, as a reason
abbrev pub first_behind_of : List Entry → List Lane → ℕ → List ℕ → Option NotOffered
first_behind_of units lanes p [] = None
first_behind_of units lanes p (q ∷ qs) = option_or (behind_reason units p (slice_get lanes q)) (first_behind_of units lanes p qs)

-- why a unit at a place is not offered
abbrev pub why_not_of : List Entry → List Lane → ℕ → Entry → Option NotOffered
why_not_of units lanes p u =
    option_or (option_map Running u.claim)
    (option_or (option_map Failed u.mark)
    (option_or (first_stopped_of lanes u.queues)
    (first_behind_of units lanes p u.queues)))

-- whether the unit at a place heads a queue, and all these queues, by the first places of their lines
abbrev pub heads_lane : ℕ → Option Lane → Bool
heads_lane p None = false
heads_lane p (Some w) = is_first p w.line

abbrev pub heads_all_of : List Lane → ℕ → List ℕ → Bool
heads_all_of lanes p [] = true
heads_all_of lanes p (q ∷ qs) = heads_lane p (slice_get lanes q) && heads_all_of lanes p qs

-- whether a unit at a place is free
abbrev pub is_free_of : List Lane → ℕ → Entry → Bool
is_free_of lanes p u = is_none u.claim && is_none u.mark && heads_all_of lanes p u.queues

-- the status by the queues of the unit that heads the queue, and its count
abbrev pub status_by_count : List Lane → List ℕ → ℕ → QueueStatus
status_by_count lanes qs n = if is_some (first_stopped_of lanes qs) then Waitstop else (if n == length qs then Ready else Waiting)

-- the status by the unit that heads the queue, and its count
abbrev pub status_of_head : List Lane → Bool → ℕ → Entry → QueueStatus
status_of_head lanes stopped n u =
    if stopped then Stop
    else (if is_some u.claim then Worked
    else option_map_or status_of_mark u.mark (status_by_count lanes u.queues n))

-- the status of a queue, by the unit and the count at the first place of its line
abbrev pub status_by_place : List Entry → List Lane → List ℕ → Bool → ℕ → Option QueueStatus
status_by_place units lanes counts stopped p =
    option_and_then (λ n. option_map (status_of_head lanes stopped n) (slice_get units p)) (slice_get counts p)

abbrev pub status_of_lane : List Entry → List Lane → List ℕ → Option Lane → Option QueueStatus
status_of_lane units lanes counts None = None
status_of_lane units lanes counts (Some w) = option_and_then (status_by_place units lanes counts w.stopped) (slice_get w.line 0)

-- the numbers of the queues of these keys
pub record AreNumbersOf (keys : List QueueKey) (lanes : List Lane) (qs : List ℕ) : Type 0 where
  pub same : filter_map (key_at lanes) qs ≡ keys
  pub known : AreKnown qs lanes
  pub count : length qs ≡ length keys

-- no unit that is not finished has this id
abbrev pub IsNew : TidOf → List Entry → Type 0
IsNew tid units = (p : ℕ) (u : Entry) → slice_get units p ≡ Some u → u.live ≡ true → number_of u.tid ≡ number_of tid → ⊥
