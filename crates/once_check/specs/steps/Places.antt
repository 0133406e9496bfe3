-- The places of units in their outbound queues, and the counts by which they are known: how `TakenInOrder` is decided.
use Rattle.std.specs.Prelude.{◌∷◌, All, nat_eq, ◌==◌, ◌&&◌, ◌≡◌, ℕ, ◌+◌, ◌-◌, Bool, true, false, cond, Option, Some, None, List, [], map, length, take, drop, slice_get, slice_index_or}
use Rattle.std.specs.Int.{w64, from_be_bytes}
use Rattle.std.specs.Option.{unwrap_or}
use Rattle.std.specs.declared.cmp.Ordering.{Ordering}
use Rattle.std.specs.Ordering.{ordering_then, nat_cmp, is_eq}
use Rattle.std.specs.Cmp.Lexicographic.{slice_cmp, pointwise}
use Rattle.ale_base.specs.Blanks.{padded}
use Rattle.ale_base.specs.QueueName.{IsQueueName}
use Rattle.unit_core.specs.declared.ale_unit.AleUnit.{AleUnit}
use Rattle.unit_core.specs.declared.queue.Queue.TheVariants.{Outbound}
use Rattle.unit_core.specs.Queues.{in_queue, stands_in}
use Rattle.unit_core.specs.Systems.{of_system}
use Rattle.once_check.specs.declared.breach.Clause.{Clause}
use Rattle.once_check.specs.declared.breach.Clause.TheVariants.{WasCommitted, InOrder, WasTaken, WasDone, WasForgotten}
use Rattle.unit_core.specs.SameUnit.{is_same_unit}

-- what an outbound queue is looked up by: its sender, its receiver, and its name with blanks behind it as three numbers
abbrev pub KeyOf : Type 0
KeyOf = ℕ × ℕ × List ℕ

-- eight bytes as one number, so that names are compared by three of them
unfoldable pub word_of : List ℕ → ℕ
word_of bytes = from_be_bytes w64 bytes

abbrev pub words_of : List ℕ → List ℕ
words_of bytes = word_of (take 8 bytes) ∷ word_of (take 8 (drop 8 bytes)) ∷ word_of (drop 8 (drop 8 bytes)) ∷ []

abbrev pub key_of : ℕ → ℕ → List ℕ → KeyOf
key_of sender receiver name = (sender, receiver, words_of (padded 24 name))

abbrev pub keys_cmp : KeyOf → KeyOf → Ordering
keys_cmp a b = ordering_then (ordering_then (nat_cmp a.0 b.0) (nat_cmp a.1 b.1)) (slice_cmp nat_cmp a.2 b.2)

-- the count of a queue; one that is not there is 0
abbrev pub count_at : (KeyOf → Option ℕ) → KeyOf → ℕ
count_at counts key = unwrap_or (counts key) 0

-- the count of one queue is this now, and all others are as before
pub record IsSet (key : KeyOf) (count : ℕ) (before after : KeyOf → Option ℕ) : Type 0 where
  pub sets : (other : KeyOf) → after other ≡ cond (is_eq (keys_cmp key other)) (Some count) (before other)

-- the places that a unit takes by counts of its queues
abbrev pub places_by : (KeyOf → Option ℕ) → AleUnit → List ℕ
places_by counts unit = map (λ name. count_at counts (key_of unit.sender unit.receiver name)) unit.outq

-- the places that a unit takes in its outbound queues behind other units
abbrev pub places_behind : List AleUnit → AleUnit → List ℕ
places_behind units unit = map (λ name. length (in_queue (Outbound unit.sender unit.receiver name) units)) unit.outq

-- one unit more is counted, in each of its queues
pub record IsCounted (unit : AleUnit) (before after : KeyOf → Option ℕ) : Type 0 where
  pub counts : (sender receiver : ℕ) (name : List ℕ) → IsQueueName name
      → count_at after (key_of sender receiver name) ≡ count_at before (key_of sender receiver name) + cond (stands_in (Outbound sender receiver name) unit) 1 0

-- counts are those of units
pub record AreCountsOf (units : List AleUnit) (counts : KeyOf → Option ℕ) : Type 0 where
  pub counts_are : (sender receiver : ℕ) (name : List ℕ) → IsQueueName name
      → count_at counts (key_of sender receiver name) ≡ length (in_queue (Outbound sender receiver name) units)

-- places are those that each unit takes behind the units before it
pub record ArePlacesOf (units : List AleUnit) (places : List (List ℕ)) : Type 0 where
  pub all : length places ≡ length units
  pub places_are : (k : ℕ) (unit : AleUnit) → slice_get units k ≡ Some unit → slice_get places k ≡ Some (places_behind (take k units) unit)

-- the places of a unit in the queues of its sender
abbrev pub places_of : List (List (List ℕ)) → AleUnit → List ℕ
places_of places unit = slice_index_or (of_system places unit.sender) (unit.tid.unit - 1) []

-- the places of all systems' units
abbrev pub AreAllPlacesOf : (ℕ → List AleUnit) → List (List (List ℕ)) → Type 0
AreAllPlacesOf committed places = (system : ℕ) → ArePlacesOf (committed system) (of_system places system)

-- whether there is a unit, and it is this one
abbrev pub is_it : AleUnit → Option AleUnit → Bool
is_it unit None = false
is_it unit (Some own) = is_same_unit unit own

-- whether a unit is for this system, and the one of its number among those of its sender
abbrev pub is_committed_for : (ℕ → List AleUnit) → ℕ → AleUnit → Bool
is_committed_for committed system unit = (unit.receiver == system) && is_it unit (slice_get (committed unit.sender) (unit.tid.unit - 1))

-- what becomes of a unit that a system takes in: it was not committed, or it takes other places than those at which it was committed,
-- or it is counted
abbrev pub IsTakenSo : (ℕ → List AleUnit) → List (List (List ℕ)) → ℕ → AleUnit → (KeyOf → Option ℕ) → (KeyOf → Option ℕ) → Option Clause → Type 0
IsTakenSo committed places system unit before after (Some WasCommitted) = is_committed_for committed system unit ≡ false
IsTakenSo committed places system unit before after (Some InOrder) =
    (is_committed_for committed system unit ≡ true) × (pointwise nat_eq (places_by before unit) (places_of places unit) ≡ false) × All IsQueueName unit.outq
IsTakenSo committed places system unit before after (Some WasTaken) = ⊥
IsTakenSo committed places system unit before after (Some WasDone) = ⊥
IsTakenSo committed places system unit before after (Some WasForgotten) = ⊥
IsTakenSo committed places system unit before after None =
    (is_committed_for committed system unit ≡ true) × (pointwise nat_eq (places_by before unit) (places_of places unit) ≡ true) × All IsQueueName unit.outq
    × IsCounted unit before after
