-- Units in queues. SAP Library, queued RFC; that a unit may stand in several queues is this project's own.
use Rattle.std.specs.Prelude.{ℕ, Bool, true, false, not, ◌==◌, ◌&&◌, Option, Some, None, List, [], ◌∷◌, map, filter, find, nat_eq}
use Rattle.std.specs.List.{list_any, list_all}
use Rattle.std.specs.Cmp.Lexicographic.{pointwise}
use Rattle.ale_base.specs.Tid.{TidOf, is_tid}
use Rattle.unit_core.specs.declared.ale_unit.AleUnit.{AleUnit}
use Rattle.unit_core.specs.declared.queue.Queue.{Queue}
use Rattle.unit_core.specs.declared.queue.Queue.TheVariants.{Outbound, Inbound}

-- the ids of units
abbrev pub tids_of : List AleUnit → List TidOf
tids_of units = map (λ unit. unit.tid) units

-- whether an id stands in a list
abbrev pub is_listed : TidOf → List TidOf → Bool
is_listed tid tids = list_any (λ other. is_tid other tid) tids

-- whether a unit of this id is among these
abbrev pub is_among : TidOf → List AleUnit → Bool
is_among tid units = list_any (λ unit. is_tid unit.tid tid) units

-- the unit of this id
abbrev pub unit_named : TidOf → List AleUnit → Option AleUnit
unit_named tid units = find (λ unit. is_tid unit.tid tid) units

-- a unit is outstanding until its id is among those that are through: done at its sender, executed at its receiver
abbrev pub is_outstanding : List TidOf → AleUnit → Bool
is_outstanding through unit = not (is_listed unit.tid through)

-- whether a name is among these
abbrev pub has_name : List ℕ → List (List ℕ) → Bool
has_name name names = list_any (λ other. pointwise nat_eq other name) names

-- whether no name stands twice in a list
abbrev pub are_different : List (List ℕ) → Bool
are_different [] = true
are_different (name ∷ names) = not (has_name name names) && are_different names

-- whether a unit stands in a queue
abbrev pub stands_in : Queue → AleUnit → Bool
stands_in (Outbound sender destination name) unit = (unit.sender == sender) && (unit.receiver == destination) && has_name name unit.outq
stands_in (Inbound name) unit = has_name name unit.inq

-- the units of a queue, in order
abbrev pub in_queue : Queue → List AleUnit → List AleUnit
in_queue queue units = filter (stands_in queue) units

-- the first unit of a queue that is outstanding
abbrev pub head_of : List TidOf → List AleUnit → Queue → Option AleUnit
head_of through units queue = find (λ unit. stands_in queue unit && is_outstanding through unit) units

-- whether there is a unit, and it has this id
abbrev pub has_tid : TidOf → Option AleUnit → Bool
has_tid tid (Some unit) = is_tid unit.tid tid
has_tid tid None = false

-- whether the unit of this id heads a queue
abbrev pub is_head : List TidOf → List AleUnit → TidOf → Queue → Bool
is_head through units tid queue = has_tid tid (head_of through units queue)

-- whether a unit heads each of its queues at its sender
abbrev pub heads_outbound : List TidOf → List AleUnit → AleUnit → Bool
heads_outbound through units unit = list_all (λ name. is_head through units unit.tid (Outbound unit.sender unit.receiver name)) unit.outq

-- whether a unit heads each of its queues at its receiver
abbrev pub heads_inbound : List TidOf → List AleUnit → AleUnit → Bool
heads_inbound through units unit = list_all (λ name. is_head through units unit.tid (Inbound name)) unit.inq
