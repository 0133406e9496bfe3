-- What each record of a log does to its queues: one call. These are the laws by which a running system keeps its queues.
use Rattle.std.specs.List.{AllByRecursion}
use Rattle.std.proofs.Common.{◌≡◌, ℕ, true, false, Option, Some, None, List, [], ◌∷◌, ◌++◌, refl, sym, subst}
use Rattle.ale_base.specs.Tid.{TidOf}
use Rattle.ale_base.specs.declared.mark.Mark.{Mark as Cause}
use Rattle.ale_base.specs.declared.mark.Mark.TheVariants.{Sysfail}
use Rattle.ale_base.specs.declared.way.Way.{Way}
use Rattle.ale_base.specs.declared.way.Way.TheVariants.{Outgoing, Incoming}
use Rattle.ale_base.proofs.MemberLemmas.{filter_map-None, filter_map-Some}
use Rattle.unit_core.specs.declared.ale_unit.AleUnit.{AleUnit}
use Rattle.unit_core.specs.declared.records.Record.{Record}
use Rattle.unit_core.specs.declared.records.Record.TheVariants.{Mark, Done, Accept, Execute, Direct, Fail, Stop, Start, Retry}
use Rattle.unit_core.specs.Filters.{received, taken_by}
use Rattle.unit_core.specs.Queues.{is_among}
use Rattle.plain_queues.specs.Queues.{QueuesOf, no_queues}
use Rattle.plain_queues.specs.Changes.{added, claimed, released, marked, retried, finished, Stops, Starts}
use Rattle.plain_queues.specs.LogQueues.{AreQueuesOver, AreQueuesOf, units_of, keys_of, added_all, IsNew, LeavesQueues, Claims, TakesNone, is_silent}
use Rattle.plain_queues.proofs.LogQueuesLemmas.{AreQueuesOver-nothing, AreQueuesOver-claimed, AreQueuesOver-released, AreQueuesOver-other, AreQueuesOver-Done}
use Rattle.plain_queues.proofs.LogQueuesLemmas.{AreQueuesOver-Mark, AreQueuesOver-committed, AreQueuesOver-Execute, AreQueuesOver-Fail, AreQueuesOver-Accept}
use Rattle.plain_queues.proofs.LogQueuesLemmas.{AreQueuesOver-direct, AreQueuesOver-Retry, AreQueuesOver-stopped, AreQueuesOver-started, is_silent-leaves}

-- a record that takes no unit in leaves the units of a direction
units_stay : (way : Way) (committed : List AleUnit) (log : List Record) (next : Record) (claims : TidOf → Option ℕ) (queues : QueuesOf) → TakesNone way next
    → AreQueuesOver way (units_of way committed log) (log ++ next ∷ []) claims queues → AreQueuesOf way committed (log ++ next ∷ []) claims queues
units_stay Outgoing committed log next claims queues none are = are
units_stay Incoming committed log next claims queues none are =
    subst (λ all. AreQueuesOver Incoming all (log ++ next ∷ []) claims queues) (sym (filter_map-None taken_by log next none)) are

-- the queues of a log of no records are empty, where nothing was committed
pub AreQueuesOf-nothing : (way : Way) (claims : TidOf → Option ℕ) → AreQueuesOf way [] [] claims no_queues
AreQueuesOf-nothing Outgoing claims = AreQueuesOver-nothing Outgoing claims
AreQueuesOf-nothing Incoming claims = AreQueuesOver-nothing Incoming claims

-- a claim is no record: the log stays, and the unit is claimed; where it is given up, it is released
pub AreQueuesOf-claimed : (way : Way) (committed : List AleUnit) (log : List Record) (tid : TidOf) (number : ℕ) (claims after : TidOf → Option ℕ)
    (queues : QueuesOf)
    → Claims tid (Some number) claims after → AreQueuesOf way committed log claims queues → AreQueuesOf way committed log after (claimed number tid queues)
AreQueuesOf-claimed way committed log tid number claims after queues change are =
    AreQueuesOver-claimed way (units_of way committed log) log tid number claims after queues change are

pub AreQueuesOf-released : (way : Way) (committed : List AleUnit) (log : List Record) (tid : TidOf) (claims after : TidOf → Option ℕ) (queues : QueuesOf)
    → Claims tid None claims after → AreQueuesOf way committed log claims queues → AreQueuesOf way committed log after (released tid queues)
AreQueuesOf-released way committed log tid claims after queues change are =
    AreQueuesOver-released way (units_of way committed log) log tid claims after queues change are

-- outbound: a Commit or a Dispatch adds the units that it commits, a Done is the end of one, a Mark marks one
pub AreQueuesOf-committed : (committed more : List AleUnit) (log : List Record) (next : Record) (claims : TidOf → Option ℕ) (queues : QueuesOf)
    → LeavesQueues Outgoing next → AllByRecursion (IsNew Outgoing log claims) more → AreQueuesOf Outgoing committed log claims queues
    → AreQueuesOf Outgoing (committed ++ more) (log ++ next ∷ []) claims (added_all Outgoing more queues)
AreQueuesOf-committed committed more log next claims queues leaves new are = AreQueuesOver-committed committed more log next claims queues leaves new are

pub AreQueuesOf-Done : (committed : List AleUnit) (log : List Record) (tid : TidOf) (claims after : TidOf → Option ℕ) (queues : QueuesOf)
    → Claims tid None claims after → AreQueuesOf Outgoing committed log claims queues
    → AreQueuesOf Outgoing committed (log ++ Done tid ∷ []) after (finished tid queues)
AreQueuesOf-Done committed log tid claims after queues change are = AreQueuesOver-Done committed log tid claims after queues change are

pub AreQueuesOf-Mark : (committed : List AleUnit) (log : List Record) (tid : TidOf) (cause : Cause) (claims after : TidOf → Option ℕ) (queues : QueuesOf)
    → Claims tid None claims after → AreQueuesOf Outgoing committed log claims queues
    → AreQueuesOf Outgoing committed (log ++ Mark tid cause ∷ []) after (marked cause tid queues)
AreQueuesOf-Mark committed log tid cause claims after queues change are = AreQueuesOver-Mark committed log tid cause claims after queues change are

-- inbound: an Accept adds its unit, an Execute is the end of one, a Fail marks one, and a Direct leaves the queues, since its
-- unit is received and executed at once
pub AreQueuesOf-Accept : (committed : List AleUnit) (log : List Record) (unit : AleUnit) (claims : TidOf → Option ℕ) (queues : QueuesOf)
    → IsNew Incoming log claims unit → AreQueuesOf Incoming committed log claims queues
    → AreQueuesOf Incoming committed (log ++ Accept unit ∷ []) claims (added unit.tid (keys_of Incoming unit) queues)
AreQueuesOf-Accept committed log unit claims queues new are =
    subst (λ all. AreQueuesOver Incoming all (log ++ Accept unit ∷ []) claims (added unit.tid (keys_of Incoming unit) queues))
    (sym (filter_map-Some taken_by log (Accept unit) unit refl))
    (AreQueuesOver-Accept (received log) log unit claims queues new are)

pub AreQueuesOf-Direct : (committed : List AleUnit) (log : List Record) (unit : AleUnit) (claims : TidOf → Option ℕ) (queues : QueuesOf)
    → is_among unit.tid (received log) ≡ false → AreQueuesOf Incoming committed log claims queues
    → AreQueuesOf Incoming committed (log ++ Direct unit ∷ []) claims queues
AreQueuesOf-Direct committed log unit claims queues new are =
    subst (λ all. AreQueuesOver Incoming all (log ++ Direct unit ∷ []) claims queues)
    (sym (filter_map-Some taken_by log (Direct unit) unit refl))
    (AreQueuesOver-direct (received log) log unit claims queues new are)

pub AreQueuesOf-Execute : (committed : List AleUnit) (log : List Record) (tid : TidOf) (claims after : TidOf → Option ℕ) (queues : QueuesOf)
    → Claims tid None claims after → AreQueuesOf Incoming committed log claims queues
    → AreQueuesOf Incoming committed (log ++ Execute tid ∷ []) after (finished tid queues)
AreQueuesOf-Execute committed log tid claims after queues change are =
    units_stay Incoming committed log (Execute tid) after (finished tid queues) refl
    (AreQueuesOver-Execute (received log) log tid claims after queues change are)

pub AreQueuesOf-Fail : (committed : List AleUnit) (log : List Record) (tid : TidOf) (claims after : TidOf → Option ℕ) (queues : QueuesOf)
    → Claims tid None claims after → AreQueuesOf Incoming committed log claims queues
    → AreQueuesOf Incoming committed (log ++ Fail tid ∷ []) after (marked Sysfail tid queues)
AreQueuesOf-Fail committed log tid claims after queues change are =
    units_stay Incoming committed log (Fail tid) after (marked Sysfail tid queues) refl
    (AreQueuesOver-Fail (received log) log tid claims after queues change are)

takes_none_Retry : (way other : Way) (tid : TidOf) → TakesNone way (Retry other tid)
takes_none_Retry Outgoing other tid = tt
takes_none_Retry Incoming other tid = refl

takes_none_Stop : (way other : Way) (destination : ℕ) (name : List ℕ) → TakesNone way (Stop other destination name)
takes_none_Stop Outgoing other destination name = tt
takes_none_Stop Incoming other destination name = refl

takes_none_Start : (way other : Way) (destination : ℕ) (name : List ℕ) → TakesNone way (Start other destination name)
takes_none_Start Outgoing other destination name = tt
takes_none_Start Incoming other destination name = refl

-- in both directions: a Retry removes a mark, a Stop stops a queue, a Start starts it
pub AreQueuesOf-Retry : (way : Way) (committed : List AleUnit) (log : List Record) (tid : TidOf) (claims : TidOf → Option ℕ) (queues : QueuesOf)
    → AreQueuesOf way committed log claims queues → AreQueuesOf way committed (log ++ Retry way tid ∷ []) claims (retried tid queues)
AreQueuesOf-Retry way committed log tid claims queues are =
    units_stay way committed log (Retry way tid) claims (retried tid queues) (takes_none_Retry way way tid)
    (AreQueuesOver-Retry way (units_of way committed log) log tid claims queues are)

pub AreQueuesOf-Stop : (way : Way) (committed : List AleUnit) (log : List Record) (destination : ℕ) (name : List ℕ) (claims : TidOf → Option ℕ)
    (queues after : QueuesOf)
    → Stops (record { partner = destination; name = name }) queues after → AreQueuesOf way committed log claims queues
    → AreQueuesOf way committed (log ++ Stop way destination name ∷ []) claims after
AreQueuesOf-Stop way committed log destination name claims queues after stops are =
    units_stay way committed log (Stop way destination name) claims after (takes_none_Stop way way destination name)
    (AreQueuesOver-stopped way (units_of way committed log) log destination name claims queues after stops are)

pub AreQueuesOf-Start : (way : Way) (committed : List AleUnit) (log : List Record) (destination : ℕ) (name : List ℕ) (claims : TidOf → Option ℕ)
    (queues after : QueuesOf)
    → Starts (record { partner = destination; name = name }) queues after → AreQueuesOf way committed log claims queues
    → AreQueuesOf way committed (log ++ Start way destination name ∷ []) claims after
AreQueuesOf-Start way committed log destination name claims queues after starts are =
    units_stay way committed log (Start way destination name) claims after (takes_none_Start way way destination name)
    (AreQueuesOver-started way (units_of way committed log) log destination name claims queues after starts are)

-- every other record leaves the queues
pub AreQueuesOf-silent : (way : Way) (committed : List AleUnit) (log : List Record) (next : Record) (claims : TidOf → Option ℕ) (queues : QueuesOf)
    → is_silent way next ≡ true → TakesNone way next → AreQueuesOf way committed log claims queues
    → AreQueuesOf way committed (log ++ next ∷ []) claims queues
AreQueuesOf-silent way committed log next claims queues silent none are =
    units_stay way committed log next claims queues none
    (AreQueuesOver-other way (units_of way committed log) log next claims queues (is_silent-leaves way next silent) are)
