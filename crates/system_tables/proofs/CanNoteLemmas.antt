-- Noting a record asks no more than what is known of one that joins a log.
use Rattle.std.specs.List.{AllByRecursion}
use Rattle.std.proofs.Common.{◌≡◌, ℕ, false, Option, Some, List, [], ◌∷◌, ◌++◌, ◌≤◌, append_assoc, length, refl, sym, subst, ◌∙◌}
use Rattle.std.proofs.lemmas.Bool.{or_parts, or_from}
use Rattle.std.proofs.lemmas.List.{length-map}
use Rattle.std.proofs.lemmas.List.Folds.{list_any-append}
use Rattle.ale_base.specs.Tid.{TidOf, is_tid}
use Rattle.ale_base.proofs.TidLemmas.{is_tid-turned}
use Rattle.ale_base.specs.declared.way.Way.{Way}
use Rattle.ale_base.specs.declared.way.Way.TheVariants.{Outgoing, Incoming}
use Rattle.unit_core.specs.declared.ale_unit.AleUnit.{AleUnit}
use Rattle.unit_core.specs.declared.records.Record.{Record}
use Rattle.unit_core.specs.declared.records.Record.TheVariants.{Commit, Dispatch, Mark, Done, Accept, Execute, Fail}
use Rattle.unit_core.specs.Filters.{received}
use Rattle.unit_core.specs.Once.{NoneTwice}
use Rattle.unit_core.specs.Queues.{tids_of, is_among, unit_named}
use Rattle.unit_core.proofs.TidLemmas.{is_among-listed, unit_named-Some}
use Rattle.plain_queues.specs.declared.queue_key.TheConstants.{MOST_QUEUES}
use Rattle.plain_queues.specs.Queues.{QueuesOf, claim_of}
use Rattle.plain_queues.specs.Changes.{added}
use Rattle.plain_queues.specs.LogQueues.{AreQueuesOver, AreQueuesOf, keys_of, names_of, IsNew}
use Rattle.plain_queues.proofs.LogQueuesLemmas.{AreQueuesOver-added}
use Rattle.plain_queues.proofs.GoesLemmas.{unit_of-new, claim_of-log, keys_of-differ}
use Rattle.system_tables.specs.CanNote.{CanAdd, CanAddAll, IsHeld, CanNoteOutgoing, CanNoteIncoming}
use Rattle.system_tables.specs.Joins.{HasQueues, Ends, JoinsSent, JoinsArrived}

-- ---- a unit is added

-- an id that stands once is not among the units before it
once-before : (before : List AleUnit) (unit : AleUnit) (behind : List AleUnit) → NoneTwice (tids_of (before ++ unit ∷ behind))
    → is_among unit.tid before ≡ false
once-before [] unit behind apart = refl
once-before (u ∷ us) unit behind apart =
    let here : is_among u.tid (us ++ unit ∷ behind) ≡ false = is_among-listed u.tid (us ++ unit ∷ behind) ∙ apart.0 in
    let parts = or_parts (is_among u.tid us) (is_among u.tid (unit ∷ behind))
    (sym (list_any-append (λ (v : AleUnit). is_tid v.tid u.tid) us (unit ∷ behind)) ∙ here) in
    let differs = (or_parts (is_tid unit.tid u.tid) (is_among u.tid behind) parts.1).0 in
    or_from (is_tid u.tid unit.tid) (is_among unit.tid us) (is_tid-turned u.tid unit.tid ∙ differs) (once-before us unit behind apart.1)

-- a unit has a key for each name of its queues
keys-many : (way : Way) (unit : AleUnit) → length (keys_of way unit) ≡ length (names_of way unit)
keys-many Outgoing unit = length-map unit.outq (λ name. record { partner = unit.receiver; name = name })
keys-many Incoming unit = length-map unit.inq (λ name. record { partner = 0; name = name })

-- a unit that is not among those of a log may be added to its queues
can_add-log : (way : Way) (all : List AleUnit) (log : List Record) (claims : TidOf → Option ℕ) (queues : QueuesOf) (unit : AleUnit)
    → is_among unit.tid all ≡ false → HasQueues way unit → AreQueuesOver way all log claims queues → CanAdd way unit queues
can_add-log way all log claims queues unit new has are = record {
  new = unit_of-new way all log claims queues unit.tid are new;
  few = subst (λ many. many ≤ MOST_QUEUES) (sym (keys-many way unit)) has.few;
  different = keys_of-differ way unit ∙ has.different;
}

-- units that follow others may be added to their queues, one by one
can_add_all-log : (way : Way) (all more : List AleUnit) (log : List Record) (claims : TidOf → Option ℕ) (queues : QueuesOf)
    → NoneTwice (tids_of (all ++ more)) → AllByRecursion (IsNew way log claims) more → AllByRecursion (HasQueues way) more
    → AreQueuesOver way all log claims queues → CanAddAll way more queues
can_add_all-log way all [] log claims queues apart new has are = tt
can_add_all-log way all (unit ∷ more) log claims queues apart new has are = (
  can_add-log way all log claims queues unit (once-before all unit more apart) has.0 are,
  can_add_all-log way (all ++ unit ∷ []) more log claims (added unit.tid (keys_of way unit) queues)
      (subst (λ units. NoneTwice (tids_of units)) (sym (append_assoc all (unit ∷ []) more)) apart) new.1 has.1
      (AreQueuesOver-added way all (unit ∷ []) log claims queues (new.0, tt) are),
)

-- ---- a claim ends

-- the unit of an id that is outstanding is claimed in the queues under the number that the claims have
pub held-log : (way : Way) (all : List AleUnit) (log : List Record) (claims : TidOf → Option ℕ) (queues : QueuesOf) (tid : TidOf) (claim : Option ℕ)
    → Ends way all log claim claims tid → AreQueuesOver way all log claims queues → claim_of tid queues ≡ claims tid
held-log way all log claims queues tid claim ends are =
    let same : ends.unit.tid ≡ tid = (unit_named-Some tid all ends.unit ends.named).1 in
    subst (λ t. claim_of t queues ≡ claims t) same
    (claim_of-log way all log claims queues ends.unit are (subst (λ t. unit_named t all ≡ Some ends.unit) (sym same) ends.named) ends.outstanding)

is_held-log : (way : Way) (all : List AleUnit) (log : List Record) (claims : TidOf → Option ℕ) (queues : QueuesOf) (tid : TidOf) (claim : Option ℕ)
    → Ends way all log claim claims tid → AreQueuesOver way all log claims queues → IsHeld tid claim queues
is_held-log way all log claims queues tid claim ends are = record {
  number = ends.number;
  given = ends.given;
  held = held-log way all log claims queues tid claim ends are ∙ ends.held;
}

-- ---- a record

-- what noting a record asks of the outbound queues
pub can_note_outgoing-joins : (committed more : List AleUnit) (log : List Record) (claim : Option ℕ) (claims : TidOf → Option ℕ) (next : Record)
    (queues : QueuesOf) → JoinsSent committed more log claim claims next → AreQueuesOf Outgoing committed log claims queues
    → CanNoteOutgoing next more claim queues
can_note_outgoing-joins committed more log claim claims (Commit origin docs) queues joins are =
    can_add_all-log Outgoing committed more log claims queues joins.apart joins.new joins.queues are
can_note_outgoing-joins committed more log claim claims Dispatch queues joins are =
    can_add_all-log Outgoing committed more log claims queues joins.apart joins.new joins.queues are
can_note_outgoing-joins committed more log claim claims (Done tid) queues joins are = is_held-log Outgoing committed log claims queues tid claim joins.1 are
can_note_outgoing-joins committed more log claim claims (Mark tid cause) queues joins are =
    is_held-log Outgoing committed log claims queues tid claim joins.1 are
can_note_outgoing-joins committed more log claim claims next queues joins are = tt

-- what noting a record asks of the inbound queues
pub can_note_incoming-joins : (committed : List AleUnit) (log : List Record) (claim : Option ℕ) (claims : TidOf → Option ℕ) (next : Record)
    (queues : QueuesOf) → JoinsArrived log claim claims next → AreQueuesOf Incoming committed log claims queues → CanNoteIncoming next claim queues
can_note_incoming-joins committed log claim claims (Accept unit) queues joins are =
    can_add-log Incoming (received log) log claims queues unit joins.takes.not_received joins.queues are
can_note_incoming-joins committed log claim claims (Execute tid) queues joins are = is_held-log Incoming (received log) log claims queues tid claim joins are
can_note_incoming-joins committed log claim claims (Fail tid) queues joins are = is_held-log Incoming (received log) log claims queues tid claim joins are
can_note_incoming-joins committed log claim claims next queues joins are = tt
