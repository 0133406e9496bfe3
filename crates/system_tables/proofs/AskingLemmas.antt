-- What the tables of a log answer, said by the log and the claims alone.
use Rattle.std.specs.Prelude.{find, is_some, not}
use Rattle.std.specs.Option.{option_map, option_map_or, option_and_then}
use Rattle.std.proofs.Common.{◌≡◌, ℕ, Bool, true, false, cond, Option, Some, None, List, refl, sym, ap, ◌∙◌}
use Rattle.ale_base.specs.Tid.{TidOf}
use Rattle.ale_base.specs.declared.way.Way.{Way}
use Rattle.ale_base.specs.declared.way.Way.TheVariants.{Outgoing, Incoming}
use Rattle.unit_core.specs.declared.ale_unit.AleUnit.{AleUnit}
use Rattle.unit_core.specs.declared.records.Record.{Record}
use Rattle.unit_core.specs.Filters.{mark_of}
use Rattle.unit_core.specs.Queues.{is_listed, unit_named, is_outstanding}
use Rattle.unit_core.proofs.TidLemmas.{unit_named-Some}
use Rattle.tid_table.specs.LogTids.{is_known}
use Rattle.plain_queues.specs.declared.queued_unit.QueuedUnit.{QueuedUnit}
use Rattle.plain_queues.specs.Queues.{QueuesOf, unit_of, claim_of, mark_on}
use Rattle.plain_queues.specs.Offered.{is_offered, is_free, first_offered}
use Rattle.plain_queues.specs.LogQueues.{AreQueuesOver, AreQueuesOf, units_of, through, queued, may_go, is_free_by, HaveOneSender}
use Rattle.plain_queues.proofs.GoesLemmas.{unit_of-log, offered-log, free-log, first_offered-log}
use Rattle.system_tables.specs.Tables.{TablesOf, queues_of}
use Rattle.system_tables.specs.OfLog.{AreTablesOf, is_unconfirmed, claims_of}
use Rattle.system_tables.specs.Joins.{Ends}
use Rattle.system_tables.proofs.CanNoteLemmas.{held-log}

-- the queues of each direction are those of the log
pub AreTablesOf-queues : {A : Type 0} (stands : A → List Record → Type 0) (way : Way) (committed : List AleUnit) (log : List Record)
    (sent arrived : TidOf → Option ℕ) (tables : TablesOf A) → AreTablesOf stands committed log sent arrived tables
    → AreQueuesOf way committed log (claims_of way sent arrived) (queues_of way tables)
AreTablesOf-queues stands Outgoing committed log sent arrived tables are = are.outgoing
AreTablesOf-queues stands Incoming committed log sent arrived tables are = are.incoming

-- an id is seen exactly where the log received its unit and has not forgotten it
pub seen-tables : {A : Type 0} (stands : A → List Record → Type 0) (committed : List AleUnit) (log : List Record) (sent arrived : TidOf → Option ℕ)
    (tables : TablesOf A) (tid : TidOf) → AreTablesOf stands committed log sent arrived tables → is_listed tid tables.seen ≡ is_known tid log
seen-tables stands committed log sent arrived tables tid are = are.seen.known tid

-- an id is unconfirmed exactly where its unit is done and not ended by the log
pub unconfirmed-tables : {A : Type 0} (stands : A → List Record → Type 0) (committed : List AleUnit) (log : List Record) (sent arrived : TidOf → Option ℕ)
    (tables : TablesOf A) (tid : TidOf) → AreTablesOf stands committed log sent arrived tables → is_listed tid tables.unconfirmed ≡ is_unconfirmed tid log
unconfirmed-tables stands committed log sent arrived tables tid are = are.unconfirmed.each tid

-- a unit is offered exactly where it is there and may go by the log and the claims
pub offered-tables : {A : Type 0} (stands : A → List Record → Type 0) (way : Way) (committed : List AleUnit) (log : List Record)
    (sent arrived : TidOf → Option ℕ) (tables : TablesOf A) (tid : TidOf) → HaveOneSender way (units_of way committed log)
    → AreTablesOf stands committed log sent arrived tables
    → is_offered tid (queues_of way tables)
    ≡ option_map_or (may_go way (units_of way committed log) log (claims_of way sent arrived)) (unit_named tid (units_of way committed log)) false
offered-tables stands way committed log sent arrived tables tid one are =
    offered-log way (units_of way committed log) log (claims_of way sent arrived) (queues_of way tables) tid one
    (AreTablesOf-queues stands way committed log sent arrived tables are)

-- a unit is free exactly where it is there and free by the log and the claims
pub free-tables : {A : Type 0} (stands : A → List Record → Type 0) (way : Way) (committed : List AleUnit) (log : List Record)
    (sent arrived : TidOf → Option ℕ) (tables : TablesOf A) (tid : TidOf) → HaveOneSender way (units_of way committed log)
    → AreTablesOf stands committed log sent arrived tables
    → is_free tid (queues_of way tables)
    ≡ option_map_or (is_free_by way (units_of way committed log) log (claims_of way sent arrived)) (unit_named tid (units_of way committed log)) false
free-tables stands way committed log sent arrived tables tid one are =
    free-log way (units_of way committed log) log (claims_of way sent arrived) (queues_of way tables) tid one
    (AreTablesOf-queues stands way committed log sent arrived tables are)

-- the offered unit that is found first is the first one of the log that may go
pub first_offered-tables : {A : Type 0} (stands : A → List Record → Type 0) (way : Way) (committed : List AleUnit) (log : List Record)
    (sent arrived : TidOf → Option ℕ) (tables : TablesOf A) → HaveOneSender way (units_of way committed log)
    → AreTablesOf stands committed log sent arrived tables
    → first_offered (queues_of way tables)
    ≡ option_map (λ (unit : AleUnit). unit.tid) (find (may_go way (units_of way committed log) log (claims_of way sent arrived)) (units_of way committed log))
first_offered-tables stands way committed log sent arrived tables one are =
    first_offered-log way (units_of way committed log) log (claims_of way sent arrived) (queues_of way tables) one
    (AreTablesOf-queues stands way committed log sent arrived tables are)

there-mapped : {X Y : Type 0} (f : X → Y) (found : Option X) → is_some (option_map f found) ≡ is_some found
there-mapped f None = refl
there-mapped f (Some x) = refl

there-if : {X : Type 0} (open_ : Bool) (x : X) → is_some (cond open_ (Some x) None) ≡ open_
there-if true x = refl
there-if false x = refl

none-if : (open_ : Bool) → is_some {T = AleUnit} (cond open_ None None) ≡ false
none-if true = refl
none-if false = refl

-- a unit is in the queues exactly where it is there by the log and not through
outstanding-log : (way : Way) (all : List AleUnit) (log : List Record) (claims : TidOf → Option ℕ) (queues : QueuesOf) (tid : TidOf)
    → AreQueuesOver way all log claims queues → is_some (unit_of tid queues) ≡ option_map_or (is_outstanding (through way log)) (unit_named tid all) false
outstanding-log way all log claims queues tid are =
    let open_ = not (is_listed tid (through way log)) in
    ap is_some (unit_of-log way all log claims queues tid are)
    ∙ there-mapped (queued way log claims) (cond open_ (unit_named tid all) None)
    ∙ by_named (unit_named tid all) refl
  where
    by_named : (found : Option AleUnit) → unit_named tid all ≡ found
        → is_some (cond (not (is_listed tid (through way log))) found None) ≡ option_map_or (is_outstanding (through way log)) found false
    by_named None at = none-if (not (is_listed tid (through way log)))
    by_named (Some unit) at =
        there-if (not (is_listed tid (through way log))) unit
        ∙ ap (λ t. not (is_listed t (through way log))) (sym (unit_named-Some tid all unit at).1)

-- the same of tables
pub outstanding-tables : {A : Type 0} (stands : A → List Record → Type 0) (way : Way) (committed : List AleUnit) (log : List Record)
    (sent arrived : TidOf → Option ℕ) (tables : TablesOf A) (tid : TidOf) → AreTablesOf stands committed log sent arrived tables
    → is_some (unit_of tid (queues_of way tables)) ≡ option_map_or (is_outstanding (through way log)) (unit_named tid (units_of way committed log)) false
outstanding-tables stands way committed log sent arrived tables tid are =
    outstanding-log way (units_of way committed log) log (claims_of way sent arrived) (queues_of way tables) tid
    (AreTablesOf-queues stands way committed log sent arrived tables are)

-- the mark of a unit in the queues is the one since its last Retry, where it is there by the log and not through; else it has none there
mark-log : (way : Way) (all : List AleUnit) (log : List Record) (claims : TidOf → Option ℕ) (queues : QueuesOf) (tid : TidOf)
    → AreQueuesOver way all log claims queues
    → mark_on tid queues ≡ option_and_then (λ (unit : AleUnit). cond (is_outstanding (through way log) unit) (mark_of way unit.tid log) None)
    (unit_named tid all)
mark-log way all log claims queues tid are =
    ap (λ (found : Option QueuedUnit). option_and_then (λ (unit : QueuedUnit). unit.mark) found) (unit_of-log way all log claims queues tid are)
    ∙ by_named (unit_named tid all) refl
  where
    mark-if : (open_ : Bool) (unit : AleUnit) →
        option_and_then (λ (unit : QueuedUnit). unit.mark) (option_map (queued way log claims) (cond open_ (Some unit) None))
        ≡ cond open_ (mark_of way unit.tid log) None
    mark-if true unit = refl
    mark-if false unit = refl

    none-marked : (open_ : Bool) → option_and_then (λ (unit : QueuedUnit). unit.mark) (option_map (queued way log claims) (cond open_ None None)) ≡ None
    none-marked true = refl
    none-marked false = refl

    by_named : (found : Option AleUnit) → unit_named tid all ≡ found
        → option_and_then (λ (unit : QueuedUnit). unit.mark) (option_map (queued way log claims) (cond (not (is_listed tid (through way log))) found None))
        ≡ option_and_then (λ (unit : AleUnit). cond (is_outstanding (through way log) unit) (mark_of way unit.tid log) None) found
    by_named None at = none-marked (not (is_listed tid (through way log)))
    by_named (Some unit) at =
        mark-if (not (is_listed tid (through way log))) unit
        ∙ ap (λ t. cond (not (is_listed t (through way log))) (mark_of way unit.tid log) None) (sym (unit_named-Some tid all unit at).1)

-- the same of tables
pub mark-tables : {A : Type 0} (stands : A → List Record → Type 0) (way : Way) (committed : List AleUnit) (log : List Record)
    (sent arrived : TidOf → Option ℕ) (tables : TablesOf A) (tid : TidOf) → AreTablesOf stands committed log sent arrived tables
    → mark_on tid (queues_of way tables)
    ≡ option_and_then (λ (unit : AleUnit). cond (is_outstanding (through way log) unit) (mark_of way unit.tid log) None)
    (unit_named tid (units_of way committed log))
mark-tables stands way committed log sent arrived tables tid are =
    mark-log way (units_of way committed log) log (claims_of way sent arrived) (queues_of way tables) tid
    (AreTablesOf-queues stands way committed log sent arrived tables are)

-- a claim on an outstanding unit is held in the queues, so it may be given up under its number
pub held-tables : {A : Type 0} (stands : A → List Record → Type 0) (way : Way) (committed : List AleUnit) (log : List Record) (claim : Option ℕ)
    (sent arrived : TidOf → Option ℕ) (tables : TablesOf A) (tid : TidOf)
    (ends : Ends way (units_of way committed log) log claim (claims_of way sent arrived) tid) → AreTablesOf stands committed log sent arrived tables
    → claim_of tid (queues_of way tables) ≡ Some ends.number
held-tables stands way committed log claim sent arrived tables tid ends are =
    held-log way (units_of way committed log) log (claims_of way sent arrived) (queues_of way tables) tid claim ends
    (AreTablesOf-queues stands way committed log sent arrived tables are)
    ∙ ends.held
