-- What the tables answer, said by the logs and the claims of the world.
use Rattle.std.specs.Prelude.{find, slice_get, is_some}
use Rattle.std.specs.Option.{option_map, option_map_or}
use Rattle.std.proofs.Common.{◌≡◌, ℕ, suc, ◌-◌, ◌<◌, ◌≤◌, true, false, Some, List, length, refl, sym, ap, subst, ◌∙◌, arith}
use Rattle.ale_base.specs.Tid.{TidOf}
use Rattle.ale_base.specs.declared.way.Way.{Way}
use Rattle.ale_base.specs.declared.way.Way.TheVariants.{Outgoing, Incoming}
use Rattle.ale_base.proofs.ListLemmas.{slice_get-within}
use Rattle.unit_core.specs.declared.ale_unit.AleUnit.{AleUnit}
use Rattle.unit_core.specs.declared.records.Record.{Record}
use Rattle.unit_core.specs.Queues.{is_listed, is_outstanding, unit_named}
use Rattle.plain_queues.specs.LogQueues.{HaveOneSender, units_of, through, may_go}
use Rattle.plain_queues.specs.Queues.{unit_of}
use Rattle.tid_table.specs.LogTids.{is_known}
use Rattle.plain_queues.specs.Offered.{is_offered, first_offered}
use Rattle.trfc_protocol.specs.declared.world.World.{World}
use Rattle.trfc_protocol.specs.declared.held.Held.{Held}
use Rattle.trfc_protocol.specs.declared.held.HeldKind.TheVariants.{Out, In}
use Rattle.trfc_protocol.specs.Worlds.{log_of, log_or_none, is_up, committed_by}
use Rattle.trfc_protocol.specs.Meaning.{Meaning}
use Rattle.system_tables.specs.Tables.{TablesOf, queues_of}
use Rattle.system_tables.specs.OfLog.{AreTablesOf, claims_of, is_unconfirmed}
use Rattle.system_tables.proofs.AskingLemmas.{seen-tables, unconfirmed-tables, outstanding-tables, offered-tables, first_offered-tables}
use Rattle.unit_landscape.specs.Claims.{claim_at, kind_of}
use Rattle.unit_landscape.specs.InStep.{AreInStep}
use Rattle.unit_landscape.specs.ClaimAnswers.{IsNextUnit}
use Rattle.unit_landscape.proofs.InStepLemmas.{stands_up}
use Rattle.unit_landscape.specs.LogAnswers.{may_go_at, first_to_go, AreTablesNow}

-- the claims of a direction at a system
way_claims : (way : Way) (system : ℕ) (claims : List Held) → claims_of way (claim_at Out system claims) (claim_at In system claims)
    ≡ claim_at (kind_of way) system claims
way_claims Outgoing system claims = refl
way_claims Incoming system claims = refl

module _ {R A : Type 0} (stands : A → List Record → Type 0) (rules : Meaning) (world : World R) (system : ℕ) (its : TablesOf A)
    (are : AreTablesNow stands rules world system its) where
  -- an id is seen exactly where the log received its unit and has not forgotten it
  pub known-at : (tid : TidOf) → is_listed tid its.seen ≡ is_known tid (log_of world system)
  known-at tid =
      seen-tables stands (committed_by rules world system) (log_of world system) (claim_at Out system world.claims)
      (claim_at In system world.claims) its tid are

  -- it is unconfirmed exactly where its unit is done and not ended
  pub unconfirmed-at : (tid : TidOf) → is_listed tid its.unconfirmed ≡ is_unconfirmed tid (log_of world system)
  unconfirmed-at tid =
      unconfirmed-tables stands (committed_by rules world system) (log_of world system) (claim_at Out system world.claims)
      (claim_at In system world.claims) its tid are

  -- a unit is in the queues exactly where it is there and not through
  pub outstanding-at : (way : Way) (tid : TidOf) → is_some (unit_of tid (queues_of way its))
      ≡ option_map_or (is_outstanding (through way (log_of world system)))
      (unit_named tid (units_of way (committed_by rules world system) (log_of world system))) false
  outstanding-at way tid =
      outstanding-tables stands way (committed_by rules world system) (log_of world system) (claim_at Out system world.claims)
      (claim_at In system world.claims) its tid are

  module _ (way : Way) (one : HaveOneSender way (units_of way (committed_by rules world system) (log_of world system))) where
    -- a unit is offered exactly where it may go by the log and the claims
    pub offered-at : (tid : TidOf) → is_offered tid (queues_of way its) ≡ may_go_at rules world system way tid
    offered-at tid =
        let log = log_of world system in
        let committed = committed_by rules world system in
        offered-tables stands way committed log (claim_at Out system world.claims) (claim_at In system world.claims) its tid one are
        ∙ ap (λ claims. option_map_or (may_go way (units_of way committed log) log claims) (unit_named tid (units_of way committed log)) false)
        (way_claims way system world.claims)

    -- and so is the one that is found first
    pub first-at : first_offered (queues_of way its) ≡ first_to_go rules world system way
    first-at =
        let log = log_of world system in
        let committed = committed_by rules world system in
        first_offered-tables stands way committed log (claim_at Out system world.claims) (claim_at In system world.claims) its one are
        ∙ ap (λ claims. option_map (λ (unit : AleUnit). unit.tid) (find (may_go way (units_of way committed log) log claims) (units_of way committed log)))
        (way_claims way system world.claims)

    -- the first that may go is next
    pub next-at : (tid : TidOf) → first_to_go rules world system way ≡ Some tid → may_go_at rules world system way tid ≡ true → IsNextUnit way tid its
    next-at tid first may = record { first = first-at ∙ first; offered = offered-at tid ∙ may }

module _ {R A : Type 0} (stands : A → List Record → Type 0) (rules : Meaning) (world : World R) (tables : List (TablesOf A))
    (are : AreInStep stands rules world.systems world.claims tables) (system : ℕ) (up : is_up world system ≡ true) where
  -- a system that is up has its tables
  pub tables-within : system ≤ length tables
  tables-within = subst (λ n. system ≤ n) (sym are.all) (stands_up world.systems system up).most

  pub tables-there : (its : TablesOf A) × (slice_get tables (system - 1) ≡ Some its)
  tables-there =
      let within : system - 1 < length tables = let least = (stands_up world.systems system up).least in let most = tables-within in omega arith in
      slice_get-within tables (system - 1) within

  -- and they are those of its log and of the claims at it
  pub tables-at : (its : TablesOf A) → slice_get tables (system - 1) ≡ Some its → AreTablesNow stands rules world system its
  tables-at its at =
      let standing = stands_up world.systems system up in
      let place = system - 1 in
      let number : suc place ≡ system = let least = standing.least in omega arith in
      let known : (standing.state).log ≡ log_of world system = sym (ap log_or_none standing.known) in
      subst (λ s. AreTablesOf stands (rules.committed s (log_of world system)) (log_of world system) (claim_at Out s world.claims)
      (claim_at In s world.claims) its) number
      (subst (λ l. AreTablesOf stands (rules.committed (suc place) l) l (claim_at Out (suc place) world.claims) (claim_at In (suc place) world.claims) its)
      known
      ((are.each place standing.state its standing.at at).up standing.up))
