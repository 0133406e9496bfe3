-- What an operator is shown of a system of a landscape.
use Rattle.std.specs.Prelude.{◌≡◌, ℕ, ◌-◌, ◌&&◌, Bool, true, false, List, Option, Some, None, Result, Err}
use Rattle.ale_base.specs.Tid.{TidOf, IsTid}
use Rattle.document_state.specs.declared.document_tables.DocumentTables.{DocumentTables}
use Rattle.document_state.specs.Tables.{AreTablesOf}
use Rattle.unit_landscape.specs.LogAnswers.{AreTablesNow}
use Rattle.listings.specs.Listings.{ListedAs, system_of}
use Rattle.document_state.specs.declared.model_rules.ModelRules.{ModelRules}
use Rattle.document_state.specs.Meaning.{model_meaning}
use Rattle.status_log.specs.declared.listing.Listing.{Listing}
use Rattle.status_log.specs.declared.refusal.Refusal.{Refusal}
use Rattle.status_log.specs.declared.refusal.Refusal.TheVariants.{N2}
use Rattle.status_log.specs.declared.show.Show.{Show}
use Rattle.system_tables.specs.OfLog.{is_unconfirmed}
use Rattle.system_tables.specs.Tables.{TablesOf}
use Rattle.trfc_protocol.specs.declared.held.HeldKind.TheVariants.{Out, In}
use Rattle.trfc_protocol.specs.declared.world.World.{World}
use Rattle.trfc_protocol.specs.Worlds.{is_up, log_of, committed_by}
use Rattle.unit_core.specs.Queues.{is_listed}
use Rattle.unit_journal.specs.OnDisk.{moments_at}
use Rattle.unit_landscape.specs.Claims.{claim_at}
use Rattle.unit_landscape.specs.KeptWorlds.{KeptOf}

module _ {V : Type 0} (kept : KeptOf ModelRules DocumentTables V) where
  -- what is shown of a system that is up is what is listed by its log, the moments of its records, the units that it commits, and the claims
  -- at it; 2 refuses one that is down
  abbrev pub ShownIf : Bool → Show → Result Listing Refusal → Type 0
  ShownIf true show shown =
      ListedAs (committed_by (model_meaning kept.world.rules.systems) kept.world (system_of show)) (log_of kept.world (system_of show))
      (moments_at kept.journals (system_of show - 1))
      (claim_at Out (system_of show) kept.world.claims) (claim_at In (system_of show) kept.world.claims) show shown
  ShownIf false show shown = shown ≡ Err N2

  -- what is shown of the system that is asked for
  abbrev pub ShownAs : Show → Result Listing Refusal → Type 0
  ShownAs show shown = ShownIf (is_up kept.world (system_of show)) show shown

-- ids are those of the units of a system that are done and not ended; of one that is down there are none
abbrev pub AreUnconfirmedAt : World ModelRules → ℕ → List TidOf → Type 0
AreUnconfirmedAt world system tids = (tid : TidOf) → IsTid tid → is_listed tid tids ≡ (is_up world system && is_unconfirmed tid (log_of world system))

-- ---- what only private functions cite

-- the tables of a system that is up are those of its log and of the claims at it; of one that is down there are none
abbrev pub AreShownBy : World ModelRules → ℕ → Option (TablesOf DocumentTables) → Type 0
AreShownBy world system (Some tables) =
    (is_up world system ≡ true) × AreTablesNow (λ one log. AreTablesOf log one) (model_meaning world.rules.systems) world system tables
AreShownBy world system None = is_up world system ≡ false
