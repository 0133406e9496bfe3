-- What is known of a work stays so while claims are made and works are done.
use Rattle.std.specs.List.{list_all, list_any}
use Rattle.std.specs.Arc.{arc_value}
use Rattle.std.proofs.Common.{◌≡◌, ◌||◌, ℕ, Bool, true, false, Option, Some, None, List, [], ◌∷◌, ◌++◌, refl, sym, ap, ◌∙◌}
use Rattle.std.proofs.lemmas.List.Sums.{fold-append}
use Rattle.ale_base.specs.Tid.{TidOf}
use Rattle.ale_base.specs.declared.way.Way.{Way}
use Rattle.ale_base.specs.declared.way.Way.TheVariants.{Outgoing, Incoming}
use Rattle.unit_core.specs.declared.ale_unit.AleUnit.{AleUnit}
use Rattle.unit_core.specs.declared.records.Record.{Record}
use Rattle.unit_core.specs.declared.records.Record.TheVariants as log
use Rattle.unit_core.specs.Filters.{is_stopped, stopped_after}
use Rattle.inbound_post.specs.Prepared.{prepared}
use Rattle.trfc_protocol.specs.declared.world.World.{World}
use Rattle.trfc_protocol.specs.Offered.{is_stopped_inbound, is_stopped_outbound}
use Rattle.trfc_protocol.specs.Worlds.{committed_unit, log_of}
use Rattle.unit_landscape.specs.KeptWorlds.{KeptOf}
use Rattle.document_state.specs.declared.document_tables.DocumentTables.{DocumentTables}
use Rattle.document_state.specs.declared.model_rules.ModelRules.{ModelRules}
use Rattle.unit_works.specs.Events.{is_works_record}
use Rattle.unit_works.specs.Went.{HaveWorksBehind}
use Rattle.unit_works.specs.Worked.{HaveOnlyClaimed}
use Rattle.unit_works.proofs.LogLemmas.{fold-all}
use Rattle.unit_works.proofs.PreparedLemmas.{prepared-before}
use Rattle.unit_works.proofs.WorkedLemmas.{meaning}
use Rattle.drain_desk.specs.declared.work.Basis.{Basis}
use Rattle.drain_desk.specs.declared.work.Task.{Task}
use Rattle.drain_desk.specs.declared.work.Task.TheVariants.{Ship, Execute}
use Rattle.drain_desk.specs.Work.{IsBasis, MayGo}

-- ---- stopped queues

-- a record of works stops and starts no queue
stops-same : (way : Way) (destination : ℕ) (name : List ℕ) (before : Bool) (next : Record) → is_works_record next ≡ true
    → stopped_after way destination name before next ≡ before
stops-same way destination name before (log.Stop w d n) works = cc
stops-same way destination name before (log.Start w d n) works = cc
stops-same way destination name before _ works = refl

stops-last : (way : Way) (destination : ℕ) (name : List ℕ) (records added : List Record) → list_all is_works_record added ≡ true
    → is_stopped way destination name (records ++ added) ≡ is_stopped way destination name records
stops-last way destination name records added works =
    fold-append (stopped_after way destination name) false records added
    ∙ fold-all (stopped_after way destination name) (is_stopped way destination name records) is_works_record
    (stops-same way destination name (is_stopped way destination name records)) added works

any-same : (p q : List ℕ → Bool) (names : List (List ℕ)) → ((name : List ℕ) → p name ≡ q name) → list_any p names ≡ list_any q names
any-same p q [] same = refl
any-same p q (name ∷ names) same = ap (λ b. b || list_any p names) (same name) ∙ ap (λ b. q name || b) (any-same p q names same)

module _ (before after : World ModelRules) (logs : HaveWorksBehind before after) where
  outbound-last : (system : ℕ) (unit : AleUnit) → is_stopped_outbound (log_of after system) unit ≡ is_stopped_outbound (log_of before system) unit
  outbound-last system unit =
      let more = logs system in
      ap (λ l. is_stopped_outbound l unit) more.1
      ∙ any-same (λ name. is_stopped Outgoing unit.receiver name (log_of before system ++ more.0))
      (λ name. is_stopped Outgoing unit.receiver name (log_of before system)) unit.outq
      (λ name. stops-last Outgoing unit.receiver name (log_of before system) more.0 more.2)

  inbound-last : (system : ℕ) (unit : AleUnit) → is_stopped_inbound (log_of after system) unit ≡ is_stopped_inbound (log_of before system) unit
  inbound-last system unit =
      let more = logs system in
      ap (λ l. is_stopped_inbound l unit) more.1
      ∙ any-same (λ name. is_stopped Incoming 0 name (log_of before system ++ more.0)) (λ name. is_stopped Incoming 0 name (log_of before system)) unit.inq
      (λ name. stops-last Incoming 0 name (log_of before system) more.0 more.2)

-- ---- a unit that may go

MayGo-on : (before after : World ModelRules)
    → ((tid : TidOf) → committed_unit (meaning after.rules) after tid ≡ committed_unit (meaning before.rules) before tid)
    → ((system : ℕ) (unit : AleUnit) → is_stopped_outbound (log_of after system) unit ≡ is_stopped_outbound (log_of before system) unit)
    → ((system : ℕ) (unit : AleUnit) → is_stopped_inbound (log_of after system) unit ≡ is_stopped_inbound (log_of before system) unit)
    → (task : Task) → MayGo before task → MayGo after task
MayGo-on before after committed outbound inbound (Ship claim) it =
    record { unit = it.unit; named = committed claim.tid ∙ it.named; is = outbound claim.tid.system it.unit ∙ it.is }
MayGo-on before after committed outbound inbound (Execute claim) it =
    let unit = it.unit in record { unit = unit; named = committed claim.tid ∙ it.named; is = inbound unit.receiver unit ∙ it.is }

-- it may while claims are made
pub MayGo-claimed : {V : Type 0} (before after : KeptOf ModelRules DocumentTables V) → HaveOnlyClaimed before after → (task : Task) → MayGo before.world task
    → MayGo after.world task
MayGo-claimed before after only task it =
    MayGo-on before.world after.world (λ tid. ap (λ (w : World ModelRules). committed_unit (meaning w.rules) w tid) only.world)
    (λ system unit. ap (λ (w : World ModelRules). is_stopped_outbound (log_of w system) unit) only.world)
    (λ system unit. ap (λ (w : World ModelRules). is_stopped_inbound (log_of w system) unit) only.world) task it

module _ (before after : World ModelRules) (logs : HaveWorksBehind before after)
    (committed : (tid : TidOf) → committed_unit (meaning after.rules) after tid ≡ committed_unit (meaning before.rules) before tid) where
  -- and while works are done
  pub MayGo-lasts : (task : Task) → MayGo before task → MayGo after task
  MayGo-lasts task it = MayGo-on before after committed (outbound-last before after logs) (inbound-last before after logs) task it

  -- and might before them
  pub MayGo-before : (task : Task) → MayGo after task → MayGo before task
  MayGo-before task it =
      MayGo-on after before (λ tid. sym (committed tid)) (λ system unit. sym (outbound-last before after logs system unit))
      (λ system unit. sym (inbound-last before after logs system unit)) task it

  -- what it is prepared from was so before
  pub IsBasis-before : (tid : TidOf) (basis : Option Basis) → IsBasis after tid basis → IsBasis before tid basis
  IsBasis-before tid None base = tt
  IsBasis-before tid (Some its) base =
      prepared-before before after tid (prepared (arc_value its.model) its.unit.receiver its.unit).postings logs (committed tid) base
