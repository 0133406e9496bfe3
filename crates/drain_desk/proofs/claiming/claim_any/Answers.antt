use Rattle.std.proofs.Common.{subst}
use Rattle.unit_landscape.specs.KeptWorlds.{KeptOf}
use Rattle.document_state.specs.declared.document_tables.DocumentTables.{DocumentTables}
use Rattle.document_state.specs.declared.model_rules.ModelRules.{ModelRules}
use Rattle.unit_landscape.specs.Kept.{IsLandscape}
use Rattle.unit_works.proofs.DrainedLemmas.{idle-all}
use Rattle.unit_works.proofs.WorkedLemmas.{meaning}
use Rattle.drain_desk.proofs.claiming.claim_any.Goals as goal

pub returns-clause-none : goal.returns-clause-none
returns-clause-none g c = λ none.
    let is = c.in_ok-found.ensures.none none in (
      is.0,
      idle-all c.args.landscape.now.world
          (subst (λ (k : KeptOf ModelRules DocumentTables g.row.V.Denot). IsLandscape meaning k.world) is.0 c.world.ensures.safe) is.1,
    )
