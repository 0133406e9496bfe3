use Rattle.std.specs.Prelude.{IsNone}
use Rattle.std.proofs.Common.{true, refl, sym, subst, ◌∙◌}
use Rattle.unit_landscape.specs.KeptWorlds.{KeptOf}
use Rattle.document_state.specs.declared.document_tables.DocumentTables.{DocumentTables}
use Rattle.document_state.specs.declared.model_rules.ModelRules.{ModelRules}
use Rattle.unit_works.specs.steps.Rounds.{NothingAt}
use Rattle.unit_works.proofs.DrainedLemmas.{nothing-more}
use Rattle.drain_desk.proofs.ClaimingLemmas.{claims-same}
use Rattle.drain_desk.proofs.claiming.claim_first.Goals as goal

pub loop-number-preserved : goal.loop-number-preserved
loop-number-preserved g c =
    let none = c.in_ok-claim_at.ensures.none (subst IsNone (sym c.in-None.is) refl) in (
      none.0 ∙ c.loop-number.invariant.0,
      nothing-more c.args.landscape.now.world c.loop-number.number c.in-Some.system c.in-Some.ensures.found (
        c.loop-number.invariant.1,
        subst (λ (k : KeptOf ModelRules DocumentTables g.row.V.Denot). NothingAt k.world c.in-Some.system)
            c.loop-number.invariant.0 none.1,
      ),
    )

pub returns-clause-claims : goal.returns-clause-claims
returns-clause-claims g c = claims-same g.V.Volumes.disk c.args.landscape.now c.loop-number.landscape true c.loop-number.invariant.0
