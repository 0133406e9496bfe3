use Rattle.std.proofs.Common.{◌≡◌, ◌+◌, ◌<◌, true, sym, ap, subst, ◌∙◌}
use Rattle.trfc_protocol.specs.declared.world.World.{World}
use Rattle.trfc_protocol.specs.Worlds.{is_up}
use Rattle.unit_landscape.specs.KeptWorlds.{KeptOf}
use Rattle.document_state.specs.declared.document_tables.DocumentTables.{DocumentTables}
use Rattle.document_state.specs.declared.model_rules.ModelRules.{ModelRules}
use Rattle.landscape.proofs.BarredLemmas.{all-passes}
use Rattle.landscape.proofs.landscape.Landscape.all_up.Goals as goal

pub loop-number-preserved : goal.loop-number-preserved
loop-number-preserved g c =
    let world = c.args.self.now.world in
    let number = c.loop-number.number in
    let same : c.world-world.result.now ≡ world =
    c.world-world.ensures.world ∙ ap (λ (k : KeptOf ModelRules DocumentTables g.row.V.Denot). k.world) c.self.view_is in
    let within : number < world.rules.systems =
    subst (λ n. number < n) (c.systems-number-end.ensures ∙ ap (λ (w : World ModelRules). w.rules.systems) same) c.loop-number-test.true in
    let up : is_up world (number + 1) ≡ true =
    ap (is_up world) (sym c.in-Some.ensures.found) ∙ ap (λ (w : World ModelRules). is_up w c.in-Some.system) (sym same) ∙ sym c.is_up.ensures
    ∙ c.if-not-is_up.false in
    sym (all-passes world.rules.systems (is_up world) number within up) ∙ c.loop-number.invariant
