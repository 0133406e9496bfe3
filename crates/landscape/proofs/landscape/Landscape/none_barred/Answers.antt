use Rattle.std.specs.Prelude.{Err}
use Rattle.std.proofs.Common.{◌≡◌, ◌+◌, ◌<◌, ℕ, true, sym, ap, subst, ◌∙◌}
use Rattle.std.proofs.lemmas.Result.{err_from_is_err_and}
use Rattle.said_models.specs.OfLog.{differs}
use Rattle.trfc_protocol.specs.declared.world.World.{World}
use Rattle.trfc_protocol.specs.Worlds.{is_up, log_of}
use Rattle.unit_landscape.specs.KeptWorlds.{KeptOf}
use Rattle.document_state.specs.declared.document_tables.DocumentTables.{DocumentTables}
use Rattle.document_state.specs.declared.model_rules.ModelRules.{ModelRules}
use Rattle.landscape.specs.Remodelled.{MayAs}
use Rattle.landscape.specs.steps.Barred.{barred_at, first_barred}
use Rattle.landscape.proofs.BarredLemmas.{next-up, passes, passes-over, refused-first, refuses}
use Rattle.landscape.proofs.landscape.Landscape.none_barred.Goals as goal
use Rattle.landscape.proofs.landscape.Landscape.none_barred.Goals.{then-differs+in_ok-barred, else-differs}

pub barred-requires-clause-up : goal.barred-requires-clause-up
barred-requires-clause-up g c =
    let world = c.args.self.now.world in
    let number = c.loop-number.number in
    let same : c.world-world.result.now ≡ world =
    c.world-world.ensures.world ∙ ap (λ (k : KeptOf ModelRules DocumentTables g.row.V.Denot). k.world) c.self.view_is in
    let within : number < world.rules.systems =
    subst (λ n. number < n) (c.systems-number-end.ensures ∙ ap (λ (w : World ModelRules). w.rules.systems) same) c.loop-number-test.true in
    ap (is_up world) c.in-Some.ensures.found ∙ (next-up world.rules.systems (is_up world) number within c.loop-number.invariant.up).0

pub returns-in_err-barred : goal.returns-in_err-barred
returns-in_err-barred g c =
    let world = c.args.self.now.world in
    let text = c.args.text.now in
    let number = c.loop-number.number in
    let asked = λ (system : ℕ). differs text (log_of world system) in
    let why = barred_at c.args.self.now c.args.model.now text c.args.bar in
    let same : c.world-world.result.now ≡ world =
    c.world-world.ensures.world ∙ ap (λ (k : KeptOf ModelRules DocumentTables g.row.V.Denot). k.world) c.self.view_is in
    let within : number < world.rules.systems =
    subst (λ n. number < n) (c.systems-number-end.ensures ∙ ap (λ (w : World ModelRules). w.rules.systems) same) c.loop-number-test.true in
    let test : asked (number + 1) ≡ true =
    ap asked (sym c.in-Some.ensures.found) ∙ ap (λ (w : World ModelRules). differs text (log_of w c.in-Some.system)) (sym same)
    ∙ ap (differs text) (sym c.log.ensures) ∙ sym c.differs.ensures ∙ c.if-differs.true in
    let here : MayAs {T = Unit {0}} (why (number + 1)) (Err c.in_err-barred.field-0.0) =
    subst (λ n. MayAs {T = Unit {0}} (why n) (Err c.in_err-barred.field-0.0)) c.in-Some.ensures.found (c.in_err-barred.ensures text c.requires.brings) in
    let p = err_from_is_err_and c.from_residual.result c.from_residual.ensures.1 in
    rw (p.1, p.2) (refused-first (Unit {0}) (why (number + 1)) (first_barred c.args.self.now c.args.model.now text c.args.bar) c.in_err-barred.field-0.0
    (λ refusal is. sym c.loop-number.invariant.first ∙ refuses world.rules.systems asked why number within test refusal is) here)

pub loop-number-preserved : goal.loop-number-preserved
loop-number-preserved g c =
    let world = c.args.self.now.world in
    let text = c.args.text.now in
    let number = c.loop-number.number in
    let asked = λ (system : ℕ). differs text (log_of world system) in
    let why = barred_at c.args.self.now c.args.model.now text c.args.bar in
    let same : c.world-world.result.now ≡ world =
    c.world-world.ensures.world ∙ ap (λ (k : KeptOf ModelRules DocumentTables g.row.V.Denot). k.world) c.self.view_is in
    let within : number < world.rules.systems =
    subst (λ n. number < n) (c.systems-number-end.ensures ∙ ap (λ (w : World ModelRules). w.rules.systems) same) c.loop-number-test.true in
    let told : asked (number + 1) ≡ c.differs.result =
    ap asked (sym c.in-Some.ensures.found) ∙ ap (λ (w : World ModelRules). differs text (log_of w c.in-Some.system)) (sym same)
    ∙ ap (differs text) (sym c.log.ensures) ∙ sym c.differs.ensures in
    record {
      up = (next-up world.rules.systems (is_up world) number within c.loop-number.invariant.up).1;
      first = elim c.if-differs.branch [
        | then-differs+in_ok-barred w ↦
            let here = w.in_ok-barred.ensures text c.requires.brings in
            sym (passes world.rules.systems asked why number within (told ∙ w.if-differs.true)
            (ap why (sym c.in-Some.ensures.found) ∙ here)) ∙ c.loop-number.invariant.first
        | else-differs w ↦ sym (passes-over world.rules.systems asked why number within (told ∙ w.if-differs.false)) ∙ c.loop-number.invariant.first
      ];
    }
