use Rattle.std.specs.Prelude.{Ok, Err}
use Rattle.std.specs.Arc.{arc_value}
use Rattle.std.proofs.Common.{◌≡◌, ◌+◌, ◌<◌, ℕ, Bool, None, refl, sym, ap, subst, ◌∙◌}
use Rattle.std.proofs.lemmas.Result.{err_from_is_err_and}
use Rattle.dist_model.specs.declared.lists.Lists.{Lists}
use Rattle.trfc_protocol.specs.declared.world.World.{World}
use Rattle.document_state.specs.declared.model_rules.ModelRules.{ModelRules}
use Rattle.landscape.specs.Asked.{asked_model}
use Rattle.landscape.specs.Carried.{CarriedAs, asked_at, operator_event}
use Rattle.landscape.specs.Remodelled.{MayAs, asks_any, refused_model}
use Rattle.landscape.proofs.SoundLemmas.{carried-grown, goes-none, goes-on, goes-one}
use Rattle.runs.proofs.ReplacingLemmas.{Along, Along-ended, Along-skip, Along-start, Along-take, refused-as}
use Rattle.runs.proofs.performing.remodelling.take_all.Goals as goal
use Rattle.runs.proofs.performing.remodelling.take_all.Goals.{then-branch, else-branch}

pub loop-number-init : goal.loop-number-init
loop-number-init g c = record {
  along =
      Along-start g.V.Volumes.disk (arc_value c.args.model.now) c.args.text.now c.args.landscape.now c.requires.unclaimed
      (subst (λ (model : Lists). refused_model c.args.landscape.now model c.args.text.now ≡ None) c.deref.ensures c.in_ok-may_remodel.ensures);
  sound = goes-none g.V.Volumes.disk c.args.landscape.now c.args.landscape.now refl refl;
}

pub loop-number-preserved : goal.loop-number-preserved
loop-number-preserved g c =
    let disk = g.V.Volumes.disk in
    let start = c.args.landscape.now in
    let text = c.args.text.now in
    let new = arc_value c.args.model.now in
    let now = c.loop-number.landscape in
    let after = c.remodel.new.self in
    let number = c.loop-number.number in
    let asked = λ (system : ℕ). asked_at now.world system (λ log. asked_model log new text) in
    let within : number < start.world.rules.systems =
    subst (λ n. number < n) (c.systems-number-end.ensures ∙ ap (λ (w : World ModelRules). w.rules.systems) c.world.ensures.world)
    c.loop-number-test.true in
    let carried : CarriedAs disk now after (number + 1) (operator_event (number + 1)) (asked (number + 1))
    (λ (took : Bool). took ≡ asks_any (asked (number + 1))) (Ok c.in_ok-remodel.field-0) =
    subst
    (λ (system : ℕ). CarriedAs disk now after system (operator_event system) (asked system) (λ (took : Bool). took ≡ asks_any (asked system))
    (Ok c.in_ok-remodel.field-0)) c.in-Some.ensures.found c.in_ok-remodel.ensures.ends in
    record {
      along = elim c.if-branch.branch [
        | then-branch w ↦
            subst (λ n. Along disk new text start (number + 1) n after) (sym w.count-is)
            (Along-take disk new text start c.world.ensures.safe c.world.ensures.begun number c.loop-number.count now after
            c.loop-number.invariant.along within
            (subst
            (λ (took : Bool). CarriedAs disk now after (number + 1) (operator_event (number + 1)) (asked (number + 1))
            (λ (t : Bool). t ≡ asks_any (asked (number + 1))) (Ok took)) w.if-branch.true carried))
        | else-branch w ↦
            subst (λ n. Along disk new text start (number + 1) n after) (sym w.count-is)
            (Along-skip disk new text start c.world.ensures.safe c.world.ensures.begun number c.loop-number.count now after
            c.loop-number.invariant.along within
            (subst
            (λ (took : Bool). CarriedAs disk now after (number + 1) (operator_event (number + 1)) (asked (number + 1))
            (λ (t : Bool). t ≡ asks_any (asked (number + 1))) (Ok took)) w.if-branch.false carried))
      ];
      sound =
          goes-on disk start now after c.loop-number.invariant.sound
          (goes-one disk now after
          (carried-grown disk now after c.world-in-loop-number.ensures.safe (number + 1) (operator_event (number + 1)) (asked (number + 1))
          (λ (took : Bool). took ≡ asks_any (asked (number + 1))) (Ok c.in_ok-remodel.field-0) carried) c.in_ok-remodel.ensures.sound);
    }

pub returns-in_err-may_remodel-clause-ends : goal.returns-in_err-may_remodel-clause-ends
returns-in_err-may_remodel-clause-ends g c =
    let start = c.args.landscape.now in
    let text = c.args.text.now in
    let p = err_from_is_err_and c.from_residual.result c.from_residual.ensures.1 in
    rw (p.1, p.2) (refused-as g.V.Volumes.disk (arc_value c.args.model.now) text start (Unit {0}) c.in_err-may_remodel.field-0.0
    (subst (λ (model : Lists). MayAs {T = Unit {0}} (refused_model start model text) (Err c.in_err-may_remodel.field-0.0)) c.deref.ensures
    c.in_err-may_remodel.ensures))

pub returns-in_err-remodel-clause-ends : goal.returns-in_err-remodel-clause-ends
returns-in_err-remodel-clause-ends g c =
    let disk = g.V.Volumes.disk in
    let start = c.args.landscape.now in
    let text = c.args.text.now in
    let new = arc_value c.args.model.now in
    let now = c.loop-number.landscape in
    let after = c.remodel.new.self in
    let number = c.loop-number.number in
    let asked = λ (system : ℕ). asked_at now.world system (λ log. asked_model log new text) in
    let within : number < start.world.rules.systems =
    subst (λ n. number < n) (c.systems-number-end.ensures ∙ ap (λ (w : World ModelRules). w.rules.systems) c.world.ensures.world)
    c.loop-number-test.true in
    let p = err_from_is_err_and c.from_residual-in_err-remodel.result c.from_residual-in_err-remodel.ensures.1 in
    rw (p.1, p.2) (Along-ended disk new text start c.world.ensures.safe c.world.ensures.begun number c.loop-number.count now after
    c.loop-number.invariant.along within (λ (took : Bool). took ≡ asks_any (asked (number + 1))) c.in_err-remodel.field-0.0
    (subst
    (λ (system : ℕ). CarriedAs disk now after system (operator_event system) (asked system) (λ (took : Bool). took ≡ asks_any (asked system))
    (Err c.in_err-remodel.field-0.0)) c.in-Some.ensures.found c.in_err-remodel.ensures.ends))

pub returns-in_err-remodel-clause-calls : goal.returns-in_err-remodel-clause-calls
returns-in_err-remodel-clause-calls g c =
    let now = c.loop-number.landscape in
    let asked = λ (system : ℕ). asked_at now.world system (λ log. asked_model log (arc_value c.args.model.now) c.args.text.now) in
    goes-on g.V.Volumes.disk c.args.landscape.now now c.remodel.new.self c.loop-number.invariant.sound
    (goes-one g.V.Volumes.disk now c.remodel.new.self
    (carried-grown g.V.Volumes.disk now c.remodel.new.self c.world-in-loop-number.ensures.safe c.in-Some.system (operator_event c.in-Some.system)
    (asked c.in-Some.system) (λ (took : Bool). took ≡ asks_any (asked c.in-Some.system)) (Err c.in_err-remodel.field-0.0)
    c.in_err-remodel.ensures.ends) c.in_err-remodel.ensures.sound)
