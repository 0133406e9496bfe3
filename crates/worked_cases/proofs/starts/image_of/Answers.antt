use Rattle.std.proofs.Common.{rules, ◌∙◌, ap, ℕ, List, [], take, arith}
use Rattle.std.proofs.lemmas.List.FromFn.{fill_by_all}
use Rattle.ale_volumes.specs.Memory.{after_steps}
use Rattle.ale_volumes.specs.Survivors.{surviving}
use Rattle.worked_cases.specs.Starts.{survivors_of}
use Rattle.worked_cases.proofs.HeldLemmas.{filled_more}
use Rattle.worked_cases.proofs.starts.image_of.Goals as goal

pub loop-n-preserved : goal.loop-n-preserved
loop-n-preserved c =
    let vols = c.args.vols.now in
    let made : ℕ → List ℕ = λ n. surviving (after_steps vols.start (take c.args.moment vols.steps) n) c.in_ok-survivors.survivors in
    let now = c.loop-n in
    let before = now.invariant in
    record {
      volumes = search rules;
      made = filled_more made now.image now.n c.from.result c.in_ok-image.field-0 c.from.ensures c.in_ok-image.ensures.chosen c.loop-n-test.true
          before.volumes before.made;
    }

pub returns : goal.returns
returns c =
    let vols = c.args.vols.now in
    let now = c.loop-n in
    let long = now.invariant.volumes in
    fill_by_all (λ n. surviving (after_steps vols.start (take c.args.moment vols.steps) n) (survivors_of c.args.choice)) now.image 16 [] long
    (λ k within. now.invariant.made k (omega (arith, within, c.loop-n-test.false))
    ∙ ap (surviving (after_steps vols.start (take c.args.moment vols.steps) k)) c.in_ok-survivors.ensures)
