use Rattle.std.proofs.Common.{[], ◌∷◌, ◌∙◌}
use Rattle.worked_cases.specs.Starts.{empty_volumes}
use Rattle.worked_cases.proofs.PartLemmas.{AreMadeFrom-snoc, IsMadeOf-alike}
use Rattle.worked_cases.proofs.performing.steps_of_case.Goals as goal

pub loop-part-preserved : goal.loop-part-preserved
loop-part-preserved g c =
    let part = c.in-Some.part in
    let made = c.in_ok-step in
    let now = c.loop-part in
    let one = IsMadeOf-alike c.args.case.files now.files.files now.invariant.alike now.vols.items part made.step made.left.items made.ensures.made in
    record {
      made = rw c.in_ok-push-2.ensures.ok
          (AreMadeFrom-snoc c.args.case.files (empty_volumes ∷ []) now.vols.items made.left.items now.yielded now.steps part made.step now.invariant.made one);
      alike = λ name. c.step_of_part.ensures.kept name ∙ now.invariant.alike name;
    }
