use Rattle.std.proofs.Common.{[], ◌∷◌, ◌∙◌, subst, take}
use Rattle.worked_cases.specs.declared.performing.Made.{Made}
use Rattle.worked_cases.specs.Judged.{Adds, tries}
use Rattle.worked_cases.proofs.TriedLemmas.{Adds-alike, Adds-joined, Adds-one, tries-failure_more}
use Rattle.worked_cases.proofs.performing.try_failures.Goals as goal

pub loop-failing-preserved : goal.loop-failing-preserved
loop-failing-preserved g c =
    let now = c.loop-failing in
    let files = c.args.files.now.files in
    let run = c.args.run.now in
    let failures = c.args.failures.now in
    let start = c.args.start.now in
    let failing = c.failing-item.result in
    let made = c.args.made.now in
    let more : Made = record { comparisons = c.tried.new.comparisons; left = c.push.new.self } in
    let is = c.in_ok-left.ensures.tried in
    let new = Adds-one now.files.files run (start, failing) now.made more is.0 c.in_ok-left.left is.1 is.2 c.in_ok-push.ensures.items in
    let one = Adds-alike files now.files.files now.invariant.alike run ((start, failing) ∷ []) now.made more new in
    let all = Adds-joined files run (tries (take now.failing-index failures) (start ∷ [])) ((start, failing) ∷ []) made now.made more now.invariant.adds one in
    let taken = tries-failure_more (start ∷ []) failures now.failing-index start failing c.loop-failing-test.true c.failing-item.is in
    record {
      adds = subst (λ tried. Adds files run tried made more) taken all;
      alike = λ name. c.tried.ensures.kept name ∙ now.invariant.alike name;
    }
