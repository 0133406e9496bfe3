use Rattle.std.proofs.Common.{[], ◌∷◌, ◌∙◌, subst, take}
use Rattle.worked_cases.specs.Judged.{Adds, tries}
use Rattle.worked_cases.proofs.TriedLemmas.{Adds-alike, Adds-joined, tries-start_more}
use Rattle.worked_cases.proofs.performing.try_starts.Goals as goal

pub loop-start-preserved : goal.loop-start-preserved
loop-start-preserved g c =
    let now = c.loop-start in
    let files = c.args.files.now.files in
    let run = c.args.run.now in
    let starts = c.args.starts.now in
    let start = c.start-item.result in
    let made = c.args.made.now in
    let more = c.try_failures.new.made in
    let added =
    subst (λ failing. Adds now.files.files run (tries failing (start ∷ [])) now.made more) c.as_slice.ensures c.in_ok-try_failures.ensures.adds in
    let one = Adds-alike files now.files.files now.invariant.alike run (tries run.failing (start ∷ [])) now.made more added in
    let before = tries run.failing (take now.start-index starts) in
    let all = Adds-joined files run before (tries run.failing (start ∷ [])) made now.made more now.invariant.adds one in
    let taken = tries-start_more starts run.failing now.start-index start c.loop-start-test.true c.start-item.is in
    record {
      adds = subst (λ tried. Adds files run tried made more) taken all;
      alike = λ name. c.try_failures.ensures.kept name ∙ now.invariant.alike name;
    }
