use Rattle.std.proofs.Common.{rules, ◌∙◌, ℕ, List, [], arith}
use Rattle.std.proofs.lemmas.List.FromFn.{fill_by_all}
use Rattle.ale_volumes.specs.MemoryLemmas.{volume_now}
use Rattle.worked_cases.proofs.HeldLemmas.{filled_more}
use Rattle.worked_cases.proofs.starts.contents_of.Goals as goal

pub loop-n-preserved : goal.loop-n-preserved
loop-n-preserved c =
    let held : ℕ → List ℕ = λ n. (volume_now c.args.vols.now n).contents in
    let bytes = c.in_ok-contents.ensures ∙ c.contents.ensures in
    let now = c.loop-n in
    let before = now.invariant in
    record {
      volumes = search rules;
      copied = filled_more held now.contents now.n c.from.result c.in_ok-contents.field-0 c.from.ensures bytes c.loop-n-test.true before.volumes before.copied;
    }

pub returns : goal.returns
returns c =
    let now = c.loop-n in
    let long = now.invariant.volumes in
    fill_by_all (λ n. (volume_now c.args.vols.now n).contents) now.contents 16 [] long
    (λ k within. now.invariant.copied k (omega (arith, within, c.loop-n-test.false)))
