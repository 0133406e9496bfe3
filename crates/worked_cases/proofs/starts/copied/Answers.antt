use Rattle.std.proofs.Common.{rules, ◌∙◌, ℕ, List, [], get_or, length, sym, refl, arith, ◌<◌}
use Rattle.std.proofs.lemmas.List.{ext_get_or, get_or_default}
use Rattle.worked_cases.proofs.HeldLemmas.{filled_more}
use Rattle.worked_cases.proofs.starts.copied.Goals as goal

pub loop-n-preserved : goal.loop-n-preserved
loop-n-preserved c =
    let held : ℕ → List ℕ = λ k. get_or c.args.contents.now k [] in
    let now = c.loop-n in
    let before = now.invariant in
    let low : now.n < 16 = c.loop-n-test.true in
    let within : now.n < length c.args.contents.now = omega (arith, low, c.type_inv.contents) in
    let bytes = c.in_ok-copy.ensures ∙ c.as_slice.ensures ∙ get_or_default c.args.contents.now now.n c.index-contents-n.result [] within in
    record {
      volumes = search rules;
      copied = filled_more held now.copy now.n now.n c.in_ok-copy.field-0 refl bytes c.loop-n-test.true before.volumes before.copied;
    }

pub returns : goal.returns
returns c =
    let now = c.loop-n in
    let long = now.invariant.volumes in
    ext_get_or [] now.copy c.args.contents.now (long ∙ sym c.type_inv.contents)
    (λ k within. now.invariant.copied k (omega (arith, long, within, c.loop-n-test.false)))
