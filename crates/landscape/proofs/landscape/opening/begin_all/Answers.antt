use Rattle.std.proofs.Common.{◌≡◌, ◌≤◌, ◌+◌, ◌-◌, arith, ap, sym, subst, ◌∙◌}
use Rattle.unit_landscape.specs.Beginning.{HaveBegun}
use Rattle.document_state.specs.declared.model_rules.ModelRules.{ModelRules}
use Rattle.landscape.specs.steps.Opening.{AreBegunSoFar, HasEnded, rules_of}
use Rattle.landscape.proofs.landscape.opening.begin_all.Goals as goal

pub returns-in-Err-clause-ends : goal.returns-in-Err-clause-ends
returns-in-Err-clause-ends g c set before start =
    let place : c.loop-number.number ≡ c.system_at.result - 1 = (let at = c.system_at.ensures in omega arith) in
    let within : c.system_at.result ≤ c.args.systems = (let at = c.system_at.ensures in let test = c.loop-number-test.true in omega arith) in
    subst (λ (v : g.row.V.Denot). HasEnded g.V.Volumes.disk c.args.systems c.args.text.now set before (record { why = c.in-Err.why; vols = v }))
    (sym c.into_volumes.ensures)
    (c.in-Err.ensures.ends c.args.systems set before within
    (subst (λ k. AreBegunSoFar g.V.Volumes.disk c.args.systems c.args.text.now set before k c.loop-number.kept) place
    (c.loop-number.invariant.so_far set before start)))

pub loop-number-preserved : goal.loop-number-preserved
loop-number-preserved g c =
    let place : c.loop-number.number ≡ c.system_at.result - 1 = (let at = c.system_at.ensures in omega arith) in
    let within : c.system_at.result ≤ c.args.systems = (let at = c.system_at.ensures in let test = c.loop-number-test.true in omega arith) in
    let more : c.system_at.result ≡ c.loop-number.number + 1 = (let at = c.system_at.ensures in omega arith) in
    record {
      all = ap (λ (r : ModelRules). r.systems) c.in-Ok.ensures.rules ∙ c.loop-number.invariant.all;
      begun = subst (λ k. HaveBegun rules_of k (c.begin_next.new.kept).world) more c.in-Ok.ensures.begun;
      so_far = λ set before start.
          subst (λ k. AreBegunSoFar g.V.Volumes.disk c.args.systems c.args.text.now set before k c.begin_next.new.kept) more
          (c.in-Ok.ensures.ends c.args.systems set before within
          (subst (λ k. AreBegunSoFar g.V.Volumes.disk c.args.systems c.args.text.now set before k c.loop-number.kept) place
          (c.loop-number.invariant.so_far set before start)));
    }
