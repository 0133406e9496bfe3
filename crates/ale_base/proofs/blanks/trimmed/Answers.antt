use Rattle.std.proofs.Common.{◌≡◌, ◌∙◌, sym, arith}
use Rattle.ale_base.specs.TrimmedLemmas.{trimmed-take_blank, trimmed-take_other}
use Rattle.ale_base.proofs.blanks.trimmed.Goals as goal
use Rattle.ale_base.proofs.blanks.trimmed.Goals.{then-loop-end-test+else-bytes-end-eq32, else-loop-end-test}

pub loop-end-preserved : goal.loop-end-preserved
loop-end-preserved c = (
  omega arith,
  trimmed-take_blank c.args.bytes.now c.loop-end.end (omega arith) c.loop-end.invariant.0 c.if-bytes-end-eq32.true
      ∙ c.loop-end.invariant.1,
)

pub returns : goal.returns
returns c =
    elim c.loop-end-test.branch [
      | then-loop-end-test+else-bytes-end-eq32 w ↦ sym
          (trimmed-take_other c.args.bytes.now c.loop-end.end (omega arith) c.loop-end.invariant.0 w.if-bytes-end-eq32.false) ∙ c.loop-end.invariant.1
      | else-loop-end-test w ↦ let none : c.loop-end.end ≡ 0 = omega arith in rw none (rw none at c.loop-end.invariant.1)
    ]
