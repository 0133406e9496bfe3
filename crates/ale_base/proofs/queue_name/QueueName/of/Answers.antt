use Rattle.std.proofs.Common.{◌≡◌, ◌≤◌, ◌∙◌, length, sym, subst, arith, rules}
use Rattle.ale_base.specs.QueueName.{IsQueueName}
use Rattle.ale_base.proofs.QueueNameLemmas.{trimmed-graphic}
use Rattle.ale_base.proofs.queue_name.QueueName.of.Goals as goal
use Rattle.ale_base.proofs.queue_name.QueueName.of.Goals.{In-Some-of}

named : (c : In-Some-of) → (c.in-Some-of.text ≡ c.args.bytes.now) × IsQueueName c.args.bytes.now
named c =
    let graphic = c.in_default.ensures in
    let some : 1 ≤ length c.args.bytes.now = search rules in (
      c.in-Some-of.ensures.text ∙ trimmed-graphic c.args.bytes.now graphic,
      record { least = some; most = c.if-bytes-gt-MAX_LEN.false; graphic = graphic },
    )

pub invariant_of-result : goal.invariant_of-result
invariant_of-result c =
    let is = named (goal.at.invariant_of-result c).In-Some-of in
    subst IsQueueName (sym is.0) is.1

pub returns-clause-name : goal.returns-clause-name
returns-clause-name c = named (goal.at.returns-clause-name c).In-Some-of
