use Rattle.std.proofs.Common.{arith, rules}
use Rattle.byte_journal.proofs.ReadLemmas.{record_found}
use Rattle.byte_journal.proofs.read_log.body_of.Goals as goal

pub returns-clause-found : goal.returns-clause-found
returns-clause-found c =
    record_found c.args.place c.args.behind.now c.from_be_bytes-length.result c.in_ok-length.length.now c.in_ok-length.rest.now c.split_at.result.0.now
    (λ i. omega (arith, c.type_inv.behind i)) (search rules) (search rules) (search rules) (search rules) (omega arith) (omega arith)
    (omega arith) c.split_at.ensures.front
