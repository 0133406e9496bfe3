use Rattle.std.proofs.Common.{arith}
use Rattle.model_keys.proofs.KeysLemmas.{list_of-long, list_of-short}
use Rattle.model_keys.proofs.lists.list_of.Goals as goal

pub returns-then-len-most-clause-given : goal.returns-then-len-most-clause-given
returns-then-len-most-clause-given c =
    rw c.in_ok-at-in-Array.ensures (list_of-long c.args.most c.args.key.now c.args.value.now c.in-Array.array c.in-Array.is (omega arith))

pub returns-else-len-most-clause-given : goal.returns-else-len-most-clause-given
returns-else-len-most-clause-given c =
    rw c.as_slice.ensures.value (list_of-short c.args.most c.args.key.now c.args.value.now c.in-Array.array c.in-Array.is (omega arith))
