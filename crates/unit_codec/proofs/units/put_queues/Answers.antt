use Rattle.std.specs.Int.{w8}
use Rattle.std.proofs.Common.{length}
use Rattle.std.proofs.lemmas.Bool.{le-leb}
use Rattle.unit_codec.specs.Fields.{queues, queue, is_other, is_few_queues}
use Rattle.unit_codec.proofs.ListLemmas.{listed-put, AllFollow-different}
use Rattle.unit_codec.proofs.units.put_queues.Goals as goal

pub returns : goal.returns
unfolding queues
returns c =
    let values = c.args.values.now in
    listed-put w8 is_few_queues queue is_other values c.as_slice.result.now _ c.args.into.now.items c.put_byte.new.into.items c.put_listed.new.into.items
    c.put_listed.result
    c.len.ensures c.as_slice.ensures (le-leb (length values) 8 c.requires.0) (AllFollow-different values c.requires.1) c.in_ok-put_byte.ensures
    c.put_listed.ensures
