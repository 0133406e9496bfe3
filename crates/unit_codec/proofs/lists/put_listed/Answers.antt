use Rattle.unit_codec.proofs.ListLemmas.{item-has, PutsAll-more}
use Rattle.unit_codec.proofs.lists.put_listed.Goals as goal

pub put-requires : goal.put-requires
put-requires g c = item-has g.T.Listed.needs c.args.values.now c.loop-value.value-index c.value-item.result c.loop-value-test.true c.value-item.is c.requires

pub loop-value-preserved : goal.loop-value-preserved
loop-value-preserved g c =
    PutsAll-more g.T.Listed.kind c.args.values.now c.loop-value.value-index c.value-item.result c.args.into.now.items c.loop-value.into.items
    c.put.new.into.items
    c.loop-value-test.true c.value-item.is c.loop-value.invariant c.in_ok-put.ensures
