use Rattle.std.proofs.Common.{refl, sym, subst, take, arith}
use Rattle.std.proofs.lemmas.List.{take_all}
use Rattle.std.proofs.lemmas.List.Elements.{All-more, All-same}
use Rattle.log_tables.specs.Read.{IsProper}
use Rattle.protocol_scenes.proofs.judging.are_proper.Goals as goal

pub loop-next-preserved : goal.loop-next-preserved
loop-next-preserved c =
    All-more IsProper c.args.log.now c.loop-next.next-index c.next-item.result (omega arith) c.loop-next.invariant
    (subst IsProper c.next-item.is (c.if-not-is_proper.ensures refl))

pub returns : goal.returns
returns c = λ yes.
    All-same IsProper c.args.log.now (take c.loop-next.next-index c.args.log.now) (sym (take_all c.loop-next.next-index c.args.log.now (omega arith)))
    c.loop-next.invariant
