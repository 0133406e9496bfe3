use Rattle.std.proofs.Common.{arith}
use Rattle.document_state.proofs.ReplayLemmas.{next-at, replayed-at, replayed-nothing}
use Rattle.document_state.proofs.model_rules.ModelRules.replayed.Goals as goal

pub loop-place-init : goal.loop-place-init
loop-place-init c = replayed-nothing (record { tables = c.new.result; units = c.new-2.result }) c.new.ensures c.new-2.ensures

pub take_up-requires-clause-follows : goal.take_up-requires-clause-follows
take_up-requires-clause-follows c =
    next-at c.args.self.now.systems c.args.system c.args.log.now c.loop-place.place c.index-log-place.result c.requires (omega arith) c.index-log-place.is

pub loop-place-preserved : goal.loop-place-preserved
loop-place-preserved c =
    replayed-at c.args.log.now c.loop-place.place c.index-log-place.result c.take_up.new.replay (omega arith) c.index-log-place.is c.in_ok-take_up.ensures
