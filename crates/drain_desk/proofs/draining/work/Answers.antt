use denote.Param.{param}
use denote.Exit.{no}
use denote.Param.Send.{arg_send, param_send}
use Rattle.std.proofs.Common.{sym, subst}
use Rattle.unit_works.specs.Worked.{Lines}
use Rattle.unit_landscape.specs.KeptWorlds.{KeptOf}
use Rattle.document_state.specs.declared.document_tables.DocumentTables.{DocumentTables}
use Rattle.document_state.specs.declared.model_rules.ModelRules.{ModelRules}
use Rattle.drain_desk.specs.Desk.{AreGoingOn}
use Rattle.drain_desk.proofs.DrainLemmas.{going-first}
use Rattle.drain_desk.proofs.SendLemmas.{DrainDesk-send, Work-send}
use Rattle.drain_desk.proofs.draining.work.Goals as goal

pub of-desk-requires : goal.of-desk-requires
of-desk-requires g c =
    subst (λ (k : KeptOf ModelRules DocumentTables g.row.V.Denot).
    AreGoingOn g.V.Volumes.disk k c.args.landscape c.of-origin.result.wires.value c.args.wires 0)
    (sym c.of-origin.ensures.landscape)
    (subst (λ (l : Lines). AreGoingOn g.V.Volumes.disk c.args.landscape c.args.landscape l c.args.wires 0) (sym c.of-origin.ensures.wires)
    (going-first g.V.Volumes.disk c.args.landscape c.args.wires c.requires.bare))

pub run_pool-requires-send-D-Work : goal.run_pool-requires-send-D-Work
run_pool-requires-send-D-Work g c = λ κs within.
    param_send 3 _ (arg_send _ no _ (Work-send (param 1 g.row.V) g.V.Volumes c.type_bounds.send-V))

pub run_pool-requires-send-D : goal.run_pool-requires-send-D
run_pool-requires-send-D g c = λ κs within.
    param_send 1 _ (arg_send _ no _ (DrainDesk-send (param 1 g.row.V) g.V.Volumes c.type_bounds.send-V))
