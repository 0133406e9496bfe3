use Rattle.std.proofs.Common.{List, subst, sym, refl}
use Rattle.unit_core.specs.Once.{NoneTwice}
use Rattle.plain_queues.specs.declared.queued_unit.QueuedUnit.{QueuedUnit}
use Rattle.plain_queues.specs.Queues.{tids_of}
use Rattle.plain_queues.proofs.UnitLemmas.{changed-at, changed-none, changed-tids, position-at, position-none}
use Rattle.plain_queues.proofs.queues.set_mark.Goals as goal

-- the unit at the place that was found is the one that changes
pub returns-in-Some : goal.returns-in-Some
returns-in-Some c =
    let write = λ (unit : QueuedUnit). record unit { mark = c.args.mark } in
    let its = position-at c.args.tid c.args.units.now c.in-Some.place c.at_mut.result.now (sym c.in-Some.ensures) c.at_mut.ensures.value in
    let same = changed-at write c.args.tid c.args.units.now c.in-Some.place c.at_mut.result.now c.requires.apart c.at_mut.ensures.value its in
    record {
      changed = same;
      apart = subst (λ (units : List QueuedUnit). NoneTwice (tids_of units)) (sym same)
          (subst NoneTwice (sym (changed-tids write c.args.tid c.args.units.now (λ unit. refl))) c.requires.apart);
    }

-- no unit has the id, so none changes
pub returns-in-None : goal.returns-in-None
returns-in-None c =
    let write = λ (unit : QueuedUnit). record unit { mark = c.args.mark } in
    record {
      changed = sym (changed-none write c.args.tid c.args.units.now (position-none c.args.tid c.args.units.now (sym c.in-None.ensures)));
      apart = c.requires.apart;
    }
