use Rattle.std.proofs.Common.{◌-◌, inl}
use Rattle.ale_volumes.proofs.ClockLemmas.{started}
use Rattle.unit_codec.specs.Entries.{entry_with}
use Rattle.unit_journal.specs.Settled.{IsBeforeOrAfter}
use Rattle.trfc_protocol.specs.Worlds.{log_of}
use Rattle.unit_landscape.specs.Entered.{IsEntered}
use Rattle.unit_journal.specs.OnDisk.{next_moment, entries_at}
use Rattle.unit_journal.proofs.KeptLemmas.{IsOnDisk-stands}
use Rattle.unit_landscape.proofs.OnVolumesLemmas.{on_disk-up}
use Rattle.unit_landscape.proofs.WritingLemmas.{ends, faults-ended, last-of_entered}
use Rattle.unit_landscape.proofs.writing.write.Goals as goal

pub returns-in-Err-clause-any_moment : goal.returns-in-Err-clause-any_moment
returns-in-Err-clause-any_moment g c = λ tells.
    let system = c.args.system in
    let log = log_of c.args.both.now.world system in
    let on_disk = on_disk-up g.V.Volumes.disk c.args.vols.now c.args.both.now.world c.args.journals.now system c.requires.can.up
    c.requires.stored.on_volumes in
    started g.V.Volumes.disk c.args.vols.now (system - 1)
    (IsBeforeOrAfter (entries_at c.args.journals.now (system - 1) log) (entry_with (next_moment c.args.journals.now (c.args.system - 1)) c.args.next))
    (λ image left. inl (IsOnDisk-stands g.V.Volumes.disk c.args.vols.now (system - 1) c.args.journals.now log tells on_disk image
    (g.met.V.Volumes.only_now tells c.args.vols.now (system - 1) image left)))

pub write_last-written-requires-clause-last : goal.write_last-written-requires-clause-last
write_last-written-requires-clause-last g c = (
  c.args.next,
  last-of_entered c.args.both.now c.enter.new.self c.args.system c.args.next c.args.more.now
      (record { world = c.in-Ok.ensures.world; tables = c.in-Ok.ensures.entered }) c.requires.can.up,
  c.requires.can.writable,
)

pub write_last-written-requires-clause-on_disk : goal.write_last-written-requires-clause-on_disk
write_last-written-requires-clause-on_disk g c = (
  log_of c.args.both.now.world c.args.system,
  on_disk-up g.V.Volumes.disk c.args.vols.now c.args.both.now.world c.args.journals.now c.args.system c.requires.can.up
      c.requires.stored.on_volumes,
)

pub conclude-requires : goal.conclude-requires
conclude-requires g c = record {
  before = c.args.both.now;
  next = c.args.next;
  more = c.args.more.now;
  entered = record { world = c.in-Ok.ensures.world; tables = c.in-Ok.ensures.entered };
  counts = c.count-count.ensures;
  up = c.requires.can.up;
  apart = c.requires.can.apart;
  in_step = c.requires.stored.in_step;
}

pub returns-in-Ok : goal.returns-in-Ok
returns-in-Ok g c =
    let disk = g.V.Volumes.disk in
    let before = c.args.both.now in
    let log = log_of before.world c.args.system in
    let wrote = c.write_last-written.ensures in
    let on_disk = on_disk-up disk c.args.vols.now before.world c.args.journals.now c.args.system c.requires.can.up c.requires.stored.on_volumes in
    let entered : IsEntered before c.enter.new.self c.args.system c.args.next c.args.more.now =
    record { world = c.in-Ok.ensures.world; tables = c.in-Ok.ensures.entered } in
    let last = last-of_entered before c.enter.new.self c.args.system c.args.next c.args.more.now entered c.requires.can.up in
    let its = ends g.R.Rules.meaning g.A.Application.stands disk before c.enter.new.self c.conclude.new.both c.args.journals.now
    c.write_last-written.new.journals c.args.vols.now c.write_last-written.new.vols c.args.system c.args.next c.requires.stored c.requires.can c.args.more.now
    c.write_last-written.result c.conclude.result c.conclude.ensures.result (wrote.wrote c.args.next log last on_disk)
    (c.conclude.ensures.concluded before c.args.next c.args.more.now entered c.count-count.ensures c.requires.can.up) entered c.conclude.ensures.in_step in
    record {
      written = its.written;
      ended = its.ended;
      stored = its.stored;
      journals = its.journals;
      unchanged = its.unchanged;
      full = its.full;
      any_moment = λ tells. wrote.any_moment tells c.args.next log last on_disk;
      others = wrote.others;
      faults = faults-ended c.write_last-written.result c.conclude.result (g.V.Volumes.disk.faults c.args.vols.now)
          (g.V.Volumes.disk.faults c.write_last-written.new.vols) (c.args.system - 1) c.conclude.ensures.result wrote.faults;
    }
