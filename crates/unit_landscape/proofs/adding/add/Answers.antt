use Rattle.std.proofs.Common.{◌≡◌, ◌-◌, true, ap, ◌∙◌}
use Rattle.trfc_protocol.specs.Worlds.{is_up, log_of}
use Rattle.unit_landscape.proofs.BehindLemmas.{full-after}
use Rattle.unit_landscape.proofs.OnVolumesLemmas.{up-written, on_volumes-after}
use Rattle.unit_landscape.proofs.adding.add.Goals as goal

pub note-requires : goal.note-requires
note-requires g c = record {
  world = c.args.both.now.world;
  tables = c.args.both.now.tables;
  next = c.args.next;
  in_step = c.requires.stored.in_step;
  up = c.requires.can.writes.up;
  apart = c.requires.can.writes.apart;
  joins = c.requires.can.joins;
  goes = c.requires.can.goes;
  appended = c.in-Ok.ensures.written.world;
  entered = c.in-Ok.ensures.written.entered;
}

pub returns-in-Ok-clause-stored : goal.returns-in-Ok-clause-stored
returns-in-Ok-clause-stored g c =
    let up : is_up c.write.new.both.world c.args.system ≡ true =
    ap (λ w. is_up w c.args.system) c.in-Ok.ensures.written.world ∙ up-written c.args.both.now.world c.args.system c.args.next c.requires.can.writes.up in
    record {
      in_step = c.note.ensures.in_step;
      on_volumes = on_volumes-after g.V.Volumes.disk c.write.new.vols c.write.new.both.world c.note.new.both.world c.write.new.journals
          c.args.system
          c.args.claim c.note.result up c.note.ensures.world c.note.ensures.fallen c.in-Ok.ensures.written.on_volumes;
    }

pub returns-in-Ok-clause-full : goal.returns-in-Ok-clause-full
returns-in-Ok-clause-full g c =
    full-after (c.args.system - 1) c.args.journals.now (log_of c.args.both.now.world c.args.system) c.args.next c.note.result c.note.ensures.after
    c.in-Ok.ensures.full
