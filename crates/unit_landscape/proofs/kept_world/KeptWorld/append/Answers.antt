use Rattle.std.proofs.Common.{◌≤◌, ◌-◌, List, length, sym, ap, subst, ◌∙◌, arith}
use Rattle.trfc_protocol.specs.Worlds.{log_of}
use Rattle.unit_landscape.specs.AppendEnds.{IsToAppend, FullAs, UnchangedAs}
use Rattle.unit_core.specs.Filters.{executed_by, taken_by}
use Rattle.unit_landscape.specs.declared.cause.Cause.{Cause}
use Rattle.unit_landscape.specs.declared.counted.Adds.{Adds}
use Rattle.unit_landscape.specs.Causes.{AreCausesOf}
use Rattle.unit_landscape.specs.Counted.{AreCounted, counted_by}
use Rattle.unit_landscape.specs.KeptWorlds.{KeptOf, kept_of}
use Rattle.unit_landscape.proofs.InStepLemmas.{stands_up}
use Rattle.unit_landscape.proofs.CausesLemmas.{causes-appended, unchanged-told}
use Rattle.unit_landscape.proofs.CountedLemmas.{counted-appended, one_if-most, room-appended}
use Rattle.unit_landscape.proofs.kept_world.KeptWorld.append.Goals as goal

pub add-ended-requires-clause-stored : goal.add-ended-requires-clause-stored
add-ended-requires-clause-stored g c = record { in_step = c.self.invariant.in_step; on_volumes = c.self.invariant.on_volumes }

pub add-ended-requires-clause-can : goal.add-ended-requires-clause-can
add-ended-requires-clause-can g c =
    let can = subst (λ k. IsToAppend g.R.Rules.meaning g.A.Application.goes_with k c.args.system c.args.next c.args.more.now c.args.claim c.args.extra)
    (sym c.self.view_is) c.requires.can in
    record { writes = can.writes; joins = can.joins; goes = can.goes }

pub invariant_of-self : goal.invariant_of-self
invariant_of-self g c =
    let can = subst (λ k. IsToAppend g.R.Rules.meaning g.A.Application.goes_with k c.args.system c.args.next c.args.more.now c.args.claim c.args.extra)
    (sym c.self.view_is) c.requires.can in
    let standing = stands_up c.self.inside.both.world.systems c.args.system can.writes.up in
    let least = standing.least in
    let most : c.args.system ≤ 16 = let few = c.self.invariant.on_volumes.few in let within = standing.most in omega arith in
    record {
      in_step = c.add-ended.ensures.stored.in_step;
      on_volumes = c.add-ended.ensures.stored.on_volumes;
      causes = subst (AreCausesOf c.add-ended.new.both.world.systems) (sym c.tell.ensures)
          (causes-appended c.self.inside.both.world c.add-ended.new.both.world c.args.system c.args.next c.args.claim c.self.inside.causes c.add-ended.result can.writes.up
          most c.add-ended.ensures.did c.self.invariant.causes);
      counted = subst (AreCounted c.add-ended.new.both.world.systems) (sym c.note.ensures)
          (subst (λ adds. AreCounted c.add-ended.new.both.world.systems
          (counted_by c.self.inside.counted (c.args.system - 1) adds c.add-ended.result)) (sym c.of-adds.ensures)
          (counted-appended c.self.inside.both.world c.add-ended.new.both.world c.args.system c.args.next c.args.claim c.self.inside.counted
          c.add-ended.result can.writes.up least most c.add-ended.ensures.did c.self.invariant.counted));
    }

pub note-requires-clause-one : goal.note-requires-clause-one
note-requires-clause-one g c =
    subst (λ (adds : Adds). (adds.received ≤ 1) × (adds.executed ≤ 1)) (sym c.of-adds.ensures)
    (one_if-most (taken_by c.args.next), one_if-most (executed_by c.args.next))

pub note-requires-clause-room : goal.note-requires-clause-room
note-requires-clause-room g c =
    let can = subst (λ k. IsToAppend g.R.Rules.meaning g.A.Application.goes_with k c.args.system c.args.next c.args.more.now c.args.claim c.args.extra)
    (sym c.self.view_is) c.requires.can in
    let standing = stands_up c.self.inside.both.world.systems c.args.system can.writes.up in
    let most : c.args.system ≤ 16 = let few = c.self.invariant.on_volumes.few in let within = standing.most in omega arith in
    room-appended c.self.inside.both.world c.add-ended.new.both.world c.args.system c.args.next c.args.claim c.self.inside.counted (length c.log-records.result.now)
    c.add-ended.result can.writes.up standing.least most c.add-ended.ensures.did c.self.invariant.counted (ap length c.log-records.ensures)

pub returns-clause-unchanged : goal.returns-clause-unchanged
returns-clause-unchanged g c =
    let before : KeptOf g.row.R.Denot g.row.A.Denot g.row.V.Denot =
    record (kept_of c.self.inside.both c.self.inside.journals c.self.inside.vols) { causes = c.self.inside.causes } in
    let after : List Cause → KeptOf g.row.R.Denot g.row.A.Denot g.row.V.Denot =
    λ causes. record (kept_of c.add-ended.new.both c.add-ended.new.journals c.add-ended.new.vols) { causes = causes } in
    subst (λ k. UnchangedAs k (after c.tell.new.causes) c.add-ended.result) c.self.view_is
    (subst (λ causes. UnchangedAs before (after causes) c.add-ended.result) (sym c.tell.ensures)
    (unchanged-told c.self.inside.both c.add-ended.new.both c.self.inside.journals c.add-ended.new.journals c.self.inside.vols c.add-ended.new.vols
    c.self.inside.causes c.args.system c.add-ended.result c.add-ended.ensures.unchanged))

pub returns-clause-full : goal.returns-clause-full
returns-clause-full g c =
    subst (λ k. FullAs (c.args.system - 1) k.journals (log_of k.world c.args.system) c.args.next c.add-ended.result) c.self.view_is c.add-ended.ensures.full
