use Rattle.std.proofs.Common.{ℕ, refl, sym, subst}
use Rattle.ale_volumes.specs.Clock.{KeepsOthers}
use Rattle.unit_journal.specs.Settled.{IsOn}
use Rattle.unit_journal.specs.OnDisk.{count_of, entries_of, IsOnDisk}
use Rattle.unit_journal.proofs.OpenLemmas.{IsNext-with_system, IsOnDisk-opened}
use Rattle.unit_journal.proofs.journals.SystemJournals.open.Goals as goal

pub returns-clause-opened : goal.returns-clause-opened
returns-clause-opened g c =
    let opened = c.in_ok-opened.opened in
    let its = c.in_ok-opened.ensures.opened in
    let entries = entries_of opened.moments opened.log in
    subst (IsOnDisk g.V.Volumes.disk c.open_volume.new.vols (count_of c.args.self.now) c.add.new.self) (sym c.in_ok-add.ensures.ok.0)
    (IsOnDisk-opened g.V.Volumes.disk c.open_volume.new.vols c.args.self.now c.add.new.self opened.journal opened.moments opened.log entries
    c.in_ok-add.ensures.ok.1 c.requires.moments its.each refl (subst (λ (n : ℕ). IsOn opened.journal n entries) c.len-place.ensures its.on) its.settled)

pub returns-clause-next : goal.returns-clause-next
returns-clause-next g c = IsNext-with_system c.args.self.now c.add.new.self c.in_ok-opened.opened.journal c.in_ok-opened.opened.moments
    c.in_ok-add.ensures.ok.1 c.requires.moments

pub returns-in_err-opened-clause-others : goal.returns-in_err-opened-clause-others
returns-in_err-opened-clause-others g c = λ told.
    subst (KeepsOthers g.V.Volumes.disk c.args.vols.now c.open_volume.new.vols) c.len-place.ensures (c.open_volume.ensures.others told)

pub returns-in_err-add-clause-others : goal.returns-in_err-add-clause-others
returns-in_err-add-clause-others g c = λ told.
    subst (KeepsOthers g.V.Volumes.disk c.args.vols.now c.open_volume.new.vols) c.len-place.ensures (c.open_volume.ensures.others told)

pub returns-clause-others : goal.returns-clause-others
returns-clause-others g c = λ told.
    subst (KeepsOthers g.V.Volumes.disk c.args.vols.now c.open_volume.new.vols) c.len-place.ensures (c.open_volume.ensures.others told)
