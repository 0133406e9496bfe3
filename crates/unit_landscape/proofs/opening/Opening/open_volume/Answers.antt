use Rattle.std.specs.Prelude.{IsErrOf}
use Rattle.std.proofs.Common.{◌≡◌, ◌<◌, length, inr, sym, subst, ◌∙◌, arith}
use Rattle.ale_volumes.specs.Faults.{CountsFault}
use Rattle.byte_journal.specs.Log.{ReadsAs}
use Rattle.byte_journal.specs.Settled.{LeavesOnlyFromSync}
use Rattle.unit_journal.specs.Log.{Stands}
use Rattle.unit_journal.specs.OnDisk.{count_of, entries_at}
use Rattle.unit_landscape.specs.KeptWorlds.{kept_of}
use Rattle.unit_landscape.specs.declared.opening.fault.OpenFault.TheVariants.{Volume}
use Rattle.unit_landscape.proofs.OpeningLemmas.{IsVolume-found, found-later, faults-none, faults-told, sync-told}
use Rattle.unit_landscape.proofs.opening.Opening.open_volume.Goals as goal

pub invariant_of-result : goal.invariant_of-result
invariant_of-result g c =
    let before = kept_of c.self.inside.both c.self.inside.journals c.self.inside.vols in
    let most = (g.met.R.Rules.lawful before.world.rules).systems_most in
    let next : length before.world.systems < (g.R.Rules.meaning before.world.rules).systems =
    subst (λ k. length k.world.systems < (g.R.Rules.meaning k.world.rules).systems) (sym c.self.view_is) c.requires.next in
    IsVolume-found g.R.Rules.meaning g.A.Application.stands g.V.Volumes.disk before c.open_log.new.journals c.open_log.new.vols c.in-Ok.log
    c.self.invariant (omega (arith, most, next)) c.in-Ok.ensures.next (λ other differs tells. ((c.open_log.ensures.others tells).each other differs).known)
    c.in-Ok.ensures.opened

pub returns-in-Ok-clause-from_sync : goal.returns-in-Ok-clause-from_sync
returns-in-Ok-clause-from_sync g c = λ tells.
    let vols = c.self.inside.vols in
    let place = count_of c.self.inside.journals in
    let here = length (c.self.inside.both.world).systems in
    let log = c.in-Ok.log in
    let journals = c.open_log.new.journals in
    subst (λ k. LeavesOnlyFromSync g.V.Volumes.disk k.vols c.open_log.new.vols (length k.world.systems) ⊥
    (λ image. Stands image (entries_at journals here log))) c.self.view_is
    (subst (λ n. LeavesOnlyFromSync g.V.Volumes.disk vols c.open_log.new.vols n ⊥ (λ image. Stands image (entries_at journals n log)))
    c.self.invariant.kept.on_volumes.count
    (inr (found-later g.V.Volumes.disk vols c.open_log.new.vols place (g.V.Volumes.disk.volume vols place).contents (entries_at journals place log)
    (IsErrOf c.open_log.result Volume) (λ failed. let both = sym c.in-Ok.is ∙ failed in cc) (c.in-Ok.ensures.why tells) (c.open_log.ensures.from_sync tells))))

pub returns-in-Ok-clause-faults : goal.returns-in-Ok-clause-faults
returns-in-Ok-clause-faults g c =
    subst (λ k. CountsFault ⊥ (g.V.Volumes.disk.faults k.vols) (g.V.Volumes.disk.faults c.open_log.new.vols) (length k.world.systems)) c.self.view_is
    (subst (λ n. CountsFault ⊥ (g.V.Volumes.disk.faults c.self.inside.vols) (g.V.Volumes.disk.faults c.open_log.new.vols) n)
    c.self.invariant.kept.on_volumes.count
    (faults-none c.open_log.result c.in-Ok.log (g.V.Volumes.disk.faults c.self.inside.vols) (g.V.Volumes.disk.faults c.open_log.new.vols)
    (count_of c.self.inside.journals)
    c.in-Ok.is c.open_log.ensures.faults))

pub returns-in-Err-clause-from_sync : goal.returns-in-Err-clause-from_sync
returns-in-Err-clause-from_sync g c = λ tells.
    let vols = c.self.inside.vols in
    let place = count_of c.self.inside.journals in
    subst (λ k. LeavesOnlyFromSync g.V.Volumes.disk k.vols c.open_log.new.vols (length k.world.systems)
    (c.in-Err.why ≡ Volume) (ReadsAs (g.V.Volumes.disk.volume k.vols (length k.world.systems)).contents)) c.self.view_is
    (subst (λ n. LeavesOnlyFromSync g.V.Volumes.disk vols c.open_log.new.vols n (c.in-Err.why ≡ Volume)
    (ReadsAs (g.V.Volumes.disk.volume vols n).contents)) c.self.invariant.kept.on_volumes.count
    (sync-told g.V.Volumes.disk vols c.open_log.new.vols place (ReadsAs (g.V.Volumes.disk.volume vols place).contents)
    c.in-Err.why (c.in-Err.ensures.from_sync tells)))

pub returns-in-Err-clause-faults : goal.returns-in-Err-clause-faults
returns-in-Err-clause-faults g c =
    subst (λ k. CountsFault (c.in-Err.why ≡ Volume) (g.V.Volumes.disk.faults k.vols) (g.V.Volumes.disk.faults c.open_log.new.vols) (length k.world.systems))
    c.self.view_is
    (subst (λ n. CountsFault (c.in-Err.why ≡ Volume) (g.V.Volumes.disk.faults c.self.inside.vols) (g.V.Volumes.disk.faults c.open_log.new.vols) n)
    c.self.invariant.kept.on_volumes.count
    (faults-told c.in-Err.why (g.V.Volumes.disk.faults c.self.inside.vols) (g.V.Volumes.disk.faults c.open_log.new.vols)
    (count_of c.self.inside.journals)
    c.in-Err.ensures.faults))
