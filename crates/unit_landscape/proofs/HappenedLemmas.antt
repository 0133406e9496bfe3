-- Calls that append nothing, and what a call leaves on the volumes.
use Rattle.std.proofs.Common.{◌≡◌, ℕ, ◌-◌, true, Option, Some, None, List, inl, refl, sym, ap, subst, ◌∙◌}
use Rattle.std.proofs.lemmas.Option.{none-some}
use Rattle.ale_volumes.specs.Disk.{Disk, LeftSince}
use Rattle.ale_volumes.specs.Volume.{IsImage}
use Rattle.ale_volumes.specs.Clock.{LeavesOnly, KeepsOthers}
use Rattle.ale_volumes.proofs.ClockLemmas.{started, others_kept}
use Rattle.unit_codec.specs.Entries.{entry_with}
use Rattle.unit_journal.specs.Settled.{IsBeforeOrAfter}
use Rattle.trfc_protocol.specs.declared.world.World.{World}
use Rattle.trfc_protocol.specs.declared.event.Event.{Event}
use Rattle.trfc_protocol.specs.declared.event.Event.TheVariants.{Fall}
use Rattle.trfc_protocol.specs.Meaning.{Meaning}
use Rattle.trfc_protocol.specs.Legal.{IsLawful}
use Rattle.trfc_protocol.specs.Worlds.{log_of, is_up}
use Rattle.trfc_protocol.specs.RecordOf.{Writing, record_of}
use Rattle.trfc_protocol.specs.Happens.{happens}
use Rattle.trfc_protocol.specs.Safe.{Safe}
use Rattle.trfc_protocol.proofs.RecordLemmas.{MayWrite-record}
use Rattle.unit_journal.specs.OnDisk.{next_moment, entries_at}
use Rattle.unit_journal.proofs.KeptLemmas.{IsOnDisk-stands}
use Rattle.unit_landscape.specs.OnVolumes.{AreOnVolumes}
use Rattle.unit_landscape.proofs.OnVolumesLemmas.{on_disk-up}
use Rattle.unit_landscape.specs.KeptWorlds.{KeptOf}
use Rattle.unit_landscape.specs.declared.cause.Cause.TheVariants.{Crashed}
use Rattle.unit_landscape.specs.Causes.{with_cause, causes_after}
use Rattle.unit_landscape.specs.LogAnswers.{KeepsVolumes}
use Rattle.unit_landscape.specs.Kept.{IsLandscape}
use Rattle.unit_landscape.specs.Writes.{MomentsAs, WritesOnly, DiskAs}
use Rattle.unit_landscape.specs.Ends.{Happened}

-- an event that appends nothing happened, where the world is its and the journals and volumes are as before
pub happened-none : {R A V : Type 0} (rules : Meaning) (disk : Disk V) (before after : KeptOf R A V) (e : Event) → record_of rules before.world e ≡ None
    → after.world ≡ happens rules before.world e → KeepsVolumes before after → causes_after e before.causes ≡ before.causes
    → Happened rules disk before after e
happened-none rules disk before now e none world keeps quiet = record {
  world = world;
  moments = subst (MomentsAs before.journals now.journals) (sym none) keeps.journals;
  fits = λ it same size long. absurd (none-some it (sym none ∙ same));
  no_faults = λ place. ap (λ vols. disk.faults vols place) keeps.vols;
  causes = keeps.causes ∙ sym quiet;
}

-- a system fell by a command
pub happened-fall : {R A V : Type 0} (rules : Meaning) (disk : Disk V) (before after : KeptOf R A V) (system : ℕ)
    → after.world ≡ happens rules before.world (Fall system None) → after.journals ≡ before.journals → after.vols ≡ before.vols
    → after.causes ≡ with_cause before.causes system Crashed → Happened rules disk before after (Fall system None)
happened-fall rules disk before now system world journals vols causes = record {
  world = world;
  moments = journals;
  fits = λ it same size long. absurd (none-some it same);
  no_faults = λ place. ap (λ vols. disk.faults vols place) vols;
  causes = causes;
}

module _ {R A V : Type 0} (disk : Disk V)
    (before after : KeptOf R A V) where
  -- a call that appends nothing calls no volume
  pub disk-none : (found : Option Writing) → found ≡ None → KeepsVolumes before after → DiskAs disk before after found
  disk-none found none keeps = subst (DiskAs disk before after) (sym none) keeps

  -- a call that appends a record writes it, and nothing else
  pub disk-some : (found : Option Writing) (it : Writing) → found ≡ Some it → WritesOnly disk before after it
      → DiskAs disk before after found
  disk-some found it some writes = subst (DiskAs disk before after) (sym some) writes

  -- a call that was to append a record, and called no volume, leaves what it found
  pub writes-nothing : (disk.told → (vols : V) (n : ℕ) (image : List ℕ) → LeftSince disk vols n (disk.moment vols) image →
      IsImage (disk.volume vols n) image)
      → AreOnVolumes disk before.vols (before.world).systems before.journals → (it : Writing) → is_up before.world it.system ≡ true →
      KeepsVolumes before after
      → WritesOnly disk before after it
  writes-nothing only_now on_volumes it up keeps =
      let on_disk = on_disk-up disk before.vols before.world before.journals it.system up on_volumes in
      let place = it.system - 1 in
      let log = log_of before.world it.system in
      record {
        any_moment = λ tells. subst (λ vols. LeavesOnly disk before.vols vols place
            (IsBeforeOrAfter (entries_at before.journals place log) (entry_with (next_moment before.journals place) it.next))) (sym keeps.vols)
            (started disk before.vols place
            (IsBeforeOrAfter (entries_at before.journals place log) (entry_with (next_moment before.journals place) it.next))
            (λ image left. inl (IsOnDisk-stands disk before.vols place before.journals log tells on_disk image
            (only_now tells before.vols place image left))));
        others = λ tells. subst (λ vols. KeepsOthers disk before.vols vols place) (sym keeps.vols)
            (others_kept disk before.vols place);
      }

  -- whatever an event was to append: where no volume was called all are as they were
  pub disk-still : (disk.told → (vols : V) (n : ℕ) (image : List ℕ) → LeftSince disk vols n (disk.moment vols) image → IsImage (disk.volume vols n) image)
      → AreOnVolumes disk before.vols (before.world).systems before.journals → (rules : Meaning) → IsLawful rules → Safe rules before.world →
      (e : Event) → KeepsVolumes before after
      → DiskAs disk before after (record_of rules before.world e)
  disk-still only_now on_volumes rules lawful safe e keeps = at (record_of rules before.world e) refl
    where
      at : (found : Option Writing) → record_of rules before.world e ≡ found → DiskAs disk before after found
      at None is = keeps
      at (Some it) is = writes-nothing only_now on_volumes it (MayWrite-record rules lawful before.world safe e it is).up keeps

-- the same of a call of a landscape, as its callers see it
pub disk-seen : {R A V : Type 0} (disk : Disk V)
    → (disk.told → (vols : V) (n : ℕ) (image : List ℕ) → LeftSince disk vols n (disk.moment vols) image → IsImage (disk.volume vols n) image)
    → (meaning : R → Meaning) → ((rules : R) → IsLawful (meaning rules)) → (kept seen : KeptOf R A V) → kept ≡ seen → IsLandscape meaning kept.world
    → AreOnVolumes disk kept.vols (kept.world).systems kept.journals → (event : World R → Event)
    → DiskAs disk seen seen (record_of (meaning seen.world.rules) seen.world (event seen.world))
disk-seen disk only_now meaning lawful kept seen same is on_volumes event =
    subst (λ k. DiskAs disk k k (record_of (meaning k.world.rules) k.world (event k.world))) same
    (disk-still disk kept kept only_now on_volumes (meaning kept.world.rules) (lawful kept.world.rules) is.safe (event kept.world)
    (record { journals = refl; vols = refl; causes = refl }))
