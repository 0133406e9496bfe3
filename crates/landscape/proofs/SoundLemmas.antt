-- What a crash inside a call leaves is sound, as the callers of the call see it.
use Rattle.std.proofs.Common.{◌≡◌, ℕ, List, Result, Ok, Err, inl, inr, sym, ap, subst}
use Rattle.ale_volumes.specs.Disk.{Disk, LeftSince}
use Rattle.ale_volumes.specs.Volume.{IsImage}
use Rattle.ale_base.specs.Tid.{TidOf}
use Rattle.unit_core.specs.declared.records.Record.{Record}
use Rattle.trfc_protocol.specs.declared.event.Event.{Event}
use Rattle.trfc_protocol.specs.RecordOf.{record_of}
use Rattle.unit_landscape.specs.Crashes.{HasGrown, LeavesSound}
use Rattle.unit_landscape.specs.Kept.{IsLandscape}
use Rattle.unit_landscape.specs.KeptWorlds.{KeptOf}
use Rattle.unit_landscape.specs.OnVolumes.{AreOnVolumes}
use Rattle.unit_landscape.specs.Writes.{DiskAs}
use Rattle.unit_landscape.specs.Appending.{at}
use Rattle.unit_landscape.specs.declared.answers.Late.{Late}
use Rattle.unit_landscape.specs.declared.answers.LateEnd.TheVariants as end
use Rattle.unit_landscape.proofs.CrashLemmas.{leaves-event, leaves-still, stays-none, stays-on, stays-one}
use Rattle.unit_landscape.proofs.GrownLemmas.{grown-behind, grown-failed, grown-happened, grown-late, grown-same, grown-stays}
use Rattle.document_state.specs.declared.document_tables.DocumentTables.{DocumentTables}
use Rattle.document_state.specs.declared.model_rules.ModelRules.{ModelRules}
use Rattle.status_log.specs.declared.refusal.Refusal.{Refusal}
use Rattle.status_log.specs.declared.refusal.Refusal.TheVariants as refusal
use Rattle.landscape.specs.Asked.{Asked}
use Rattle.landscape.specs.Carried.{CarriedAs}
use Rattle.landscape.specs.Crashes.{GoesSoundly, LeavesSoundLogs}
use Rattle.landscape.specs.Working.{CameOrRefused}
use Rattle.landscape.proofs.BegunLemmas.{is_lawful, meaning}

module _ {V : Type 0} (disk : Disk V)
    (only_now : disk.told → (vols : V) (n : ℕ) (image : List ℕ) → LeftSince disk vols n (disk.moment vols) image → IsImage (disk.volume vols n) image)
    (kept seen : KeptOf ModelRules DocumentTables V) (same : kept ≡ seen) (is : IsLandscape meaning kept.world)
    (on_volumes : AreOnVolumes disk kept.vols (kept.world).systems kept.journals) where
  -- of a call that is an event
  pub sound-event : (after : KeptOf ModelRules DocumentTables V) (e : Event)
      → DiskAs disk kept after (record_of (meaning kept.world.rules) kept.world e) → LeavesSoundLogs disk seen after
  sound-event after e did tells =
      subst (λ k. LeavesSound meaning disk k after) same
      (leaves-event meaning disk kept only_now on_volumes (is_lawful kept.world.rules) is.safe tells after e did)

  -- of one that calls no volume
  pub sound-still : (after : KeptOf ModelRules DocumentTables V) → after.vols ≡ kept.vols → LeavesSoundLogs disk seen after
  sound-still after still tells =
      subst (λ k. LeavesSound meaning disk k after) same
      (leaves-still meaning disk kept only_now on_volumes (is_lawful kept.world.rules) is.safe tells after still)

  -- and of one that does nothing
  pub sound-none : LeavesSoundLogs disk seen seen
  sound-none = sound-still seen (ap (λ (k : KeptOf ModelRules DocumentTables V). k.vols) (sym same))

module _ {V : Type 0} (disk : Disk V) (before after : KeptOf ModelRules DocumentTables V) where
  -- no volume was called
  pub goes-none : after.world ≡ before.world → after.vols ≡ before.vols → GoesSoundly disk before after
  goes-none world vols tells = stays-none meaning disk before after world vols

  -- one call was made
  pub goes-one : HasGrown before.world after.world → LeavesSoundLogs disk before after → GoesSoundly disk before after
  goes-one grown leaves tells = stays-one meaning disk before after grown (leaves tells)

  module _ (is : IsLandscape meaning before.world) where
    -- a command, carried out or refused, lets logs only grow
    pub carried-grown : {T : Type 0} (system : ℕ) (of : Record → Event) (asked : Asked) (answers : T → Type 0) (result : Result T Refusal)
        → CarriedAs disk before after system of asked answers result → HasGrown before.world after.world
    carried-grown system of asked answers (Ok answer) did = elim did.1 [
      | inl none ↦ grown-same meaning is_lawful disk before after is.safe none.1
      | inr asks ↦ grown-happened meaning is_lawful disk before after is.safe (of asks.0) asks.2
    ]
    carried-grown system of asked answers (Err refusal.Volume) did = grown-failed meaning is_lawful disk before after is.safe (at system did.0) did.2
    carried-grown system of asked answers (Err (refusal.N10 size)) did =
        let full = did.2 in grown-same meaning is_lawful disk before after is.safe full.same
    carried-grown system of asked answers (Err refusal.OutOfMemory) did = elim did [
      | inl stays ↦ grown-stays meaning is_lawful disk before after is.safe stays
      | inr behind ↦ grown-behind meaning is_lawful disk before after is.safe (of behind.0) (at system behind.0) behind.2
    ]
    carried-grown system of asked answers (Err why) did = grown-same meaning is_lawful disk before after is.safe did.1

    -- so does a late request
    pub came-grown : (tid : TidOf) (result : Result Late Refusal) → CameOrRefused disk before after tid result → HasGrown before.world after.world
    came-grown tid (Ok came) did = grown-late meaning is_lawful disk before after is.safe tid (Ok came) did
    came-grown tid (Err refusal.N2) did = grown-late meaning is_lawful disk before after is.safe tid (Err end.SenderDown) did
    came-grown tid (Err refusal.N6) did = elim did [
      | inl none ↦ grown-late meaning is_lawful disk before after is.safe tid (Err end.NoSuchSystem) none
      | inr none ↦ grown-late meaning is_lawful disk before after is.safe tid (Err end.NotCommitted) none
    ]
    came-grown tid (Err refusal.N7) did = grown-late meaning is_lawful disk before after is.safe tid (Err end.NotMarked) did
    came-grown tid (Err (refusal.N10 size)) did = grown-late meaning is_lawful disk before after is.safe tid (Err (end.Full size)) did
    came-grown tid (Err refusal.OutOfMemory) did = grown-late meaning is_lawful disk before after is.safe tid (Err end.OutOfMemory) did
    came-grown tid (Err why) did = absurd did

-- more calls after that
pub goes-on : {V : Type 0} (disk : Disk V) (before between after : KeptOf ModelRules DocumentTables V) → GoesSoundly disk before between
    → GoesSoundly disk between after → GoesSoundly disk before after
goes-on disk before between after first second tells = stays-on meaning disk before between after (first tells) (second tells)
