-- Volumes that are read one by one, each as the log of its system.
use Rattle.std.specs.Prelude.{Result, Ok, Err}
use Rattle.std.specs.Bool.{⊤}
use Rattle.std.proofs.Common.{◌≡◌, ◌≢◌, ◌⊎◌, inl, inr, ℕ, suc, ◌-◌, ◌≤◌, ◌<◌, Option, List, [], ◌∷◌, ◌++◌, length, refl, sym, ap, subst, ◌∙◌, arith}
use Rattle.std.proofs.Common.{length-append}
use Rattle.std.proofs.lemmas.Bool.{cases_eq}
use Rattle.std.specs.Option.{unwrap_or}
use Rattle.ale_base.specs.Faults.{Rose}
use Rattle.ale_volumes.specs.Disk.{Disk, LeftSince}
use Rattle.ale_volumes.specs.declared.volume.Volume.{Volume as OneVolume}
use Rattle.ale_volumes.specs.Clock.{KeepsOthers, LeavesOnly}
use Rattle.ale_volumes.proofs.ClockLemmas.{KeepsVolume-other, LeavesOnly-then_kept, started}
use Rattle.ale_volumes.specs.Faults.{CountsFault}
use Rattle.ale_volumes.specs.Volume.{IsImage}
use Rattle.byte_journal.specs.Bytes.{IsAsBeforeButForATornGate, IsAsBeforeButForTheGate}
use Rattle.byte_journal.specs.Log.{DamagedAt, ReadsAs}
use Rattle.byte_journal.specs.Settled.{IsLeftByOpening, LeavesOnlyFromSync}
use Rattle.unit_core.specs.declared.records.Record.{Record}
use Rattle.unit_journal.specs.Log.{Stands, UnreadAt, bodies_of}
use Rattle.unit_journal.specs.declared.journals.SystemJournals.{SystemJournals}
use Rattle.unit_journal.specs.Changes.{SameAt}
use Rattle.unit_journal.specs.OnDisk.{count_of, entries_of, moment_of, moments_at}
use Rattle.trfc_protocol.specs.declared.world.World.{World}
use Rattle.trfc_protocol.specs.Start.{first_state}
use Rattle.trfc_protocol.specs.Worlds.{log_of, log_or_none}
use Rattle.system_tables.specs.Tables.{TablesOf}
use Rattle.log_reading.specs.declared.bad.BadRecord.{BadRecord}
use Rattle.log_reading.specs.Reading.{IsFirstBad}
use Rattle.unit_landscape.specs.KeptWorlds.{KeptOf}
use Rattle.unit_landscape.specs.declared.opening.fault.NotOpened.{NotOpened}
use Rattle.unit_landscape.specs.declared.opening.fault.OpenFault.{OpenFault}
use Rattle.unit_landscape.specs.declared.opening.fault.OpenFault.TheVariants as open_fault
use Rattle.unit_landscape.specs.Opening.{LeavesFailed, LeavesSettled, with_log}
use Rattle.unit_landscape.specs.Volumes.{IsFound, IsUp, NoLogAs, VolumeOf, entries_in}
use Rattle.unit_landscape.proofs.CountedLemmas.{state-last, state-push}
use Rattle.document_state.specs.declared.document_tables.DocumentTables.{DocumentTables}
use Rattle.document_state.specs.declared.model_rules.ModelRules.{ModelRules}
use Rattle.landscape.specs.declared.open_end.OpenEnd.{OpenEnd}
use Rattle.landscape.specs.declared.open_end.OpenWhy.{OpenWhy}
use Rattle.landscape.specs.declared.open_end.OpenWhy.TheVariants as why
use Rattle.landscape.specs.declared.open_end.Refused.{Refused}
use Rattle.landscape.specs.declared.open_end.Refused.TheVariants as refused
use Rattle.landscape.specs.Opened.{AreLogsTo, AreRefused, EndedByFault, HoldSoundLogs, IsBadLog, IsGoodLog, IsRefusedAt, LeavesOpening, Logs}
use Rattle.landscape.specs.Opened.{MayBegin, NoneFailed, WhyEnded}
use Rattle.landscape.specs.Opened.{bytes_in, logs_in}
use Rattle.landscape.specs.steps.Opening.{AreOpened, HasEnded, IsBadIn, IsReadBy, IsReadLog, IsUpBy, OpensAs, rules_of, why_opened}
use Rattle.landscape.proofs.OneReadingLemmas.{ends-sound}
use Rattle.landscape.proofs.LeavingLemmas.{IsReadAfter, left-none, left-opened, left-weaker, left-wider, sync-weaker}

-- the moments at a place that is as before are as before
pub same_moments : (place : ℕ) (before after : SystemJournals) → SameAt place before after → moments_at after place ≡ moments_at before place
same_moments place before after same = ap (λ (found : Option (List (Option ℕ))). unwrap_or found []) same.moments

-- a call on the volume at a place counts its faults, and none of another volume
module _ {V : Type 0} (disk : Disk V) (before now after : V) (n : ℕ) {Failed : Type 0}
    (counts : CountsFault Failed (disk.faults now) (disk.faults after) n) (none : NoneFailed disk before now) where
  pub failed-here : (many : ℕ) (text : List ℕ) → n < many → (disk.told → (logs : Logs) × AreLogsTo many text (bytes_in disk before) n logs) → Failed
      → EndedByFault disk many text before after why.Volume
  failed-here many text less logs failed = record {
    place = n;
    within = less;
    rose = subst (λ k. Rose k (disk.faults after n)) (none n) (counts.rose failed);
    others = λ other differs. counts.others other differs ∙ none other;
    logs_before = logs;
  }

  pub none-more : (Failed → ⊥) → NoneFailed disk before after
  none-more not place = elim (cases_eq place n) [
    | inl same ↦ subst (λ m. disk.faults after m ≡ disk.faults before m) (sym same) (counts.quiet not ∙ none n)
    | inr other ↦ counts.others place other ∙ none place
  ]

-- what an opening that failed leaves of what a read of its volume gives: a gate that is the last byte is closed, or, after a fault, perhaps any
-- byte
read-failed : (old new : OneVolume) (fault : OpenFault) → LeavesFailed old new fault
    → IsAsBeforeButForTheGate old.contents new.contents ⊎ ((fault ≡ open_fault.Volume) × IsAsBeforeButForATornGate old.contents new.contents)
read-failed old new open_fault.Volume left = inr (refl, left)
read-failed old new (open_fault.Damaged place) left = inl (inl (ap (λ (v : OneVolume). v.contents) left))
read-failed old new (open_fault.Unread number) left = inl left.0
read-failed old new open_fault.OutOfMemory left = inl left.0

-- no volume is read yet
pub opened-none : {V : Type 0} (disk : Disk V) (many : ℕ) (text : List ℕ) (set : Option ℕ) (before : V)
    → (disk.told → (vols : V) (n : ℕ) (image : List ℕ) → LeftSince disk vols n (disk.moment vols) image → IsImage (disk.volume vols n) image)
    → (now : KeptOf ModelRules DocumentTables V) → now.world.rules.systems ≡ many → length now.world.systems ≡ 0 → count_of now.journals ≡ 0
    → moment_of now.journals ≡ set → now.vols ≡ before → AreOpened disk many text set before 0 now
opened-none disk many text set before only now all none journals is vols = record {
  all = all;
  opened = none;
  journals = journals;
  moment_set = is;
  good = λ system least most. absurd (omega (arith, least, most));
  held = λ tells system least most. absurd (omega (arith, least, most));
  leaves = λ tells. subst (λ v. LeavesOpening disk 0 text set before v ⊥ ⊥) (sym vols) (left-none disk text set before (only tells));
  unread = λ tells place behind. subst (λ v. LeavesOnly disk before v place (IsImage (disk.volume before place))) (sym vols)
      (started disk before place (IsImage (disk.volume before place)) (only tells before place));
  none_failed = λ place. ap (λ v. disk.faults v place) vols;
}

-- ---- the next volume is opened, and read

module _ {V : Type 0} (disk : Disk V) (text : List ℕ) (set : Option ℕ) (before : V) (now : KeptOf ModelRules DocumentTables V)
    (is : AreOpened disk now.world.rules.systems text set before (length now.world.systems) now)
    (less : length now.world.systems < now.world.rules.systems) where
  abbrev Kept : Type 0
  Kept = KeptOf ModelRules DocumentTables V

  abbrev many : ℕ
  many = now.world.rules.systems

  abbrev here : ℕ
  here = length now.world.systems

  known : disk.told → disk.volume now.vols here ≡ disk.volume before here
  known tells = ((is.leaves tells).beyond here (omega arith)).stays.known

  less-one : suc here - 1 ≡ here
  less-one = omega arith

  known-bytes : disk.told → (disk.volume now.vols here).contents ≡ bytes_in disk before (suc here)
  known-bytes tells = ap (λ (v : OneVolume). v.contents) (known tells) ∙ ap (λ n. (disk.volume before n).contents) (sym less-one)

  -- the volumes before it are read as logs
  before-here : disk.told → AreLogsTo many text (bytes_in disk before) here (logs_in now)
  before-here tells system least most = record { stands = is.held tells system least most; good = is.good system least most }

  -- systems may have begun, by why an opening ended
  abbrev Begins : OpenWhy → Type 0
  Begins end = MayBegin end × HoldSoundLogs many text (bytes_in disk before)

  -- a reason why its bytes are no log of its system
  refused-here : (refused : Refused) → disk.told → IsRefusedAt many text (suc here) (bytes_in disk before (suc here)) refused
      → AreRefused many text (bytes_in disk before) refused
  refused-here (refused.Damaged system place) tells why = record { count = here; less = less; logs = logs_in now; before = before-here tells; is = why }
  refused-here (refused.Unread system number) tells why = record { count = here; less = less; logs = logs_in now; before = before-here tells; is = why }
  refused-here (refused.Bad system bad) tells why = record { count = here; less = less; logs = logs_in now; before = before-here tells; is = why }
  refused-here (refused.Breach breach) tells why = absurd why

  -- where an opening ends behind this volume, so is what a crash leaves of all
  ended-left : (after : V) (begins early : Type 0) → (disk.told → LeavesOnly disk now.vols after here (IsLeftByOpening (disk.volume now.vols here)))
      → (disk.told → LeavesOnlyFromSync disk now.vols after here early (ReadsAs (disk.volume now.vols here).contents))
      → (disk.told → KeepsOthers disk now.vols after here) → CountsFault early (disk.faults now.vols) (disk.faults after) here
      → (disk.told → IsReadAfter disk early now.vols after here) → disk.told → LeavesOpening disk many text set before after begins ⊤
  ended-left after begins early only sync others counts reads tells =
      left-weaker disk text set before many after ⊥ begins ⊤ ⊤ (λ never. absurd never) (λ ends. tt)
      (left-wider disk text set before (suc here) many after ⊥ early (omega (arith, less))
      (left-opened disk text set before here now.vols after early (is.leaves tells) (is.unread tells here (omega arith)) (only tells)
      (sync tells) (others tells) is.none_failed counts (reads tells)))

  module _ (system : ℕ) (number : system ≡ suc here) where
    -- the volume is not opened
    ended-why : (after : V) (fault : OpenFault) → (disk.told → NoLogAs (disk.volume now.vols here).contents fault)
        → WhyEnded disk many text set before after (why_opened system fault)
    ended-why after open_fault.Volume not = tt
    ended-why after (open_fault.Damaged place) not = λ tells.
        refused-here (refused.Damaged system place) tells (number, subst (λ bytes. DamagedAt bytes place) (known-bytes tells) (not tells))
    ended-why after (open_fault.Unread unread) not = λ tells.
        refused-here (refused.Unread system unread) tells (number, subst (λ bytes. UnreadAt bytes unread) (known-bytes tells) (not tells))
    ended-why after open_fault.OutOfMemory not = tt

    ended-fault : (after : V) (fault : OpenFault) → CountsFault (fault ≡ open_fault.Volume) (disk.faults now.vols) (disk.faults after) here
        → EndedByFault disk many text before after (why_opened system fault)
    ended-fault after open_fault.Volume counts =
        failed-here disk before now.vols after here counts is.none_failed many text less (λ tells. (logs_in now, before-here tells)) refl
    ended-fault after (open_fault.Damaged place) counts = none-more disk before now.vols after here counts is.none_failed (λ same. cc)
    ended-fault after (open_fault.Unread unread) counts = none-more disk before now.vols after here counts is.none_failed (λ same. cc)
    ended-fault after open_fault.OutOfMemory counts = none-more disk before now.vols after here counts is.none_failed (λ same. cc)

    pub opened-not : (failed : NotOpened V) → (disk.told → NoLogAs (disk.volume now.vols here).contents failed.why)
        → (disk.told → LeavesOnly disk now.vols failed.vols here (IsLeftByOpening (disk.volume now.vols here)))
        → (disk.told → LeavesOnlyFromSync disk now.vols failed.vols here (failed.why ≡ open_fault.Volume) (ReadsAs (disk.volume now.vols here).contents))
        → (disk.told → KeepsOthers disk now.vols failed.vols here)
        → CountsFault (failed.why ≡ open_fault.Volume) (disk.faults now.vols) (disk.faults failed.vols) here
        → (disk.told → LeavesFailed (disk.volume now.vols here) (disk.volume failed.vols here) failed.why)
        → HasEnded disk many text set before (record { why = why_opened system failed.why; vols = failed.vols })
    opened-not failed why only sync others counts reads = record {
      why = ended-why failed.vols failed.why why;
      not_refused = ends-sound disk many text set before failed.vols (why_opened system failed.why) (ended-why failed.vols failed.why why);
      leaves = ended-left failed.vols (Begins (why_opened system failed.why)) (failed.why ≡ open_fault.Volume) only sync others counts
          (λ tells. read-failed (disk.volume now.vols here) (disk.volume failed.vols here) failed.why (reads tells));
      faulted = ended-fault failed.vols failed.why counts;
    }

  -- the volume is opened, with the log that it holds
  module _ (volume : VolumeOf ModelRules DocumentTables V) (found : IsFound now volume)
      (stands : disk.told → Stands (disk.volume now.vols here).contents (entries_in volume))
      (only : disk.told → LeavesOnly disk now.vols volume.kept.vols here (IsLeftByOpening (disk.volume now.vols here)))
      (sync : disk.told → LeavesOnlyFromSync disk now.vols volume.kept.vols here ⊥ (λ image. Stands image (entries_in volume)))
      (others : disk.told → KeepsOthers disk now.vols volume.kept.vols here)
      (counts : CountsFault ⊥ (disk.faults now.vols) (disk.faults volume.kept.vols) here)
      (reads : disk.told → LeavesSettled (disk.volume now.vols here) (disk.volume volume.kept.vols here)) where
    reads-here : disk.told → IsReadAfter disk ⊥ now.vols volume.kept.vols here
    reads-here tells = inl (reads tells).0

    sync-reads : disk.told → LeavesOnlyFromSync disk now.vols volume.kept.vols here ⊥ (ReadsAs (disk.volume now.vols here).contents)
    sync-reads tells =
        sync-weaker disk now.vols volume.kept.vols here ⊥ ⊥ (λ image. Stands image (entries_in volume)) (ReadsAs (disk.volume now.vols here).contents)
        (λ never. never) (λ image holds. inr (bodies_of (entries_in volume), (stands tells).bodies, holds.bodies)) (sync tells)

    none_failed : NoneFailed disk before volume.kept.vols
    none_failed = none-more disk before now.vols volume.kept.vols here counts is.none_failed (λ never. never)

    abbrev moments : List (Option ℕ)
    moments = moments_at volume.kept.journals here

    stands-here : disk.told → Stands (bytes_in disk before (suc here)) (entries_of moments volume.log)
    stands-here tells =
        subst (λ (w : World ModelRules). Stands (bytes_in disk before (suc here)) (entries_of (moments_at volume.kept.journals (length w.systems)) volume.log))
        found.world (subst (λ bytes. Stands bytes (entries_in volume)) (known-bytes tells) (stands tells))

    -- memory was wanting for it
    pub ended-short : HasEnded disk many text set before (record { why = why.OutOfMemory; vols = volume.kept.vols })
    ended-short = record {
      why = tt;
      not_refused = λ tells hold. tt;
      leaves = ended-left volume.kept.vols (Begins why.OutOfMemory) ⊥ only sync-reads others counts reads-here;
      faulted = none_failed;
    }

    abbrev FirstBad : BadRecord → World ModelRules → ℕ → Type 0
    FirstBad bad w s = IsFirstBad (rules_of w.rules) s text (moments_at volume.kept.journals (length w.systems)) volume.log bad

    bad-here : (system : ℕ) (bad : BadRecord) → IsBadIn text volume system bad → disk.told → IsBadLog many text (suc here) (bytes_in disk before (suc here)) bad
    bad-here system bad read tells = record {
      moments = moments;
      log = volume.log;
      each = subst (λ (w : World ModelRules). length (moments_at volume.kept.journals (length w.systems)) ≡ length volume.log) found.world read.each;
      stands = stands-here tells;
      is = subst (λ (w : World ModelRules). FirstBad bad w (suc (length w.systems))) found.world
          (subst (λ s. FirstBad bad volume.kept.world s) read.here read.is);
    }

    is-refused : (system : ℕ) (bad : BadRecord) → IsBadIn text volume system bad → disk.told
        → AreRefused many text (bytes_in disk before) (refused.Bad system bad)
    is-refused system bad read tells =
        refused-here (refused.Bad system bad) tells
        (read.here ∙ ap (λ (w : World ModelRules). suc (length w.systems)) found.world, bad-here system bad read tells)

    -- the log is no log of its system
    pub ended-read : (end : OpenWhy) → IsReadBy text volume (Err end) → HasEnded disk many text set before (record { why = end; vols = volume.kept.vols })
    ended-read why.Volume read = absurd read
    ended-read (why.Refused (refused.Damaged system place)) read = absurd read
    ended-read (why.Refused (refused.Unread system number)) read = absurd read
    ended-read (why.Refused (refused.Bad system bad)) read = record {
      why = is-refused system bad read;
      not_refused = ends-sound disk many text set before volume.kept.vols (why.Refused (refused.Bad system bad)) (is-refused system bad read);
      leaves = ended-left volume.kept.vols (Begins (why.Refused (refused.Bad system bad))) ⊥ only sync-reads others counts reads-here;
      faulted = none_failed;
    }
    ended-read (why.Refused (refused.Breach breach)) read = absurd read
    ended-read why.OutOfMemory read = ended-short

    -- the system is up with its log
    module _ (its : TablesOf DocumentTables) (next : Kept) (up : IsUp its volume next) where
      world : next.world ≡ with_log now.world volume.log
      world = up.world ∙ ap (λ (w : World ModelRules). with_log w volume.log) found.world

      log-here : log_of next.world (suc here) ≡ volume.log
      log-here =
          ap (λ (w : World ModelRules). log_of w (suc here)) world
          ∙ ap log_or_none (state-last now.world.systems (first_state volume.log) (suc here) (omega arith) less-one)

      log-before : (system : ℕ) → 1 ≤ system → system - 1 ≢ here → log_of next.world system ≡ log_of now.world system
      log-before system least differs =
          ap (λ (w : World ModelRules). log_of w system) world
          ∙ ap log_or_none (state-push now.world.systems (first_state volume.log) system least differs)

      moments-before : (system : ℕ) → 1 ≤ system → system ≤ here → moments_at next.journals (system - 1) ≡ moments_at now.journals (system - 1)
      moments-before system least most =
          let opened = is.journals in
          ap (λ j. moments_at j (system - 1)) up.journals
          ∙ same_moments (system - 1) now.journals volume.kept.journals (found.journals.others (system - 1) (omega (arith, least, most, opened)))

      -- what is so of the logs before, and of this one, is so of all
      more : (P : ℕ → List (Option ℕ) → List Record → Type 0)
          → ((system : ℕ) → 1 ≤ system → system ≤ here → P system (moments_at now.journals (system - 1)) (log_of now.world system))
          → P (suc here) moments volume.log
          → (system : ℕ) → 1 ≤ system → system ≤ suc here → P system (moments_at next.journals (system - 1)) (log_of next.world system)
      more P all this system least most = elim (cases_eq system (suc here)) [
        | inl same ↦
            subst (λ s. P s (moments_at next.journals (s - 1)) (log_of next.world s)) (sym same)
            (subst (λ l. P (suc here) (moments_at next.journals (suc here - 1)) l) (sym log-here)
            (subst (λ m. P (suc here) m volume.log) (sym (ap (λ j. moments_at j (suc here - 1)) up.journals ∙ ap (moments_at volume.kept.journals) less-one))
            this))
        | inr differs ↦
            let within : system ≤ here = omega (arith, most, differs) in
            subst (λ l. P system (moments_at next.journals (system - 1)) l) (sym (log-before system least (λ same. omega (arith, same, within, least))))
            (subst (λ m. P system m (log_of now.world system)) (sym (moments-before system least within)) (all system least within))
      ]

      pub opened-up : IsReadLog text volume its → AreOpened disk many text set before (suc here) next
      opened-up read = record {
        all = ap (λ (w : World ModelRules). w.rules.systems) world;
        opened =
            let grown : length next.world.systems ≡ length (now.world.systems ++ first_state volume.log ∷ []) =
            ap (λ (w : World ModelRules). length w.systems) world in
            omega (arith, grown, length-append now.world.systems (first_state volume.log ∷ []));
        journals = let j = found.journals.count in let was = is.journals in let same = ap count_of up.journals in omega (arith, j, was, same);
        moment_set = ap moment_of up.journals ∙ found.journals.moment ∙ is.moment_set;
        good = more (IsGoodLog many text) is.good
            (subst (λ (w : World ModelRules). IsGoodLog w.rules.systems text (suc (length w.systems)) (moments_at volume.kept.journals (length w.systems)) volume.log)
            found.world read.good);
        held = λ tells. more (λ system m l. Stands (bytes_in disk before system) (entries_of m l)) (is.held tells) (stands-here tells);
        leaves = λ tells. subst (λ v. LeavesOpening disk (suc here) text set before v ⊥ ⊥) (sym up.vols)
            (left-opened disk text set before here now.vols volume.kept.vols ⊥ (is.leaves tells) (is.unread tells here (omega arith)) (only tells)
            (sync-reads tells) (others tells) is.none_failed counts (reads-here tells));
        unread = λ tells place behind. subst (λ v. LeavesOnly disk before v place (IsImage (disk.volume before place))) (sym up.vols)
            (LeavesOnly-then_kept disk before now.vols volume.kept.vols place (IsImage (disk.volume before place)) (is.unread tells place (omega (arith, behind)))
            (KeepsVolume-other disk now.vols volume.kept.vols here place (only tells).later (λ same. omega (arith, same, behind)) (others tells)));
        none_failed = subst (NoneFailed disk before) (sym up.vols) none_failed;
      }

    -- so the next volume is read, or why not
    pub opens-by : (result : Result Kept (OpenEnd V)) → IsUpBy text volume result → OpensAs disk many text set before (suc here) result
    opens-by (Ok next) (its, read, up) = opened-up its next up read
    opens-by (Err end) (same, read) =
        subst (λ (v : V). HasEnded disk many text set before (record { why = end.why; vols = v })) (sym same) (ended-read end.why read)

-- what the reading of the next volume says, by how many systems there are and how many are read
pub opens-at : {V : Type 0} (disk : Disk V) (text : List ℕ)
    (opening : KeptOf ModelRules DocumentTables V) (result : Result (KeptOf ModelRules DocumentTables V) (OpenEnd V))
    → ((set : Option ℕ) (before : V) → AreOpened disk opening.world.rules.systems text set before (length opening.world.systems) opening
    → OpensAs disk opening.world.rules.systems text set before (suc (length opening.world.systems)) result)
    → (many count : ℕ) (set : Option ℕ) (before : V) → AreOpened disk many text set before count opening
    → OpensAs disk many text set before (suc count) result
opens-at disk text opening result opens many count set before is =
    subst (λ m. OpensAs disk m text set before (suc count) result) is.all
    (subst (λ k. OpensAs disk opening.world.rules.systems text set before (suc k) result) is.opened
    (opens set before
    (subst (λ k. AreOpened disk opening.world.rules.systems text set before k opening) (sym is.opened)
    (subst (λ m. AreOpened disk m text set before count opening) (sym is.all) is))))
