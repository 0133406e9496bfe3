-- What a crash leaves of the volumes of a landscape that is opened, volume by volume.
use Rattle.std.specs.Bool.{⊤}
use Rattle.std.proofs.Common.{◌≡◌, ◌≢◌, ◌⊎◌, ⊎_elim, inl, inr, ℕ, suc, ◌≤◌, ◌<◌, Option, List, [], refl, sym, subst, ◌∙◌, arith}
use Rattle.std.proofs.lemmas.Bool.{cases_eq, cases_lt}
use Rattle.ale_base.specs.Faults.{Rose}
use Rattle.ale_volumes.specs.Disk.{Disk, LeftSince}
use Rattle.ale_volumes.specs.declared.volume.Volume.{Volume as OneVolume}
use Rattle.ale_volumes.specs.Clock.{KeepsOthers, KeepsVolume, LeavesOnly, PastStays}
use Rattle.ale_volumes.specs.Faults.{CountsFault}
use Rattle.ale_volumes.specs.Volume.{IsImage}
use Rattle.ale_volumes.proofs.ClockLemmas.{KeepsVolume-joined, KeepsVolume-other, LeavesOnly-then_kept, StaysAs-none, joined, since-either, started, weaker}
use Rattle.byte_journal.specs.Bytes.{IsAsBeforeButForATornGate, IsAsBeforeButForTheGate}
use Rattle.byte_journal.specs.Log.{ReadsAs}
use Rattle.byte_journal.specs.Settled.{IsLeftByOpening, LeavesOnlyFromSync, LeavesOnlyLater}
use Rattle.unit_core.specs.declared.records.Record.TheVariants.{Genesis}
use Rattle.unit_codec.specs.Entries.{entry_with}
use Rattle.unit_journal.specs.Log.{Stands}
use Rattle.unit_journal.specs.Settled.{IsBeforeOrAfter}
use Rattle.landscape.specs.Opened.{IsAsItWas, IsLeft, IsLeftRead, LeavesOpening}

module _ {V : Type 0} (disk : Disk V) where
  -- what a volume leaves from some moment on it leaves after calls that leave only the same
  later-then : (old mid new : V) (n : ℕ) (P : List ℕ → Type 0) → LeavesOnlyLater disk old mid n P → LeavesOnly disk mid new n P
      → LeavesOnlyLater disk old new n P
  later-then old mid new n P later only = record {
    from = later.from;
    not_before = later.not_before;
    not_after = omega (arith, later.not_after, only.later);
    each = λ image left. ⊎_elim (later.each image) (only.each image) (since-either disk mid new n later.from image only.past left);
    earlier = λ image moment least less left.
        later.earlier image moment least less ((only.past moment image (omega (arith, less, later.not_after))).0 left);
  }

  -- and after calls on others
  later-kept : (old mid new : V) (n : ℕ) (P : List ℕ → Type 0) → LeavesOnlyLater disk old mid n P → KeepsVolume disk mid new n
      → LeavesOnlyLater disk old new n P
  later-kept old mid new n P later kept = record {
    from = later.from;
    not_before = later.not_before;
    not_after = omega (arith, later.not_after, kept.later);
    each = λ image left. ⊎_elim (later.each image)
        (λ now. later.each image (record {
          moment = disk.moment mid;
          least = later.not_after;
          most = omega arith;
          left = kept.stays.still now.moment image now.least now.most now.left;
        }))
        (since-either disk mid new n later.from image kept.stays.past left);
    earlier = λ image moment least less left.
        later.earlier image moment least less ((kept.stays.past moment image (omega (arith, less, later.not_after))).0 left);
  }

  -- what leaves only what has P from some moment on leaves only what has Q
  later-weaker : (old new : V) (n : ℕ) (P Q : List ℕ → Type 0) → ((image : List ℕ) → P image → Q image) → LeavesOnlyLater disk old new n P
      → LeavesOnlyLater disk old new n Q
  later-weaker old new n P Q leads later = record {
    from = later.from;
    not_before = later.not_before;
    not_after = later.not_after;
    each = λ image left. leads image (later.each image left);
    earlier = later.earlier;
  }

  -- the moment may be looked for from earlier on, where the volume was kept until then
  later-before : (old mid new : V) (n : ℕ) (P : List ℕ → Type 0)
      → LeavesOnly disk old mid n (IsImage (disk.volume old n)) → disk.volume mid n ≡ disk.volume old n → PastStays disk mid new n
      → LeavesOnlyLater disk mid new n P → LeavesOnlyLater disk old new n P
  later-before old mid new n P unread known past later = record {
    from = later.from;
    not_before = omega (arith, unread.later, later.not_before);
    not_after = later.not_after;
    each = later.each;
    earlier = λ image moment least less left. elim (cases_lt (disk.moment mid) moment) [
      | inl after ↦ subst (λ (v : OneVolume). IsImage v image) known (later.earlier image moment (omega (arith, after)) less left)
      | inr until ↦ unread.each image
          (record { moment = moment; least = least; most = until; left = (past moment image until).0 left })
    ];
  }

  pub sync-weaker : (old new : V) (n : ℕ) (early later : Type 0) (P Q : List ℕ → Type 0) → (early → later) → ((image : List ℕ) → P image → Q image)
      → LeavesOnlyFromSync disk old new n early P → LeavesOnlyFromSync disk old new n later Q
  sync-weaker old new n early later P Q leads all sync =
      ⊎_elim (λ same. inl (leads same.0, same.1)) (λ is. inr (later-weaker old new n P Q all is)) sync

  sync-kept : (old mid new : V) (n : ℕ) (early : Type 0) (P : List ℕ → Type 0) → LeavesOnlyFromSync disk old mid n early P
      → KeepsVolume disk mid new n → LeavesOnlyFromSync disk old new n early P
  sync-kept old mid new n early P sync kept =
      ⊎_elim (λ same. inl (same.0, kept.stays.known ∙ same.1)) (λ is. inr (later-kept old mid new n P is kept)) sync

  -- what an opening that may fail leaves of what a read of its volume gives: a gate that is the last byte is closed, or, where the volume
  -- failed, perhaps any byte
  abbrev pub IsReadAfter : Type 0 → V → V → ℕ → Type 0
  IsReadAfter failed old new n =
      IsAsBeforeButForTheGate (disk.volume old n).contents (disk.volume new n).contents
      ⊎ (failed × IsAsBeforeButForATornGate (disk.volume old n).contents (disk.volume new n).contents)

  -- a read gives what it gave after calls on other volumes
  was-kept : (old mid new : V) (n : ℕ) (begins : Type 0) → disk.volume new n ≡ disk.volume mid n → disk.faults new n ≡ disk.faults mid n
      → IsAsItWas disk old mid begins n → IsAsItWas disk old new begins n
  was-kept old mid new n begins known counted (inl gate) =
      inl (subst (λ (v : OneVolume). IsAsBeforeButForTheGate (disk.volume old n).contents v.contents) (sym known) gate)
  was-kept old mid new n begins known counted (inr (inl torn)) = inr (inl (
    subst (λ k. Rose (disk.faults old n) k) (sym counted) torn.0,
    subst (λ (v : OneVolume). IsAsBeforeButForATornGate (disk.volume old n).contents v.contents) (sym known) torn.1,
  ))
  was-kept old mid new n begins known counted (inr (inr began)) = inr (inr began)

  -- and so it does after an opening of a volume that was as it was
  was-opened : (old mid new : V) (n : ℕ) (begins failed : Type 0) → disk.volume mid n ≡ disk.volume old n → disk.faults mid n ≡ disk.faults old n
      → CountsFault failed (disk.faults mid) (disk.faults new) n → IsReadAfter failed mid new n → IsAsItWas disk old new begins n
  was-opened old mid new n begins failed known counted counts (inl gate) =
      inl (subst (λ (v : OneVolume). IsAsBeforeButForTheGate v.contents (disk.volume new n).contents) known gate)
  was-opened old mid new n begins failed known counted counts (inr torn) = inr (inl (
    subst (λ k. Rose k (disk.faults new n)) counted (counts.rose torn.0),
    subst (λ (v : OneVolume). IsAsBeforeButForATornGate v.contents (disk.volume new n).contents) known torn.1,
  ))

  -- more ends are told apart less
  was-weaker : (old new : V) (n : ℕ) (begins more : Type 0) → (begins → more) → IsAsItWas disk old new begins n → IsAsItWas disk old new more n
  was-weaker old new n begins more leads (inl gate) = inl gate
  was-weaker old new n begins more leads (inr (inl torn)) = inr (inl torn)
  was-weaker old new n begins more leads (inr (inr began)) = inr (inr (leads began.0, began.1))

module _ {V : Type 0} (disk : Disk V) (text : List ℕ) (set : Option ℕ) (before : V) where
  abbrev Left : ℕ → V → Type 0 → Type 0 → Type 0
  Left many after begins early = LeavesOpening disk many text set before after begins early

  abbrev One : Type 0 → ℕ → List ℕ → Type 0
  One begins = IsLeft disk text set before begins

  abbrev OneRead : Type 0 → ℕ → List ℕ → Type 0
  OneRead begins = IsLeftRead disk text set before begins

  one-weaker : (begins more : Type 0) → (begins → more) → (place : ℕ) (image : List ℕ) → One begins place image → One more place image
  one-weaker begins more leads place image is = ⊎_elim (λ was. inl was) (λ began. inr (leads began.0, began.1)) is

  read-weaker : (begins more : Type 0) → (begins → more) → (place : ℕ) (image : List ℕ) → OneRead begins place image → OneRead more place image
  read-weaker begins more leads place image is = ⊎_elim (λ was. inl was) (λ began. inr (leads began.0, began.1)) is

  -- nothing was done yet
  pub left-none : ((vols : V) (n : ℕ) (image : List ℕ) → LeftSince disk vols n (disk.moment vols) image → IsImage (disk.volume vols n) image)
      → Left 0 before ⊥ ⊥
  left-none only = record {
    leaves = λ place. started disk before place (One ⊥ place) (λ image left. inl (inl (only before place image left)));
    from_sync = λ place less. absurd (omega arith);
    reads = λ place. inl (inl refl);
    beyond = λ place behind. record { later = omega arith; stays = StaysAs-none disk before place };
  }

  -- more ends are told apart less
  pub left-weaker : (many : ℕ) (after : V) (begins more early later : Type 0) → (begins → more) → (early → later) → Left many after begins early
      → Left many after more later
  left-weaker many after begins more early later leads ends left = record {
    leaves = λ place. weaker disk before after place (One begins place) (One more place) (one-weaker begins more leads place) (left.leaves place);
    from_sync = λ place less. sync-weaker disk before after place early later (OneRead begins place) (OneRead more place) ends
        (read-weaker begins more leads place) (left.from_sync place less);
    reads = λ place. was-weaker disk before after place begins more leads (left.reads place);
    beyond = left.beyond;
  }

  -- of more systems, where an opening ended early: their volumes are as they were
  pub left-wider : (count many : ℕ) (after : V) (begins early : Type 0) → count ≤ many → Left count after begins early → Left many after begins ⊤
  left-wider count many after begins early within left = record {
    leaves = left.leaves;
    from_sync = λ place less. elim (cases_lt place count) [
      | inl small ↦ sync-weaker disk before after place early ⊤ (OneRead begins place) (OneRead begins place) (λ ends. tt) (λ image is. is)
          (left.from_sync place small)
      | inr behind ↦ inl (tt, (left.beyond place behind).stays.known)
    ];
    reads = left.reads;
    beyond = λ place behind. left.beyond place (omega (arith, within, behind));
  }

  -- the next volume is opened
  pub left-opened : (count : ℕ) (now after : V) (early : Type 0) → Left count now ⊥ ⊥
      → LeavesOnly disk before now count (IsImage (disk.volume before count))
      → LeavesOnly disk now after count (IsLeftByOpening (disk.volume now count))
      → LeavesOnlyFromSync disk now after count early (ReadsAs (disk.volume now count).contents)
      → KeepsOthers disk now after count → ((place : ℕ) → disk.faults now place ≡ disk.faults before place)
      → CountsFault early (disk.faults now) (disk.faults after) count → IsReadAfter disk early now after count → Left (suc count) after ⊥ early
  left-opened count now after early left unread only sync others none counts reads = record {
    leaves = λ place. elim (cases_eq place count) [
      | inl same ↦ subst (λ m. LeavesOnly disk before after m (One ⊥ m)) (sym same)
          (joined disk before now after count (One ⊥ count) (left.leaves count)
          (weaker disk now after count (IsLeftByOpening (disk.volume now count)) (One ⊥ count)
          (λ image has. inl (subst (λ (v : OneVolume). IsLeftByOpening v image) known has)) only))
      | inr other ↦ LeavesOnly-then_kept disk before now after place (One ⊥ place) (left.leaves place)
          (KeepsVolume-other disk now after count place only.later other others)
    ];
    from_sync = λ place less. elim (cases_eq place count) [
      | inl same ↦ subst (λ m. LeavesOnlyFromSync disk before after m early (OneRead ⊥ m)) (sym same)
          (⊎_elim (λ failed. inl (failed.0, failed.1 ∙ known))
          (λ later. inr (later-before disk before now after count (OneRead ⊥ count) unread known only.past
          (later-weaker disk now after count (ReadsAs (disk.volume now count).contents) (OneRead ⊥ count)
          (λ image reads. inl (subst (λ (v : OneVolume). ReadsAs v.contents image) known reads)) later))) sync)
      | inr other ↦ sync-kept disk before now after place early (OneRead ⊥ place)
          (sync-weaker disk before now place ⊥ early (OneRead ⊥ place) (OneRead ⊥ place) (λ never. absurd never) (λ image is. is)
          (left.from_sync place (omega (arith, less, other))))
          (KeepsVolume-other disk now after count place only.later other others)
    ];
    reads = λ place. elim (cases_eq place count) [
      | inl same ↦ subst (λ m. IsAsItWas disk before after ⊥ m) (sym same)
          (was-opened disk before now after count ⊥ early known (none count) counts reads)
      | inr other ↦ was-kept disk before now after place ⊥ (others.each place other).known (counts.others place other) (left.reads place)
    ];
    beyond = λ place behind.
        KeepsVolume-joined disk before now after place (left.beyond place (omega (arith, behind)))
        (KeepsVolume-other disk now after count place only.later (λ same. omega (arith, same, behind)) others);
  }
    where
      kept : KeepsVolume disk before now count
      kept = left.beyond count (omega arith)

      known : disk.volume now count ≡ disk.volume before count
      known = kept.stays.known

  -- a system whose volume stood for the empty log begins, or its volume fails
  pub left-begun : (many n : ℕ) (now after : V) → Left many now ⊤ ⊥ → n < many → Stands (disk.volume before n).contents []
      → LeavesOnly disk now after n (IsBeforeOrAfter [] (entry_with set (Genesis (suc n) text))) → KeepsOthers disk now after n
      → ((place : ℕ) → place ≢ n → disk.faults after place ≡ disk.faults now place) → Left many after ⊤ ⊥
  left-begun many n now after left less empty only others counted = record {
    leaves = λ place. elim (cases_eq place n) [
      | inl same ↦ subst (λ m. LeavesOnly disk before after m (One ⊤ m)) (sym same)
          (joined disk before now after n (One ⊤ n) (left.leaves n)
          (weaker disk now after n (IsBeforeOrAfter [] (entry_with set (Genesis (suc n) text))) (One ⊤ n)
          (λ image has. inr (tt, record { empty = empty; is = has })) only))
      | inr other ↦ LeavesOnly-then_kept disk before now after place (One ⊤ place) (left.leaves place)
          (KeepsVolume-other disk now after n place only.later other others)
    ];
    from_sync = λ place within. elim (cases_eq place n) [
      | inl same ↦ subst (λ m. LeavesOnlyFromSync disk before after m ⊥ (OneRead ⊤ m)) (sym same)
          (⊎_elim (λ never. absurd never.0)
          (λ later. inr (later-then disk before now after n (OneRead ⊤ n) later
          (weaker disk now after n (IsBeforeOrAfter [] (entry_with set (Genesis (suc n) text))) (OneRead ⊤ n)
          (λ image has. inr (tt, record { empty = empty; is = has })) only))) (left.from_sync n less))
      | inr other ↦ sync-kept disk before now after place ⊥ (OneRead ⊤ place) (left.from_sync place within)
          (KeepsVolume-other disk now after n place only.later other others)
    ];
    reads = λ place. elim (cases_eq place n) [
      | inl same ↦ inr (inr (tt, subst (λ m. Stands (disk.volume before m).contents []) (sym same) empty))
      | inr other ↦ was-kept disk before now after place ⊤ (others.each place other).known (counted place other) (left.reads place)
    ];
    beyond = λ place behind.
        KeepsVolume-joined disk before now after place (left.beyond place behind)
        (KeepsVolume-other disk now after n place only.later (λ same. omega (arith, same, behind, less)) others);
  }
