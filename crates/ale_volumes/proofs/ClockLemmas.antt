-- What a crash leaves over a run of calls on a disk, and what the other volumes keep.
use Rattle.std.proofs.Common.{◌≡◌, ◌≢◌, ◌⊎◌, inl, inr, ⊎_elim, ℕ, ◌≤◌, List, refl, ◌∙◌, subst, arith}
use Rattle.std.proofs.lemmas.Bool.{cases_lt}
use Rattle.ale_volumes.specs.Disk.{Disk, LeftSince}
use Rattle.ale_volumes.specs.Volume.{IsImage, settled}
use Rattle.ale_volumes.specs.Clock.{Elapses, LeavesOnly, KeepsOthers, KeepsVolume, PastStays, StaysAs}

module _ {D : Type 0} (disk : Disk D) where
  -- What a crash left up to a moment stays over two runs of calls.
  pub PastStays-joined : (old mid new : D) (n : ℕ) → disk.moment old ≤ disk.moment mid → PastStays disk old mid n → PastStays disk mid new n →
      PastStays disk old new n
  PastStays-joined old mid new n later first second moment image le =
      let le_mid : moment ≤ disk.moment mid = omega (arith, le, later) in (
        λ left. (first moment image le).0 ((second moment image le_mid).0 left),
        λ left. (second moment image le_mid).1 ((first moment image le).1 left),
      )

  -- A crash since a moment left its bytes before another moment, or since it.
  pub since-either : (old new : D) (n t : ℕ) (image : List ℕ) → PastStays disk old new n → LeftSince disk new n t image →
      LeftSince disk old n t image ⊎ LeftSince disk new n (disk.moment old) image
  since-either old new n t image past left = elim (cases_lt (disk.moment old) left.moment) [
    | inl after ↦ inr (record { moment = left.moment; least = omega (arith, after); most = left.most; left = left.left })
    | inr before ↦ inl (record { moment = left.moment; least = left.least; most = before; left = (past left.moment image before).0 left.left })
  ]

  -- What runs of calls leave, for a run that began earlier.
  pub LeavesOnly-before : (old new : D) (n : ℕ) (P : List ℕ → Type 0) → LeavesOnly disk old new n P → (t : ℕ) (image : List ℕ) →
      LeftSince disk new n t image → LeftSince disk old n t image ⊎ P image
  LeavesOnly-before old new n P only t image left =
      ⊎_elim (λ was. inl was) (λ now. inr (only.each image now)) (since-either old new n t image only.past left)

  -- Before the first call a crash leaves an image of now.
  pub started : (old : D) (n : ℕ) (P : List ℕ → Type 0) → ((image : List ℕ) → LeftSince disk old n (disk.moment old) image → P image) →
      LeavesOnly disk old old n P
  started old n P here = record { later = omega arith; past = λ moment image le. (λ left. left, λ left. left); each = here }

  -- A run of calls leaves only what has P, and so it is after one call more after which each image has P.
  pub goes_on : (old mid new : D) (n : ℕ) (P : List ℕ → Type 0) → LeavesOnly disk old mid n P → Elapses disk mid new n
      → ((image : List ℕ) → IsImage (disk.volume new n) image → P image) → LeavesOnly disk old new n P
  goes_on old mid new n P so_far time here = record {
    later = omega (arith, so_far.later, time.later);
    past = PastStays-joined old mid new n so_far.later so_far.past time.past;
    each = λ image left. elim (cases_lt (disk.moment mid) left.moment) [
      | inl after ↦ here image (time.now left.moment image after left.most left.left)
      | inr before ↦
          so_far.each image
          (record { moment = left.moment; least = left.least; most = before; left = (time.past left.moment image before).0 left.left })
    ];
  }

  -- Two runs of calls, one after the other, that leave only what has P, are a run that leaves only what has P. So it is of any number of them.
  pub joined : (old mid new : D) (n : ℕ) (P : List ℕ → Type 0) → LeavesOnly disk old mid n P → LeavesOnly disk mid new n P →
      LeavesOnly disk old new n P
  joined old mid new n P first second = record {
    later = omega (arith, first.later, second.later);
    past = PastStays-joined old mid new n first.later first.past second.past;
    each = λ image left. ⊎_elim (first.each image) (second.each image) (since-either mid new n (disk.moment old) image second.past left);
  }

  -- What leaves only what has P leaves only what has Q, where all that has P has Q.
  pub weaker : (old new : D) (n : ℕ) (P Q : List ℕ → Type 0) → ((image : List ℕ) → P image → Q image) → LeavesOnly disk old new n P →
      LeavesOnly disk old new n Q
  weaker old new n P Q leads only = record { later = only.later; past = only.past; each = λ image left. leads image (only.each image left) }

  -- A call on one volume keeps each other one.
  pub KeepsVolume-other : (old new : D) (n m : ℕ) → disk.moment old ≤ disk.moment new → m ≢ n → KeepsOthers disk old new n →
      KeepsVolume disk old new m
  KeepsVolume-other old new n m later other kept = record { later = later; stays = kept.each m other }

  -- Two runs of calls that each leave a volume as it is are a run that does.
  pub StaysAs-joined : (old mid new : D) (n : ℕ) → disk.moment old ≤ disk.moment mid → StaysAs disk old mid n → StaysAs disk mid new n →
      StaysAs disk old new n
  StaysAs-joined old mid new n later first second = record {
    known = second.known ∙ first.known;
    past = PastStays-joined old mid new n later first.past second.past;
    still = λ moment image least most left. elim (cases_lt (disk.moment mid) moment) [
      | inl after ↦ first.still (disk.moment mid) image later (omega arith) (second.still moment image (omega (arith, after)) most left)
      | inr before ↦ first.still moment image least before ((second.past moment image before).0 left)
    ];
  }

  -- Two runs of calls that each keep a volume are a run that keeps it. So calls on two volumes keep each third one.
  pub KeepsVolume-joined : (old mid new : D) (n : ℕ) → KeepsVolume disk old mid n → KeepsVolume disk mid new n →
      KeepsVolume disk old new n
  KeepsVolume-joined old mid new n first second = record {
    later = omega (arith, first.later, second.later);
    stays = StaysAs-joined old mid new n first.later first.stays second.stays;
  }

  -- A volume that holds bytes for good holds them for good after calls on others.
  pub settled-kept : (old new : D) (n : ℕ) (bytes : List ℕ) → KeepsVolume disk old new n → disk.volume old n ≡ settled bytes →
      disk.volume new n ≡ settled bytes
  settled-kept old new n bytes kept is = kept.stays.known ∙ is

  -- Calls on other volumes leave of a volume what a crash left of it before.
  pub KeepsVolume-now : (old new : D) (n : ℕ) (image : List ℕ) → KeepsVolume disk old new n → LeftSince disk new n (disk.moment old) image →
      LeftSince disk old n (disk.moment old) image
  KeepsVolume-now old new n image kept left =
      record {
        moment = disk.moment old;
        least = omega arith;
        most = omega arith;
        left = kept.stays.still left.moment image left.least left.most left.left;
      }

  -- What calls leave of a volume they leave of it after further calls on others.
  pub LeavesOnly-then_kept : (old mid new : D) (n : ℕ) (P : List ℕ → Type 0) → LeavesOnly disk old mid n P →
      KeepsVolume disk mid new n → LeavesOnly disk old new n P
  LeavesOnly-then_kept old mid new n P only kept = record {
    later = omega (arith, only.later, kept.later);
    past = PastStays-joined old mid new n only.later only.past kept.stays.past;
    each = λ image left. ⊎_elim (only.each image)
        (λ now. only.each image (record {
          moment = disk.moment mid;
          least = only.later;
          most = omega arith;
          left = kept.stays.still now.moment image now.least now.most now.left;
        }))
        (since-either mid new n (disk.moment old) image kept.stays.past left);
  }

  -- Where each image of a volume has P, calls on others leave of it only what has P.
  pub LeavesOnly-kept : (old new : D) (n : ℕ) (P : List ℕ → Type 0) → ((image : List ℕ) → LeftSince disk old n (disk.moment old) image → P image) →
      KeepsVolume disk old new n → LeavesOnly disk old new n P
  LeavesOnly-kept old new n P here kept = LeavesOnly-then_kept old old new n P (started old n P here) kept

  -- Without a call a volume is known as before.
  pub StaysAs-none : (old : D) (n : ℕ) → StaysAs disk old old n
  StaysAs-none old n = record {
    known = refl;
    past = λ moment image le. (λ left. left, λ left. left);
    still = λ moment image least most left.
        let here : moment ≡ disk.moment old = omega (arith, least, most) in subst (λ (t : ℕ). disk.left_at old n t image) here left;
  }

  -- Without a call all other volumes are as before, and so they are over two runs of calls on one volume.
  pub others_kept : (old : D) (n : ℕ) → KeepsOthers disk old old n
  others_kept old n = record { each = λ m other. StaysAs-none old m }

  pub others_joined : (old mid new : D) (n : ℕ) → disk.moment old ≤ disk.moment mid → KeepsOthers disk old mid n →
      KeepsOthers disk mid new n → KeepsOthers disk old new n
  others_joined old mid new n later first second =
      record { each = λ m other. StaysAs-joined old mid new m later (first.each m other) (second.each m other) }
