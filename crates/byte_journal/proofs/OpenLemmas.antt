-- What a crash leaves while a journal is opened: bytes are read, and then the last gate is closed.
use Rattle.std.specs.Prelude.{Result, Ok, Err, IsErrOf}
use Rattle.std.proofs.Common.{◌≡◌, ◌⊎◌, inl, inr, ⊎_elim, ℕ, List, subst, arith}
use Rattle.ale_volumes.specs.Disk.{Disk}
use Rattle.ale_volumes.specs.declared.volume.Volume.{Volume}
use Rattle.ale_volumes.specs.Volume.{IsImage, settled}
use Rattle.ale_volumes.specs.Clock.{LeavesOnly}
use Rattle.ale_volumes.proofs.ClockLemmas.{joined, weaker, LeavesOnly-before}
use Rattle.byte_journal.specs.declared.fault.OpenFault.{OpenFault}
use Rattle.byte_journal.specs.declared.fault.OpenFault.TheVariants.{Damaged, Volume as VolumeFault, OutOfMemory}
use Rattle.byte_journal.specs.Log.{front_of, Stands, DamagedAt, ReadsAs}
use Rattle.byte_journal.specs.Settled.{Answers, LeavesOnlyFromSync, LeavesOnlyLater}
use Rattle.byte_journal.specs.Bytes.{IsAsBeforeButForTheGate}
use Rattle.byte_journal.specs.steps.Reading.{ReadsTo, Reads}
use Rattle.byte_journal.proofs.FrontLemmas.{ReadsTo-front, DamagedAt-front}

module _ {D : Type 0} (disk : Disk D) (old mid new : D) (n : ℕ)
    (log : List (List ℕ)) where
  abbrev before : List ℕ
  before = (disk.volume old n).contents

  module _ (stands : Stands before log) (closes : LeavesOnly disk mid new n (λ image. Stands image log)) where
    reads : (image : List ℕ) → Stands image log → ReadsAs before image
    reads image also = inr (log, stands, also)

    pub open-any_moment : LeavesOnly disk old mid n (IsImage (disk.volume old n)) →
        LeavesOnly disk old new n (λ image. IsImage (disk.volume old n) image ⊎ ReadsAs before image)
    open-any_moment first =
        joined disk old mid new n _ (weaker disk old mid n _ _ (λ image is. inl is) first)
        (weaker disk mid new n _ _ (λ image also. inr (reads image also)) closes)

    later : LeavesOnlyLater disk old mid n (λ image. image ≡ before) → LeavesOnlyLater disk old new n (ReadsAs before)
    later first = record {
      from = first.from;
      not_before = first.not_before;
      not_after = omega (arith, first.not_after, closes.later);
      each = λ image left. ⊎_elim (λ past. inl (first.each image past)) (reads image) (LeavesOnly-before disk mid new n _ closes first.from image left);
      earlier = λ image moment least less left.
          first.earlier image moment least less ((closes.past moment image (omega (arith, less, first.not_after))).0 left);
    }

    pub open-from_sync : {T : Type 0} (result : Result T OpenFault) (value : T) → result ≡ Ok value
        → (IsErrOf result VolumeFault × (disk.volume mid n ≡ disk.volume old n)) ⊎ LeavesOnlyLater disk old mid n (λ image. image ≡ before) →
        LeavesOnlyLater disk old new n (ReadsAs before)
    open-from_sync result value is (inl failed) = let refused = failed.0 in absurd (cc)
    open-from_sync result value is (inr first) = later first

-- what was read and not closed leaves, from the first sync on, what reads as it
pub unclosed-from_sync : {D : Type 0} (disk : Disk D) (old mid : D) (n : ℕ) (failed refused : Type 0) → (failed → refused)
    → LeavesOnlyFromSync disk old mid n failed (λ image. image ≡ (disk.volume old n).contents) →
    LeavesOnlyFromSync disk old mid n refused (ReadsAs (disk.volume old n).contents)
unclosed-from_sync disk old mid n failed refused so (inl first) = inl (so first.0, first.1)
unclosed-from_sync disk old mid n failed refused so (inr later) = inr (record {
  from = later.from;
  not_before = later.not_before;
  not_after = later.not_after;
  each = λ image left. inl (later.each image left);
  earlier = later.earlier;
})

-- a fault of reading the front is the answer for all
pub answers-unread : (bytes front : List ℕ) (fault : OpenFault) → front ≡ front_of bytes → Reads front (Err fault) → Answers bytes (Err fault)
answers-unread bytes front (Damaged place) is damaged = DamagedAt-front bytes place (subst (λ (f : List ℕ). DamagedAt f place) is damaged)
answers-unread bytes front VolumeFault is none = absurd none
answers-unread bytes front OutOfMemory is none = tt

-- what the front reads to all reads to
pub reads-front : (bytes front : List ℕ) (log : List (List ℕ)) (gate : ℕ) → front ≡ front_of bytes → ReadsTo front log gate → ReadsTo bytes log gate
reads-front bytes front log gate is reads = ReadsTo-front bytes log gate (subst (λ (f : List ℕ). ReadsTo f log gate) is reads)

-- opening that ended well leaves what closing the gate left
pub opened-closed : (old mid new : Volume) → mid ≡ settled old.contents → IsAsBeforeButForTheGate mid.contents new.contents →
    IsAsBeforeButForTheGate old.contents new.contents
opened-closed old mid new durable left = subst (λ (v : Volume). IsAsBeforeButForTheGate v.contents new.contents) durable left
