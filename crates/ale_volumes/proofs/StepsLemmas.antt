-- What a write and a sync of volumes in memory do, in the words of the trait.
use Rattle.std.proofs.Common.{◌≡◌, inl, inr, ℕ, ◌≤◌, Bool, true, false, List, [], ◌∷◌, ◌++◌, length, refl, sym, ◌∙◌, ap, subst}
use Rattle.ale_volumes.specs.declared.volume.Volume.{Volume}
use Rattle.ale_volumes.specs.declared.step.Step.TheVariants.{Write, Sync}
use Rattle.ale_volumes.specs.Volume.{settled, written, FailsToWrite}
use Rattle.ale_volumes.specs.Clock.{Elapses, KeepsOthers}
use Rattle.ale_volumes.specs.Memory.{MemoryOf, AddsSync, half_written, after_step}
use Rattle.ale_volumes.specs.MemoryLemmas.{memory, volume_now, volume_step, volume_same, elapses_step, elapses_still, others_stay}
use Rattle.ale_volumes.specs.MemoryLemmas.{others_same}
use Rattle.ale_volumes.specs.MemoryLemmas.{after_step-sync, after_step-write, after_step-half, after_steps-clean, half_written-torn}

module _ (old new : MemoryOf) (n : ℕ) (start : new.start ≡ old.start) where
  pub sync-durable : AddsSync old new n → volume_now new n ≡ settled (volume_now old n).contents
  sync-durable (inl more) = volume_step old new (Sync n) n start more.0 ∙ after_step-sync n (volume_now old n)
  sync-durable (inr same) = volume_same old new n start same.0 ∙ after_steps-clean old.start old.steps n same.1

  pub sync-time : AddsSync old new n → Elapses memory old new n
  sync-time (inl more) = elapses_step old new (Sync n) n start more.0
  sync-time (inr same) = elapses_still old new n start same.0

  pub sync-others : AddsSync old new n → KeepsOthers memory old new n
  sync-others (inl more) = others_stay old new (Sync n) n refl start more.0
  sync-others (inr same) = others_same old new n start same.0

  module _ (at : ℕ) (bytes : List ℕ) (failed : Bool) (more : new.steps ≡ old.steps ++ Write n at bytes failed ∷ []) where
    pub write-time : Elapses memory old new n
    write-time = elapses_step old new (Write n at bytes failed) n start more

    pub write-others : KeepsOthers memory old new n
    write-others = others_stay old new (Write n at bytes failed) n refl start more

    pub write-written : failed ≡ false → at ≤ length (volume_now old n).contents → volume_now new n ≡ written (volume_now old n) at bytes
    write-written done within =
        volume_step old new (Write n at bytes failed) n start more
        ∙ ap (λ (f : Bool). after_step n (volume_now old n) (Write n at bytes f)) done
        ∙ after_step-write n (volume_now old n) at bytes within

    pub write-torn : failed ≡ true → at ≤ length (volume_now old n).contents → FailsToWrite (volume_now old n) at bytes (volume_now new n)
    write-torn fails within =
        let is : volume_now new n ≡ half_written (volume_now old n) at bytes =
        volume_step old new (Write n at bytes failed) n start more
        ∙ ap (λ (f : Bool). after_step n (volume_now old n) (Write n at bytes f)) fails
        ∙ after_step-half n (volume_now old n) at bytes within in
        subst (λ (v : Volume). FailsToWrite (volume_now old n) at bytes v) (sym is) (half_written-torn (volume_now old n) at bytes within)
