-- What a volume in memory holds after the steps up to its last sync.
use Rattle.std.specs.Prelude.{fold}
use Rattle.std.proofs.Common.{◌≡◌, inl, inr, ℕ, Bool, true, false, cond, eqb, List, [], ◌∷◌, ◌++◌, refl, sym, ◌∙◌, ap}
use Rattle.std.proofs.lemmas.List.Sums.{fold-append}
use Rattle.ale_volumes.specs.declared.volume.Volume.{Volume}
use Rattle.ale_volumes.specs.declared.step.Step.{Step}
use Rattle.ale_volumes.specs.declared.step.Step.TheVariants.{Write, Sync}
use Rattle.ale_volumes.specs.Volume.{settled}
use Rattle.ale_volumes.specs.Memory.{after_step, contents_after, contents_after_step, written_or_half, place_in, EndsAtSync}
use Rattle.ale_volumes.specs.MemoryLemmas.{after_step-sync}

-- what a read gives is changed by each step alone
contents-written_or_half : (volume : Volume) (at : ℕ) (bytes : List ℕ) (failed : Bool) →
    (written_or_half volume (place_in volume.contents at) bytes failed).contents ≡ contents_after volume.contents at bytes failed
contents-written_or_half volume at bytes true = refl
contents-written_or_half volume at bytes false = refl

contents-cond : (test : Bool) (x y : Volume) → (cond test x y).contents ≡ cond test x.contents y.contents
contents-cond true x y = refl
contents-cond false x y = refl

pub contents-after_step : (n : ℕ) (volume : Volume) (step : Step) → (after_step n volume step).contents ≡ contents_after_step n volume.contents step
contents-after_step n volume (Write m at bytes failed) =
    contents-cond (eqb m n) (written_or_half volume (place_in volume.contents at) bytes failed) volume
    ∙ ap (λ (l : List ℕ). cond (eqb m n) l volume.contents) (contents-written_or_half volume at bytes failed)
contents-after_step n volume (Sync m) = contents-cond (eqb m n) (settled volume.contents) volume ∙ same (eqb m n)
  where
    same : (test : Bool) → ◌≡◌ {A = List ℕ} (cond test volume.contents volume.contents) volume.contents
    same true = refl
    same false = refl

pub contents-fold : (n : ℕ) (volume : Volume) (steps : List Step) →
    (fold (after_step n) volume steps).contents ≡ fold (contents_after_step n) volume.contents steps
contents-fold n volume [] = refl
contents-fold n volume (step ∷ steps) =
    contents-fold n (after_step n volume step) steps ∙ ap (λ (l : List ℕ). fold (contents_after_step n) l steps) (contents-after_step n volume step)

-- after steps that end at a sync of it, a volume is settled
synced : (n : ℕ) (bytes : List ℕ) (steps : List Step) → EndsAtSync n steps →
    fold (after_step n) (settled bytes) steps ≡ settled (fold (after_step n) (settled bytes) steps).contents
synced n bytes steps (inl none) = ap (λ (l : List Step). fold (after_step n) (settled bytes) l) none
    ∙ sym (ap (λ (l : List Step). settled (fold (after_step n) (settled bytes) l).contents) none)
synced n bytes steps (inr (front, is)) =
    let before = fold (after_step n) (settled bytes) front in
    let now : fold (after_step n) (settled bytes) steps ≡ settled before.contents =
    ap (λ (l : List Step). fold (after_step n) (settled bytes) l) is ∙ fold-append (after_step n) (settled bytes) front (Sync n ∷ [])
    ∙ after_step-sync n before in
    now ∙ ap settled (sym (ap (λ (v : Volume). v.contents) now))

-- the steps since then change what they made durable
pub replayed : (n : ℕ) (bytes : List ℕ) (durable since : List Step) → EndsAtSync n durable →
    fold (after_step n) (settled (fold (contents_after_step n) bytes durable)) since ≡ fold (after_step n) (settled bytes) (durable ++ since)
replayed n bytes durable since ends =
    let held : fold (contents_after_step n) bytes durable ≡ (fold (after_step n) (settled bytes) durable).contents = sym
    (contents-fold n (settled bytes) durable) in
    ap (λ (v : Volume). fold (after_step n) v since) (ap settled held ∙ sym (synced n bytes durable ends))
    ∙ sym (fold-append (after_step n) (settled bytes) durable since)
