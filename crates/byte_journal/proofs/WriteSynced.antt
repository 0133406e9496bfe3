-- What a crash leaves while a write to a settled volume is made durable.
use Rattle.std.proofs.Common.{◌≡◌, ℕ, List, sym, subst}
use Rattle.ale_volumes.specs.declared.volume.Volume.{Volume}
use Rattle.ale_volumes.specs.Volume.{IsImage, settled, Torn}
use Rattle.ale_volumes.proofs.ImageLemmas.{settled-image, torn-none}

-- a settled volume leaves what is torn nowhere
pub settled_torn : (volume : Volume) (at n : ℕ) (image : List ℕ) → volume ≡ settled volume.contents → IsImage volume image → Torn at n volume.contents image
settled_torn volume at n image durable is =
    let same = settled-image volume.contents image (subst (λ (v : Volume). IsImage v image) durable is) in
    subst (λ (i : List ℕ). Torn at n volume.contents i) (sym same) (torn-none at n volume.contents)
