use Rattle.std.specs.Prelude.{take}
use Rattle.std.proofs.Common.{◌<◌, length, sym, subst, arith}
use Rattle.ale_volumes.specs.declared.volume.Volume.{Volume}
use Rattle.ale_volumes.specs.MemoryLemmas.{after_steps-read}
use Rattle.ale_volumes.proofs.memory_volumes.MemoryVolumes.image.Goals as goal

pub image-requires : goal.image-requires
image-requires c =
    let memory = c.args.self.now in
    let has = (after_steps-read memory.start (take c.args.moment memory.steps) c.args.n).size in
    subst (λ (volume : Volume). 0 < length volume.lengths) (sym c.in_ok-volume_at.ensures) (omega (arith, has.1))
