use Rattle.std.proofs.Common.{ap, ◌∙◌, subst}
use Rattle.ale_volumes.specs.Memory.{MemoryOf, AddsSync}
use Rattle.ale_volumes.proofs.StepsLemmas.{sync-durable, sync-time, sync-others}
use Rattle.ale_volumes.proofs.memory_volumes.MemoryVolumesVolumes.sync.Goals as goal

pub returns-clause-durable : goal.returns-clause-durable
returns-clause-durable c =
    let adds = subst (λ (m : MemoryOf). AddsSync m c.add_sync.new.self c.args.n) c.fails.ensures.kept c.add_sync.ensures.steps in
    let start = ap (λ (m : MemoryOf). m.start)
    (c.add_sync.ensures.kept ∙ ap (λ (m : MemoryOf). record m { steps = c.add_sync.new.self.steps }) c.fails.ensures.kept) in
    sync-durable c.args.self.now c.add_sync.new.self c.args.n start adds

pub returns-clause-time : goal.returns-clause-time
returns-clause-time c =
    let adds = subst (λ (m : MemoryOf). AddsSync m c.add_sync.new.self c.args.n) c.fails.ensures.kept c.add_sync.ensures.steps in
    let start = ap (λ (m : MemoryOf). m.start)
    (c.add_sync.ensures.kept ∙ ap (λ (m : MemoryOf). record m { steps = c.add_sync.new.self.steps }) c.fails.ensures.kept) in
    sync-time c.args.self.now c.add_sync.new.self c.args.n start adds

pub returns-clause-others : goal.returns-clause-others
returns-clause-others c =
    let adds = subst (λ (m : MemoryOf). AddsSync m c.add_sync.new.self c.args.n) c.fails.ensures.kept c.add_sync.ensures.steps in
    let start = ap (λ (m : MemoryOf). m.start)
    (c.add_sync.ensures.kept ∙ ap (λ (m : MemoryOf). record m { steps = c.add_sync.new.self.steps }) c.fails.ensures.kept) in
    sync-others c.args.self.now c.add_sync.new.self c.args.n start adds
