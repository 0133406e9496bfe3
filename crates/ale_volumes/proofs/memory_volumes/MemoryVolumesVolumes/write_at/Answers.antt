use Rattle.std.proofs.Common.{◌++◌, ◌∷◌, [], ap, ◌∙◌}
use Rattle.ale_volumes.specs.declared.step.Step.TheVariants.{Write}
use Rattle.ale_volumes.specs.Memory.{MemoryOf}
use Rattle.ale_volumes.proofs.StepsLemmas.{write-time, write-others, write-written, write-torn}
use Rattle.ale_volumes.proofs.memory_volumes.MemoryVolumesVolumes.write_at.Goals as goal

pub returns-then-fails-clause-torn : goal.returns-then-fails-clause-torn
returns-then-fails-clause-torn c = λ failed.
    let start = ap (λ (m : MemoryOf). m.start) c.fault.ensures.fault ∙ ap (λ (m : MemoryOf). m.start) c.in_ok-add_write.ensures.ok
    ∙ ap (λ (m : MemoryOf). m.start) c.next_fails-fails.ensures.made in
    let more = ap (λ (m : MemoryOf). m.steps) c.fault.ensures.fault ∙ ap (λ (m : MemoryOf). m.steps) c.in_ok-add_write.ensures.ok
    ∙ ap (λ (m : MemoryOf). m.steps ++ Write c.args.n c.args.at c.args.bytes.now c.next_fails-fails.result ∷ []) c.next_fails-fails.ensures.made in
    write-torn c.args.self.now c.fault.new.self c.args.n start c.args.at c.args.bytes.now c.next_fails-fails.result more c.if-fails.true c.requires.place

pub returns-then-fails-clause-time : goal.returns-then-fails-clause-time
returns-then-fails-clause-time c =
    let start = ap (λ (m : MemoryOf). m.start) c.fault.ensures.fault ∙ ap (λ (m : MemoryOf). m.start) c.in_ok-add_write.ensures.ok
    ∙ ap (λ (m : MemoryOf). m.start) c.next_fails-fails.ensures.made in
    let more = ap (λ (m : MemoryOf). m.steps) c.fault.ensures.fault ∙ ap (λ (m : MemoryOf). m.steps) c.in_ok-add_write.ensures.ok
    ∙ ap (λ (m : MemoryOf). m.steps ++ Write c.args.n c.args.at c.args.bytes.now c.next_fails-fails.result ∷ []) c.next_fails-fails.ensures.made in
    write-time c.args.self.now c.fault.new.self c.args.n start c.args.at c.args.bytes.now c.next_fails-fails.result more

pub returns-then-fails-clause-others : goal.returns-then-fails-clause-others
returns-then-fails-clause-others c =
    let start = ap (λ (m : MemoryOf). m.start) c.fault.ensures.fault ∙ ap (λ (m : MemoryOf). m.start) c.in_ok-add_write.ensures.ok
    ∙ ap (λ (m : MemoryOf). m.start) c.next_fails-fails.ensures.made in
    let more = ap (λ (m : MemoryOf). m.steps) c.fault.ensures.fault ∙ ap (λ (m : MemoryOf). m.steps) c.in_ok-add_write.ensures.ok
    ∙ ap (λ (m : MemoryOf). m.steps ++ Write c.args.n c.args.at c.args.bytes.now c.next_fails-fails.result ∷ []) c.next_fails-fails.ensures.made in
    write-others c.args.self.now c.fault.new.self c.args.n start c.args.at c.args.bytes.now c.next_fails-fails.result more

pub returns-clause-written : goal.returns-clause-written
returns-clause-written c =
    let start = ap (λ (m : MemoryOf). m.start) c.in_ok-add_write.ensures.ok ∙ ap (λ (m : MemoryOf). m.start) c.next_fails-fails.ensures.made in
    let more = ap (λ (m : MemoryOf). m.steps) c.in_ok-add_write.ensures.ok
    ∙ ap (λ (m : MemoryOf). m.steps ++ Write c.args.n c.args.at c.args.bytes.now c.next_fails-fails.result ∷ []) c.next_fails-fails.ensures.made in
    write-written c.args.self.now c.add_write.new.self c.args.n start c.args.at c.args.bytes.now c.next_fails-fails.result more c.if-fails.false
    c.requires.place

pub returns-clause-time : goal.returns-clause-time
returns-clause-time c =
    let start = ap (λ (m : MemoryOf). m.start) c.in_ok-add_write.ensures.ok ∙ ap (λ (m : MemoryOf). m.start) c.next_fails-fails.ensures.made in
    let more = ap (λ (m : MemoryOf). m.steps) c.in_ok-add_write.ensures.ok
    ∙ ap (λ (m : MemoryOf). m.steps ++ Write c.args.n c.args.at c.args.bytes.now c.next_fails-fails.result ∷ []) c.next_fails-fails.ensures.made in
    write-time c.args.self.now c.add_write.new.self c.args.n start c.args.at c.args.bytes.now c.next_fails-fails.result more

pub returns-clause-others : goal.returns-clause-others
returns-clause-others c =
    let start = ap (λ (m : MemoryOf). m.start) c.in_ok-add_write.ensures.ok ∙ ap (λ (m : MemoryOf). m.start) c.next_fails-fails.ensures.made in
    let more = ap (λ (m : MemoryOf). m.steps) c.in_ok-add_write.ensures.ok
    ∙ ap (λ (m : MemoryOf). m.steps ++ Write c.args.n c.args.at c.args.bytes.now c.next_fails-fails.result ∷ []) c.next_fails-fails.ensures.made in
    write-others c.args.self.now c.add_write.new.self c.args.n start c.args.at c.args.bytes.now c.next_fails-fails.result more
