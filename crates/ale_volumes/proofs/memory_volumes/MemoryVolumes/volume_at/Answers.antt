use Rattle.std.specs.Prelude.{fold, slice_index_or}
use Rattle.std.proofs.Common.{◌≡◌, ◌≤◌, ◌++◌, ℕ, List, [], length, take, ◌∙◌, ap, arith, rules}
use Rattle.std.proofs.lemmas.Grind.{common_steps}
use Rattle.std.proofs.lemmas.List.{take_all}
use Rattle.ale_volumes.specs.declared.volume.Volume.{Volume}
use Rattle.ale_volumes.specs.declared.step.Step.{Step}
use Rattle.ale_volumes.specs.Volume.{settled}
use Rattle.ale_volumes.specs.Memory.{after_step, contents_after_step}
use Rattle.ale_volumes.proofs.ReplayLemmas.{replayed}
use Rattle.ale_volumes.proofs.memory_volumes.MemoryVolumes.volume_at.Goals as goal

pub returns : goal.returns
returns c =
    let memory = c.args.self.now in
    let n = c.args.n in
    let durable = c.at_last_sync.result.0.now in
    let since = c.at_last_sync.result.1.now in
    let start = slice_index_or memory.start n [] in
    let past : length since ≤ c.loop-step.step-index = search rules in
    let all : take c.loop-step.step-index since ≡ since = take_all c.loop-step.step-index since past in
    let began : c.as_slice-start.result.now ≡ start = grind (arith, common_steps) in
    let held : c.in_ok-held.held ≡ fold (contents_after_step n) start durable = c.in_ok-held.ensures
    ∙ ap (λ (l : List ℕ). fold (contents_after_step n) l durable) began in
    let first : c.in_ok-volume.volume ≡ settled (fold (contents_after_step n) start durable) = search rules in
    let whole : durable ++ since ≡ take c.args.moment memory.steps = search rules in
    c.loop-step.invariant
    ∙ ap (λ (l : List Step). fold (after_step n) c.in_ok-volume.volume l) all
    ∙ ap (λ (v : Volume). fold (after_step n) v since) first
    ∙ replayed n start durable since c.at_last_sync.ensures.synced
    ∙ ap (λ (l : List Step). fold (after_step n) (settled start) l) whole
