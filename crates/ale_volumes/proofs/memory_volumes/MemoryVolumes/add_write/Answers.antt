use Rattle.std.specs.Prelude.{vec_len, vec_capacity, slice_index_or}
use Rattle.std.proofs.Common.{◌≡◌, ◌+◌, ◌≤◌, ℕ, subst, ◌++◌, ◌∷◌, [], List, length, set, sym, ap, ◌∙◌, true, arith, rules}
use Rattle.ale_volumes.specs.declared.step.Step.TheVariants.{Write}
use Rattle.ale_volumes.specs.declared.step.Step.{Step}
use Rattle.ale_volumes.specs.Memory.{contents_after, IsKept}
use Rattle.ale_volumes.proofs.KeptLemmas.{kept-write, kept-renamed, pushed_ok}
use Rattle.ale_volumes.proofs.memory_volumes.MemoryVolumes.add_write.Goals as goal

pub invariant_of-self-2 : goal.invariant_of-self-2
invariant_of-self-2 c =
    let inside = c.self.inside in
    let step = Write c.args.n c.args.at c.args.bytes.now c.args.failed in
    let enough : vec_len c.reserve.new.self + 17 ≤ vec_capacity c.reserve.new.self = c.in_ok-reserve.ensures.ok in
    let long : vec_len c.reserve.new.self ≡ length inside.steps.items = search rules in
    let fits = c.push.ensures.succeeds (omega arith) in
    let same : c.from-volume.result ≡ c.args.n = search rules in
    let pushed = pushed_ok _ _ _ _ fits c.push.ensures.items in
    let added : c.push.new.self.items ≡ inside.steps.items ++ step ∷ [] =
    pushed
    ∙ ap (λ (l : List Step). l ++ Write c.args.n c.args.at c.in_ok-copy.copy c.args.failed ∷ []) c.reserve.ensures.items
    ∙ ap (λ (b : List ℕ). inside.steps.items ++ Write c.args.n c.args.at b c.args.failed ∷ []) c.in_ok-copy.ensures in
    let volumes = subst (λ (k : ℕ). c.write_in.new.volumes
    ≡ set inside.held k (contents_after (slice_index_or inside.held k []) c.args.at c.args.bytes.now c.args.failed)) same c.in_ok-write_in.ensures.ok in
    let kept = kept-write inside.start inside.steps.items inside.held inside.unsynced _ c.self.invariant c.args.n c.args.at c.args.bytes.now c.args.failed
    (vec_capacity c.push.new.self) c.requires (omega (arith, enough, long, c.push.ensures.capacity)) in
    subst (λ (k : ℕ). IsKept inside.start c.push.new.self.items c.write_in.new.volumes (set inside.unsynced k true) (vec_capacity c.push.new.self)) (sym same)
    (kept-renamed inside.start _ c.push.new.self.items _ c.write_in.new.volumes _ _ added volumes kept)
