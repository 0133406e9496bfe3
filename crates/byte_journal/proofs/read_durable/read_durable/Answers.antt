use Rattle.std.proofs.Common.{inr, ℕ, List, arith, subst}
use Rattle.ale_volumes.specs.declared.volume.Volume.{Volume}
use Rattle.ale_volumes.specs.Volume.{IsImage}
use Rattle.ale_volumes.proofs.ClockLemmas.{started, goes_on, joined, others_joined, weaker}
use Rattle.ale_volumes.proofs.ImageLemmas.{settled-image, sync-image}
use Rattle.byte_journal.proofs.read_durable.read_durable.Goals as goal

pub returns-clause-any_moment : goal.returns-clause-any_moment
returns-clause-any_moment g c = λ told.
    let V = g.V.Volumes in
    let old = c.args.vols.now in
    let mid = c.sync.new.self in
    let P : List ℕ → Type 0 = IsImage (V.disk.volume old c.args.n) in
    let kept = sync-image c.sync.result (V.disk.volume old c.args.n) (V.disk.volume mid c.args.n) (c.sync.ensures.durable told) (c.sync.ensures.err told)
    (g.met.V.Volumes.read_is_image told old c.args.n) in
    let begun = started V.disk old c.args.n P (λ image left. g.met.V.Volumes.only_now told old c.args.n image left) in
    let synced = goes_on V.disk old old mid c.args.n P begun (c.sync.ensures.time told) kept in
    joined V.disk old mid c.read_front.new.vols c.args.n P synced
    (weaker V.disk mid c.read_front.new.vols c.args.n _ P kept (c.read_front.ensures.any_moment told))

pub returns-clause-from_sync : goal.returns-clause-from_sync
returns-clause-from_sync g c = λ told.
    let V = g.V.Volumes in
    let mid = c.sync.new.self in
    let only = c.read_front.ensures.any_moment told in
    let all = returns-clause-any_moment g c told in
    inr (record {
      from = V.disk.moment mid;
      not_before = (c.sync.ensures.time told).later;
      not_after = only.later;
      each = λ image left. settled-image (V.disk.volume c.args.vols.now c.args.n).contents image
          (subst (λ (v : Volume). IsImage v image) (c.in_ok-sync.ensures.durable told) (only.each image left));
      earlier = λ image moment least less left.
          all.each image (record { moment = moment; least = least; most = omega (arith, less, only.later); left = left });
    })

pub returns-in_err-sync-clause-any_moment : goal.returns-in_err-sync-clause-any_moment
returns-in_err-sync-clause-any_moment g c = λ told.
    let V = g.V.Volumes in
    let old = c.args.vols.now in
    let mid = c.sync.new.self in
    let P : List ℕ → Type 0 = IsImage (V.disk.volume old c.args.n) in
    let kept = sync-image c.sync.result (V.disk.volume old c.args.n) (V.disk.volume mid c.args.n) (c.sync.ensures.durable told) (c.sync.ensures.err told)
    (g.met.V.Volumes.read_is_image told old c.args.n) in
    let begun = started V.disk old c.args.n P (λ image left. g.met.V.Volumes.only_now told old c.args.n image left) in
    goes_on V.disk old old mid c.args.n P begun (c.sync.ensures.time told) kept

pub returns-clause-others : goal.returns-clause-others
returns-clause-others g c = λ told.
    others_joined g.V.Volumes.disk c.args.vols.now c.sync.new.self c.read_front.new.vols c.args.n (c.sync.ensures.time told).later
    (c.sync.ensures.others told) (c.read_front.ensures.others told)
