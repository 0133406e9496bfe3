use Rattle.std.proofs.Common.{ℕ, List, length}
use Rattle.ale_volumes.specs.Volume.{Torn}
use Rattle.ale_volumes.proofs.ClockLemmas.{started, goes_on, others_joined}
use Rattle.ale_volumes.proofs.ImageLemmas.{write-image, sync-image}
use Rattle.byte_journal.proofs.WriteSynced.{settled_torn}
use Rattle.byte_journal.proofs.write_synced.write_synced.Goals as goal

pub returns-in_err-write_at-clause-any_moment : goal.returns-in_err-write_at-clause-any_moment
returns-in_err-write_at-clause-any_moment g c = λ told durable.
    let V = g.V.Volumes in
    let old = c.args.vols.now in
    let P : List ℕ → Type 0 = Torn c.args.at (length c.args.bytes.now) (V.disk.volume old c.args.n).contents in
    let torn = write-image c.write_at.result (V.disk.volume old c.args.n) (V.disk.volume c.write_at.new.self c.args.n) c.args.at c.args.bytes.now durable
    (c.requires.place told) (c.write_at.ensures.written told) (c.write_at.ensures.torn told) (c.write_at.ensures.unwritten told) in
    let begun = started V.disk old c.args.n P
    (λ image left. settled_torn (V.disk.volume old c.args.n) c.args.at (length c.args.bytes.now) image durable
    (g.met.V.Volumes.only_now told old c.args.n image left)) in
    goes_on V.disk old old c.write_at.new.self c.args.n P begun (c.write_at.ensures.time told) torn

pub returns-in_err-sync-clause-any_moment : goal.returns-in_err-sync-clause-any_moment
returns-in_err-sync-clause-any_moment g c = λ told durable.
    let V = g.V.Volumes in
    let old = c.args.vols.now in
    let mid = c.write_at.new.self in
    let P : List ℕ → Type 0 = Torn c.args.at (length c.args.bytes.now) (V.disk.volume old c.args.n).contents in
    let torn = write-image c.write_at.result (V.disk.volume old c.args.n) (V.disk.volume mid c.args.n) c.args.at c.args.bytes.now durable
    (c.requires.place told)
    (c.write_at.ensures.written told) (c.write_at.ensures.torn told) (c.write_at.ensures.unwritten told) in
    let begun = started V.disk old c.args.n P
    (λ image left. settled_torn (V.disk.volume old c.args.n) c.args.at (length c.args.bytes.now) image durable
    (g.met.V.Volumes.only_now told old c.args.n image left)) in
    let wrote = goes_on V.disk old old mid c.args.n P begun (c.write_at.ensures.time told) torn in
    let kept = sync-image c.sync.result (V.disk.volume mid c.args.n) (V.disk.volume c.sync.new.self c.args.n) (c.sync.ensures.durable told)
    (c.sync.ensures.err told)
    (g.met.V.Volumes.read_is_image told mid c.args.n) in
    goes_on V.disk old mid c.sync.new.self c.args.n P wrote (c.sync.ensures.time told) (λ image left. torn image (kept image left))

pub returns-clause-any_moment : goal.returns-clause-any_moment
returns-clause-any_moment g c = λ told durable.
    let V = g.V.Volumes in
    let old = c.args.vols.now in
    let mid = c.write_at.new.self in
    let P : List ℕ → Type 0 = Torn c.args.at (length c.args.bytes.now) (V.disk.volume old c.args.n).contents in
    let torn = write-image c.write_at.result (V.disk.volume old c.args.n) (V.disk.volume mid c.args.n) c.args.at c.args.bytes.now durable
    (c.requires.place told)
    (c.write_at.ensures.written told) (c.write_at.ensures.torn told) (c.write_at.ensures.unwritten told) in
    let begun = started V.disk old c.args.n P
    (λ image left. settled_torn (V.disk.volume old c.args.n) c.args.at (length c.args.bytes.now) image durable
    (g.met.V.Volumes.only_now told old c.args.n image left)) in
    let wrote = goes_on V.disk old old mid c.args.n P begun (c.write_at.ensures.time told) torn in
    let kept = sync-image c.sync.result (V.disk.volume mid c.args.n) (V.disk.volume c.sync.new.self c.args.n) (c.sync.ensures.durable told)
    (c.sync.ensures.err told)
    (g.met.V.Volumes.read_is_image told mid c.args.n) in
    goes_on V.disk old mid c.sync.new.self c.args.n P wrote (c.sync.ensures.time told) (λ image left. torn image (kept image left))

pub returns-in_err-sync-clause-others : goal.returns-in_err-sync-clause-others
returns-in_err-sync-clause-others g c = λ told.
    others_joined g.V.Volumes.disk c.args.vols.now c.write_at.new.self c.sync.new.self c.args.n (c.write_at.ensures.time told).later
    (c.write_at.ensures.others told) (c.sync.ensures.others told)

pub returns-clause-others : goal.returns-clause-others
returns-clause-others g c = λ told.
    others_joined g.V.Volumes.disk c.args.vols.now c.write_at.new.self c.sync.new.self c.args.n (c.write_at.ensures.time told).later
    (c.write_at.ensures.others told) (c.sync.ensures.others told)
