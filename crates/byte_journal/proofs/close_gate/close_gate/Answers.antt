use Rattle.std.proofs.Common.{◌≡◌, ◌≢◌, ◌<◌, true, ℕ, List, length, get_or, sym, subst}
use Rattle.ale_volumes.specs.declared.volume.Volume.{Volume}
use Rattle.ale_volumes.specs.Volume.{IsImage}
use Rattle.ale_base.proofs.OnOkLemmas.{on_ok}
use Rattle.ale_volumes.proofs.ClockLemmas.{started, weaker}
use Rattle.ale_volumes.proofs.ImageLemmas.{settled-image}
use Rattle.byte_journal.specs.Log.{Stands, open_gate}
use Rattle.byte_journal.specs.Settled.{IsClosed}
use Rattle.byte_journal.specs.steps.Reading.{ReadsTo}
use Rattle.byte_journal.proofs.CloseLemmas.{gate_within, is_closed, gate_closed, torn_close}
use Rattle.byte_journal.proofs.FrontLemmas.{ReadsTo-front, closed-front, gate-low}
use Rattle.byte_journal.proofs.BytesLemmas.{closed-leaves}
use Rattle.byte_journal.proofs.close_gate.close_gate.Goals as goal

-- the gate is closed already
pub returns-then-is_closed-clause-closed : goal.returns-then-is_closed-clause-closed
returns-then-is_closed-clause-closed g c = λ told log front_reads.
    let held = (g.V.Volumes.disk.volume c.args.vols.now c.args.n).contents in
    let reads = ReadsTo-front held log c.args.gate (subst (λ (b : List ℕ). ReadsTo b log c.args.gate) (c.requires.front told) front_reads) in
    let here = c.is_closed.ensures.0 c.if-is_closed.true in
    let whole = closed-front held c.args.bytes.now c.args.gate (gate-low held log c.args.gate reads) (c.requires.front told) in
    let closed = whole.1 here in
    is_closed held log c.args.gate reads closed.0 closed.1

pub returns-then-is_closed-clause-any_moment : goal.returns-then-is_closed-clause-any_moment
returns-then-is_closed-clause-any_moment g c = λ told log front_reads.
    let V = g.V.Volumes in
    let held = (V.disk.volume c.args.vols.now c.args.n).contents in
    let reads = ReadsTo-front held log c.args.gate (subst (λ (b : List ℕ). ReadsTo b log c.args.gate) (c.requires.front told) front_reads) in
    started V.disk c.args.vols.now c.args.n (λ image. Stands image log) (λ image left.
    let now = g.met.V.Volumes.only_now told c.args.vols.now c.args.n image left in
    let same = settled-image held image (subst (λ (v : Volume). IsImage v image) (c.requires.held told) now) in
    subst (λ (b : List ℕ). Stands b log) (sym same) reads.stands)

-- it is written
pub write_synced-requires-clause-place : goal.write_synced-requires-clause-place
write_synced-requires-clause-place g c = λ told.
    let held = (g.V.Volumes.disk.volume c.args.vols.now c.args.n).contents in
    let log = c.requires.reads.0 in
    gate_within held log c.args.gate (ReadsTo-front held log c.args.gate
    (subst (λ (b : List ℕ). ReadsTo b log c.args.gate) (c.requires.front told) c.requires.reads.1))

pub returns-clause-closed : goal.returns-clause-closed
returns-clause-closed g c = λ told log front_reads.
    let V = g.V.Volumes in
    let old = V.disk.volume c.args.vols.now c.args.n in
    let new = V.disk.volume c.write_synced.new.vols c.args.n in
    let reads = ReadsTo-front old.contents log c.args.gate (subst (λ (b : List ℕ). ReadsTo b log c.args.gate) (c.requires.front told) front_reads) in
    let whole = closed-front old.contents c.args.bytes.now c.args.gate (gate-low old.contents log c.args.gate reads) (c.requires.front told) in
    let not_closed : (c.args.gate < length old.contents) × (get_or old.contents c.args.gate 0 ≢ open_gate) → ⊥ = λ here.
    let yes : c.is_closed.result ≡ true = c.is_closed.ensures.1 (whole.0 here) in cc in
    on_ok c.write_synced.result (c.write_synced.ensures.written told)
    (λ written. subst (λ (v : Volume). IsClosed v.contents log) (sym written) (gate_closed old.contents log c.args.gate reads not_closed))

pub returns-clause-leaves : goal.returns-clause-leaves
returns-clause-leaves g c = λ told.
    let log = c.requires.reads.0 in
    let front_reads = c.requires.reads.1 in
    let V = g.V.Volumes in
    let old = V.disk.volume c.args.vols.now c.args.n in
    let new = V.disk.volume c.write_synced.new.vols c.args.n in
    let reads = ReadsTo-front old.contents log c.args.gate (subst (λ (b : List ℕ). ReadsTo b log c.args.gate) (c.requires.front told) front_reads) in
    let whole = closed-front old.contents c.args.bytes.now c.args.gate (gate-low old.contents log c.args.gate reads) (c.requires.front told) in
    let not_closed : (c.args.gate < length old.contents) × (get_or old.contents c.args.gate 0 ≢ open_gate) → ⊥ = λ here.
    let yes : c.is_closed.result ≡ true = c.is_closed.ensures.1 (whole.0 here) in cc in
    closed-leaves old new log c.args.gate reads not_closed c.write_synced.result (c.write_synced.ensures.written told) (c.write_synced.ensures.torn told)
    (c.write_synced.ensures.no_memory told)

-- a crash before the gate is durable leaves the same log
pub returns-clause-any_moment : goal.returns-clause-any_moment
returns-clause-any_moment g c = λ told log front_reads.
    let V = g.V.Volumes in
    let old = V.disk.volume c.args.vols.now c.args.n in
    let reads = ReadsTo-front old.contents log c.args.gate (subst (λ (b : List ℕ). ReadsTo b log c.args.gate) (c.requires.front told) front_reads) in
    let whole = closed-front old.contents c.args.bytes.now c.args.gate (gate-low old.contents log c.args.gate reads) (c.requires.front told) in
    let not_closed : (c.args.gate < length old.contents) × (get_or old.contents c.args.gate 0 ≢ open_gate) → ⊥ = λ here.
    let yes : c.is_closed.result ≡ true = c.is_closed.ensures.1 (whole.0 here) in cc in
    weaker V.disk c.args.vols.now c.write_synced.new.vols c.args.n _ (λ image. Stands image log)
    (torn_close old.contents log c.args.gate reads not_closed)
    (c.write_synced.ensures.any_moment told (c.requires.held told))
