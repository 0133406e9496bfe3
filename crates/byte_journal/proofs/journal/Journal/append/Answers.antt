use Rattle.std.specs.Prelude.{Err, IsErrOf}
use Rattle.std.proofs.Common.{inl, ◌<◌, ◌≤◌, ◌+◌, ℕ, List, [], ◌∷◌, length, refl, ◌∙◌, ap, arith, rules}
use Rattle.std.proofs.lemmas.Result.{err_from_is_err_and}
use Rattle.ale_volumes.specs.declared.volume.Volume.{Volume}
use Rattle.ale_volumes.specs.Volume.{overwritten}
use Rattle.ale_volumes.specs.declared.volume_end.VolumeEnd.TheVariants.{OutOfMemory}
use Rattle.ale_volumes.proofs.ClockLemmas.{joined, weaker, started, others_joined}
use Rattle.byte_journal.specs.Log.{open_gate, most_bytes}
use Rattle.byte_journal.proofs.AppendLemmas.{long_enough, first_before, second_torn, mid_durable, still_settled, added}
use Rattle.byte_journal.proofs.BytesLemmas.{appended-none, appended-first, appended-second, appended-done}
use Rattle.byte_journal.proofs.SettledLemmas.{IsSettled-stands}
use Rattle.byte_journal.proofs.journal.Journal.append.Goals as goal

-- the first write leaves the log as it was
pub returns-in_err-write_synced-clause-any_moment : goal.returns-in_err-write_synced-clause-any_moment
returns-in_err-write_synced-clause-any_moment g c = λ told log s.
    let V = g.V.Volumes in
    let journal = c.args.self.now in
    let old = c.args.vols.now in
    let mid = c.write_synced.new.vols in
    let block = c.deref.ensures.value ∙ c.in_ok-block.ensures in
    weaker V.disk old mid journal.volume _ _ (first_before V.disk old mid mid journal log c.args.body.now _ s block)
    (c.write_synced.ensures.any_moment told s.durable)

-- the second leaves it with the body or without
pub returns-in_err-write_synced-2-clause-any_moment : goal.returns-in_err-write_synced-2-clause-any_moment
returns-in_err-write_synced-2-clause-any_moment g c = λ told log s.
    let V = g.V.Volumes in
    let journal = c.args.self.now in
    let old = c.args.vols.now in
    let mid = c.write_synced.new.vols in
    let new = c.write_synced-2.new.vols in
    let block = c.deref.ensures.value ∙ c.in_ok-block.ensures in
    let wrote = c.in_ok-write_synced.ensures.written told in
    let fits : journal.gate + 5 + length c.args.body.now < most_bytes = omega arith in
    let first = weaker V.disk old mid journal.volume _ _ (first_before V.disk old mid new journal log c.args.body.now _ s block)
    (c.write_synced.ensures.any_moment told s.durable) in
    let durable = mid_durable V.disk old mid new journal log c.args.body.now _ s block wrote c.requires.body fits in
    joined V.disk old mid new journal.volume _ first
    (weaker V.disk mid new journal.volume _ _
    (second_torn V.disk old mid new journal log c.args.body.now _ s block wrote c.requires.body fits) (c.write_synced-2.ensures.any_moment told durable))

pub returns-in_err-write_synced-2-clause-no_memory : goal.returns-in_err-write_synced-2-clause-no_memory
returns-in_err-write_synced-2-clause-no_memory g c = λ told log s no_memory.
    let V = g.V.Volumes in
    let block = c.deref.ensures.value ∙ c.in_ok-block.ensures in
    let wrote = c.in_ok-write_synced.ensures.written told in
    let refused : IsErrOf c.write_synced-2.result OutOfMemory = search rules in
    still_settled V.disk c.args.vols.now c.write_synced.new.vols c.write_synced-2.new.vols c.args.self.now log c.args.body.now _ s block wrote
    (c.write_synced-2.ensures.no_memory told refused)

pub returns-clause-any_moment : goal.returns-clause-any_moment
returns-clause-any_moment g c = λ told log s.
    let V = g.V.Volumes in
    let journal = c.args.self.now in
    let old = c.args.vols.now in
    let mid = c.write_synced.new.vols in
    let new = c.write_synced-2.new.vols in
    let block = c.deref.ensures.value ∙ c.in_ok-block.ensures in
    let wrote = c.in_ok-write_synced.ensures.written told in
    let fits : journal.gate + 5 + length c.args.body.now < most_bytes = omega arith in
    let first = weaker V.disk old mid journal.volume _ _ (first_before V.disk old mid new journal log c.args.body.now _ s block)
    (c.write_synced.ensures.any_moment told s.durable) in
    let durable = mid_durable V.disk old mid new journal log c.args.body.now _ s block wrote c.requires.body fits in
    joined V.disk old mid new journal.volume _ first
    (weaker V.disk mid new journal.volume _ _
    (second_torn V.disk old mid new journal log c.args.body.now _ s block wrote c.requires.body fits) (c.write_synced-2.ensures.any_moment told durable))

pub returns-clause-added : goal.returns-clause-added
returns-clause-added g c = λ told log s.
    let V = g.V.Volumes in
    let journal = c.args.self.now in
    let block = c.deref.ensures.value ∙ c.in_ok-block.ensures in
    let wrote = c.in_ok-write_synced.ensures.written told in
    let fits : journal.gate + 5 + length c.args.body.now < most_bytes = omega arith in
    added V.disk c.args.vols.now c.write_synced.new.vols c.write_synced-2.new.vols journal log c.args.body.now _ s block wrote c.requires.body fits _ refl
    refl (c.in_ok-write_synced-2.ensures.written told)

-- ---- what a read gives

pub returns-in_err-block-clause-leaves : goal.returns-in_err-block-clause-leaves
returns-in_err-block-clause-leaves g c = λ told.
    let p = err_from_is_err_and c.from_residual.result c.from_residual.ensures.1 in
    rw p.1 (appended-none (g.V.Volumes.disk.volume c.args.vols.now c.args.self.now.volume).contents c.args.self.now.gate c.args.body.now p.0 p.2)

pub returns-in_err-write_synced-clause-leaves : goal.returns-in_err-write_synced-clause-leaves
returns-in_err-write_synced-clause-leaves g c = λ told.
    let V = g.V.Volumes in
    let p = err_from_is_err_and c.from_residual-in_err-write_synced.result c.from_residual-in_err-write_synced.ensures.1 in
    let n = c.args.self.now.volume in
    let block = c.deref.ensures.value ∙ c.in_ok-block.ensures in
    rw p.1 (appended-first (V.disk.volume c.args.vols.now n) (V.disk.volume c.write_synced.new.vols n) c.args.self.now.gate c.args.body.now _
    c.in_err-write_synced.field-0.0 p.0 block p.2 (c.write_synced.ensures.torn told)
    (λ is. c.write_synced.ensures.no_memory told (c.in_err-write_synced.was ∙ ap Err is)))

pub returns-in_err-write_synced-2-clause-leaves : goal.returns-in_err-write_synced-2-clause-leaves
returns-in_err-write_synced-2-clause-leaves g c = λ told.
    let V = g.V.Volumes in
    let p = err_from_is_err_and c.from_residual-in_err-write_synced-2.result c.from_residual-in_err-write_synced-2.ensures.1 in
    let n = c.args.self.now.volume in
    let old = (V.disk.volume c.args.vols.now n).contents in
    let block = c.deref.ensures.value ∙ c.in_ok-block.ensures in
    let wrote = ap (λ (v : Volume). v.contents) (c.in_ok-write_synced.ensures.written told)
    ∙ ap (λ (b : List ℕ). overwritten old (c.args.self.now.gate + 1) b) block in
    rw p.1 (appended-second old (V.disk.volume c.write_synced.new.vols n) (V.disk.volume c.write_synced-2.new.vols n) c.args.self.now.gate c.args.body.now
    c.in_err-write_synced-2.field-0.0 p.0 wrote p.2 (c.write_synced-2.ensures.torn told)
    (λ is. c.write_synced-2.ensures.no_memory told (c.in_err-write_synced-2.was ∙ ap Err is)))

pub returns-clause-leaves : goal.returns-clause-leaves
returns-clause-leaves g c = λ told.
    let V = g.V.Volumes in
    let n = c.args.self.now.volume in
    let gate = c.args.self.now.gate in
    let old = (V.disk.volume c.args.vols.now n).contents in
    let block = c.deref.ensures.value ∙ c.in_ok-block.ensures in
    let wrote = ap (λ (v : Volume). v.contents) (c.in_ok-write_synced.ensures.written told) ∙ ap (λ (b : List ℕ). overwritten old (gate + 1) b) block in
    let settled = c.requires.settled told in
    let within : gate + 1 ≤ length old = omega (arith, long_enough old settled.0 settled.1.closed, settled.1.place) in
    ap (λ (v : Volume). v.contents) (c.in_ok-write_synced-2.ensures.written told)
    ∙ ap (λ (b : List ℕ). overwritten b gate (open_gate ∷ [])) wrote
    ∙ appended-done old gate c.args.body.now within

-- nothing was written
pub returns-then-next-ge-MOST_BYTES-clause-any_moment : goal.returns-then-next-ge-MOST_BYTES-clause-any_moment
returns-then-next-ge-MOST_BYTES-clause-any_moment g c = λ told log s.
    let V = g.V.Volumes in
    let journal = c.args.self.now in
    let old = c.args.vols.now in
    started V.disk old journal.volume _
    (λ image left. inl (IsSettled-stands V.disk old journal log s image (g.met.V.Volumes.only_now told old journal.volume image left)))

pub returns-in_err-block-clause-any_moment : goal.returns-in_err-block-clause-any_moment
returns-in_err-block-clause-any_moment g c = λ told log s.
    let V = g.V.Volumes in
    let journal = c.args.self.now in
    let old = c.args.vols.now in
    started V.disk old journal.volume _
    (λ image left. inl (IsSettled-stands V.disk old journal log s image (g.met.V.Volumes.only_now told old journal.volume image left)))

-- both writes keep all other volumes
pub returns-in_err-write_synced-2-clause-others : goal.returns-in_err-write_synced-2-clause-others
returns-in_err-write_synced-2-clause-others g c = λ told.
    let durable = (c.requires.settled told).1.durable in
    others_joined g.V.Volumes.disk c.args.vols.now c.write_synced.new.vols c.write_synced-2.new.vols c.args.self.now.volume
    (c.write_synced.ensures.any_moment told durable).later (c.write_synced.ensures.others told) (c.write_synced-2.ensures.others told)

pub returns-clause-others : goal.returns-clause-others
returns-clause-others g c = λ told.
    let durable = (c.requires.settled told).1.durable in
    others_joined g.V.Volumes.disk c.args.vols.now c.write_synced.new.vols c.write_synced-2.new.vols c.args.self.now.volume
    (c.write_synced.ensures.any_moment told durable).later (c.write_synced.ensures.others told) (c.write_synced-2.ensures.others told)
