use Rattle.std.proofs.Common.{rules, inl, inr, ℕ, List, ◌∙◌, sym, subst}
use Rattle.std.proofs.lemmas.Result.{err_from_is_err_and}
use Rattle.byte_journal.specs.declared.fault.OpenFault.TheVariants.{Volume as VolumeFault}
use Rattle.byte_journal.specs.steps.Reading.{ReadsTo}
use Rattle.byte_journal.proofs.OpenLemmas.{open-any_moment, open-from_sync, unclosed-from_sync, answers-unread, reads-front, opened-closed}
use Rattle.byte_journal.proofs.BytesLemmas.{opened-unread, opened-unclosed, same_fault, not_err}
use Rattle.byte_journal.proofs.OneAnswer.{has_one_answer}
use Rattle.ale_volumes.proofs.ClockLemmas.{others_joined, weaker}
use Rattle.byte_journal.proofs.opening.open.Goals as goal

-- ---- reading failed

pub returns-in_err-bytes-clause-one_answer : goal.returns-in_err-bytes-clause-one_answer
returns-in_err-bytes-clause-one_answer g c = has_one_answer

pub returns-in_err-bytes-clause-leaves : goal.returns-in_err-bytes-clause-leaves
returns-in_err-bytes-clause-leaves g c = λ told.
    let V = g.V.Volumes in
    let p = err_from_is_err_and c.from_residual.result c.from_residual.ensures.1 in
    rw (p.1, p.2) (opened-unread (V.disk.volume c.args.vols.now c.args.n) (V.disk.volume c.read_durable.new.vols c.args.n) c.in_err-bytes.field-0.0
    (c.read_durable.ensures.kept told) (λ other.
    c.read_durable.ensures.durable told (λ is. other (same_fault c.read_durable.result _ _ c.in_err-bytes.was is))))

-- ---- the bytes are damaged

pub returns-in_err-log-clause-one_answer : goal.returns-in_err-log-clause-one_answer
returns-in_err-log-clause-one_answer g c = has_one_answer

pub returns-in_err-log-clause-read : goal.returns-in_err-log-clause-read
returns-in_err-log-clause-read g c = λ told.
    let p = err_from_is_err_and c.from_residual-in_err-log.result c.from_residual-in_err-log.ensures.1 in
    let front = c.deref.ensures.value ∙ c.in_ok-bytes.ensures.read told in
    rw (p.1, p.2) (answers-unread (g.V.Volumes.disk.volume c.args.vols.now c.args.n).contents c.deref.result.now c.in_err-log.field-0.0 front
    c.in_err-log.ensures)

pub returns-in_err-log-clause-leaves : goal.returns-in_err-log-clause-leaves
returns-in_err-log-clause-leaves g c = λ told.
    let V = g.V.Volumes in
    let p = err_from_is_err_and c.from_residual-in_err-log.result c.from_residual-in_err-log.ensures.1 in
    rw (p.1, p.2) (opened-unread (V.disk.volume c.args.vols.now c.args.n) (V.disk.volume c.read_durable.new.vols c.args.n) c.in_err-log.field-0.0
    (c.read_durable.ensures.kept told) (λ other.
    c.read_durable.ensures.durable told (not_err c.read_durable.result c.in_ok-bytes.bytes VolumeFault c.in_ok-bytes.was)))

-- ---- closing the gate failed

pub returns-in_err-close_gate-clause-one_answer : goal.returns-in_err-close_gate-clause-one_answer
returns-in_err-close_gate-clause-one_answer g c = has_one_answer

pub returns-in_err-close_gate-clause-leaves : goal.returns-in_err-close_gate-clause-leaves
returns-in_err-close_gate-clause-leaves g c = λ told.
    let V = g.V.Volumes in
    let p = err_from_is_err_and c.from_residual-in_err-close_gate.result c.from_residual-in_err-close_gate.ensures.1 in
    let durable = c.read_durable.ensures.durable told (not_err c.read_durable.result c.in_ok-bytes.bytes VolumeFault c.in_ok-bytes.was) in
    rw p.1 (opened-unclosed (V.disk.volume c.args.vols.now c.args.n) (V.disk.volume c.read_durable.new.vols c.args.n)
    (V.disk.volume c.close_gate.new.vols c.args.n) c.in_err-close_gate.field-0.0 p.0 durable p.2 (c.in_err-close_gate.ensures.leaves told))

pub returns-in_err-close_gate-clause-any_moment : goal.returns-in_err-close_gate-clause-any_moment
returns-in_err-close_gate-clause-any_moment g c = λ told.
    let V = g.V.Volumes in
    let front = c.deref.ensures.value ∙ c.in_ok-bytes.ensures.read told in
    let before = (V.disk.volume c.args.vols.now c.args.n).contents in
    let reads = reads-front before c.deref.result.now c.in_ok-log.log c.in_ok-log.gate front c.in_ok-log.ensures in
    let closes = c.close_gate.ensures.any_moment told c.in_ok-log.log
    (subst (λ (b : List ℕ). ReadsTo b c.in_ok-log.log c.in_ok-log.gate) (c.deref.ensures.value ∙ sym c.deref-2.ensures.value) c.in_ok-log.ensures) in
    open-any_moment V.disk c.args.vols.now c.read_durable.new.vols c.close_gate.new.vols c.args.n c.in_ok-log.log reads.stands closes
    (c.read_durable.ensures.any_moment told)

pub returns-in_err-close_gate-clause-from_sync : goal.returns-in_err-close_gate-clause-from_sync
returns-in_err-close_gate-clause-from_sync g c = λ told.
    let V = g.V.Volumes in
    let front = c.deref.ensures.value ∙ c.in_ok-bytes.ensures.read told in
    let before = (V.disk.volume c.args.vols.now c.args.n).contents in
    let reads = reads-front before c.deref.result.now c.in_ok-log.log c.in_ok-log.gate front c.in_ok-log.ensures in
    let closes = c.close_gate.ensures.any_moment told c.in_ok-log.log
    (subst (λ (b : List ℕ). ReadsTo b c.in_ok-log.log c.in_ok-log.gate) (c.deref.ensures.value ∙ sym c.deref-2.ensures.value) c.in_ok-log.ensures) in
    inr (open-from_sync V.disk c.args.vols.now c.read_durable.new.vols c.close_gate.new.vols c.args.n c.in_ok-log.log reads.stands
    closes c.read_durable.result c.in_ok-bytes.bytes c.in_ok-bytes.was (c.read_durable.ensures.from_sync told))

-- ---- the journal is open

pub returns-clause-one_answer : goal.returns-clause-one_answer
returns-clause-one_answer g c = has_one_answer

pub returns-clause-read : goal.returns-clause-read
returns-clause-read g c = λ told.
    let front = c.deref.ensures.value ∙ c.in_ok-bytes.ensures.read told in
    (reads-front (g.V.Volumes.disk.volume c.args.vols.now c.args.n).contents c.deref.result.now c.in_ok-log.log c.in_ok-log.gate front
    c.in_ok-log.ensures).stands

pub returns-clause-leaves : goal.returns-clause-leaves
returns-clause-leaves g c = λ told.
    let V = g.V.Volumes in
    let durable = c.read_durable.ensures.durable told (not_err c.read_durable.result c.in_ok-bytes.bytes VolumeFault c.in_ok-bytes.was) in
    opened-closed (V.disk.volume c.args.vols.now c.args.n) (V.disk.volume c.read_durable.new.vols c.args.n) (V.disk.volume c.close_gate.new.vols c.args.n)
    durable
    (c.in_ok-close_gate.ensures.leaves told)

pub returns-clause-any_moment : goal.returns-clause-any_moment
returns-clause-any_moment g c = λ told.
    let V = g.V.Volumes in
    let front = c.deref.ensures.value ∙ c.in_ok-bytes.ensures.read told in
    let before = (V.disk.volume c.args.vols.now c.args.n).contents in
    let reads = reads-front before c.deref.result.now c.in_ok-log.log c.in_ok-log.gate front c.in_ok-log.ensures in
    let closes = c.close_gate.ensures.any_moment told c.in_ok-log.log
    (subst (λ (b : List ℕ). ReadsTo b c.in_ok-log.log c.in_ok-log.gate) (c.deref.ensures.value ∙ sym c.deref-2.ensures.value) c.in_ok-log.ensures) in
    open-any_moment V.disk c.args.vols.now c.read_durable.new.vols c.close_gate.new.vols c.args.n c.in_ok-log.log reads.stands closes
    (c.read_durable.ensures.any_moment told)

pub returns-clause-from_sync : goal.returns-clause-from_sync
returns-clause-from_sync g c = λ told.
    let V = g.V.Volumes in
    let front = c.deref.ensures.value ∙ c.in_ok-bytes.ensures.read told in
    let before = (V.disk.volume c.args.vols.now c.args.n).contents in
    let reads = reads-front before c.deref.result.now c.in_ok-log.log c.in_ok-log.gate front c.in_ok-log.ensures in
    let closes = c.close_gate.ensures.any_moment told c.in_ok-log.log
    (subst (λ (b : List ℕ). ReadsTo b c.in_ok-log.log c.in_ok-log.gate) (c.deref.ensures.value ∙ sym c.deref-2.ensures.value) c.in_ok-log.ensures) in
    inr (open-from_sync V.disk c.args.vols.now c.read_durable.new.vols c.close_gate.new.vols c.args.n c.in_ok-log.log reads.stands
    closes c.read_durable.result c.in_ok-bytes.bytes c.in_ok-bytes.was (c.read_durable.ensures.from_sync told))

pub returns-in_err-bytes-clause-any_moment : goal.returns-in_err-bytes-clause-any_moment
returns-in_err-bytes-clause-any_moment g c = λ told.
    weaker g.V.Volumes.disk c.args.vols.now c.read_durable.new.vols c.args.n _ _ (λ image is. inl is) (c.read_durable.ensures.any_moment told)

pub returns-in_err-log-clause-any_moment : goal.returns-in_err-log-clause-any_moment
returns-in_err-log-clause-any_moment g c = λ told.
    weaker g.V.Volumes.disk c.args.vols.now c.read_durable.new.vols c.args.n _ _ (λ image is. inl is) (c.read_durable.ensures.any_moment told)

pub returns-in_err-close_gate-clause-others : goal.returns-in_err-close_gate-clause-others
returns-in_err-close_gate-clause-others g c = λ told.
    others_joined g.V.Volumes.disk c.args.vols.now c.read_durable.new.vols c.close_gate.new.vols c.args.n (c.read_durable.ensures.any_moment told).later
    (c.read_durable.ensures.others told) (c.close_gate.ensures.others told)

pub returns-clause-others : goal.returns-clause-others
returns-clause-others g c = λ told.
    others_joined g.V.Volumes.disk c.args.vols.now c.read_durable.new.vols c.close_gate.new.vols c.args.n (c.read_durable.ensures.any_moment told).later
    (c.read_durable.ensures.others told) (c.close_gate.ensures.others told)

pub returns-in_err-bytes-clause-from_sync : goal.returns-in_err-bytes-clause-from_sync
returns-in_err-bytes-clause-from_sync g c = λ told.
    unclosed-from_sync g.V.Volumes.disk c.args.vols.now c.read_durable.new.vols c.args.n _ _ (λ is. let failed = is in search rules)
    (c.read_durable.ensures.from_sync told)

pub returns-in_err-log-clause-from_sync : goal.returns-in_err-log-clause-from_sync
returns-in_err-log-clause-from_sync g c = λ told.
    unclosed-from_sync g.V.Volumes.disk c.args.vols.now c.read_durable.new.vols c.args.n _ _ (λ is. let failed = is in search rules)
    (c.read_durable.ensures.from_sync told)
