use Rattle.std.proofs.Common.{◌≡◌, ◌+◌, ◌<◌, ◌↔◌, List, ℕ, length, Err, ◌∙◌, subst}
use Rattle.byte_journal.specs.declared.fault.AppendFault.TheVariants.{Full}
use Rattle.byte_journal.specs.Log.{most_bytes}
use Rattle.byte_journal.specs.Settled as bodies_settled
use Rattle.ale_volumes.specs.Clock.{LeavesOnly}
use Rattle.unit_codec.specs.Entries.{entry_with}
use Rattle.unit_codec.proofs.EntryLemmas.{entry_spelling-some}
use Rattle.unit_journal.specs.Log.{bodies_of}
use Rattle.unit_journal.specs.Settled.{bodies}
use Rattle.unit_journal.proofs.SettledLemmas.{unappended, appended}
use Rattle.unit_journal.proofs.journal.UnitJournal.append.Goals as goal

pub returns-in_err-body-clause-any_moment : goal.returns-in_err-body-clause-any_moment
returns-in_err-body-clause-any_moment g c = λ told log s.
    let V = g.V.Volumes in
    let vols = c.args.vols.now in
    let journal = c.args.self.now in
    let entry = entry_with c.args.moment c.args.what.now in
    unappended V.disk vols journal log entry (λ image left. g.met.V.Volumes.only_now told vols (bodies journal).volume image left) s

pub append-requires-clause-body : goal.append-requires-clause-body
append-requires-clause-body g c = rw (c.deref.ensures.value ∙ c.in_ok-body.ensures.spelled) (entry_spelling-some (entry_with c.args.moment c.args.what.now))

pub returns-clause-any_moment : goal.returns-clause-any_moment
returns-clause-any_moment g c = λ told log s.
    let V = g.V.Volumes in
    let old = c.args.vols.now in
    let new = c.append.new.vols in
    let journal = c.args.self.now in
    let leaves = c.append.ensures.any_moment told (bodies_of log) s.settled in
    appended V.disk old new journal log (entry_with c.args.moment c.args.what.now) s c.in_ok-body.ensures.has_spelling
    (subst (λ (body : List ℕ). LeavesOnly V.disk old new (bodies journal).volume (bodies_settled.IsBeforeOrAfter (bodies_of log) body))
    (c.deref.ensures.value ∙ c.in_ok-body.ensures.spelled) leaves)

pub returns-clause-full : goal.returns-clause-full
returns-clause-full g c = λ place roomy.
    subst (λ (body : List ℕ). (c.append.result ≡ Err (Full place)) ↔ ((place ≡ (bodies c.args.self.now).gate + 6 + length body) × (most_bytes < place)))
    (c.deref.ensures.value ∙ c.in_ok-body.ensures.spelled) (c.append.ensures.full place)
