use Rattle.std.specs.Prelude.{IfOk, Result, Ok, Err}
use Rattle.std.specs.Option.{option_copied}
use Rattle.std.proofs.Common.{◌≡◌, ◌-◌, ℕ, List, refl, sym, ap, ◌∙◌, subst, inl, inr, ⊎_elim}
use Rattle.unit_core.specs.declared.records.Record.{Record}
use Rattle.unit_codec.specs.declared.entry.Entry.{Entry}
use Rattle.unit_journal.specs.declared.fault.LookFault.{LookFault}
use Rattle.unit_journal.specs.declared.fault.LookFault.TheVariants.{Changed}
use Rattle.unit_journal.specs.declared.looked.Looked.{Looked}
use Rattle.unit_journal.specs.Log.{Stands}
use Rattle.unit_journal.specs.Settled.{IsOn, Answers as Opens}
use Rattle.unit_journal.specs.OnDisk.{entries_at, rest_at}
use Rattle.unit_journal.specs.Looking.{Answers, IsLooked}
use Rattle.unit_journal.specs.steps.Compared.{Compares}
use Rattle.unit_journal.proofs.LookLemmas.{answers-failed, answers-compared, not-changed, IsLeft-looked, looked-if}
use Rattle.unit_journal.proofs.journals.SystemJournals.look.Goals as goal

pub returns-in_err-journal-clause-left : goal.returns-in_err-journal-clause-left
returns-in_err-journal-clause-left g c =
    let V = g.V.Volumes in
    let place = c.args.system - 1 in
    IsLeft-looked V.disk c.args.vols.now c.open.new.vols place (c.get.result - 1) c.args.self.now c.args.log.now (option_copied c.args.rest)
    (ap (λ (n : ℕ). n - 1) c.get.ensures.number)
    (λ tells. g.met.V.Volumes.read_is_image tells c.args.vols.now (c.get.result - 1))
    (λ tells image later is. g.met.V.Volumes.counts_now tells c.open.new.vols place (V.disk.moment c.args.vols.now) image later is)
    c.open.ensures.any_moment

pub returns-clause-left : goal.returns-clause-left
returns-clause-left g c =
    let V = g.V.Volumes in
    let place = c.args.system - 1 in
    IsLeft-looked V.disk c.args.vols.now c.open.new.vols place (c.get.result - 1) c.args.self.now c.args.log.now (option_copied c.args.rest)
    (ap (λ (n : ℕ). n - 1) c.get.ensures.number)
    (λ tells. g.met.V.Volumes.read_is_image tells c.args.vols.now (c.get.result - 1))
    (λ tells image later is. g.met.V.Volumes.counts_now tells c.open.new.vols place (V.disk.moment c.args.vols.now) image later is)
    c.open.ensures.any_moment

pub returns-clause-looked : goal.returns-clause-looked
returns-clause-looked g c =
    let V = g.V.Volumes in
    let at = ap (λ (n : ℕ). n - 1) c.get.ensures.number in
    let opened = c.in_ok-journal.ensures in
    looked-if V.disk c.open.new.vols c.args.system c.args.self.now c.args.log.now (option_copied c.args.rest) c.in_ok-journal.journal c.in_ok-journal.entries
    c.compared.result c.requires.moments c.requires.kept (subst (λ n. IsOn c.in_ok-journal.journal n c.in_ok-journal.entries) at opened.at_end)
    opened.settled c.compared.ensures

pub returns-clause-unchanged : goal.returns-clause-unchanged
returns-clause-unchanged g c = λ tells left number is.
    let V = g.V.Volumes in
    let place = c.args.system - 1 in
    let at = ap (λ (n : ℕ). n - 1) c.get.ensures.number in
    let bytes = (V.disk.volume c.args.vols.now place).contents in
    let all = c.args.self.now in
    let log = c.args.log.now in
    let rest = option_copied c.args.rest in
    let answers =
    answers-compared bytes c.args.system c.in_ok-journal.journal c.in_ok-journal.entries (entries_at all place log) (rest_at all place) rest c.compared.result
    (subst (λ (n : ℕ). Stands (V.disk.volume c.args.vols.now n).contents c.in_ok-journal.entries) at (c.in_ok-journal.ensures.read tells))
    c.compared.ensures in
    not-changed bytes (entries_at all place log) (rest_at all place) rest number
    (left.left tells bytes (g.met.V.Volumes.read_is_image tells c.args.vols.now place))
    (subst (λ (r : Result Looked LookFault). Answers bytes (entries_at all place log) (rest_at all place) rest r) is answers)

pub returns-in_err-journal-clause-unchanged : goal.returns-in_err-journal-clause-unchanged
returns-in_err-journal-clause-unchanged g c = λ tells left number is.
    let V = g.V.Volumes in
    let place = c.args.system - 1 in
    let at = ap (λ (n : ℕ). n - 1) c.get.ensures.number in
    let bytes = (V.disk.volume c.args.vols.now place).contents in
    let all = c.args.self.now in
    let log = c.args.log.now in
    let rest = option_copied c.args.rest in
    let fault = c.in_err-journal.field-0.0 in
    let answers =
    answers-failed bytes (entries_at all place log) (rest_at all place) rest fault c.from_residual.result c.from_residual.ensures.1
    (subst (λ (n : ℕ). Opens (V.disk.volume c.args.vols.now n).contents (Err fault)) at (c.in_err-journal.ensures.read tells)) in
    not-changed bytes (entries_at all place log) (rest_at all place) rest number
    (left.left tells bytes (g.met.V.Volumes.read_is_image tells c.args.vols.now place))
    (subst (λ (r : Result Looked LookFault). Answers bytes (entries_at all place log) (rest_at all place) rest r) is answers)
