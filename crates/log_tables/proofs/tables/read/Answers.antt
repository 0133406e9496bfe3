use Rattle.std.proofs.Common.{take, [], sym, subst, ◌∙◌, arith}
use Rattle.log_tables.specs.OfLog.{LogTablesOf, IsRead}
use Rattle.log_tables.proofs.ReadLemmas.{IsRead-nothing, read-to, read-whole}
use Rattle.log_tables.proofs.tables.read.Goals as goal

pub loop-place-init : goal.loop-place-init
loop-place-init g c =
    subst (λ (its : LogTablesOf g.row.R-Tables.Denot). IsRead (g.R.Rules.meaning c.args.rules.now) g.R.Tables.Application.stands c.args.system [] its)
    (sym c.new-its.ensures)
    (IsRead-nothing (g.R.Rules.meaning c.args.rules.now) (g.met.R.Rules.lawful c.args.rules.now) g.R.Tables.Application.stands c.args.system
    c.args.application c.requires.begins)

pub returns-then-not-branch : goal.returns-then-not-branch
returns-then-not-branch g c =
    read-to (g.R.Rules.meaning c.args.rules.now) g.R.Tables.Application.stands c.args.system c.args.log.now c.loop-place.place c.index-log-place.result
    c.take.new.its (omega arith) c.index-log-place.is (sym c.in_ok-take.ensures.may ∙ c.if-not-branch.true)
    (subst (λ (its : LogTablesOf g.row.R-Tables.Denot). IsRead (g.R.Rules.meaning c.args.rules.now) g.R.Tables.Application.stands c.args.system
    (take c.loop-place.place c.args.log.now) its)
    (sym (c.in_ok-take.ensures.stays c.if-not-branch.true)) c.loop-place.invariant)

pub returns : goal.returns
returns g c =
    read-whole (g.R.Rules.meaning c.args.rules.now) g.R.Tables.Application.stands c.args.system c.args.log.now c.loop-place.place c.loop-place.its
    (omega arith) c.loop-place.invariant
