use Rattle.std.specs.Prelude.{IfSome}
use Rattle.std.proofs.Common.{◌+◌, Option, take, refl, subst, arith}
use Rattle.log_tables.proofs.ReadLemmas.{read-so_far}
use Rattle.log_reading.specs.declared.bad.Cause.{Cause}
use Rattle.log_reading.specs.Bad.{IsBadBy, moment_at}
use Rattle.log_reading.proofs.GoodLemmas.{bad-here, good-here, good-all, moment-next}
use Rattle.log_reading.proofs.reading.first_bad.Goals as goal

pub returns-in-Some-clause-bad : goal.returns-in-Some-clause-bad
returns-in-Some-clause-bad g c =
    let rules = g.R.Rules.meaning c.args.rules.now in
    let log = c.args.log.now in
    let moments = c.args.moments.now in
    let place = c.loop-place.place in
    bad-here rules c.args.system c.args.text.now moments log place c.index-log-place.result c.loop-place.before
    (record { number = place + 1; cause = c.in-Some.cause }) (omega arith) c.index-log-place.is c.loop-place.invariant.1 c.loop-place.invariant.0 refl
    (subst (λ (o : Option Cause). IfSome o (IsBadBy rules c.args.system c.args.text.now c.loop-place.before (moment_at moments place) (take place log)
    c.index-log-place.result)) c.in-Some.is c.in_ok-cause.ensures.bad)

pub loop-place-preserved : goal.loop-place-preserved
loop-place-preserved g c =
    let rules = g.R.Rules.meaning c.args.rules.now in
    let log = c.args.log.now in
    let moments = c.args.moments.now in
    let place = c.loop-place.place in (
      moment-next rules c.args.system c.args.text.now moments log place,
      good-here rules c.args.system c.args.text.now moments log place c.index-log-place.result c.loop-place.before (omega arith) c.index-log-place.is
          c.loop-place.invariant.1 c.loop-place.invariant.0 (c.in_ok-cause.ensures.good c.in-None.is),
      read-so_far rules g.R.Tables.Application.stands c.args.system log place c.index-log-place.result c.read_next.new.its (omega arith) c.index-log-place.is
          (c.in_ok-cause.ensures.read c.in-None.is),
    )

pub returns-clause-good : goal.returns-clause-good
returns-clause-good g c = λ none.
    good-all (g.R.Rules.meaning c.args.rules.now) c.args.system c.args.text.now c.args.moments.now c.args.log.now c.loop-place.place (omega arith)
    c.loop-place.invariant.1
