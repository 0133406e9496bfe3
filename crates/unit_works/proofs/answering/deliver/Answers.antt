use Rattle.std.specs.Result.{is_ok}
use Rattle.std.proofs.Common.{true, false, refl, sym, ◌∙◌}
use Rattle.unit_works.specs.declared.answering.Answered.{Answered}
use Rattle.unit_works.specs.Events.{is_arrival, is_delivery, is_end}
use Rattle.unit_works.proofs.PreparedLemmas.{ready-arrived}
use Rattle.unit_works.proofs.WorkedLemmas.{arrival-delivers, come-answered, delivered, end-delivers, on, short-of, still, wider}
use Rattle.unit_works.proofs.answering.deliver.Goals as goal

pub returns-in_err-arrival-clause-went : goal.returns-in_err-arrival-clause-went
returns-in_err-arrival-clause-went g c =
    short-of g.V.Volumes.disk (is_delivery c.args.letter) c.args.landscape.now c.arrive_under.new.landscape c.from_residual.result c.from_residual.ensures.0
    (wider g.V.Volumes.disk is_arrival (is_delivery c.args.letter) false c.args.landscape.now c.arrive_under.new.landscape
    (arrival-delivers c.args.letter (sym c.arrives_under.ensures ∙ c.if-not-arrives_under.false)) c.in_err-arrival.ensures.went)

pub returns-clause-went : goal.returns-clause-went
returns-clause-went g c =
    let arrives = sym c.arrives_under.ensures ∙ c.if-not-arrives_under.false in
    on g.V.Volumes.disk (is_delivery c.args.letter) (is_ok c.answer_of.result) c.args.landscape.now c.arrive_under.new.landscape c.answer_of.new.landscape
    (wider g.V.Volumes.disk is_arrival (is_delivery c.args.letter) true c.args.landscape.now c.arrive_under.new.landscape
    (arrival-delivers c.args.letter arrives) c.in_ok-arrival.ensures.went)
    (wider g.V.Volumes.disk is_end (is_delivery c.args.letter) (is_ok c.answer_of.result) c.arrive_under.new.landscape c.answer_of.new.landscape
    (end-delivers c.args.letter arrives) c.answer_of.ensures.went)

pub returns-then-not-arrives_under-clause-went : goal.returns-then-not-arrives_under-clause-went
returns-then-not-arrives_under-clause-went g c = still g.V.Volumes.disk (is_delivery c.args.letter) true c.args.landscape.now c.args.landscape.now refl

pub returns-clause-grew : goal.returns-clause-grew
returns-clause-grew g c =
    delivered g.V.Volumes.disk c.args.landscape.now c.arrive_under.new.landscape c.answer_of.new.landscape c.args.claim.now c.args.letter
    c.in_ok-arrival.arrival c.answer_of.result (λ (answered : Answered). answered.given) c.world.ensures.safe
    (sym c.arrives_under.ensures ∙ c.if-not-arrives_under.false) c.in_ok-arrival.ensures.went c.answer_of.ensures.went c.in_ok-arrival.ensures.grew
    c.answer_of.ensures.grew c.answer_of.ensures.idle

pub returns-clause-claims : goal.returns-clause-claims
returns-clause-claims g c =
    come-answered g.V.Volumes.disk is_arrival is_end c.args.landscape.now c.arrive_under.new.landscape c.answer_of.new.landscape c.in_ok-arrival.arrival
    c.answer_of.result c.in_ok-arrival.ensures.went c.answer_of.ensures.went c.in_ok-arrival.ensures.claims c.answer_of.ensures.claims

pub answer_of-requires : goal.answer_of-requires
answer_of-requires g c =
    let went = c.in_ok-arrival.ensures.went in
    record {
      ready = ready-arrived c.args.landscape.now.world c.arrive_under.new.landscape.world c.args.claim.now.tid c.args.ready c.in_ok-arrival.arrival
          went.logs
          (went.committed c.args.claim.now.tid) c.requires.ready c.in_ok-arrival.ensures.run;
    }
