use Rattle.std.proofs.Common.{◌≡◌, ◌≤◌, true, false, sym, ap, subst, refl, ◌∙◌, arith}
use Rattle.std.proofs.lemmas.Bool.{both_ways}
use Rattle.trfc_protocol.specs.declared.held.HeldKind.TheVariants.{Direct}
use Rattle.unit_landscape.specs.Kept.{IsLandscape}
use Rattle.unit_landscape.specs.InStep.{AreInStepWith}
use Rattle.unit_landscape.specs.Claims.{without_last_claim}
use Rattle.unit_landscape.specs.Late.{is_undone}
use Rattle.unit_landscape.proofs.ClaimsLemmas.{claim-undone}
use Rattle.unit_landscape.proofs.LateEndsLemmas.{given-back}
use Rattle.unit_landscape.proofs.landscape.late.give_back.Goals as goal

pub give_back-requires-clause-number : goal.give_back-requires-clause-number
give_back-requires-clause-number g c =
    let run = c.requires.known.1 (sym c.is_undone.ensures ∙ c.if-is_undone.true) in
    let number = ap (λ w. w.next_number) run.claimed in
    omega (arith, number)

pub give_back-requires-clause-in_step : goal.give_back-requires-clause-in_step
give_back-requires-clause-in_step g c =
    let run = c.requires.known.1 (sym c.is_undone.ensures ∙ c.if-is_undone.true) in
    subst (λ w. AreInStepWith g.A.Application.stands g.R.Rules.meaning w c.args.kept.now.tables)
    (sym (ap without_last_claim run.claimed ∙ claim-undone c.requires.known.0.world run.tid run.system Direct)) run.in_step

pub returns-then-is_undone-clause-landscape : goal.returns-then-is_undone-clause-landscape
returns-then-is_undone-clause-landscape g c =
    let run = c.requires.known.1 (sym c.is_undone.ensures ∙ c.if-is_undone.true) in
    subst (IsLandscape g.R.Rules.meaning)
    (sym (given-back g.R.Rules.meaning g.A.Application.stands c.requires.known.0 c.args.kept.now c.give_back.new.self.world run c.give_back.ensures.world))
    run.landscape

pub returns-then-is_undone-clause-gives : goal.returns-then-is_undone-clause-gives
returns-then-is_undone-clause-gives g c = λ before is. record {
  undone = λ undone. (
    given-back g.R.Rules.meaning g.A.Application.stands before c.args.kept.now c.give_back.new.self.world (is undone) c.give_back.ensures.world,
    c.give_back.ensures.tables,
    c.give_back.ensures.volumes,
  );
  done = λ done. absurd (both_ways (is_undone c.args.appended.now) done (sym c.is_undone.ensures ∙ c.if-is_undone.true));
}
