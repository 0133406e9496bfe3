use Rattle.std.proofs.Common.{true, refl, cond, [], sym, subst, ◌∙◌}
use Rattle.std.specs.Prelude.{OnOk}
use Rattle.std.specs.Result.{is_ok}
use Rattle.unit_works.specs.declared.letter.Letter.TheVariants.{Whole}
use Rattle.unit_works.specs.Trips.{Appended, confirmation, forgot}
use Rattle.unit_works.specs.Events.{is_confirmation, is_confirming}
use Rattle.unit_works.proofs.WorkedLemmas.{confirmation-confirms, still, wider}
use Rattle.unit_works.proofs.confirming.confirm_under.Goals as goal

pub returns-then-not-is_confirmed_under-clause-went : goal.returns-then-not-is_confirmed_under-clause-went
returns-then-not-is_confirmed_under-clause-went g c =
    still g.V.Volumes.disk (is_confirming c.args.letter) true c.args.landscape.now c.args.landscape.now refl

pub returns-clause-due : goal.returns-clause-due
returns-clause-due g c = λ unit named due.
    subst (λ b. OnOk c.confirm.result (Appended c.args.landscape.now c.confirm.new.landscape
    (cond b (confirmation Whole (forgot c.args.landscape.now.world unit) unit) [])))
    (sym (sym c.is_confirmed_under.ensures ∙ c.if-not-is_confirmed_under.false)) (c.confirm.ensures.due unit named due)

pub returns-clause-went : goal.returns-clause-went
returns-clause-went g c =
    wider g.V.Volumes.disk is_confirmation (is_confirming c.args.letter) (is_ok c.confirm.result) c.args.landscape.now c.confirm.new.landscape
    (confirmation-confirms c.args.letter (sym c.is_confirmed_under.ensures ∙ c.if-not-is_confirmed_under.false)) c.confirm.ensures.went
