use Rattle.std.proofs.Common.{true, refl, cond, [], sym, subst, ◌∙◌}
use Rattle.std.specs.Prelude.{OnOk}
use Rattle.unit_works.specs.declared.letter.Letter.TheVariants.{Whole}
use Rattle.unit_works.specs.Trips.{Appended, confirmation, forgot}
use Rattle.unit_works.specs.Events.{is_confirmation}
use Rattle.unit_works.proofs.WorkedLemmas.{still}
use Rattle.unit_works.proofs.confirming.confirm_sent.Goals as goal

pub returns-then-not-is_sent_under-clause-went : goal.returns-then-not-is_sent_under-clause-went
returns-then-not-is_sent_under-clause-went g c = still g.V.Volumes.disk is_confirmation true c.args.landscape.now c.args.landscape.now refl

pub returns-clause-due : goal.returns-clause-due
returns-clause-due g c = λ unit named due.
    subst (λ b. OnOk c.confirm.result (Appended c.args.landscape.now c.confirm.new.landscape
    (cond b (confirmation Whole (forgot c.args.landscape.now.world unit) unit) [])))
    (sym (sym c.is_sent_under.ensures ∙ c.if-not-is_sent_under.false)) (c.confirm.ensures.due unit named due)
