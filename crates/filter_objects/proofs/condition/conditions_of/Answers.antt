use Rattle.std.specs.Prelude.{slice_get}
use Rattle.std.specs.List.{list_all}
use Rattle.std.specs.Option.{option_copied}
use Rattle.std.proofs.Common.{◌≡◌, ◌+◌, ◌&&◌, ◌∷◌, drop, refl, ap, subst, sym, ◌∙◌}
use Rattle.idoc_tree.proofs.NodeLemmas.{drop-here}
use Rattle.filter_objects.specs.FromLeaves.{meets}
use Rattle.filter_objects.specs.steps.Conditions.{HasSame, suits_all}
use Rattle.filter_objects.proofs.PassingLemmas.{suits-push, meets-none}
use Rattle.filter_objects.proofs.condition.conditions_of.Goals as goal
use Rattle.filter_objects.proofs.condition.conditions_of.Goals.{in-Some+in_ok-values+in_ok-push, in_default}

pub loop-choice-preserved : goal.loop-choice-preserved
loop-choice-preserved c = λ segment.
    let model = c.args.model.now in
    let choices = c.args.group.now.choices in
    let at = c.loop-choice.choice-index in
    let choice = c.choice-item.result in
    let old = c.loop-choice.conditions.items in
    let rest = drop (at + 1) choices in
    let met = list_all (meets model segment) in
    let here = subst (λ cs. drop at cs ≡ choice ∷ drop (at + 1) cs) c.as_slice-choice-items.ensures
    (drop-here c.as_slice-choice-items.result.now at choice c.loop-choice-test.true c.choice-item.is) in
    let onward = ap (λ cs. suits_all model.definitions old segment && met cs) (sym here) ∙ c.loop-choice.invariant segment in
    let found : slice_get model.filters choice.filter ≡ option_copied c.get.result = ap (slice_get model.filters) (sym c.from.ensures) ∙ sym c.get.ensures in
    elim c.match-get.branch [
      | in-Some+in_ok-values+in_ok-push w ↦
          ap (λ v. suits_all model.definitions v.items segment && met rest) w.conditions-is
          ∙ ap (λ items. suits_all model.definitions items segment && met rest) w.in_ok-push.ensures.items
          ∙ suits-push model segment old (record { segment = w.in-Some.filter.now.segment; field = w.in-Some.filter.now.field; values = w.in_ok-values.values })
          choice w.in-Some.filter.now rest
          (found ∙ ap option_copied w.in-Some.is) refl refl
          (subst (HasSame w.in_ok-values.values) w.as_slice.ensures w.in_ok-values.ensures)
          ∙ onward
      | in_default w ↦
          ap (λ v. suits_all model.definitions v.items segment && met rest) w.conditions-is
          ∙ meets-none model segment old choice rest (found ∙ ap option_copied w.in_default.is)
          ∙ onward
    ]
