use Rattle.std.proofs.Common.{rules, sym, ap, ◌∙◌, subst, ◌-◌, [], ◌∷◌, ◌++◌, set, take}
use Rattle.worked_cases.specs.Held.{AreHeld}
use Rattle.worked_cases.proofs.HeldLemmas.{AreHeld-snoc, take_item}
use Rattle.worked_cases.proofs.held.made_to_hold.Goals as goal

pub loop-holding-preserved : goal.loop-holding-preserved
loop-holding-preserved c =
    let now = c.loop-holding in
    let holding = c.holding-item.result in
    let bytes = c.in_ok-bytes.bytes in
    let start = c.args.start.now in
    let place = c.from.ensures ∙ ap (λ n. n - 1) c.get.ensures.number in
    let before = take now.holding-index c.args.holds.now in
    let more = AreHeld-snoc start now.contents before holding bytes now.invariant.held c.in_ok-bytes.ensures in
    let taken = take_item c.args.holds.now now.holding-index holding c.loop-holding-test.true c.holding-item.is in
    record {
      volumes = search rules;
      held = subst (λ holds. AreHeld start holds (set now.contents c.from.result bytes)) (sym taken)
          (subst (λ n. AreHeld start (before ++ holding ∷ []) (set now.contents n bytes)) (sym place) more);
    }
