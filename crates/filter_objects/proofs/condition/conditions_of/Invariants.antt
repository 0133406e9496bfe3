use Rattle.std.specs.List.{list_all}
use Rattle.std.proofs.Common.{◌≡◌, ◌&&◌, drop}
use Rattle.idoc_tree.specs.Forest.{Segment}
use Rattle.filter_objects.specs.FromLeaves.{meets}
use Rattle.filter_objects.specs.steps.Conditions.{suits_all}
use Rattle.filter_objects.proofs.condition.conditions_of.Given as goal

abbrev pub invariant-loop-choice : goal.invariant-loop-choice
invariant-loop-choice l =
    (segment : Segment) → (suits_all l.model.definitions l.conditions.items segment
    && list_all (meets l.model segment) (drop l.choice-index l.fn.group.choices))
    ≡ list_all (meets l.model segment) l.fn.group.choices
