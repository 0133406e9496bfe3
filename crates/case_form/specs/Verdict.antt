-- What fits, and when a case passes.
use Rattle.std.specs.Prelude.{ℕ, Bool, true, false, ◌&&◌, not, List, ◌==◌, nat_eq, length}
use Rattle.std.specs.List.{list_all, starts_with, ends_with}
use Rattle.std.specs.Cmp.Lexicographic.{pointwise}
use Rattle.case_form.specs.declared.verdict.Relation.{Relation}
use Rattle.case_form.specs.declared.verdict.Relation.TheVariants.{Whole, FrontOf, First, Last}
use Rattle.case_form.specs.declared.verdict.Comparison.{Comparison}
use Rattle.case_form.specs.declared.verdict.Step.{Step}
use Rattle.case_form.specs.declared.verdict.Outcome.{Outcome}
use Rattle.case_form.specs.declared.verdict.Outcome.TheVariants.{Malformed, Steps}

-- the text that was found stands in this relation to the one that is expected
abbrev pub stands_so : Relation → List ℕ → List ℕ → Bool
stands_so Whole expected found = pointwise nat_eq found expected
stands_so FrontOf expected found = starts_with nat_eq expected found
stands_so First expected found = starts_with nat_eq found expected
stands_so Last expected found = ends_with nat_eq found expected

-- what was found is as expected
abbrev pub fits : Comparison → Bool
fits comparison = stands_so comparison.relation comparison.expected comparison.found

-- all that a step found is as expected
abbrev pub all_fit : Step → Bool
all_fit step = list_all fits step.comparisons

-- one of both, and not both
abbrev pub differ : Bool → Bool → Bool
differ true b = not b
differ false b = b

-- all fits, or the step is marked and something differs
abbrev pub is_as_marked : Step → Bool
is_as_marked step = differ (all_fit step) step.differs

-- there is a step, and each is as it is marked
abbrev pub are_as_marked : List Step → Bool
are_as_marked steps = not (length steps == 0) && list_all is_as_marked steps

-- the case is well-formed, and its steps are as they are marked
abbrev pub passes : Outcome → Bool
passes (Malformed line rule) = false
passes (Steps steps) = are_as_marked steps

-- how many steps were made
abbrev pub steps_of : Outcome → ℕ
steps_of (Malformed line rule) = 0
steps_of (Steps steps) = length steps
