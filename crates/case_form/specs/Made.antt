-- Steps and outcomes as programs make them.
use Rattle.std.specs.Prelude.{◌≡◌, ℕ, Bool, List, [], ◌∷◌, Result, Ok, Err}
use Rattle.case_form.specs.declared.item.Item.{Item}
use Rattle.case_form.specs.declared.rule.CaseFault.{CaseFault}
use Rattle.case_form.specs.declared.rule.CaseFault.TheVariants.{Malformed as BrokenAt, OutOfMemory}
use Rattle.case_form.specs.declared.verdict.Relation.TheVariants.{Whole}
use Rattle.case_form.specs.declared.verdict.Step.{Step}
use Rattle.case_form.specs.declared.verdict.Outcome.{Outcome}
use Rattle.case_form.specs.declared.verdict.Outcome.TheVariants.{Malformed, Steps}
use Rattle.case_form.specs.Items.{block_read}

-- the step of an item, which compares the whole text that was found with the one that its block stands for
pub record IsStepOf (item : Item) (found : List ℕ) (step : Step) : Type 0 where
  pub what : List ℕ
  pub expected : List ℕ
  pub stands_for : block_read item.block.items ≡ Ok expected
  pub is :
      step
      ≡ record {
        line = item.line;
        differs = item.differs;
        comparisons = record { what = what; relation = Whole; expected = expected; found = found } ∷ [];
      }

-- the step of an item at this line whose block is no case: it compares what is expected to be told with what was told
pub record IsBrokenStepOf (line : ℕ) (differs : Bool) (expected : List ℕ) (step : Step) : Type 0 where
  pub what : List ℕ
  pub found : List ℕ
  pub is : step ≡ record { line = line; differs = differs; comparisons = record { what = what; relation = Whole; expected = expected; found = found } ∷ [] }

-- what came of a case whose steps were made, or which is malformed
abbrev pub IsOutcomeOf : Result (List Step) CaseFault → Outcome → Type 0
IsOutcomeOf (Ok steps) outcome = outcome ≡ Steps steps
IsOutcomeOf (Err (BrokenAt line rule)) outcome = outcome ≡ Malformed line rule
IsOutcomeOf (Err OutOfMemory) outcome = ⊥
