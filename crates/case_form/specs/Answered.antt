-- What comes of a case whose items are answered one after another.
use Rattle.std.specs.Prelude.{◌≡◌, ◌⊎◌, ℕ, Bool, true, false, not, List, [], ◌∷◌, ◌++◌, Ok, Err, map}
use Rattle.std.specs.List.{AllZip, Contains, filter}
use Rattle.std.specs.Bool.{⊤}
use Rattle.case_form.specs.declared.item.Item.{Item}
use Rattle.case_form.specs.declared.rule.Rule.{Rule}
use Rattle.case_form.specs.declared.rule.CaseFault.{CaseFault}
use Rattle.case_form.specs.declared.rule.CaseFault.TheVariants.{Malformed as BrokenAt, OutOfMemory}
use Rattle.case_form.specs.declared.verdict.Step.{Step}
use Rattle.case_form.specs.declared.verdict.Outcome.{Outcome}
use Rattle.case_form.specs.declared.verdict.Outcome.TheVariants.{Malformed, Steps}
use Rattle.case_form.specs.Made.{IsStepOf}
use Rattle.case_form.specs.Items.{block_read, file_read, seen}

-- the step is that of an item which found a text that it may find
abbrev pub IsAnswerOf : (Item → List ℕ → Type 0) → Item → Step → Type 0
IsAnswerOf finds item step = (found : List ℕ) × finds item found × IsStepOf item found step

-- the item's word sets nothing up: it is a step
abbrev pub is_step : (List ℕ → Bool) → Item → Bool
is_step sets_up item = not (sets_up item.word.items)

-- each item that is a step has its step, in order, and there is no other
abbrev pub AreAnswered : (List ℕ → Bool) → (Item → List ℕ → Type 0) → List Item → List Step → Type 0
AreAnswered sets_up finds items steps = AllZip (IsAnswerOf finds) (filter (is_step sets_up) items) steps

-- what one more item adds to the steps: its step, or nothing where its word sets something up
abbrev pub Follows : (Item → List ℕ → Type 0) → Bool → Item → List Step → List Step → Type 0
Follows finds true item before after = after ≡ before
Follows finds false item before after = (step : Step) × IsAnswerOf finds item step × (after ≡ before ++ step ∷ [])

-- this line breaks this rule: it is the item's, or the first of its block that breaks one
abbrev pub IsBrokenAt : Item → ℕ → Rule → Type 0
IsBrokenAt item line rule = (line ≡ item.line) ⊎ (block_read item.block.items ≡ Err (record { line = line; rule = rule.0.now }))

-- the item breaks a rule so, or memory ran out
abbrev pub IsEndAt : Item → CaseFault → Type 0
IsEndAt item (BrokenAt line rule) = IsBrokenAt item line rule
IsEndAt item OutOfMemory = ⊤

-- one of the items breaks a rule so, or memory ran out
abbrev pub IsEndIn : List Item → CaseFault → Type 0
IsEndIn items (BrokenAt line rule) = (item : Item) × Contains items item × IsBrokenAt item line rule
IsEndIn items OutOfMemory = ⊤

-- Each item of the file that is a step has its step, in order; a rule is told of the first line that breaks one of the form, or, of a
-- file that has items, at one of them.
abbrev pub IsAnswered : (List ℕ → Bool) → (Item → List ℕ → Type 0) → List ℕ → List ℕ → Outcome → Type 0
IsAnswered sets_up finds file bytes (Steps steps) =
    (items : List Item) × (file_read file bytes ≡ Ok (map seen items)) × AreAnswered sets_up finds items steps
IsAnswered sets_up finds file bytes (Malformed line rule) =
    (file_read file bytes ≡ Err (record { line = line; rule = rule.0.now }))
    ⊎ ((items : List Item) × (file_read file bytes ≡ Ok (map seen items)) × IsEndIn items (BrokenAt line rule))
