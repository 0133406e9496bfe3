use Rattle.std.proofs.Common.{◌≡◌, ◌++◌, drop}
use Rattle.std.specs.List.{flat_map}
use Rattle.std.specs.Prelude.{ℕ, codes}
use Rattle.std.specs.Fmt.{decimal}
use Rattle.report_text.proofs.joining.put_more_numbers.Given as goal

abbrev pub invariant-loop-number : goal.invariant-loop-number
invariant-loop-number l =
    l.text.items ++ flat_map (λ (n : ℕ). codes " " ++ decimal n) (drop l.number-index l.numbers)
    ≡ l.initial.text.items ++ flat_map (λ (n : ℕ). codes " " ++ decimal n) l.numbers
