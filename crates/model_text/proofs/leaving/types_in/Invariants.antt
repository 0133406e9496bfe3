use Rattle.std.proofs.Common.{◌≡◌, ℕ, nat_eq, take}
use Rattle.std.specs.List.{list_any}
use Rattle.model_text.proofs.leaving.types_in.Given as goal

abbrev pub invariant-loop-segment : goal.invariant-loop-segment
invariant-loop-segment l = (segment : ℕ) → list_any (nat_eq segment) l.types ≡ list_any (nat_eq segment) (take l.segment-index l.segments)
