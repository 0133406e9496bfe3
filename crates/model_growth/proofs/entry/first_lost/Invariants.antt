use Rattle.std.specs.Prelude.{not, position}
use Rattle.std.specs.List.{list_any, position_from}
use Rattle.std.proofs.Common.{◌≡◌, drop}
use Rattle.model_growth.proofs.entry.first_lost.Given as goal

-- the first that is lost among those left, by its place among all
abbrev pub invariant-loop-place : goal.invariant-loop-place
invariant-loop-place g l =
    let lost = λ (entry : _). not (list_any (g.E.Entry.keeps l.old l.new entry) l.others) in
    position lost l.entries ≡ position_from lost l.place (drop l.place l.entries)
