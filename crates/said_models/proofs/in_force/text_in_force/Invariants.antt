use Rattle.std.specs.Prelude.{fold}
use Rattle.std.specs.Option.{option_copied, option_or}
use Rattle.std.proofs.Common.{◌≡◌, drop}
use Rattle.said_models.specs.OfLog.{text_in_force, text_of}
use Rattle.said_models.proofs.in_force.text_in_force.Given as goal

-- with the records that are left it comes to the text in force
abbrev pub invariant-loop-next : goal.invariant-loop-next
invariant-loop-next l =
    fold (λ found next. option_or (text_of next) found) (option_copied l.found) (drop l.next-index l.log) ≡ text_in_force l.log
