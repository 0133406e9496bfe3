use Rattle.std.proofs.Common.{◌≡◌, ◌<◌, ◌^◌, true, take}
use Rattle.std.specs.Char.{is_ascii_digit}
use Rattle.std.specs.List.{list_all}
use Rattle.ale_base.specs.Decimal.{decimal_value}
use Rattle.ale_host.proofs.words.count_in.Given as goal

abbrev pub invariant-loop-digit : goal.invariant-loop-digit
invariant-loop-digit l = (l.number < 10 ^ l.digit-index) × (l.number ≡ decimal_value (take l.digit-index l.text)) ×
    (list_all is_ascii_digit (take l.digit-index l.text) ≡ true)
