use Rattle.std.proofs.Common.{◌≡◌, ◌<◌, ◌^◌, take}
use Rattle.ale_base.specs.Hexadecimal.{number_of}
use Rattle.ale_base.proofs.hexadecimal.number_of.Given as goal

abbrev pub invariant-loop-digit : goal.invariant-loop-digit
invariant-loop-digit l = (l.number < 16 ^ l.digit-index) × (l.number ≡ number_of (take l.digit-index l.digits))
