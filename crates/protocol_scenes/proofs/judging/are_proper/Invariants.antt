use Rattle.std.proofs.Common.{All, take}
use Rattle.log_tables.specs.Read.{IsProper}
use Rattle.protocol_scenes.proofs.judging.are_proper.Given as goal

-- the records so far are proper
abbrev pub invariant-loop-next : goal.invariant-loop-next
invariant-loop-next l = All IsProper (take l.next-index l.log)
