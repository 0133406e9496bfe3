use Rattle.std.proofs.Common.{take}
use Rattle.document_state.specs.steps.Replaying.{IsReplayOf}
use Rattle.document_state.proofs.model_rules.ModelRules.replayed.Given as goal

abbrev pub invariant-loop-place : goal.invariant-loop-place
invariant-loop-place l = IsReplayOf (take l.place l.log) l.replay
