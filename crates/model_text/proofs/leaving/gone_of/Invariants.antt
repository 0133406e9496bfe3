use Rattle.std.proofs.Common.{◌≡◌, drop}
use Rattle.dist_model.specs.Outbound.{gone, gone_behind}
use Rattle.model_text.specs.Whole.{leaves_by}
use Rattle.model_text.proofs.leaving.gone_of.Given as goal

abbrev pub invariant-loop-entry : goal.invariant-loop-entry
invariant-loop-entry l =
    gone_behind (leaves_by l.by l.definitions l.profile) l.gone (drop l.entry-index l.entries) ≡ gone (leaves_by l.by l.definitions l.profile) l.entries
