use Rattle.std.proofs.Common.{◌≡◌, take}
use Rattle.model_text.specs.Whole.{leaves_by, missed_with}
use Rattle.model_text.proofs.leaving.missed_in.Given as goal

abbrev pub invariant-loop-entry : goal.invariant-loop-entry
invariant-loop-entry l =
    l.segments ≡ missed_with (leaves_by l.by l.definitions l.profile) l.gone (take l.entry-index l.entries)
