use Rattle.std.proofs.Common.{◌≡◌, drop}
use Rattle.dist_model.specs.Way.{outbound_ways}
use Rattle.model_text.specs.Checked.{checked}
use Rattle.model_text.specs.Profiled.{all_profiled, profiled}
use Rattle.model_text.specs.declared.keys.TheConstants.{ROW}
use Rattle.model_text.proofs.profiled.all_profiled.Given as goal

abbrev pub invariant-loop-place : goal.invariant-loop-place
invariant-loop-place l =
    checked ROW.now (profiled (outbound_ways l.profiles)) l.place (drop l.place l.rows) ≡ all_profiled l.profiles l.rows
