use Rattle.std.proofs.Common.{◌≡◌, ◌++◌}
use Rattle.ale_host.specs.Load.{commands}
use Rattle.ale_host.proofs.load_script.put_commands.Given as goal

abbrev pub invariant-loop-place : goal.invariant-loop-place
invariant-loop-place l = l.text.items ≡ l.initial.text.items ++ commands l.place
