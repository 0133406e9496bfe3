use Rattle.std.proofs.Common.{◌≡◌, ◌≤◌, ◌*◌, length}
use Rattle.ale_host.specs.Load.{documents}
use Rattle.ale_host.proofs.load_documents.load_documents.Given as goal

abbrev pub invariant-loop-place : goal.invariant-loop-place
invariant-loop-place l = (l.text.items ≡ documents l.place) × (length l.text.items ≤ 200 * l.place)
