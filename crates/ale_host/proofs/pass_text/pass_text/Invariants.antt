use Rattle.std.proofs.Common.{◌≡◌, ◌+◌, ◌++◌, drop}
use Rattle.ale_host.specs.PassText.{lines_from, pass_text}
use Rattle.ale_host.proofs.pass_text.pass_text.Given as goal

abbrev pub invariant-loop-document : goal.invariant-loop-document
invariant-loop-document l = (l.number ≡ l.document-index + 1) ×
    (l.text.items ++ lines_from l.number (drop l.document-index l.documents) ≡ pass_text l.documents)
