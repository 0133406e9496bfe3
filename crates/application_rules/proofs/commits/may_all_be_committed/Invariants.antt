use Rattle.std.specs.List.{list_all}
use Rattle.std.proofs.Common.{◌≡◌, drop}
use Rattle.application_rules.specs.Commits.{may_be_committed}
use Rattle.application_rules.proofs.commits.may_all_be_committed.Given as goal

-- what is left decides
abbrev pub invariant-loop-doc : goal.invariant-loop-doc
invariant-loop-doc l = list_all (may_be_committed l.model) (drop l.doc-index l.docs) ≡ list_all (may_be_committed l.model) l.docs
