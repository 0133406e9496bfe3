use Rattle.std.proofs.Common.{sym, ◌∙◌}
use Rattle.std.proofs.lemmas.Bool.{false≢true}
use Rattle.std.specs.List.{IsDistinct}
use Rattle.segment_defs.proofs.type_rules.names_differ.Goals as goal

pub returns-then-is_no_version : goal.returns-then-is_no_version
unfolding IsDistinct
returns-then-is_no_version c =
    let no_version = rw c.as_slice-versions.ensures at c.is_no_version.ensures in
    let different = rw c.as_slice-versions.ensures at c.versions_differ.ensures in
    (λ true. (no_version.0 c.if-is_no_version.true, different.0 true), λ whole. different.1 whole.1)

pub returns-else-is_no_version : goal.returns-else-is_no_version
unfolding IsDistinct
returns-else-is_no_version c =
    let no_version = rw c.as_slice-versions.ensures at c.is_no_version.ensures in
    (λ true. absurd (false≢true (sym c.if-is_no_version.false ∙ true)), λ whole. no_version.1 whole.0)
