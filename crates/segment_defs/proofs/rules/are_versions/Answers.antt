use Rattle.std.proofs.Common.{◌≤◌, length, arith}
use Rattle.std.specs.List.{AllByRecursion}
use Rattle.std.proofs.lemmas.Grind.{common_steps}
use Rattle.segment_defs.specs.declared.limits.TheConstants.{MOST_VERSIONS}
use Rattle.segment_defs.specs.Version.{IsVersion}
use Rattle.segment_defs.proofs.rules.are_versions.Goals as goal

pub returns-then-are_valid_versions : goal.returns-then-are_valid_versions
returns-then-are_valid_versions c =
    let versions = c.args.versions.now in
    let known : (1 ≤ length versions) × (length versions ≤ MOST_VERSIONS) × AllByRecursion IsVersion versions = grind (arith, common_steps) in (
      λ true. (known.0, known.1, known.2, c.continue_each_other.ensures.0 true),
      λ are. c.continue_each_other.ensures.1 are.3,
    )
