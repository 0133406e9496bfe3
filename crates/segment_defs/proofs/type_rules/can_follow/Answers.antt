use Rattle.std.proofs.Common.{◌≡◌, ◌-◌, ◌≤◌, ◌↔◌, true, [], length, rules}
use Rattle.segment_defs.specs.declared.limits.TheConstants.{MOST_LEVELS}
use Rattle.segment_defs.specs.IdocType.{path_behind}
use Rattle.segment_defs.proofs.TypeRuleLemmas.{can_follow-decided}
use Rattle.segment_defs.proofs.type_rules.can_follow.Goals as goal

pub returns-in-Some : goal.returns-in-Some
returns-in-Some c =
    let entries = c.args.entries.now in
    let small : (c.contains.result ≡ true) ↔ ((1 ≤ c.levels_to.result) × (c.levels_to.result ≤ MOST_LEVELS - 1)) = search rules in
    rw c.in-Some.is (can_follow-decided (length entries) c.in-Some.parent (path_behind 0 [] entries) c.contains.result
    (rw (c.levels_to.ensures, c.from.ensures) at small))
