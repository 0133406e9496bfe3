use Rattle.std.proofs.Common.{◌≡◌, ◌<◌, Some, None, arith, sym, subst}
use Rattle.std.specs.Prelude.{◌↔◌}
use Rattle.std.proofs.lemmas.Grind.{common_steps}
use Rattle.segment_defs.specs.Definitions.{versions_of}
use Rattle.segment_defs.specs.SegmentType.{newest_by, IsNewestBy}
use Rattle.segment_defs.proofs.NewestLemmas.{found-newest, none-newest}
use Rattle.segment_defs.proofs.DefinitionsLemmas.{versions_of-continued}
use Rattle.segment_defs.proofs.definitions.Definitions.newest_by.Goals as goal
use Rattle.segment_defs.proofs.definitions.Definitions.newest_by.Goals.{In-None}

is_newest : (c : In-None) → c.loop-place.newest ≡ newest_by c.args.release (versions_of c.args.self.now c.args.segment)
is_newest c = grind (arith, common_steps)

pub returns-clause-found : goal.returns-clause-found
returns-clause-found c =
    let versions = versions_of c.args.self.now c.args.segment in
    λ place. subst (λ newest. (newest ≡ Some place) ↔ IsNewestBy c.args.release versions place) (sym (is_newest c)) (found-newest c.args.release versions place)

pub returns-clause-none : goal.returns-clause-none
returns-clause-none c =
    let versions = versions_of c.args.self.now c.args.segment in
    λ first at_first. subst (λ newest. (newest ≡ None) ↔ (c.args.release < first.release)) (sym (is_newest c))
    (none-newest c.args.release versions first (versions_of-continued c.args.self.now c.args.segment c.requires.definitions) at_first)
