use Rattle.std.proofs.Common.{◌∙◌, sym, ap, arith}
use Rattle.std.proofs.lemmas.Option.{slice_get_within}
use Rattle.segment_defs.specs.IdocType.{IsEntry, place_in}
use Rattle.segment_defs.proofs.DefinitionsLemmas.{found-HasVersion}
use Rattle.idoc_tree.specs.Forest.{roots}
use Rattle.idoc_tree.specs.Nodes.{forest_of}
use Rattle.idoc_tree.specs.Valid.{Fits, IsOrdered}
use Rattle.idoc_tree.specs.Siblings.{siblings, has_later}
use Rattle.ale_base.proofs.ListLemmas.{AllByRecursion-at}
use Rattle.idoc_tree.proofs.FamilyLemmas.{none_later}
use Rattle.idoc_tree.proofs.SpellsLemmas.{sibling_family}
use Rattle.idoc_tree.proofs.SiblingLemmas.{AreLast-ordered}
use Rattle.idoc_tree.proofs.growing.grow.Goals as goal
use Rattle.idoc_tree.proofs.growing.grow.Goals.{After-place_of}

-- the siblings stand in order
ordered : (c : After-place_of) → IsOrdered c.args.ty.now.segments (roots (forest_of c.in-Some-siblings.among.now))
ordered c =
    let entries = c.args.ty.now.segments in
    let family = sibling_family (Fits entries) c.type_above-above.result (forest_of c.args.forest.now.items) (roots (forest_of c.in-Some-siblings.among.now))
    (sym (c.in-Some-siblings.ensures ∙ ap (λ nodes. siblings c.type_above-above.result (forest_of nodes)) c.deref.ensures.value)) c.requires.fits in
    family.ordered

pub has_later-requires : goal.has_later-requires
has_later-requires c = ordered (goal.at.has_later-requires c).After-place_of

pub is_full-requires-clause-least : goal.is_full-requires-clause-least
is_full-requires-clause-least c =
    let entries = c.args.ty.now.segments in
    let kept = AllByRecursion-at (IsEntry c.args.definitions.now) entries (place_in entries c.in-Some.found.0) c.in-Some-entry.entry.now c.requires.kept.each
    (sym c.in-Some-entry.ensures) in
    omega (arith, kept.least, kept.ordered)

pub is_full-requires-clause-last : goal.is_full-requires-clause-last
is_full-requires-clause-last c =
    let entries = c.args.ty.now.segments in
    let type = c.in-Some.found.0 in
    let among = roots (forest_of c.in-Some-siblings.among.now) in
    AreLast-ordered entries type among (slice_get_within entries (place_in entries type) c.in-Some-entry.entry.now (sym c.in-Some-entry.ensures))
    (ordered (goal.at.is_full-requires-clause-last c).After-place_of)
    (none_later entries (place_in entries type) among (sym (ap (λ place. has_later entries place among) c.place_of.ensures) ∙ sym c.has_later.ensures
    ∙ c.if-has_later.false))

pub leaf-requires-clause-exists : goal.leaf-requires-clause-exists
leaf-requires-clause-exists c =
    found-HasVersion c.args.definitions.now c.trimmed.result.now c.in-Some.found.0 c.in-Some.found.1 c.requires.definitions (sym c.in-Some.ensures.found)
