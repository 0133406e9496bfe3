use Rattle.std.proofs.Common.{◌≡◌, ℕ, List, length, sym, ap, subst, ◌∙◌, arith}
use Rattle.std.proofs.lemmas.Result.{IfOk-weaker}
use Rattle.idoc_tree.specs.declared.node.Node.{Node}
use Rattle.idoc_tree.specs.Forest.{preorder}
use Rattle.idoc_tree.specs.Nodes.{forest_of}
use Rattle.idoc_reading.specs.Reading.{IsReadingOf}
use Rattle.listings.specs.steps.Levels.{LevelsWithin}
use Rattle.listings.proofs.LevelLemmas.{levels-within}
use Rattle.listings.proofs.places.places_by.Goals as goal

-- how many segments some nodes are
abbrev size : List Node → ℕ
size nodes = length (preorder (forest_of nodes))

pub places_in-requires-clause-few : goal.places_in-requires-clause-few
places_in-requires-clause-few c =
    let known = subst (IsReadingOf c.args.model.now _ c.as_slice-records.result.now) c.in-Read.is c.in_ok-reading.ensures.known in
    omega (arith, known.each, ap length c.as_slice-records.ensures, ap size c.as_slice-nodes.ensures.value, c.requires)

pub places_in-requires-clause-levels : goal.places_in-requires-clause-levels
places_in-requires-clause-levels c =
    let known = subst (IsReadingOf c.args.model.now _ c.as_slice-records.result.now) c.in-Read.is c.in_ok-reading.ensures.known in
    subst (λ (nodes : List Node). LevelsWithin 1 (forest_of nodes)) (sym c.as_slice-nodes.ensures.value)
    (levels-within c.args.model.now.definitions _ _ known.entries known.of_entries.hangs)

pub returns-in-Read-clause-each : goal.returns-in-Read-clause-each
returns-in-Read-clause-each c =
    let known = subst (IsReadingOf c.args.model.now _ c.as_slice-records.result.now) c.in-Read.is c.in_ok-reading.ensures.known in
    IfOk-weaker c.places_in.result _ _ (λ places each. each ∙ ap size c.as_slice-nodes.ensures.value ∙ known.each ∙ ap length c.as_slice-records.ensures)
    c.places_in.ensures.each
