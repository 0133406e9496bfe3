use Rattle.std.specs.List.{AllByRecursion}
use Rattle.std.proofs.Common.{◌≡◌, length, sym, ap, subst, ◌++◌, suc, ◌∙◌, List, arith}
use Rattle.idoc_record.specs.declared.place.Place.{Place}
use Rattle.idoc_tree.specs.Nodes.{forest_of}
use Rattle.listings.specs.Places.{places_in}
use Rattle.listings.specs.Places.{HasDigits}
use Rattle.listings.proofs.PlaceLemmas.{places-digits, places-each}
use Rattle.listings.proofs.places.places_in.Goals as goal
use Rattle.listings.proofs.places.places_in.Goals.{In_ok-push_places}

all_places : (c : In_ok-push_places) → c.push_places.new.places ≡ places_in 1 0 1 (forest_of c.args.nodes.now)
all_places c =
    let forest = forest_of c.args.nodes.now in
    c.in_ok-push_places.ensures ∙ ap (λ (ps : List Place). ps ++ places_in (suc (length ps)) 0 1 forest) c.new-places.ensures

pub returns-clause-each : goal.returns-clause-each
returns-clause-each c = ap length (all_places (goal.at.returns-clause-each c).In_ok-push_places) ∙ places-each 1 0 1 (forest_of c.args.nodes.now)

pub returns-clause-digits : goal.returns-clause-digits
returns-clause-digits c =
    subst (AllByRecursion HasDigits) (sym (all_places (goal.at.returns-clause-digits c).In_ok-push_places))
    (places-digits 1 0 1 (forest_of c.args.nodes.now) (omega (arith, c.requires.few)) (omega arith) c.requires.levels)
