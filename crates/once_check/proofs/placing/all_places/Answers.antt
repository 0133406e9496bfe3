use Rattle.std.specs.Borrow.{Bor}
use Rattle.std.proofs.Common.{◌≡◌, ◌+◌, ◌∷◌, ◌++◌, [], ℕ, List, take, ap, sym, subst, ◌∙◌, arith}
use Rattle.std.proofs.lemmas.List.{take_more, take_all, map_push}
use Rattle.unit_core.specs.declared.ale_unit.AleUnit.{AleUnit}
use Rattle.unit_core.specs.Systems.{lent}
use Rattle.once_check.specs.steps.Places.{ArePlacesOf}
use Rattle.once_check.proofs.SystemsLemmas.{AreMadeOf, AreMadeOf-more}
use Rattle.once_check.proofs.PlacesLemmas.{AreAllPlacesOf-each}
use Rattle.once_check.proofs.placing.all_places.Goals as goal

pub loop-units-preserved : goal.loop-units-preserved
loop-units-preserved c =
    let i = c.loop-units.units-index in
    let committed = c.args.committed.now in
    let units : Bor (List AleUnit) = c.units-item.result in
    let more : take (i + 1) committed ≡ take i committed ++ units ∷ [] = take_more committed i units (omega arith)
    ∙ ap (λ (us : Bor (List AleUnit)). take i committed ++ us ∷ []) (sym c.units-item.is) in
    let whole : lent (take (i + 1) committed) ≡ lent (take i committed) ++ units.now ∷ [] =
    ap lent more ∙ map_push (λ (us : Bor (List AleUnit)). us.now) (take i committed) units in
    subst (λ (lists : List (List AleUnit)). AreMadeOf ArePlacesOf lists c.push.new.self) (sym whole)
    (subst (λ (all : List (List (List ℕ))). AreMadeOf ArePlacesOf (lent (take i committed) ++ units.now ∷ []) all) (sym c.in_ok-push.ensures.ok)
    (AreMadeOf-more ArePlacesOf (lent (take i committed)) c.loop-units.all units.now c.in_ok-places_in.field-0 c.loop-units.invariant c.in_ok-places_in.ensures))

pub returns : goal.returns
returns c =
    AreAllPlacesOf-each (lent c.args.committed.now) c.loop-units.all
    (subst (λ (lists : List (Bor (List AleUnit))). AreMadeOf ArePlacesOf (lent lists) c.loop-units.all)
    (take_all c.loop-units.units-index c.args.committed.now (omega arith)) c.loop-units.invariant)
