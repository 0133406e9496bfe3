use Rattle.std.specs.List.{AllByRecursion}
use Rattle.std.proofs.Common.{◌+◌, ◌++◌, List, suc, drop, length, sym, ap, subst, ◌∙◌, arith}
use Rattle.idoc_record.specs.declared.place.Place.{Place}
use Rattle.listings.specs.Places.{root_places}
use Rattle.listings.specs.Places.{HasDigits}
use Rattle.listings.proofs.PlaceLemmas.{root-digits, root-each, root-end, root-step}
use Rattle.listings.proofs.places.root_places.Goals as goal

pub loop-at-preserved : goal.loop-at-preserved
loop-at-preserved c =
    let records = c.args.records.now in
    let at = c.loop-at.at in
    ap (λ (ps : List Place). ps ++ root_places (suc (at + 1)) (drop (at + 1) records)) c.in_ok-push.ensures.ok
    ∙ root-step c.loop-at.places at (at + 1) records (omega arith) (omega arith) c.loop-at.invariant

pub returns-clause-each : goal.returns-clause-each
returns-clause-each c =
    ap length (root-end c.loop-at.places c.loop-at.at c.args.records.now (omega arith) c.loop-at.invariant) ∙ root-each 1 c.args.records.now

pub returns-clause-digits : goal.returns-clause-digits
returns-clause-digits c =
    subst (AllByRecursion HasDigits) (sym (root-end c.loop-at.places c.loop-at.at c.args.records.now (omega arith) c.loop-at.invariant))
    (root-digits 1 c.args.records.now (omega (arith, c.requires)))
