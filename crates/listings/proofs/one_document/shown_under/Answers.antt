use Rattle.std.specs.List.{AllByRecursion}
use Rattle.std.proofs.Common.{◌≡◌, List, map, sym, ap, subst, ◌∙◌}
use Rattle.idoc_record.specs.declared.place.Place.{Place}
use Rattle.status_log.specs.declared.line.SegmentLine.{SegmentLine}
use Rattle.listings.specs.OneDocument.{placed_lines}
use Rattle.listings.specs.Places.{HasDigits}
use Rattle.listings.proofs.LineLemmas.{placed-fits, placed-whole}
use Rattle.listings.proofs.one_document.shown_under.Goals as goal
use Rattle.listings.proofs.one_document.shown_under.Goals.{In_ok-control}

all_lines : (c : In_ok-control) → c.in_ok-lines.lines ≡ placed_lines c.in_ok-places.places c.args.document.now.segments
all_lines c =
    c.in_ok-lines.ensures ∙ ap (λ (places : List Place). placed_lines places c.as_slice-2.result.now) c.as_slice.ensures
    ∙ ap (placed_lines c.in_ok-places.places) c.as_slice-2.ensures

pub returns-clause-whole : goal.returns-clause-whole
returns-clause-whole c =
    ap (λ (lines : List SegmentLine). map (λ (one : SegmentLine). one.line) lines) (all_lines (goal.at.returns-clause-whole c).In_ok-control)
    ∙ placed-whole c.in_ok-places.places c.args.document.now.segments c.in_ok-places.ensures.each

pub returns-clause-placed : goal.returns-clause-placed
returns-clause-placed c =
    subst (AllByRecursion (λ (one : SegmentLine). HasDigits one.place)) (sym (all_lines (goal.at.returns-clause-placed c).In_ok-control))
    (placed-fits c.in_ok-places.places c.args.document.now.segments c.in_ok-places.ensures.digits)
