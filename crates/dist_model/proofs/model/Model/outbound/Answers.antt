use Rattle.std.specs.Prelude.{option_and_then, position, slice_get}
use Rattle.std.proofs.Common.{◌≡◌, ◌<◌, length, ap, sym, ◌∙◌, arith}
use Rattle.ale_base.proofs.ListLemmas.{slice_get-within}
use Rattle.dist_model.specs.declared.row.Row.{Row}
use Rattle.dist_model.specs.Way.{outbound_ways, row_way, same_way}
use Rattle.dist_model.proofs.LookupLemmas.{profile-at, profile-within}
use Rattle.dist_model.proofs.model.Model.outbound.Goals as goal

pub index-requires : goal.index-requires
index-requires c =
    let model = c.self.inside.lists in
    let number : c.from.result ≡ c.args.row = c.from.ensures ∙ c.row.view_is in
    let less : c.args.row < length model.rows = rw c.self.view_is c.requires in
    let (row, here) = slice_get-within model.rows c.args.row less in
    let found = profile-at model.rows model.outbound c.self.inside.index.profiles c.args.row row c.index-place.result.now c.self.invariant.1.profiles here
    (ap (slice_get c.self.inside.index.profiles) (sym number) ∙ c.index-place.ensures) in
    omega (arith, c.from-2.ensures, profile-within model.outbound row c.index-place.result.now found)

pub returns : goal.returns
returns c =
    let model = c.self.inside.lists in
    let number : c.from.result ≡ c.args.row = c.from.ensures ∙ c.row.view_is in
    let less : c.args.row < length model.rows = rw c.self.view_is c.requires in
    let (row, here) = slice_get-within model.rows c.args.row less in
    let found = profile-at model.rows model.outbound c.self.inside.index.profiles c.args.row row c.index-place.result.now c.self.invariant.1.profiles here
    (ap (slice_get c.self.inside.index.profiles) (sym number) ∙ c.index-place.ensures) in
    rw (← c.self.view_is) (ap (option_and_then
    (λ (row : Row). option_and_then (slice_get model.outbound) (position (same_way (row_way row)) (outbound_ways model.outbound)))) here
    ∙ ap (option_and_then (slice_get model.outbound)) found ∙ ap (slice_get model.outbound) (sym c.from-2.ensures) ∙ c.index.ensures)
