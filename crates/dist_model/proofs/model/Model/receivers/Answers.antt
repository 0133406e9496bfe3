use Rattle.std.specs.Prelude.{IfOk, filter, slice_get}
use Rattle.std.proofs.Common.{◌≡◌, ◌<◌, ℕ, List, length, ap, subst, sym, ◌∙◌}
use Rattle.dist_model.specs.Index.{is_from, is_of}
use Rattle.dist_model.specs.Model.{places_from, receivers_of}
use Rattle.dist_model.proofs.IndexLemmas.{some_same}
use Rattle.dist_model.proofs.LookupLemmas.{receivers-found}
use Rattle.dist_model.proofs.model.Model.receivers.Goals as goal

pub returns : goal.returns
returns c =
    let model = c.self.inside.lists in
    let message = c.args.message in
    let number : c.from.result ≡ message = c.from.ensures ∙ c.message.view_is in
    let less : message < length model.messages = rw c.self.view_is c.requires in
    let places : c.index-places.result.now ≡ places_from (is_of message) 0 model.rows =
    some_same c.index-places.result.now (places_from (is_of message) 0 model.rows) (sym c.index-places.ensures ∙ ap (slice_get c.self.inside.index.rows) number
    ∙ c.self.invariant.1.rows message less) in
    let whole : filter (is_from c.as_slice.result.now c.args.sender) c.as_slice-2.result.now ≡ receivers_of c.args.sender message c.args.self.now =
    ap (λ rows. filter (is_from rows c.args.sender) c.as_slice-2.result.now) c.as_slice.ensures
    ∙ ap (filter (is_from model.rows c.args.sender)) (c.as_slice-2.ensures ∙ places)
    ∙ receivers-found c.args.sender message model.rows ∙ ap (receivers_of c.args.sender message) c.self.view_is in
    subst (λ (v : List ℕ). IfOk c.rows_from.result (λ found. found ≡ v)) whole c.rows_from.ensures
