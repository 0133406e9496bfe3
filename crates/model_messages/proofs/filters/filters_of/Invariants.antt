use Rattle.std.proofs.Common.{◌≡◌, List, [], drop}
use Rattle.toml.specs.Data.{Data}
use Rattle.toml.specs.View.{items_view}
use Rattle.dist_model.specs.declared.filter.Filter.{Filter}
use Rattle.model_keys.specs.Each.{each}
use Rattle.model_messages.specs.Filters.{filter_of}
use Rattle.model_messages.specs.declared.keys.TheConstants.{FILTER}
use Rattle.model_messages.proofs.filters.filters_of.Given as goal

abbrev pub invariant-loop-place : goal.invariant-loop-place
invariant-loop-place l =
    let read = λ (done : List Filter) (d : Data). filter_of l.definitions l.types l.messages.things.now done d in
    each FILTER.now read l.place l.filters (items_view (drop l.place l.values)) ≡ each FILTER.now read 0 [] (items_view l.values)
