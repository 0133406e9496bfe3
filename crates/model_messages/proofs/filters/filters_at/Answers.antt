use Rattle.std.proofs.Common.{◌∙◌}
use Rattle.toml.specs.View.{table_view, items_view}
use Rattle.dist_model.specs.Filter.{AreFilters}
use Rattle.model_keys.specs.Says.{SaysListOrNone}
use Rattle.model_messages.specs.declared.keys.TheConstants.{FILTER}
use Rattle.model_messages.specs.Filters.{filters_of}
use Rattle.model_messages.specs.Says.{SaysFilter}
use Rattle.model_messages.proofs.FilterRules.{filters_at-keeps, filters_at-list, filters_at-says}
use Rattle.model_messages.proofs.ThingLemmas.{given-holds}
use Rattle.model_messages.proofs.filters.filters_at.Goals as goal

pub returns-clause-kept : goal.returns-clause-kept
returns-clause-kept c =
    let definitions = c.args.definitions.now in
    let types = c.args.types.now in
    let messages = c.args.messages.now.things.now in
    let table = table_view c.args.table.now in
    let ds = items_view c.in_ok-values.values.now in
    given-holds (filters_of definitions types messages ds) (AreFilters definitions types messages)
    (λ all is. filters_at-keeps definitions types messages table all (filters_at-list definitions types messages table ds c.in_ok-values.ensures.given
    ∙ is))
    c.filters_of.result c.filters_of.ensures

pub returns-clause-entries : goal.returns-clause-entries
returns-clause-entries c =
    let definitions = c.args.definitions.now in
    let types = c.args.types.now in
    let messages = c.args.messages.now.things.now in
    let table = table_view c.args.table.now in
    let ds = items_view c.in_ok-values.values.now in
    given-holds (filters_of definitions types messages ds) (SaysListOrNone (SaysFilter definitions messages) FILTER.now table)
    (λ all is. filters_at-says definitions types messages table all (filters_at-list definitions types messages table ds c.in_ok-values.ensures.given ∙ is))
    c.filters_of.result c.filters_of.ensures
