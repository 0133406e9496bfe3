use Rattle.std.proofs.Common.{◌∙◌}
use Rattle.toml.specs.View.{table_view, items_view}
use Rattle.dist_model.specs.Message.{AreReduced}
use Rattle.model_keys.specs.Says.{SaysListOrNone}
use Rattle.model_messages.specs.declared.keys.TheConstants.{REDUCED}
use Rattle.model_messages.specs.Reduced.{all_reduced_of}
use Rattle.model_messages.specs.Says.{SaysReduced}
use Rattle.model_messages.proofs.ReducedRules.{reduced_at-keeps, reduced_at-list, reduced_at-says}
use Rattle.model_messages.proofs.ThingLemmas.{given-holds}
use Rattle.model_messages.proofs.reduced.reduced_at.Goals as goal

pub returns-clause-kept : goal.returns-clause-kept
returns-clause-kept c =
    let definitions = c.args.definitions.now in
    let types = c.args.types.now in
    let messages = c.args.messages.now.things.now in
    let table = table_view c.args.table.now in
    let ds = items_view c.in_ok-values.values.now in
    given-holds (all_reduced_of definitions types messages ds) (AreReduced definitions types messages)
    (λ all is. reduced_at-keeps definitions types messages table all c.requires.apart
    (reduced_at-list definitions types messages table ds c.in_ok-values.ensures.given ∙ is))
    c.all_reduced_of.result c.all_reduced_of.ensures.given

pub returns-clause-entries : goal.returns-clause-entries
returns-clause-entries c =
    let definitions = c.args.definitions.now in
    let types = c.args.types.now in
    let messages = c.args.messages.now.things.now in
    let table = table_view c.args.table.now in
    let ds = items_view c.in_ok-values.values.now in
    given-holds (all_reduced_of definitions types messages ds) (SaysListOrNone (SaysReduced definitions messages) REDUCED.now table)
    (λ all is. reduced_at-says definitions types messages table all (reduced_at-list definitions types messages table ds c.in_ok-values.ensures.given ∙ is))
    c.all_reduced_of.result c.all_reduced_of.ensures.given
