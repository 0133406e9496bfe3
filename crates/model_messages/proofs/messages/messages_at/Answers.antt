use Rattle.std.proofs.Common.{◌∙◌}
use Rattle.toml.specs.View.{table_view, items_view}
use Rattle.dist_model.specs.Message.{AreMessages}
use Rattle.model_keys.specs.Says.{SaysListOrNone}
use Rattle.model_messages.specs.declared.keys.TheConstants.{MESSAGE}
use Rattle.model_messages.specs.Messages.{messages_of}
use Rattle.model_messages.specs.Says.{SaysMessage}
use Rattle.model_messages.proofs.MessageRules.{messages_at-keeps, messages_at-list, messages_at-says}
use Rattle.model_messages.proofs.ThingLemmas.{given-holds}
use Rattle.model_messages.proofs.messages.messages_at.Goals as goal

pub returns-clause-kept : goal.returns-clause-kept
returns-clause-kept c =
    let definitions = c.args.definitions.now in
    let types = c.args.types.now.things.now in
    let kinds = c.args.kinds.now.things.now in
    let table = table_view c.args.table.now in
    let ds = items_view c.in_ok-values.values.now in
    given-holds (messages_of definitions types kinds ds) (AreMessages definitions types kinds)
    (λ all is. messages_at-keeps definitions types kinds table all (messages_at-list definitions types kinds table ds c.in_ok-values.ensures.given ∙ is))
    c.messages_of.result c.messages_of.ensures.given

pub returns-clause-entries : goal.returns-clause-entries
returns-clause-entries c =
    let definitions = c.args.definitions.now in
    let types = c.args.types.now.things.now in
    let kinds = c.args.kinds.now.things.now in
    let table = table_view c.args.table.now in
    let ds = items_view c.in_ok-values.values.now in
    given-holds (messages_of definitions types kinds ds) (SaysListOrNone (SaysMessage definitions types kinds) MESSAGE.now table)
    (λ all is. messages_at-says definitions types kinds table all (messages_at-list definitions types kinds table ds c.in_ok-values.ensures.given ∙ is))
    c.messages_of.result c.messages_of.ensures.given
