use Rattle.std.proofs.Common.{◌∙◌}
use Rattle.toml.specs.View.{table_view, items_view}
use Rattle.dist_model.specs.Kind.{AreKinds}
use Rattle.model_keys.specs.Says.{SaysListOrNone}
use Rattle.model_messages.specs.declared.keys.TheConstants.{KIND}
use Rattle.model_messages.specs.Kinds.{kinds_of}
use Rattle.model_messages.specs.Says.{SaysKind}
use Rattle.model_messages.proofs.KindRules.{kinds_at-keeps, kinds_at-list, kinds_at-says}
use Rattle.model_messages.proofs.ThingLemmas.{given-holds}
use Rattle.model_messages.proofs.kinds.kinds_at.Goals as goal

pub returns-clause-kept : goal.returns-clause-kept
returns-clause-kept c =
    let definitions = c.args.definitions.now in
    let table = table_view c.args.table.now in
    let ds = items_view c.in_ok-values.values.now in
    given-holds (kinds_of definitions ds) (AreKinds definitions)
    (λ kinds is. kinds_at-keeps definitions table kinds (kinds_at-list definitions table ds c.in_ok-values.ensures.given ∙ is))
    c.kinds_of.result c.kinds_of.ensures.given

pub returns-clause-entries : goal.returns-clause-entries
returns-clause-entries c =
    let definitions = c.args.definitions.now in
    let table = table_view c.args.table.now in
    let ds = items_view c.in_ok-values.values.now in
    given-holds (kinds_of definitions ds) (SaysListOrNone (SaysKind definitions) KIND.now table)
    (λ kinds is. kinds_at-says definitions table kinds (kinds_at-list definitions table ds c.in_ok-values.ensures.given ∙ is)) c.kinds_of.result
    c.kinds_of.ensures.given
