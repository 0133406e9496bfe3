use Rattle.std.proofs.Common.{ap, sym, ◌∙◌}
use Rattle.std.specs.Prelude.{is_some}
use Rattle.unit_core.specs.Filters.{received}
use Rattle.log_tables.proofs.PlacesLemmas.{among-named, copied-there}
use Rattle.log_tables.proofs.deciding.is_received.Goals as goal

pub returns : goal.returns
returns g c =
    c.is_some.ensures ∙ sym (copied-there c.unit_received.result) ∙ ap is_some c.unit_received.ensures ∙ sym (among-named c.args.tid (received c.args.log.now))
