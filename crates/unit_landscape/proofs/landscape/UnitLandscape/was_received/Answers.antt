use Rattle.std.specs.Option.{option_copied, option_map_or}
use Rattle.std.specs.List.{list_any}
use Rattle.std.proofs.Common.{false, sym, ap, ◌∙◌}
use Rattle.unit_core.specs.declared.ale_unit.AleUnit.{AleUnit}
use Rattle.unit_core.specs.Filters.{received}
use Rattle.unit_core.specs.Queues.{is_among}
use Rattle.trfc_protocol.specs.Worlds.{log_of}
use Rattle.unit_landscape.specs.Appending.{takes}
use Rattle.unit_landscape.proofs.ReplyingLemmas.{among-takes}
use Rattle.unit_landscape.proofs.landscape.UnitLandscape.was_received.Goals as goal

pub returns-else-is_up : goal.returns-else-is_up
returns-else-is_up g c =
    let unit : AleUnit = c.in-Some.unit.now in
    c.is_received.ensures
    ∙ ap (list_any (takes c.in-Some.unit.now.tid)) (c.log.ensures ∙ ap (λ w. log_of w c.in-Some.unit.now.receiver) c.world-else-is_up.ensures.world)
    ∙ among-takes c.in-Some.unit.now.tid (log_of c.self.inside.kept.world c.in-Some.unit.now.receiver)
    ∙ ap (λ k. is_among c.in-Some.unit.now.tid (received (log_of k.world c.in-Some.unit.now.receiver))) c.self.view_is
    ∙ sym (ap (λ f. option_map_or (λ (u : AleUnit). is_among u.tid (received (log_of c.args.self.now.world u.receiver))) f false)
    (sym c.unit.ensures ∙ ap option_copied c.in-Some.is))
