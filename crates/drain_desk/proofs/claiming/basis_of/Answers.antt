use Rattle.std.specs.Option.{option_copied, option_map}
use Rattle.std.specs.Arc.{arc_value}
use Rattle.std.proofs.Common.{Some, sym, ap, subst, ◌∙◌}
use Rattle.unit_core.specs.declared.ale_unit.AleUnit.{AleUnit}
use Rattle.inbound_post.specs.Prepared.{prepared}
use Rattle.trfc_protocol.specs.Worlds.{log_of}
use Rattle.landscape.specs.Standing.{StandIfUp}
use Rattle.landscape.specs.Working.{IsPreparedFor}
use Rattle.drain_desk.proofs.ClaimingLemmas.{base-of}
use Rattle.drain_desk.proofs.claiming.basis_of.Goals as goal

pub returns : goal.returns
returns g c =
    let world = c.args.landscape.now.world in
    let unit : AleUnit = c.in-Some.unit.now in
    let stands = subst (λ found. StandIfUp world unit.receiver (option_copied found)) c.in-Some-tables.is c.tables.ensures in
    subst (λ (u : AleUnit). IsPreparedFor world c.args.tid (prepared (arc_value c.in_ok-model.model) u.receiver u).postings) (sym c.in_ok-unit.ensures.cases)
    (base-of world c.args.tid unit c.in-Some-tables.tables.now (arc_value c.in_ok-model.model)
    (sym c.unit.ensures ∙ ap option_copied c.in-Some.is) stands
    (sym (c.model.ensures (log_of world unit.receiver) stands.stand) ∙ ap (λ found. option_map arc_value (option_copied found)) c.in-Some-model.is
    ∙ ap Some (sym c.in_ok-model.ensures)))
