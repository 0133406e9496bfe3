use Rattle.std.specs.Option.{option_copied}
use Rattle.std.proofs.Common.{◌≡◌, None, sym, ap, ◌∙◌}
use Rattle.trfc_protocol.specs.Worlds.{committed_unit}
use Rattle.unit_works.proofs.ArrivingLemmas.{claimed-committed}
use Rattle.unit_works.proofs.WorkedLemmas.{meaning, is_lawful}
use Rattle.unit_works.proofs.arriving.unit_of.Goals as goal

pub unreachable-requires : goal.unreachable-requires
unreachable-requires g c =
    let unit = claimed-committed meaning is_lawful c.args.landscape.now c.world.ensures.safe c.args.claim.now c.requires.stands in
    let none : committed_unit (meaning c.args.landscape.now.world.rules) c.args.landscape.now.world c.args.claim.now.tid ≡ None =
    ap (committed_unit (meaning c.args.landscape.now.world.rules) c.args.landscape.now.world) (sym c.tid.ensures) ∙ sym c.unit.ensures
    ∙ ap option_copied c.in-None.is in
    let some = sym unit.1 ∙ none in
    cc
