use Rattle.std.proofs.Common.{◌≡◌, ap, ◌∙◌}
use Rattle.trfc_protocol.specs.Worlds.{with_state, state_without_last}
use Rattle.trfc_protocol.proofs.ForCallers.{taken_back}
use Rattle.unit_landscape.proofs.world_tables.WorldTables.enter.Goals as goal

pub returns-in-Err-clause-err : goal.returns-in-Err-clause-err
returns-in-Err-clause-err g c =
    let world : c.take_back.new.self ≡ c.args.self.now.world =
    c.take_back.ensures.without ∙ ap (λ w. with_state w c.args.system state_without_last) c.in_ok-append.ensures.ok
    ∙ taken_back c.args.self.now.world c.args.system c.args.next in
    λ i. record { world = world i; tables = c.in-Err.ensures.err i }
