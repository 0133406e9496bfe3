use Rattle.std.proofs.Common.{rules, ap}
use Rattle.std.proofs.lemmas.Fn.{filter_same}
use Rattle.trfc_protocol.proofs.world.World.release.Goals as goal

pub returns : goal.returns
returns g c = ap (λ claims. record c.args.self.now { claims = claims }) (filter_same _ _ _ (λ x b f' k. search rules) _ _ c.retain.ensures)
