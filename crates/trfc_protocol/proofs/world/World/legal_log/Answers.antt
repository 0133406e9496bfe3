use Rattle.std.proofs.Common.{sym, subst}
use Rattle.std.specs.Prelude.{false}
use Rattle.trfc_protocol.specs.Legal.{IsLegal}
use Rattle.trfc_protocol.proofs.world.World.legal_log.Goals as goal

pub returns-clause-legal : goal.returns-clause-legal
returns-clause-legal g c = subst (IsLegal (g.R.Rules.meaning c.args.self.now.rules) c.args.system) (sym c.log.ensures)
    ((c.requires.sound (λ _. false)).legal c.args.system)
