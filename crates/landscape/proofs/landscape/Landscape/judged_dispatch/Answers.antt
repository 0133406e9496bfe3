use Rattle.trfc_protocol.specs.Worlds.{log_of}
use Rattle.landscape.specs.Asked.{asked_dispatch}
use Rattle.landscape.proofs.AllowedLemmas.{dispatch-may}
use Rattle.landscape.proofs.CarriedLemmas.{commits_or_none-ready}
use Rattle.landscape.proofs.landscape.Landscape.judged_dispatch.Goals as goal

pub returns-clause-judged : goal.returns-clause-judged
returns-clause-judged g c =
    let stand = c.in_ok-tables.ensures.up in
    commits_or_none-ready c.args.self.now.world c.args.system (λ log. asked_dispatch log) c.in_ok-tables.tables.now stand
    (λ next asked. dispatch-may (log_of c.args.self.now.world c.args.system) stand.model stand.in_force next asked) c.dispatch.result
    (c.dispatch.ensures (log_of c.args.self.now.world c.args.system) stand.stand stand.sent)
