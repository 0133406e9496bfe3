use Rattle.trfc_protocol.specs.Worlds.{log_of}
use Rattle.landscape.specs.Asked.{asked_app}
use Rattle.landscape.proofs.AllowedLemmas.{app-may}
use Rattle.landscape.proofs.CarriedLemmas.{changes-ready}
use Rattle.landscape.proofs.landscape.Landscape.judged_app.Goals as goal

pub returns-clause-judged : goal.returns-clause-judged
returns-clause-judged g c =
    let stand = c.in_ok-tables.ensures.up in
    changes-ready c.args.self.now.world c.args.system (λ log. asked_app log c.args.doc.0) c.in_ok-tables.tables.now stand
    (λ next asked. app-may (log_of c.args.self.now.world c.args.system) stand.model stand.in_force c.args.doc.0 next asked) c.app.result
    (c.app.ensures.judged (log_of c.args.self.now.world c.args.system) stand.stand)
