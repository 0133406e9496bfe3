use Rattle.trfc_protocol.specs.Worlds.{log_of}
use Rattle.landscape.specs.Asked.{asked_put}
use Rattle.landscape.proofs.AllowedLemmas.{put-may}
use Rattle.landscape.proofs.CarriedLemmas.{changes-ready}
use Rattle.landscape.proofs.landscape.Landscape.judged_put.Goals as goal

pub returns-clause-judged : goal.returns-clause-judged
returns-clause-judged g c =
    let stand = c.in_ok-tables.ensures.up in
    changes-ready c.args.self.now.world c.args.system (λ log. asked_put log c.args.change.now) c.in_ok-tables.tables.now stand
    (λ next asked. put-may (log_of c.args.self.now.world c.args.system) stand.model stand.in_force c.args.change.now next asked) c.put.result
    (c.put.ensures (log_of c.args.self.now.world c.args.system) stand.stand)
