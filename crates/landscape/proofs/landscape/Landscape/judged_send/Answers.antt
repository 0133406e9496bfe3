use Rattle.trfc_protocol.specs.Worlds.{log_of}
use Rattle.landscape.specs.Asked.{asked_send}
use Rattle.landscape.proofs.AllowedLemmas.{send-may}
use Rattle.landscape.proofs.CarriedLemmas.{commits-ready}
use Rattle.landscape.proofs.landscape.Landscape.judged_send.Goals as goal

pub returns-clause-judged : goal.returns-clause-judged
returns-clause-judged g c =
    let stand = c.in_ok-tables.ensures.up in
    commits-ready c.args.self.now.world c.args.system (λ log. asked_send log c.args.master.now) c.in_ok-tables.tables.now stand
    (λ next asked. send-may (log_of c.args.self.now.world c.args.system) stand.model stand.in_force c.args.master.now next c.requires.short asked) c.send.result
    (c.send.ensures (log_of c.args.self.now.world c.args.system) stand.stand stand.sent)
