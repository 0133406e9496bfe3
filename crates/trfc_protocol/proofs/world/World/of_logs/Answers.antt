use Rattle.trfc_protocol.proofs.StartLemmas.{Safe-of_logs}
use Rattle.trfc_protocol.proofs.world.World.of_logs.Goals as goal

pub returns-clause-safe : goal.returns-clause-safe
returns-clause-safe g c =
    Safe-of_logs g.R.Rules.meaning c.args.rules c.args.logs _
    (λ i. record { rules = c.args.rules; systems = c.in_ok-first_states.ensures i; claims = c.new.ensures i; falls = 0; next_number = 1 })
    c.requires.all c.requires.sound
