use Rattle.drain_desk.proofs.DrainLemmas.{closed}
use Rattle.drain_desk.proofs.draining.close_going.Goals as goal

pub returns : goal.returns
returns g c =
    closed g.V.Volumes.disk c.args.landscape c.revoke.new.self c.go_rounds.new.landscape c.args.wires c.go_rounds.new.wires c.args.finished c.go_rounds.result
    c.added-end.result c.world.ensures.safe c.revoke.ensures.event c.revoke.ensures.sound c.revoke.ensures.volumes c.go_rounds.ensures.gone c.added-end.ensures
