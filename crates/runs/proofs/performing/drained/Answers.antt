use Rattle.runs.proofs.SoundLemmas.{drained-goes}
use Rattle.runs.proofs.performing.drained.Goals as goal

pub returns-clause-calls : goal.returns-clause-calls
returns-clause-calls g c =
    drained-goes g.V.Volumes.disk c.args.stage.landscape c.args.stage.wires c.drain-landscape.result.landscape c.drain-landscape.result.wires c.drain-landscape.result.end
    c.drain-landscape.ensures
