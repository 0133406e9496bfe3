use Rattle.log_reading.proofs.InOrderLemmas.{AreInOrder-good}
use Rattle.unit_landscape.specs.Volumes.{moments_in}
use Rattle.landscape.specs.steps.Opening.{rules_of, system_of}
use Rattle.landscape.proofs.landscape.opening.up_if_good.Goals as goal

pub up-requires-clause-order : goal.up-requires-clause-order
up-requires-clause-order g c =
    AreInOrder-good (rules_of c.args.volume.kept.world.rules) (system_of c.args.volume) c.args.text.now (moments_in c.args.volume) c.args.volume.log
    c.in-Ok.ensures.good.each c.in-Ok.ensures.good.good
