use Rattle.unit_landscape.proofs.FinishingLemmas.{in-stands}
use Rattle.unit_works.proofs.EndingLemmas.{stands-up}
use Rattle.unit_works.proofs.WorkedLemmas.{meaning, is_lawful}
use Rattle.unit_works.proofs.ending.not_finished.Goals as goal

pub returns-clause-stands : goal.returns-clause-stands
returns-clause-stands g c = λ held holds.
    stands-up meaning is_lawful c.args.landscape.now c.world.ensures.safe c.args.claim (in-stands c.args.landscape.now.world c.args.claim held holds)
    c.requires.down
