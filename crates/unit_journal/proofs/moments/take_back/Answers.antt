use Rattle.unit_journal.proofs.PlaceLemmas.{taken-back}
use Rattle.unit_journal.proofs.moments.take_back.Goals as goal

pub returns : goal.returns
returns c = λ before moment within is.
    taken-back before c.args.moments.now c.args.place moment c.at_mut.result.now c.pop-moment.new.self c.pop-moment.result within is c.at_mut.ensures.value
    c.pop-moment.ensures
