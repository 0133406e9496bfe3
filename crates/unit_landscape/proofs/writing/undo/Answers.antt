use Rattle.unit_landscape.proofs.EnteringLemmas.{all_taken_back}
use Rattle.unit_landscape.proofs.writing.undo.Goals as goal

pub returns : goal.returns
returns g c = λ before next more is counts.
    all_taken_back before c.args.both.now c.leave.new.self c.args.system next more c.args.count is counts c.leave.ensures.world c.leave.ensures.left
