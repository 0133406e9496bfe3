use Rattle.std.specs.Arc.{arc_value}
use Rattle.runs.proofs.ReplacingLemmas.{said-of}
use Rattle.runs.proofs.performing.remodelling.remodel.Goals as goal

pub bring-requires-clause-says : goal.bring-requires-clause-says
bring-requires-clause-says g c = said-of c.in-Ok.file.text (arc_value c.in-Ok.file.model) c.in-Ok.ensures.says.1
