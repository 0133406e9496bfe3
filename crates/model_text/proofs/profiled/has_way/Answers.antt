use Rattle.dist_model.specs.Triple.{same_triple}
use Rattle.model_text.proofs.TableLemmas.{position-any}
use Rattle.model_text.proofs.profiled.has_way.Goals as goal

pub returns : goal.returns
returns c = rw (c.is_some.ensures, c.place.ensures.place) (position-any (same_triple c.args.way) c.args.ways.now)
