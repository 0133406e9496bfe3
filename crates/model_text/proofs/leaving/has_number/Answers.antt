use Rattle.std.proofs.Common.{nat_eq}
use Rattle.model_text.proofs.TableLemmas.{position-any}
use Rattle.model_text.proofs.leaving.has_number.Goals as goal

pub returns : goal.returns
returns c = rw (c.is_some.ensures, c.place.ensures.place) (position-any (nat_eq c.args.number) c.args.types.now)
