use Rattle.std.proofs.Common.{◌≡◌, sym, subst}
use Rattle.ale_base.specs.Blanks.{padded}
use Rattle.ale_base.specs.TrimmedLemmas.{padded-trimmed_at}
use Rattle.ale_base.proofs.fixed.Fixed.field.Goals as goal

pub returns : goal.returns
returns g c = subst (λ text. c.self.inside.bytes ≡ padded g.row.N text) c.self.view_is (sym (padded-trimmed_at g.row.N c.self.inside.bytes c.self.invariant))
