use Rattle.std.proofs.Common.{◌≡◌, ◌≤◌, length, subst, arith}
use Rattle.ale_base.specs.Blanks.{trimmed}
use Rattle.ale_base.specs.TrimmedLemmas.{trimmed-trimmed, length-trimmed}
use Rattle.ale_base.proofs.fixed.Fixed.trimmed.Goals as goal

pub returns-clause-trimmed : goal.returns-clause-trimmed
returns-clause-trimmed g c = subst (λ text. trimmed text ≡ text) c.self.view_is (trimmed-trimmed c.self.inside.bytes)

pub returns-clause-fits : goal.returns-clause-fits
returns-clause-fits g c =
    let fits : length (trimmed c.self.inside.bytes) ≤ g.row.N = omega (arith, length-trimmed c.self.inside.bytes, c.self.invariant) in
    subst (λ text. length text ≤ g.row.N) c.self.view_is fits
