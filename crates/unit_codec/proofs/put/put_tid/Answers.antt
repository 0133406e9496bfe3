use Rattle.std.proofs.Common.{arith, ap, ◌∙◌, ◌++◌, List, ℕ}
use Rattle.unit_codec.specs.Kind.{plain}
use Rattle.unit_codec.specs.Fields.{tid}
use Rattle.unit_codec.proofs.put.put_tid.Goals as goal

pub returns : goal.returns
unfolding tid plain
returns c = record {
  fits = record {
    system_least = omega (arith, c.system.ensures, c.get-system.ensures.least);
    system_most = omega (arith, c.system.ensures, c.get-system.ensures.most);
    unit_least = c.unit-unit.ensures.least;
    unit_most = c.unit-unit.ensures.most;
  };
  spelled = c.in_ok-extend_from_slice.ensures.items ∙ ap (λ (l : List ℕ). c.args.into.now.items ++ l) c.bytes.ensures;
}
