use Rattle.std.proofs.Common.{◌≡◌, ◌-◌, []}
use Rattle.unit_codec.specs.Kind.{listed_at}
use Rattle.unit_codec.proofs.lists.take_listed.Given as goal

-- what is left to be taken behind what was taken is what was asked
abbrev pub invariant-loop : goal.invariant-loop
invariant-loop g l =
    let kind = g.T.Listed.kind in
    let follows = g.T.Listed.follows in
    listed_at kind follows (l.count - l.counter) l.taken l.from ≡ listed_at kind follows l.fn.count [] l.fn.from
