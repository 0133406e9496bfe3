use Rattle.std.proofs.Common.{◌≡◌, drop}
use Rattle.idoc_tree.specs.Nodes.{forest_of}
use Rattle.outbound_build.specs.QueueNames.{first_of}
use Rattle.outbound_build.proofs.naming.+first_of.Given as goal

abbrev pub invariant-loop-node : goal.invariant-loop-node
invariant-loop-node l = first_of l.segment (forest_of (drop l.node-index l.nodes)) ≡ first_of l.segment (forest_of l.nodes)
