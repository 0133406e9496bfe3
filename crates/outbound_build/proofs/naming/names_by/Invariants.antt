use Rattle.std.proofs.Common.{◌≡◌, drop, map}
use Rattle.std.specs.Prelude.{fold}
use Rattle.idoc_tree.specs.Nodes.{forest_of}
use Rattle.outbound_build.specs.QueueNames.{first_fault, named_by, named_once, with_name}
use Rattle.outbound_build.proofs.naming.names_by.Given as goal

abbrev pub invariant-loop-rule : goal.invariant-loop-rule
invariant-loop-rule l = record {
  names : fold with_name l.names (map (named_by l.definitions (forest_of l.forest)) (drop l.rule-index l.rules))
      ≡ named_once (map (named_by l.definitions (forest_of l.forest)) l.rules);
  faults : first_fault (map (named_by l.definitions (forest_of l.forest)) (drop l.rule-index l.rules))
      ≡ first_fault (map (named_by l.definitions (forest_of l.forest)) l.rules);
}
