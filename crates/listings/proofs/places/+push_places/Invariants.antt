use Rattle.std.proofs.Common.{◌≡◌, ◌+◌, ◌++◌, ◌≤◌, suc, drop, length}
use Rattle.idoc_tree.specs.Forest.{preorder}
use Rattle.idoc_tree.specs.Nodes.{forest_of}
use Rattle.listings.specs.Places.{places_in}
use Rattle.listings.specs.steps.Levels.{LevelsWithin}
use Rattle.listings.proofs.places.+push_places.Given as goal

abbrev pub invariant-loop-node : goal.invariant-loop-node
invariant-loop-node l = let rest = forest_of (drop l.node-index l.nodes) in record {
  few : length l.places + length (preorder rest) ≤ 999999;
  levels : LevelsWithin l.level rest;
  same : l.places ++ places_in (suc (length l.places)) l.above l.level rest
      ≡ l.fn.places ++ places_in (suc (length l.fn.places)) l.above l.level (forest_of l.nodes);
}
