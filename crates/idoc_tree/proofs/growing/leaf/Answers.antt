use Rattle.segment_defs.proofs.DefinitionsLemmas.{version-IsVersion}
use Rattle.idoc_tree.proofs.growing.leaf.Goals as goal

pub fitted-requires : goal.fitted-requires
fitted-requires c =
    (version-IsVersion c.args.definitions.now c.args.segment c.args.version c.version-definition.result.now c.requires.definitions
    c.version-definition.ensures).fields
