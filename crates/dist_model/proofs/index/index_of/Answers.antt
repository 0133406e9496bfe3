use Rattle.std.proofs.Common.{length}
use Rattle.dist_model.specs.Model.{all_names}
use Rattle.dist_model.proofs.IndexLemmas.{AreNamed-of}
use Rattle.dist_model.proofs.index.index_of.Goals as goal

pub inbound_triples-requires-clause-named : goal.inbound_triples-requires-clause-named
inbound_triples-requires-clause-named c =
    let model = c.args.lists.now in
    rw (c.as_slice-6.ensures, c.in_ok-names.ensures, c.as_slice.ensures, c.as_slice-2.ensures)
    (AreNamed-of (length model.systems) (all_names model) model.inbound c.requires.inbound.each)
