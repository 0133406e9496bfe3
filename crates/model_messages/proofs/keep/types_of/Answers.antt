use Rattle.std.proofs.Common.{nat_eq, [], ◌∙◌}
use Rattle.segment_defs.specs.declared.idoc_type.TypePlace.{TypePlace}
use Rattle.dist_model.proofs.DistinctLemmas.{added_next, nat_eq-symmetric}
use Rattle.model_messages.proofs.keep.types_of.Goals as goal

pub loop-entry-preserved : goal.loop-entry-preserved
loop-entry-preserved c =
    let x = c.entry-item.result in
    added_next nat_eq nat_eq-symmetric (λ (e : TypePlace). e.segment) c.args.entries.now c.loop-entry.entry-index x c.from.result [] c.loop-entry.types
    c.add.new.self c.in_ok-add.field-0
    c.requires c.entry-item.is (c.from.ensures ∙ c.segment.view_is) c.loop-entry-test.true c.loop-entry.invariant c.in_ok-add.ensures.new
    c.in_ok-add.ensures.added
