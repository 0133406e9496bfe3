use Rattle.std.proofs.Common.{◌≡◌, sym, ◌∙◌}
use Rattle.plain_queues.specs.Changes.{released}
use Rattle.system_tables.specs.Tables.{queues_of, with_queues}
use Rattle.unit_landscape.proofs.InStepLemmas.{ChangedAt-row, released-none}
use Rattle.unit_landscape.proofs.letting_go.release.Goals as goal

pub returns-then-is_outstanding : goal.returns-then-is_outstanding
returns-then-is_outstanding g c =
    ChangedAt-row (λ old now. now ≡ with_queues c.args.way (released c.args.tid (queues_of c.args.way old)) old) c.args.system c.get.result c.args.tables.now
    c.at_mut-its.result.now c.release.new.self c.get.ensures.number c.at_mut-its.ensures.value c.release.ensures

pub returns-else-is_outstanding : goal.returns-else-is_outstanding
returns-else-is_outstanding g c =
    ChangedAt-row (λ old now. now ≡ with_queues c.args.way (released c.args.tid (queues_of c.args.way old)) old) c.args.system c.get.result c.args.tables.now
    c.at_mut-its.result.now c.at_mut-its.result.now c.get.ensures.number c.at_mut-its.ensures.value
    (sym (released-none c.args.way c.args.tid c.at_mut-its.result.now (sym c.is_outstanding.ensures ∙ c.if-is_outstanding.false)))
