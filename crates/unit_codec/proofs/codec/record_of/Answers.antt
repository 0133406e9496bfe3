use Rattle.std.proofs.Common.{arith}
use Rattle.unit_codec.specs.Records.{a_record}
use Rattle.unit_codec.proofs.RecordLemmas.{a_record-exact}
use Rattle.unit_codec.proofs.EntryLemmas.{fault-within, rest-within}
use Rattle.unit_codec.proofs.codec.record_of.Goals as goal

pub fault_in-requires : goal.fault_in-requires
fault_in-requires c =
    fault-within a_record a_record-exact c.args.bytes.now c.new-from.result c.take_record.new.from (λ i. omega (arith, c.type_inv.bytes i)) c.new-from.ensures
    c.in-Err.fault c.in-Err.ensures

pub all_is_read-requires : goal.all_is_read-requires
all_is_read-requires c =
    let within = rest-within a_record a_record-exact c.args.bytes.now c.new-from.result c.take_record.new.from
    (λ i. omega (arith, c.type_inv.bytes i)) c.new-from.ensures c.in-Ok.what c.in-Ok.ensures in
    omega (arith, within)
