use Rattle.std.proofs.Common.{arith}
use Rattle.unit_codec.specs.Entries.{an_entry}
use Rattle.unit_codec.proofs.EntryLemmas.{an_entry-exact}
use Rattle.unit_codec.proofs.EntryLemmas.{fault-within, rest-within}
use Rattle.unit_codec.proofs.codec.entry_of.Goals as goal

pub fault_in-requires : goal.fault_in-requires
fault_in-requires c =
    fault-within an_entry an_entry-exact c.args.bytes.now c.new-from.result c.take_entry.new.from (λ i. omega (arith, c.type_inv.bytes i)) c.new-from.ensures
    c.in-Err.fault c.in-Err.ensures

pub all_is_read-requires : goal.all_is_read-requires
all_is_read-requires c =
    let within = rest-within an_entry an_entry-exact c.args.bytes.now c.new-from.result c.take_entry.new.from
    (λ i. omega (arith, c.type_inv.bytes i)) c.new-from.ensures c.in-Ok.entry c.in-Ok.ensures in
    omega (arith, within)
