use Rattle.std.proofs.Common.{arith}
use Rattle.unit_codec.specs.Entries.{an_entry}
use Rattle.unit_codec.proofs.EntryLemmas.{an_entry-exact}
use Rattle.unit_codec.proofs.EntryLemmas.{whole-found, whole-only}
use Rattle.std.proofs.lemmas.Result.{IfOk-weaker}
use Rattle.unit_codec.specs.Condition.{IsWritableEntry}
use Rattle.unit_codec.proofs.ConditionLemmas.{entry-condition}
use Rattle.unit_codec.proofs.codec.read_entry.Goals as goal

pub returns-clause-found : goal.returns-clause-found
returns-clause-found c = whole-found an_entry c.args.bytes.now c.entry_of.result an_entry-exact (λ i. omega (arith, c.type_inv.bytes i)) c.entry_of.ensures

pub returns-clause-only : goal.returns-clause-only
returns-clause-only c = whole-only an_entry c.args.bytes.now c.entry_of.result an_entry-exact c.entry_of.ensures

pub returns-clause-writable : goal.returns-clause-writable
returns-clause-writable c =
    let found = whole-found an_entry c.args.bytes.now c.entry_of.result an_entry-exact (λ i. omega (arith, c.type_inv.bytes i)) c.entry_of.ensures in
    IfOk-weaker c.entry_of.result _ IsWritableEntry (λ x f. entry-condition x f.0) found
