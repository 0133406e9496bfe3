use Rattle.std.proofs.Common.{arith}
use Rattle.unit_codec.specs.Records.{a_record}
use Rattle.unit_codec.proofs.RecordLemmas.{a_record-exact}
use Rattle.unit_codec.proofs.EntryLemmas.{whole-found, whole-only}
use Rattle.std.proofs.lemmas.Result.{IfOk-weaker}
use Rattle.unit_codec.specs.Condition.{IsWritable}
use Rattle.unit_codec.proofs.ConditionLemmas.{record-condition}
use Rattle.unit_codec.proofs.codec.read_record.Goals as goal

pub returns-clause-found : goal.returns-clause-found
returns-clause-found c = whole-found a_record c.args.bytes.now c.record_of.result a_record-exact (λ i. omega (arith, c.type_inv.bytes i)) c.record_of.ensures

pub returns-clause-only : goal.returns-clause-only
returns-clause-only c = whole-only a_record c.args.bytes.now c.record_of.result a_record-exact c.record_of.ensures

pub returns-clause-writable : goal.returns-clause-writable
returns-clause-writable c =
    let found = whole-found a_record c.args.bytes.now c.record_of.result a_record-exact (λ i. omega (arith, c.type_inv.bytes i)) c.record_of.ensures in
    IfOk-weaker c.record_of.result _ IsWritable (λ x f. record-condition x f.0) found
