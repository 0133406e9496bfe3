-- Records that were read from a volume can be written, so their inbound queues are few and differ.
use Rattle.std.proofs.Common.{◌≡◌, ℕ, List, [], ◌∷◌, Option, length, All, arith}
use Rattle.std.proofs.lemmas.List.Elements.{All-nil, All-cons}
use Rattle.unit_core.specs.declared.records.Record.{Record}
use Rattle.unit_core.specs.declared.records.Record.TheVariants.{Accept}
use Rattle.unit_codec.specs.Condition.{IsWritable}
use Rattle.unit_codec.specs.Entries.{entry_with}
use Rattle.unit_codec.proofs.ConditionLemmas.{entry-condition}
use Rattle.unit_journal.specs.Log.{AreEntries}
use Rattle.unit_journal.specs.OnDisk.{entries_of}
use Rattle.log_tables.specs.Read.{IsProper}

-- a record that can be written is one of which a log's tables can be made
pub IsProper-writable : (next : Record) → IsWritable next → IsProper next
IsProper-writable (Accept unit) writable = record { few = writable.inq.0; different = writable.inq.1 }
IsProper-writable _ writable = tt

-- so are the records of entries that have a spelling, as those that an opening gives
pub AreProper-entries : (moments : List (Option ℕ)) (log : List Record) → length moments ≡ length log → AreEntries (entries_of moments log)
    → All IsProper log
AreProper-entries [] [] same spelled = All-nil IsProper
AreProper-entries [] (next ∷ log) same spelled = absurd (omega (arith, same))
AreProper-entries (moment ∷ moments) [] same spelled = absurd (omega (arith, same))
AreProper-entries (moment ∷ moments) (next ∷ log) same spelled =
    All-cons IsProper next log (IsProper-writable next (entry-condition (entry_with moment next) spelled.0))
    (AreProper-entries moments log (omega (arith, same)) spelled.1)
