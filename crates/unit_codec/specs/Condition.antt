-- Which records can be written: what a caller knows of a record beside what its types keep by themselves, as that a number of
-- one byte is one. A value of a program that meets it has a spelling.
use Rattle.std.specs.Prelude.{◌≡◌, ◌≢◌, ℕ, ◌<◌, ◌≤◌, ◌^◌, IsTrue, IfSome, List, length}
use Rattle.std.specs.List.{AllByRecursion}
use Rattle.ale_base.specs.declared.change.FieldValue.{FieldValue}
use Rattle.ale_base.specs.declared.way.Way.{Way}
use Rattle.ale_base.specs.declared.way.Way.TheVariants.{Outgoing, Incoming}
use Rattle.unit_core.specs.Queues.{are_different}
use Rattle.unit_core.specs.declared.ale_unit.AleUnit.{AleUnit}
use Rattle.unit_core.specs.declared.raw_unit_doc.RawUnitDoc.{RawUnitDoc}
use Rattle.unit_core.specs.declared.records.Record.{Record}
use Rattle.unit_core.specs.declared.records.Record.TheVariants.{Genesis, Commit, Accept, Direct, Stop, Start, Put, Model}
use Rattle.unit_codec.specs.declared.limits.TheConstants.{MOST_NAME, MOST_SEGMENTS, MOST_QUEUES}
use Rattle.unit_codec.specs.declared.entry.Entry.{Entry}

-- a name of a message, a kind or a field has 1 to 30 bytes
abbrev pub IsName : List ℕ → Type 0
IsName name = (1 ≤ length name) × (length name ≤ MOST_NAME)

-- four bytes can tell how long a text is
abbrev pub IsText : List ℕ → Type 0
IsText text = length text < 2 ^ 32

-- there is one at least, and four bytes can tell how many
abbrev pub AreCounted : {A : Type 0} → List A → Type 0
AreCounted xs = (1 ≤ length xs) × (length xs < 2 ^ 32)

-- a document has at most 10,000 segments
abbrev pub IsDocument : RawUnitDoc → Type 0
IsDocument document = length document.segments ≤ MOST_SEGMENTS

abbrev pub AreDocuments : List RawUnitDoc → Type 0
AreDocuments documents = AreCounted documents × AllByRecursion IsDocument documents

-- a unit is in at most 8 queues of a direction, which differ
abbrev pub AreQueues : List (List ℕ) → Type 0
AreQueues names = (length names ≤ MOST_QUEUES) × IsTrue (are_different names)

-- a unit is sent by the system of its id to another one, and names a function
pub record IsUnit (unit : AleUnit) : Type 0 where
  pub sender : unit.sender ≡ unit.tid.system
  pub receiver : unit.receiver ≢ unit.sender
  pub function : 1 ≤ length unit.function
  pub outq : AreQueues unit.outq
  pub inq : AreQueues unit.inq
  pub docs : AreDocuments unit.docs

-- an inbound queue has the destination 0
abbrev pub HasDestination : Way → ℕ → Type 0
HasDestination Outgoing destination = Unit {0}
HasDestination Incoming destination = destination ≡ 0

abbrev pub IsFieldValue : FieldValue → Type 0
IsFieldValue field = IsName field.field × IsText field.value

-- a record can be written where its fields follow the rules that their types do not keep
abbrev pub IsWritable : Record → Type 0
IsWritable (Genesis system text) = IsText text
IsWritable (Commit origin documents) = IfSome origin IsName × AreDocuments documents
IsWritable (Accept unit) = IsUnit unit
IsWritable (Direct unit) = IsUnit unit
IsWritable (Stop way destination name) = HasDestination way destination
IsWritable (Start way destination name) = HasDestination way destination
IsWritable (Put kind key fields) = IsName kind × IsText key × AreCounted fields × AllByRecursion IsFieldValue fields
IsWritable (Model text) = IsText text
IsWritable _ = Unit {0}

-- an entry can be written where its record can
abbrev pub IsWritableEntry : Entry → Type 0
IsWritableEntry entry = IsWritable entry.what
