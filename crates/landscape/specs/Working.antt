-- What is prepared for the work of a claim, and what goes with its record.
use Rattle.std.specs.Prelude.{◌≡◌, ◌⊎◌, true, false, List, Option, Some, None, Result, Ok, Err}
use Rattle.std.specs.Arc.{arc_value}
use Rattle.ale_base.specs.Tid.{TidOf}
use Rattle.ale_volumes.specs.Disk.{Disk}
use Rattle.unit_core.specs.declared.ale_unit.AleUnit.{AleUnit}
use Rattle.inbound_post.specs.declared.prepared.DocPosting.{DocPosting}
use Rattle.trfc_protocol.specs.declared.held.Held.{Held}
use Rattle.trfc_protocol.specs.declared.held.HeldKind.{HeldKind}
use Rattle.trfc_protocol.specs.declared.held.HeldKind.TheVariants.{In, Out, Direct}
use Rattle.trfc_protocol.specs.declared.world.World.{World}
use Rattle.trfc_protocol.specs.Worlds.{claim_of, committed_unit, log_of}
use Rattle.status_log.specs.declared.refusal.Refusal.{Refusal}
use Rattle.status_log.specs.declared.refusal.Refusal.TheVariants.{N2, N6, N7, N10, OutOfMemory}
use Rattle.unit_landscape.specs.KeptWorlds.{KeptOf}
use Rattle.unit_landscape.specs.declared.answers.Late.{Late}
use Rattle.unit_landscape.specs.declared.answers.LateEnd.{LateEnd}
use Rattle.unit_landscape.specs.declared.answers.LateEnd.TheVariants as late
use Rattle.unit_landscape.specs.declared.claims.InClaim.{InClaim}
use Rattle.unit_landscape.specs.Calls.{stands_in}
use Rattle.unit_landscape.specs.Late.{LateAs}
use Rattle.document_state.specs.declared.document_tables.DocumentTables.{DocumentTables}
use Rattle.document_state.specs.declared.made.Made.{Made}
use Rattle.document_state.specs.declared.made.Made.TheVariants.{Executed, Postings}
use Rattle.document_state.specs.OfLog.{postings_behind}
use Rattle.document_state.specs.declared.model_rules.ModelRules.{ModelRules}
use Rattle.document_state.specs.Meaning.{model_meaning}

-- these are the postings of the unit of an id by the log of its receiver, under the model in force there
abbrev pub IsPreparedFor : World ModelRules → TidOf → List DocPosting → Type 0
IsPreparedFor world tid postings =
    (unit : AleUnit) → committed_unit (model_meaning world.rules.systems) world tid ≡ Some unit → postings ≡ postings_behind (log_of world unit.receiver) unit

-- An earlier request of a unit came, or why not, by the number of the refusal: 6 where there is no such system or the unit is not
-- committed, 2 where its sender is down, 7 where it is not marked CPICERR or is done, and 10 where the journal is full.
abbrev pub CameOrRefused : {V : Type 0} → Disk V → KeptOf ModelRules DocumentTables V → KeptOf ModelRules DocumentTables V → TidOf → Result Late Refusal →
    Type 0
CameOrRefused disk before after tid (Ok came) = LateAs (model_meaning before.world.rules.systems) disk before after tid (Ok came)
CameOrRefused disk before after tid (Err N2) = LateAs (model_meaning before.world.rules.systems) disk before after tid (Err late.SenderDown)
CameOrRefused disk before after tid (Err N6) =
    LateAs (model_meaning before.world.rules.systems) disk before after tid (Err late.NoSuchSystem)
    ⊎ LateAs (model_meaning before.world.rules.systems) disk before after tid (Err late.NotCommitted)
CameOrRefused disk before after tid (Err N7) = LateAs (model_meaning before.world.rules.systems) disk before after tid (Err late.NotMarked)
CameOrRefused disk before after tid (Err (N10 size)) = LateAs (model_meaning before.world.rules.systems) disk before after tid (Err (late.Full size))
CameOrRefused disk before after tid (Err OutOfMemory) = LateAs (model_meaning before.world.rules.systems) disk before after tid (Err late.OutOfMemory)
CameOrRefused disk before after tid (Err refusal) = ⊥

-- ---- what only private functions cite

-- why an operator is refused, by why no late request came
abbrev pub late_of : Result Late LateEnd → Result Late Refusal
late_of (Ok came) = Ok came
late_of (Err late.NoSuchSystem) = Err N6
late_of (Err late.SenderDown) = Err N2
late_of (Err late.NotCommitted) = Err N6
late_of (Err late.NotMarked) = Err N7
late_of (Err (late.Full size)) = Err (N10 size)
late_of (Err late.OutOfMemory) = Err OutOfMemory

-- a claim to execute a unit stands, and this is its kind; or it does not stand
abbrev pub IsKindOf : World ModelRules → InClaim → Option HeldKind → Type 0
IsKindOf world claim (Some kind) =
    (stands_in world claim ≡ true) × ((held : Held) × (claim_of claim.number world.claims ≡ Some held) × (held.tid ≡ claim.tid) × (held.kind ≡ kind))
IsKindOf world claim None = stands_in world claim ≡ false

-- the unit and its postings are what was made
abbrev pub IsExecuted : AleUnit → List DocPosting → Made → Type 0
IsExecuted unit postings (Executed one its) = (arc_value one ≡ unit) × (its ≡ postings)
IsExecuted unit postings made = ⊥

-- with the execution of a unit that was taken in go the unit and its postings
abbrev pub IsExecutedWith : World ModelRules → TidOf → List DocPosting → Made → Type 0
IsExecutedWith world tid postings made =
    (unit : AleUnit) → committed_unit (model_meaning world.rules.systems) world tid ≡ Some unit → IsExecuted unit postings made

-- with a run go the postings alone
abbrev pub IsMadeFor : World ModelRules → HeldKind → TidOf → List DocPosting → Made → Type 0
IsMadeFor world In tid postings made = IsExecutedWith world tid postings made
IsMadeFor world Direct tid postings made = made ≡ Postings postings
IsMadeFor world Out tid postings made = made ≡ Postings postings
