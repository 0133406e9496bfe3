-- What commands ask for at the systems of a landscape, and how they are carried out.
use Rattle.std.specs.Prelude.{◌≡◌, ◌⊎◌, ℕ, List, Some, None, Result, Ok, Err, if◌then◌else◌, ◌-◌, length, slice_get}
use Rattle.std.specs.Option.{option_map_or}
use Rattle.ale_volumes.specs.Disk.{Disk}
use Rattle.unit_core.specs.declared.records.Record.{Record}
use Rattle.unit_core.specs.declared.records.Record.TheVariants.{Commit}
use Rattle.status_log.specs.declared.refusal.Refusal.{Refusal}
use Rattle.status_log.specs.declared.status.Status.{Status}
use Rattle.status_log.specs.declared.status_at.StatusAt.{StatusAt}
use Rattle.status_log.specs.Statuses.{plain}
use Rattle.status_log.specs.declared.refusal.Refusal.TheVariants.{N2, N10, Volume, OutOfMemory}
use Rattle.trfc_protocol.specs.declared.event.Event.{Event}
use Rattle.trfc_protocol.specs.declared.event.Event.TheVariants as event
use Rattle.trfc_protocol.specs.declared.event.Action.TheVariants.{Append}
use Rattle.trfc_protocol.specs.declared.world.World.{World}
use Rattle.trfc_protocol.specs.Worlds.{is_up, log_of}
use Rattle.unit_landscape.specs.KeptWorlds.{KeptOf}
use Rattle.unit_landscape.specs.LogAnswers.{KeepsVolumes}
use Rattle.unit_landscape.specs.Ends.{Happened, Failed, IsFull, Stays, FellBehind}
use Rattle.unit_landscape.specs.Writes.{WritesOnly}
use Rattle.unit_landscape.specs.Appending.{at}
use Rattle.document_state.specs.declared.document_tables.DocumentTables.{DocumentTables}
use Rattle.document_state.specs.OfLog.{added_behind, applied_by}
use Rattle.inbound_post.specs.Application.{statuses_at}
use Rattle.document_state.specs.declared.model_rules.ModelRules.{ModelRules}
use Rattle.document_state.specs.Meaning.{model_meaning}
use Rattle.landscape.specs.Asked.{Asked}
use Rattle.landscape.specs.declared.counts.Gathered.{Gathered}
use Rattle.landscape.specs.declared.counts.Sent.{Sent}

-- what a command asks for at a system: a system that is down refuses all
abbrev pub asked_at : World ModelRules → ℕ → (List Record → Asked) → Asked
asked_at world system asked = if is_up world system then asked (log_of world system) else Err N2

-- how many masters a record commits
abbrev pub masters_in : Record → ℕ
masters_in (Commit origin docs) = length docs
masters_in _ = 0

-- how many masters, documents and units a record makes behind a log
abbrev pub counts_of : List Record → Record → Gathered
counts_of log next =
    record { masters = masters_in next; documents = length (added_behind log next).documents; units = length (added_behind log next).units }

-- how many are made of what is asked for
abbrev pub counts_asked : List Record → Asked → Gathered
counts_asked log (Ok (Some next)) = counts_of log next
counts_asked log _ = record { masters = 0; documents = 0; units = 0 }

-- how many documents and units of these
abbrev pub sent_counts : Gathered → Sent
sent_counts counts = record { documents = counts.documents; units = counts.units }

-- the last of some statuses; one of code 0 where there is none
abbrev pub last_status : List StatusAt → Status
last_status statuses = option_map_or (λ one. one.status) (slice_get statuses (length statuses - 1)) (plain 0)

-- the last status of an inbound document of a system that is up
abbrev pub status_at : World ModelRules → ℕ → ℕ → Status
status_at world system doc =
    if is_up world system then last_status (statuses_at (applied_by (log_of world system)).application.documents doc) else plain 0

-- the event of a record that an operator asks for
abbrev pub operator_event : ℕ → Record → Event
operator_event system next = event.Operator (Append system next)

-- a record is asked for, and this holds of it
abbrev pub Asks : Asked → (Record → Type 0) → Type 0
Asks asked holds = (next : Record) × (asked ≡ Ok (Some next)) × holds next

module _ {V : Type 0} (disk : Disk V) (before after : KeptOf ModelRules DocumentTables V) (system : ℕ) (of : Record → Event) (asked : Asked) where
  -- A command was carried out, and answers so: what it asks for happened, and nothing did where it asks for nothing. A command that is
  -- refused changes nothing. The system falls where its volume fails, and where memory is wanting behind the record.
  abbrev pub CarriedAs : {T : Type 0} → (T → Type 0) → Result T Refusal → Type 0
  CarriedAs answers (Ok answer) =
      answers answer
      × (((asked ≡ Ok None) × (after ≡ before)) ⊎ Asks asked (λ next. Happened (model_meaning before.world.rules.systems) disk before after (of next)))
  CarriedAs answers (Err Volume) = Asks asked (λ next. Failed (model_meaning before.world.rules.systems) disk before after (at system next))
  CarriedAs answers (Err (N10 size)) = Asks asked (λ next. IsFull (model_meaning before.world.rules.systems) disk before after (at system next) size)
  CarriedAs answers (Err OutOfMemory) =
      Stays (model_meaning before.world.rules.systems) disk before after
      ⊎ Asks asked (λ next. FellBehind (model_meaning before.world.rules.systems) disk before after (of next) (at system next))
  CarriedAs answers (Err refusal) = (asked ≡ Err refusal) × (after ≡ before)

-- a command calls no volume, or writes the record that it asks for, and nothing else
abbrev pub DiskAsked : {V : Type 0} → Disk V → KeptOf ModelRules DocumentTables V → KeptOf ModelRules DocumentTables V → ℕ → Asked → Type 0
DiskAsked disk before after system asked =
    KeepsVolumes before after ⊎ Asks asked (λ next. WritesOnly disk before after (at system next))
