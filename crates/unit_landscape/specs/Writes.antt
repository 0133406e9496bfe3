-- The record of an event, the claim that goes with it, and what a crash at any moment of its writing leaves.
use Rattle.std.specs.Prelude.{◌≡◌, ℕ, ◌-◌, ◌<◌, Bool, true, false, Option, Some, None}
use Rattle.ale_volumes.specs.Disk.{Disk}
use Rattle.ale_volumes.specs.Clock.{LeavesOnly, KeepsOthers}
use Rattle.unit_core.specs.declared.records.Record.{Record}
use Rattle.unit_core.specs.declared.records.Record.TheVariants.{Genesis, Commit, Put, Model}
use Rattle.unit_codec.specs.Entries.{entry_with}
use Rattle.unit_codec.specs.Condition.{IsWritable}
use Rattle.byte_journal.specs.Log.{most_bytes}
use Rattle.unit_journal.specs.Settled.{IsBeforeOrAfter}
use Rattle.trfc_protocol.specs.declared.world.World.{World}
use Rattle.trfc_protocol.specs.declared.event.Event.{Event}
use Rattle.trfc_protocol.specs.declared.event.Event.TheVariants.{Finish, Fail, Reply, LoseRequest, LoseReply}
use Rattle.trfc_protocol.specs.declared.event.ReplyTo.TheVariants.{Claim}
use Rattle.trfc_protocol.specs.Meaning.{Meaning}
use Rattle.trfc_protocol.specs.Worlds.{log_of}
use Rattle.trfc_protocol.specs.RecordOf.{Writing, record_of}
use Rattle.unit_journal.specs.declared.journals.SystemJournals.{SystemJournals}
use Rattle.unit_journal.specs.OnDisk.{next_moment, entries_at, length_with}
use Rattle.unit_landscape.specs.KeptWorlds.{KeptOf}
use Rattle.unit_landscape.specs.LogAnswers.{KeepsVolumes}
use Rattle.unit_landscape.specs.AppendEnds.{HasOneMore}

-- the number of the claim that an event speaks of: it goes with the event's record
abbrev pub claim_in : Event → Option ℕ
claim_in (Finish number) = Some number
claim_in (Fail number) = Some number
claim_in (Reply (Claim number given)) = Some number
claim_in (LoseRequest number) = Some number
claim_in (LoseReply number) = Some number
claim_in _ = None

-- whether a record has texts that no rule of the protocol knows of
abbrev pub has_texts : Record → Bool
has_texts (Genesis system text) = true
has_texts (Commit origin documents) = true
has_texts (Put kind key fields) = true
has_texts (Model text) = true
has_texts _ = false

-- an event that is possible appends this record at this system, and this claim goes with it; the texts of the record can be written
pub record Appends {R : Type 0} (rules : Meaning) (world : World R) (system : ℕ) (next : Record) (claim : Option ℕ) (e : Event) : Type 0 where
  pub writes : record_of rules world e ≡ Some (record { system = system; next = next })
  pub ends : claim ≡ claim_in e
  pub texts : has_texts next ≡ true → IsWritable next

-- how long the volume of a system would be with a record behind its log, in bytes
abbrev pub size_with : {R A V : Type 0} → KeptOf R A V → ℕ → Record → ℕ
size_with kept system next =
    length_with (entries_at kept.journals (system - 1) (log_of kept.world system)) (entry_with (next_moment kept.journals (system - 1)) next)

-- with the record behind the log of its system that volume would be this long, which is over the most that it may be
pub record IsTooLong {R A V : Type 0} (kept : KeptOf R A V) (it : Writing) (size : ℕ) : Type 0 where
  pub long : size ≡ size_with kept it.system it.next
  pub over : most_bytes < size

-- the moment of the record stands behind those of its log, and no other journal changed; where there is no record none did
abbrev pub MomentsAs : SystemJournals → SystemJournals → Option Writing → Type 0
MomentsAs before after None = after ≡ before
MomentsAs before after (Some it) = HasOneMore (it.system - 1) before after

-- a crash at any moment leaves of the volume of a record's system its log from before, perhaps with the record; and of every other
-- volume what it left before
pub record WritesOnly {R A V : Type 0} (disk : Disk V)
    (before after : KeptOf R A V) (it : Writing) : Type 0 where
  pub any_moment : disk.told → LeavesOnly disk before.vols after.vols (it.system - 1)
      (IsBeforeOrAfter (entries_at before.journals (it.system - 1) (log_of before.world it.system))
      (entry_with (next_moment before.journals (it.system - 1)) it.next))
  pub others : disk.told → KeepsOthers disk before.vols after.vols (it.system - 1)

-- a call with a record leaves all volumes but that of its system; without one it calls none
abbrev pub DiskAs : {R A V : Type 0} → Disk V → KeptOf R A V → KeptOf R A V → Option Writing → Type 0
DiskAs disk before after None = KeepsVolumes before after
DiskAs disk before after (Some it) = WritesOnly disk before after it
