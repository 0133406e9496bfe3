-- How the write of a record ends, by what the journal answered.
use Rattle.std.specs.Prelude.{Result, Ok, Err, OnOk, OnErr, IfErr, IsErrOf}
use Rattle.std.proofs.Common.{◌≡◌, ℕ, ◌-◌, ◌≤◌, true, Option, Some, List, length, refl, sym, ap, subst, ◌∙◌}
use Rattle.ale_volumes.specs.Disk.{Disk}
use Rattle.ale_volumes.specs.Faults.{CountsFault}
use Rattle.unit_core.specs.declared.ale_unit.AleUnit.{AleUnit}
use Rattle.unit_core.specs.declared.records.Record.{Record}
use Rattle.byte_journal.specs.declared.fault.AppendFault.{AppendFault}
use Rattle.byte_journal.specs.declared.fault.AppendFault.TheVariants.{Volume as VolumeFault, Full as FullAt, OutOfMemory}
use Rattle.trfc_protocol.specs.Meaning.{Meaning}
use Rattle.trfc_protocol.specs.Worlds.{log_of, last_of, is_up, with_fall}
use Rattle.unit_landscape.specs.declared.world_tables.WorldTables.{WorldTables}
use Rattle.unit_landscape.specs.Entered.{IsEntered}
use Rattle.unit_landscape.specs.InStep.{AreInStepWith}
use Rattle.unit_landscape.proofs.InStepLemmas.{stands_up}
use Rattle.unit_landscape.proofs.EnteringLemmas.{last-entered}
use Rattle.unit_journal.specs.declared.journals.SystemJournals.{SystemJournals}
use Rattle.unit_journal.specs.OnDisk.{moments_at, AreInOrder}
use Rattle.unit_journal.proofs.OrderLemmas.{AreInOrder-grown}
use Rattle.unit_landscape.specs.declared.append_end.AppendEnd.{AppendEnd}
use Rattle.unit_landscape.specs.declared.append_end.AppendEnd.TheVariants.{Volume}
use Rattle.unit_landscape.specs.KeptWorlds.{IsStored, kept_of}
use Rattle.unit_landscape.specs.OnVolumes.{AreOnVolumes}
use Rattle.unit_landscape.specs.AppendEnds.{EndedAs, FullAs, JournalsAs, UnchangedAs, IsToWrite, IsWritten}
use Rattle.unit_landscape.specs.steps.Writing.{CanConclude, ConcludedAs, IsWriteOf, ended_by}
use Rattle.unit_landscape.proofs.OnVolumesLemmas.{on_volumes-written, on_volumes-stays, on_volumes-fell}

-- a fault of the volume is told as one, and nothing else is
ended-Volume : (w : Result (Unit {0}) AppendFault) → ended_by w ≡ Err Volume → w ≡ Err VolumeFault
ended-Volume (Ok done) is = cc
ended-Volume (Err VolumeFault) is = refl
ended-Volume (Err (FullAt size)) is = cc
ended-Volume (Err OutOfMemory) is = cc

-- so it counts as one
pub faults-ended : (w : Result (Unit {0}) AppendFault) (r : Result (Unit {0}) AppendEnd) (old new : ℕ → ℕ) (place : ℕ) → r ≡ ended_by w
    → CountsFault (IsErrOf w VolumeFault) old new place → CountsFault (IsErrOf r Volume) old new place
faults-ended w r old new place is counts = record {
  rose = λ failed. counts.rose (ended-Volume w (sym is ∙ failed));
  quiet = λ isnt. counts.quiet (λ failed. isnt (is ∙ ap ended_by failed));
  never_falls = counts.never_falls;
  others = counts.others;
}

-- what is known of a write that ended: the record is written, or all is as it was, or the system fell
pub record EndsAs {R A E D : Type 0} (meaning : R → Meaning) (stands : A → List Record → Type 0) (disk : Disk D)
    (before after : WorldTables R A E) (held noted : SystemJournals) (old new : D) (system : ℕ) (next : Record) (more : List AleUnit)
    (r : Result (Unit {0}) AppendEnd) : Type 0 where
  pub written : OnOk r (IsWritten disk (kept_of before held old) (kept_of after noted new) system next more)
  pub ended : IfErr r (EndedAs before.world after.world system next)
  pub stored : OnErr r (IsStored meaning stands disk (kept_of after noted new))
  pub journals : JournalsAs (system - 1) held noted r
  pub unchanged : UnchangedAs (kept_of before held old) (kept_of after noted new) r
  pub full : FullAs (system - 1) held (log_of before.world system) next r

module _ {R A E D : Type 0} (meaning : R → Meaning) (stands : A → List Record → Type 0) (disk : Disk D)
    (before entered after : WorldTables R A E) (held noted : SystemJournals) (old new : D) (system : ℕ) (next : Record)
    (kept : IsStored meaning stands disk (kept_of before held old)) (can : IsToWrite before.world system next) where
  -- what is known of a write to the log of the system
  abbrev Wrote : Result (Unit {0}) AppendFault → Type 0
  Wrote w = IsWriteOf disk old new (system - 1) held noted (log_of before.world system) next w

  abbrev Concluded : Result (Unit {0}) AppendFault → Type 0
  Concluded w = ConcludedAs before entered after system next (ended_by w)

  -- the moments are in order where none was noted
  order : moments_at noted (system - 1) ≡ moments_at held (system - 1) → AreInOrder (moments_at noted (system - 1))
  order same = subst AreInOrder (sym same) (kept.on_volumes.order (system - 1))

  -- as where nothing was noted, or the moment of a record alone whose write failed
  moments-left : {all : SystemJournals} → noted ≡ all → moments_at noted (system - 1) ≡ moments_at all (system - 1)
  moments-left left = ap (λ (j : SystemJournals). moments_at j (system - 1)) left

  -- where the journal took the record it is written
  written-ended : (more : List AleUnit) (w : Result (Unit {0}) AppendFault) → Wrote w → Concluded w → IsEntered before entered system next more
      → OnOk (ended_by w) (IsWritten disk (kept_of before held old) (kept_of after noted new) system next more)
  written-ended more (Ok done) wrote concluded is =
      subst (λ (b : WorldTables R A E). IsWritten disk (kept_of before held old) (kept_of b noted new) system next more) (sym concluded)
      (record {
        world = is.world;
        entered = is.tables;
        on_volumes = subst (λ w. AreOnVolumes disk new w.systems noted) (sym is.world)
            (on_volumes-written disk old new before.world held noted system can.up kept.on_volumes wrote.one
            (AreInOrder-grown (system - 1) held noted wrote.grown (kept.on_volumes.order (system - 1))) wrote.others next wrote.written);
      })
  written-ended more (Err VolumeFault) wrote concluded is = tt
  written-ended more (Err (FullAt size)) wrote concluded is = tt
  written-ended more (Err OutOfMemory) wrote concluded is = tt

  -- else the world is as it was, or the system fell
  ended-ended : (w : Result (Unit {0}) AppendFault) → Concluded w → IfErr (ended_by w) (EndedAs before.world after.world system next)
  ended-ended (Ok done) concluded = tt
  ended-ended (Err VolumeFault) concluded = concluded
  ended-ended (Err (FullAt size)) concluded = ap (λ (b : WorldTables R A E). b.world) concluded
  ended-ended (Err OutOfMemory) concluded = ap (λ (b : WorldTables R A E). b.world) concluded

  -- and all is in step, and on the volumes
  stored-ended : (w : Result (Unit {0}) AppendFault) → Wrote w → Concluded w → OnErr (ended_by w) (AreInStepWith stands meaning after.world after.tables)
      → OnErr (ended_by w) (IsStored meaning stands disk (kept_of after noted new))
  stored-ended (Ok done) wrote concluded in_step = tt
  stored-ended (Err VolumeFault) wrote concluded in_step = record {
    in_step = in_step;
    on_volumes = subst (λ w. AreOnVolumes disk new w.systems noted) (sym concluded)
        (on_volumes-fell disk old new before.world held noted system (Some next) can.up kept.on_volumes wrote.one
        (order (moments-left wrote.left)) wrote.others (wrote.torn refl));
  }
  stored-ended (Err (FullAt size)) wrote concluded in_step =
      let same : noted ≡ held = wrote.left in
      let all : kept_of after noted new ≡ kept_of before held old =
      λ i. kept_of (concluded i) (same i) (wrote.full_same size refl i) in
      subst (IsStored meaning stands disk) (sym all) kept
  stored-ended (Err OutOfMemory) wrote concluded in_step =
      subst (λ (b : WorldTables R A E). IsStored meaning stands disk (kept_of b noted new)) (sym concluded)
      (record {
        in_step = kept.in_step;
        on_volumes = on_volumes-stays disk old new before.world held noted system can.up kept.on_volumes wrote.one
            (order (moments-left wrote.left)) wrote.others (wrote.unwritten refl);
      })

  -- the moment of the record stands behind those of its log where it was written
  journals-ended : (w : Result (Unit {0}) AppendFault) → Wrote w → JournalsAs (system - 1) held noted (ended_by w)
  journals-ended (Ok done) wrote = record { one = wrote.one; grown = wrote.grown }
  journals-ended (Err VolumeFault) wrote = wrote.left
  journals-ended (Err (FullAt size)) wrote = wrote.left
  journals-ended (Err OutOfMemory) wrote = wrote.left

  -- nothing has changed where the volume is full, and where memory ran out nothing but perhaps the volume
  unchanged-ended : (w : Result (Unit {0}) AppendFault) → Wrote w → Concluded w
      → UnchangedAs (kept_of before held old) (kept_of after noted new) (ended_by w)
  unchanged-ended (Ok done) wrote concluded = tt
  unchanged-ended (Err VolumeFault) wrote concluded = tt
  unchanged-ended (Err (FullAt size)) wrote concluded =
      let same : noted ≡ held = wrote.left in
      λ i. kept_of (concluded i) (same i) (wrote.full_same size refl i)
  unchanged-ended (Err OutOfMemory) wrote concluded = (
    ap (λ (b : WorldTables R A E). b.world) concluded,
    ap (λ (b : WorldTables R A E). b.tables) concluded,
    wrote.left,
  )

  -- the volume is told to be full where it is
  full-ended : (w : Result (Unit {0}) AppendFault) → Wrote w → FullAs (system - 1) held (log_of before.world system) next (ended_by w)
  full-ended (Ok done) wrote = λ size not_before. let fits = wrote.full size (λ is. cc) in (λ is. cc, λ over. let is = fits.1 over in cc)
  full-ended (Err VolumeFault) wrote = λ size not_before. let fits = wrote.full size (λ is. cc) in (λ is. cc, λ over. let is = fits.1 over in cc)
  full-ended (Err (FullAt place)) wrote = λ size not_before.
      let fits = wrote.full size (λ is. cc) in (
        λ is. let same : place ≡ size = cc in fits.0 (ap (λ n. Err (FullAt n)) same),
        λ over. let is = fits.1 over in let same : place ≡ size = cc in cc,
      )
  full-ended (Err OutOfMemory) wrote = λ size not_before. absurd (not_before refl)

  -- so ends the write
  pub ends : (more : List AleUnit) (w : Result (Unit {0}) AppendFault) (r : Result (Unit {0}) AppendEnd) → r ≡ ended_by w → Wrote w
      → ConcludedAs before entered after system next r → IsEntered before entered system next more
      → OnErr r (AreInStepWith stands meaning after.world after.tables)
      → EndsAs meaning stands disk before after held noted old new system next more r
  ends more w r same wrote how is in_step =
      let concluded : Concluded w = subst (ConcludedAs before entered after system next) same how in
      subst (EndsAs meaning stands disk before after held noted old new system next more) (sym same)
      (record {
        written = written-ended more w wrote concluded is;
        ended = ended-ended w concluded;
        stored = stored-ended w wrote concluded (subst (λ e. OnErr e (AreInStepWith stands meaning after.world after.tables)) same in_step);
        journals = journals-ended w wrote;
        unchanged = unchanged-ended w wrote concluded;
        full = full-ended w wrote;
      })

-- the system at which a record was entered has its tables
pub within-entered : {R A E : Type 0} (meaning : R → Meaning) (stands : A → List Record → Type 0) (now : WorldTables R A E) (system count : ℕ)
    → CanConclude meaning stands now system count → system ≤ length now.tables
within-entered meaning stands now system count can =
    let up = stands_up can.before.world.systems system can.up in
    let here : system ≤ length can.before.tables = subst (λ n. system ≤ n) (sym can.in_step.all) up.most in
    subst (λ n. system ≤ n) (sym can.entered.tables.long) here

-- the record that was entered is the last of its log
pub last-of_entered : {R A E : Type 0} (before now : WorldTables R A E) (system : ℕ) (next : Record) (more : List AleUnit)
    → IsEntered before now system next more → is_up before.world system ≡ true → last_of (log_of now.world system) ≡ Some next
last-of_entered before now system next more is up = ap (λ w. last_of (log_of w system)) is.world ∙ last-entered before.world system next up

-- so the system falls with it, where all else is as it was
pub fell-with : {R A E : Type 0} (before now left after : WorldTables R A E) (system : ℕ) (next : Record) (more : List AleUnit) (rest : Option Record)
    → IsEntered before now system next more → is_up before.world system ≡ true → left ≡ before → rest ≡ last_of (log_of now.world system)
    → after.world ≡ with_fall left.world system rest → after.world ≡ with_fall before.world system (Some next)
fell-with {R} {A} {E} before now left after system next more rest is up back last fell =
    let known : rest ≡ Some next = last ∙ last-of_entered before now system next more is up in
    subst (λ (found : Option Record). after.world ≡ with_fall before.world system found) known
    (subst (λ (b : WorldTables R A E). after.world ≡ with_fall b.world system rest) back fell)
