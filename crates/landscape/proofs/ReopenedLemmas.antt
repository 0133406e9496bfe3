-- A system that is opened again: the tables of the log that was found, and what the opening leaves.
use Rattle.std.specs.Prelude.{take, slice_set, All, Result, Ok, Err, IsErrAnd, IsErrOf, OnOk, OnErr, if◌then◌else◌}
use Rattle.std.proofs.Common.{◌≡◌, ◌≢◌, ◌-◌, ℕ, true, false, Bool, Option, Some, None, List, [], ◌∷◌, ◌++◌, length, inl, inr}
use Rattle.std.proofs.Common.{refl, sym, ap, subst, ◌∙◌, arith}
use Rattle.std.proofs.lemmas.List.{take_all}
use Rattle.std.proofs.lemmas.Option.{none-some, same_Some}
use Rattle.ale_volumes.specs.Disk.{Disk}
use Rattle.ale_volumes.specs.Clock.{KeepsOthers, LeavesOnly}
use Rattle.ale_volumes.specs.Faults.{CountsFault}
use Rattle.ale_volumes.proofs.FaultsLemmas.{CountsFault-of}
use Rattle.byte_journal.specs.Log.{ReadsAs}
use Rattle.byte_journal.specs.Settled.{IsLeftByOpening, LeavesOnlyFromSync}
use Rattle.unit_core.specs.declared.records.Record.{Record}
use Rattle.unit_codec.specs.Condition.{IsWritable}
use Rattle.unit_journal.specs.declared.fault.LookFault.{LookFault}
use Rattle.unit_journal.specs.declared.fault.LookFault.TheVariants as look
use Rattle.unit_journal.specs.declared.looked.Looked.{Looked}
use Rattle.unit_journal.specs.Looking.{LeavesLooked, is_found, system_of, with_looked}
use Rattle.unit_journal.specs.OnDisk.{MayBeLeft, entries_at, rest_at, moments_at}
use Rattle.trfc_protocol.specs.declared.world.World.{World}
use Rattle.trfc_protocol.specs.Happens.{run}
use Rattle.trfc_protocol.specs.Legal.{IsLegal, may_follow}
use Rattle.trfc_protocol.specs.Meaning.{Meaning}
use Rattle.trfc_protocol.specs.Worlds.{log_of, log_with, rest_of}
use Rattle.trfc_protocol.proofs.LegalLemmas.{last_follows}
use Rattle.system_tables.specs.Tables.{TablesOf}
use Rattle.system_tables.specs.OfLog.{AreTablesOf as AreTables}
use Rattle.log_tables.specs.OfLog.{IsRead, IsReadTo, LogTablesOf, no_claims}
use Rattle.log_tables.specs.Read.{IsProper}
use Rattle.log_tables.proofs.ReadLemmas.{IsReadTo-legal}
use Rattle.log_reading.proofs.ProperLemmas.{AreProper-entries, IsProper-writable}
use Rattle.unit_landscape.specs.Causes.{with_cause}
use Rattle.unit_landscape.specs.declared.cause.Cause.TheVariants.{Up}
use Rattle.unit_landscape.specs.Crashes.{HasGrown}
use Rattle.unit_landscape.specs.Kept.{IsLandscape}
use Rattle.unit_landscape.specs.KeptWorlds.{KeptOf}
use Rattle.unit_landscape.specs.OnVolumes.{AreOnVolumes}
use Rattle.unit_landscape.specs.Reopening.{AreTablesLooked, HasReopened, IsDown, KeepsAll, Looks, log_looked, opening_events, rest_found}
use Rattle.unit_landscape.proofs.CrashLemmas.{leaves-same}
use Rattle.unit_landscape.proofs.GrownLemmas.{grown-none}
use Rattle.unit_landscape.proofs.OpenedAgainLemmas.{grown-reopened, kept-down, legal-kept, legal-looked}
use Rattle.document_state.specs.declared.document_tables.DocumentTables.{DocumentTables}
use Rattle.document_state.specs.declared.model_rules.ModelRules.{ModelRules}
use Rattle.landscape.specs.Begun.{AreBegun}
use Rattle.landscape.specs.Crashes.{LeavesSoundLogs}
use Rattle.landscape.specs.declared.reopen_end.ReopenEnd.{ReopenEnd}
use Rattle.landscape.specs.declared.reopen_end.ReopenEnd.TheVariants.{Volume, Changed, OutOfMemory}
use Rattle.landscape.specs.Reopened.{EndsBy, HasReopenedWith, IsOpening, OpensAs, end_of, failed}
use Rattle.landscape.proofs.BegunLemmas.{is_lawful, meaning}

-- a legal log was read to its end
pub read-legal : {A : Type 0} (rules : Meaning) (stands : A → List Record → Type 0) (system : ℕ) (log : List Record) (count : ℕ) (its : LogTablesOf A)
    → IsLegal rules system log → IsReadTo rules stands system log count its → IsRead rules stands system log its
read-legal rules stands system log count its legal to =
    let whole : count ≡ length log = (IsReadTo-legal rules stands system log count its to).1 legal in
    subst (λ l. IsRead rules stands system l its) (ap (λ n. take n log) whole ∙ take_all (length log) log (omega arith)) to.read

module _ {V : Type 0} (disk : Disk V) (kept : KeptOf ModelRules DocumentTables V) (is : IsLandscape meaning kept.world)
    (on_volumes : AreOnVolumes disk kept.vols kept.world.systems kept.journals) (looked : Looked) (down : IsDown kept.world (system_of looked)) where
  -- tables can be made of each record of the log that is kept
  pub proper-kept : All IsProper (log_of kept.world (system_of looked))
  proper-kept =
      let its = kept-down disk kept.vols kept.world kept.journals (system_of looked) on_volumes down in
      AreProper-entries (moments_at kept.journals (system_of looked - 1)) (log_of kept.world (system_of looked)) its.each its.entries

  module _ (next : Record) (found : rest_found kept.world looked ≡ Some next) where
    -- and of the one that was found behind it
    pub proper-found : IsProper next
    proper-found =
        let its = kept-down disk kept.vols kept.world kept.journals (system_of looked) on_volumes down in
        IsProper-writable next (writable (is_found looked) (rest_of kept.world (system_of looked)) its.behind found)
      where
        writable : (there : Bool) (rest : Option Record)
            → MayBeLeft (entries_at kept.journals (system_of looked - 1) (log_of kept.world (system_of looked)))
            (rest_at kept.journals (system_of looked - 1)) rest
            → (if there then rest else None) ≡ Some next → IsWritable next
        writable false rest may here = absurd (none-some next here)
        writable true None may here = absurd (none-some next here)
        writable true (Some what) may here = subst IsWritable (same_Some what next here) may.0

    -- which may follow it
    pub follows-found : may_follow (meaning kept.world.rules) (system_of looked) (log_of kept.world (system_of looked)) next ≡ true
    follows-found =
        last_follows (meaning kept.world.rules) (system_of looked) (log_of kept.world (system_of looked)) next
        (subst (IsLegal (meaning kept.world.rules) (system_of looked)) (ap (log_with (log_of kept.world (system_of looked))) found)
        (legal-looked (meaning kept.world.rules) kept.world is.safe looked))

-- the tables of the log that was found, where a record was found and where none was
module _ {A : Type 0} (rules : Meaning) (stands : A → List Record → Type 0) (world : World ModelRules) (looked : Looked) (system : ℕ) (log : List Record)
    (its : LogTablesOf A) (here : system ≡ system_of looked) (is_log : log ≡ log_of world system) where
  kept-log : log ≡ log_of world (system_of looked)
  kept-log = is_log ∙ ap (log_of world) here

  pub tables-without : rest_found world looked ≡ None → IsRead rules stands system log its → AreTablesLooked stands rules world looked its.tables
  tables-without none read =
      let same : log ≡ log_looked world looked = kept-log ∙ sym (ap (log_with (log_of world (system_of looked))) none) in
      let tables = subst (λ s. AreTables stands (rules.committed s log) log no_claims no_claims its.tables) here read.tables in
      subst (λ l. AreTables stands (rules.committed (system_of looked) l) l no_claims no_claims its.tables) same tables

  pub tables-with : (next : Record) → rest_found world looked ≡ Some next → IsRead rules stands system (log ++ next ∷ []) its
      → AreTablesLooked stands rules world looked its.tables
  tables-with next found read =
      let same : log ++ next ∷ [] ≡ log_looked world looked =
      ap (λ l. l ++ next ∷ []) kept-log ∙ sym (ap (log_with (log_of world (system_of looked))) found) in
      let tables = subst (λ s. AreTables stands (rules.committed s (log ++ next ∷ [])) (log ++ next ∷ []) no_claims no_claims its.tables) here read.tables in
      subst (λ l. AreTables stands (rules.committed (system_of looked) l) l no_claims no_claims its.tables) same tables

module _ {V : Type 0} (disk : Disk V) (before after : KeptOf ModelRules DocumentTables V) (system : ℕ) where
  module _ (is : IsLandscape meaning before.world) where
    ends-grown : {T : Type 0} (answer : Result Looked LookFault) (result : Result T ReopenEnd) → EndsBy disk before after system answer result
        → HasGrown before.world after.world
    ends-grown (Ok looked) (Ok done) ends =
        let opened = ends.1.1 in grown-reopened meaning is_lawful before.world after.world (is_found looked) (system_of looked) is.safe opened.world
    ends-grown (Ok looked) (Err end) ends = let keeps = ends.1 in grown-none before.world after.world keeps.world
    ends-grown (Err fault) (Ok done) ends = absurd ends
    ends-grown (Err fault) (Err end) ends = let keeps = ends.1 in grown-none before.world after.world keeps.world

    -- however an opening ends, logs have only grown
    pub opens-grown : {T : Type 0} (result : Result T ReopenEnd) → OpensAs disk before after system result → HasGrown before.world after.world
    opens-grown result ends = elim ends [
      | inl refused ↦ grown-none before.world after.world (ap (λ (k : KeptOf ModelRules DocumentTables V). k.world) refused.same)
      | inr opening ↦ ends-grown opening.answer result opening.ends
    ]

  -- what was sound after one call is so after another one that calls no volume
  pub sound-on : (between : KeptOf ModelRules DocumentTables V) → after.vols ≡ between.vols → LeavesSoundLogs disk before between
      → LeavesSoundLogs disk before after
  sound-on between still leaves tells = leaves-same meaning disk before before between after refl refl refl still (leaves tells)

module _ {V : Type 0} (disk : Disk V) (before after : KeptOf ModelRules DocumentTables V) (system : ℕ) where
  unchanged-by : {T : Type 0} (answer : Result Looked LookFault) (result : Result T ReopenEnd) → EndsBy disk before after system answer result
      → ((number : ℕ) → answer ≢ Err (look.Changed number)) → (number : ℕ) → result ≢ Err (Changed number)
  unchanged-by (Ok looked) (Ok done) ends never number same = cc
  unchanged-by (Ok looked) (Err end) ends never number same = let short = ends.0 in cc
  unchanged-by (Err fault) (Ok done) ends never number same = absurd ends
  unchanged-by (Err look.Volume) (Err end) ends never number same = let is = ends.0 in cc
  unchanged-by (Err (look.Changed at)) (Err end) ends never number same = absurd (never at refl)
  unchanged-by (Err look.OutOfMemory) (Err end) ends never number same = let is = ends.0 in cc

  fault-to : {T : Type 0} (answer : Result Looked LookFault) (result : Result T ReopenEnd) → EndsBy disk before after system answer result
      → result ≡ Err Volume → answer ≡ Err look.Volume
  fault-to (Ok looked) (Ok done) ends same = cc
  fault-to (Ok looked) (Err end) ends same = let short = ends.0 in cc
  fault-to (Err fault) (Ok done) ends same = absurd ends
  fault-to (Err look.Volume) (Err end) ends same = refl
  fault-to (Err (look.Changed at)) (Err end) ends same = let is = ends.0 in cc
  fault-to (Err look.OutOfMemory) (Err end) ends same = let is = ends.0 in cc

  fault-from : {T : Type 0} (answer : Result Looked LookFault) (result : Result T ReopenEnd) → EndsBy disk before after system answer result
      → answer ≡ Err look.Volume → result ≡ Err Volume
  fault-from (Ok looked) result ends same = cc
  fault-from (Err fault) (Ok done) ends same = absurd ends
  fault-from (Err look.Volume) (Err end) ends same = let is = ends.0 in cc
  fault-from (Err (look.Changed at)) (Err end) ends same = cc
  fault-from (Err look.OutOfMemory) (Err end) ends same = cc

  module _ {T : Type 0} (result : Result T ReopenEnd) (is : IsOpening disk before after system result) where
    -- volumes that tell what they hold are not changed by others
    pub opening-unchanged : disk.told → (number : ℕ) → result ≢ Err (Changed number)
    opening-unchanged tells = let looks = is.looks in unchanged-by is.answer result is.ends (looks.unchanged tells)

    -- a fault is counted exactly where the volume failed
    pub opening-faults : CountsFault (result ≡ Err Volume) (disk.faults before.vols) (disk.faults after.vols) (system - 1)
    opening-faults =
        let looks = is.looks in
        CountsFault-of (is.answer ≡ Err look.Volume) (result ≡ Err Volume) (disk.faults before.vols) (disk.faults after.vols) (system - 1)
        (fault-to is.answer result is.ends) (fault-from is.answer result is.ends) looks.faults

-- a world that stayed has begun as it had
pub begun-same : (before after : World ModelRules) → after ≡ before → AreBegun before → AreBegun after
begun-same before after same begun = subst AreBegun (sym same) begun

-- what was found is entered, or nothing has changed: logs have only grown
pub grown-entered : {V T E : Type 0} (before after : KeptOf ModelRules DocumentTables V) (looked : Looked) (result : Result T E)
    → IsLandscape meaning before.world → OnOk result (HasReopenedWith before after looked) → OnErr result (after ≡ before)
    → HasGrown before.world after.world
grown-entered before after looked (Ok done) is opened same =
    let its = opened.1 in grown-reopened meaning is_lawful before.world after.world (is_found looked) (system_of looked) is.safe its.world
grown-entered {V} before after looked (Err end) is opened same =
    grown-none before.world after.world (ap (λ (k : KeptOf ModelRules DocumentTables V). k.world) same)

-- ---- an opening, by what its look answered and what was entered behind it

module _ {V : Type 0} (disk : Disk V) (before between after : KeptOf ModelRules DocumentTables V) (system : ℕ) (answer : Result Looked LookFault)
    (down : IsDown before.world system) (looks : Looks disk before between system answer) (keeps : KeepsAll disk before between system answer) where
  looks-on : after.vols ≡ between.vols → Looks disk before after system answer
  looks-on still = record {
    read = looks.read;
    unchanged = looks.unchanged;
    leaves = λ tells.
        subst (λ v. LeavesLooked (disk.volume before.vols (system - 1)) (disk.volume v (system - 1)) answer) (sym still) (looks.leaves tells);
    any_moment = λ tells.
        subst (λ v. LeavesOnly disk before.vols v (system - 1) (IsLeftByOpening (disk.volume before.vols (system - 1)))) (sym still)
        (looks.any_moment tells);
    from_sync = λ tells.
        subst (λ v. LeavesOnlyFromSync disk before.vols v (system - 1) (IsErrOf answer look.Volume)
        (ReadsAs (disk.volume before.vols (system - 1)).contents)) (sym still) (looks.from_sync tells);
    others = λ tells. subst (λ v. KeepsOthers disk before.vols v (system - 1)) (sym still) (looks.others tells);
    faults = subst (λ v. CountsFault (IsErrOf answer look.Volume) (disk.faults before.vols) (disk.faults v) (system - 1)) (sym still) looks.faults;
  }

  keeps-on : after ≡ between → KeepsAll disk before after system answer
  keeps-on same = subst (λ (k : KeptOf ModelRules DocumentTables V). KeepsAll disk before k system answer) (sym same) keeps

  still-same : after ≡ between → after.vols ≡ between.vols
  still-same same = ap (λ (k : KeptOf ModelRules DocumentTables V). k.vols) same

  ends-failed : {T : Type 0} (result : Result T ReopenEnd) (fault : LookFault) → IsErrAnd result (λ end. end ≡ end_of fault)
      → KeepsAll disk before after system (failed fault) → EndsBy disk before after system (failed fault) result
  ends-failed (Ok done) fault is stays = absurd is
  ends-failed (Err end) fault is stays = (is, stays)

  ends-short : {T : Type 0} (result : Result T ReopenEnd) (looked : Looked) → IsErrAnd result (λ end. end ≡ OutOfMemory)
      → KeepsAll disk before after system (Ok looked) → EndsBy disk before after system (Ok looked) result
  ends-short (Ok done) looked is stays = absurd is
  ends-short (Err end) looked is stays = (is, stays)

  -- no log was found
  pub opening-failed : {T : Type 0} (result : Result T ReopenEnd) (fault : LookFault) → answer ≡ Err fault
      → IsErrAnd result (λ end. end ≡ end_of fault) → after ≡ between → IsOpening disk before after system result
  opening-failed result fault is_answer is same = record {
    down = down;
    answer = answer;
    looks = looks-on (still-same same);
    ends = subst (λ a. EndsBy disk before after system a result) (sym is_answer)
        (ends-failed result fault is (subst (KeepsAll disk before after system) is_answer (keeps-on same)));
  }

  module _ {T : Type 0} (result : Result T ReopenEnd) (looked : Looked) (is_answer : answer ≡ Ok looked) where
    -- what was found was not entered, since memory was wanting
    pub opening-short : IsErrAnd result (λ end. end ≡ OutOfMemory) → after ≡ between → IsOpening disk before after system result
    opening-short is same = record {
      down = down;
      answer = answer;
      looks = looks-on (still-same same);
      ends = subst (λ a. EndsBy disk before after system a result) (sym is_answer)
          (ends-short result looked is (subst (KeepsAll disk before after system) is_answer (keeps-on same)));
    }

    -- what was found was entered
    pub opening-done : (done : T) → result ≡ Ok done → system_of looked ≡ system → after.vols ≡ between.vols → HasReopenedWith between after looked
        → IsOpening disk before after system result
    opening-done done is_result of still opened = record {
      down = down;
      answer = answer;
      looks = looks-on still;
      ends = subst (λ a. EndsBy disk before after system a result) (sym is_answer)
          (subst (EndsBy disk before after system (Ok looked)) (sym is_result) (of, reopened-since));
    }
      where
        reopened-since : HasReopenedWith before after looked
        reopened-since =
            let its = opened.1 in
            let stays = subst (KeepsAll disk before between system) is_answer keeps in (
              opened.0,
              record {
                world = its.world
                    ∙ ap (λ (w : World ModelRules). run meaning w (opening_events (is_found looked) (system_of looked))) stays.world;
                tables = its.tables ∙ ap (λ tables. slice_set tables (system_of looked - 1) opened.0) stays.tables;
                journals = its.journals ∙ ap (with_looked looked) stays.journals;
                causes = its.causes ∙ ap (λ causes. with_cause causes (system_of looked) Up) stays.causes;
              },
            )

-- some tables were entered with what was found
pub reopened-with : {V T E : Type 0} (before after : KeptOf ModelRules DocumentTables V) (looked : Looked) (its : TablesOf DocumentTables) (result : Result T E)
    → OnOk result (HasReopened meaning before after looked its) → OnOk result (HasReopenedWith before after looked)
reopened-with before after looked its (Ok done) opened = (its, opened)
reopened-with before after looked its (Err end) opened = tt

-- the tables of the log that was found, as they are read: of the log that is kept, and with the record behind it where that was found
module _ {V : Type 0} (disk : Disk V) (kept : KeptOf ModelRules DocumentTables V) (is : IsLandscape meaning kept.world)
    (on_volumes : AreOnVolumes disk kept.vols kept.world.systems kept.journals) (looked : Looked) (down : IsDown kept.world (system_of looked))
    {A : Type 0} (stands : A → List Record → Type 0) (world : World ModelRules) (same : world ≡ kept.world) (system : ℕ) (here : system ≡ system_of looked)
    (log : List Record) (is_log : log ≡ log_of world system) (its : LogTablesOf A) where
  log-there : log ≡ log_of kept.world system
  log-there = is_log ∙ ap (λ (w : World ModelRules). log_of w system) same

  pub read-kept : (count : ℕ) → IsReadTo (meaning world.rules) stands system log count its → IsRead (meaning world.rules) stands system log its
  read-kept count to =
      let legal = subst (λ (w : World ModelRules). IsLegal (meaning w.rules) system (log_of w system)) (sym same)
      (legal-kept (meaning kept.world.rules) kept.world is.safe system) in
      read-legal (meaning world.rules) stands system log count its (subst (IsLegal (meaning world.rules) system) (sym is_log) legal) to

  pub tables-kept : (count : ℕ) → IsReadTo (meaning world.rules) stands system log count its → rest_found world looked ≡ None
      → AreTablesLooked stands (meaning kept.world.rules) kept.world looked its.tables
  tables-kept count to none =
      tables-without (meaning kept.world.rules) stands kept.world looked system log its here log-there
      (ap (λ (w : World ModelRules). rest_found w looked) (sym same) ∙ none)
      (subst (λ (w : World ModelRules). IsRead (meaning w.rules) stands system log its) same (read-kept count to))

  pub tables-taken : (next : Record) (may : Bool) → rest_found world looked ≡ Some next → may ≡ may_follow (meaning world.rules) system log next
      → (may ≡ true → IsRead (meaning world.rules) stands system (log ++ next ∷ []) its)
      → AreTablesLooked stands (meaning kept.world.rules) kept.world looked its.tables
  tables-taken next may there is_may read =
      let found : rest_found kept.world looked ≡ Some next = ap (λ (w : World ModelRules). rest_found w looked) (sym same) ∙ there in
      let follows : may_follow (meaning world.rules) system log next ≡ true =
      ap (λ (w : World ModelRules). may_follow (meaning w.rules) system log next) same
      ∙ ap (λ s. may_follow (meaning kept.world.rules) s log next) here
      ∙ ap (λ l. may_follow (meaning kept.world.rules) (system_of looked) l next) (log-there ∙ ap (log_of kept.world) here)
      ∙ follows-found disk kept is on_volumes looked down next found in
      tables-with (meaning kept.world.rules) stands kept.world looked system log its here log-there next found
      (subst (λ (w : World ModelRules). IsRead (meaning w.rules) stands system (log ++ next ∷ []) its) same (read (is_may ∙ follows)))
