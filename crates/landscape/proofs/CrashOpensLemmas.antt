-- What a crash leaves of a landscape is sound logs of the text with which its logs begin. So an opening with that text does not refuse it.
use Rattle.std.specs.Prelude.{map, slice_get}
use Rattle.std.proofs.Common.{◌≡◌, inl, inr, ℕ, zero, suc, ◌-◌, ◌≤◌, ◌<◌, true, Option, Some, None, List, [], ◌∷◌, ◌++◌, length, take, refl, sym, ap, subst, ◌∙◌, arith}
use Rattle.std.proofs.lemmas.Bool.{cases_lt}
use Rattle.std.proofs.lemmas.List.{length-map}
use Rattle.std.proofs.lemmas.Option.{get_or_from_slice_get, same_Some, slice_get_within}
use Rattle.ale_base.specs.Prefix.{IsPrefix}
use Rattle.ale_volumes.specs.Disk.{Disk, LeftSince}
use Rattle.ale_volumes.specs.Volume.{IsImage}
use Rattle.unit_core.specs.declared.records.Record.{Record}
use Rattle.unit_core.specs.declared.records.Record.TheVariants.{Genesis}
use Rattle.unit_codec.specs.declared.entry.Entry.{Entry}
use Rattle.unit_journal.specs.Log.{Stands}
use Rattle.unit_journal.specs.OnDisk.{AreInOrder, MayFollow, entries_of, moments_of}
use Rattle.trfc_protocol.specs.Legal.{IsLegal, may_follow}
use Rattle.trfc_protocol.specs.Meaning.{Meaning}
use Rattle.trfc_protocol.specs.Safe.{Sound}
use Rattle.trfc_protocol.specs.Worlds.{log_of, log_with}
use Rattle.trfc_protocol.proofs.LegalLemmas.{follows-at}
use Rattle.log_reading.specs.Bad.{Matches, moment_at, moment_before}
use Rattle.log_reading.specs.Reading.{AreGoodTo}
use Rattle.unit_landscape.specs.Crashes.{AreFound, AreFoundSince, AreOfSystems, StandsForLog}
use Rattle.unit_landscape.specs.KeptWorlds.{KeptOf}
use Rattle.document_state.specs.Meaning.{model_meaning}
use Rattle.document_state.specs.declared.document_tables.DocumentTables.{DocumentTables}
use Rattle.document_state.specs.declared.model_rules.ModelRules.{ModelRules}
use Rattle.landscape.specs.Begun.{AreBegun}
use Rattle.landscape.specs.Crashes.{GoesSoundly, LeavesOpenable, LeavesSoundLogs, StaysOpenable}
use Rattle.landscape.specs.Opened.{HoldSoundLogs, IsGoodLog, Logs, bytes_in}
use Rattle.landscape.proofs.BegunLemmas.{meaning}

-- ---- a log that is legal, has its moments in order, and begins with its Genesis, is good

-- of moments in order each may follow the one before it
in-time : (moments : List (Option ℕ)) → AreInOrder moments → (place : ℕ) → place < length moments
    → MayFollow (moment_before moments place) (moment_at moments place)
in-time moments order zero within = tt
in-time [] order (suc place) within = absurd (omega (arith, within))
in-time (moment ∷ []) order (suc place) within = absurd (omega (arith, within))
in-time (moment ∷ second ∷ moments) order (suc zero) within = order.0.0
in-time (moment ∷ second ∷ moments) order (suc (suc place)) within = in-time (second ∷ moments) order.1 (suc place) (omega (arith, within))

-- entries are their records with their moments
entries-again : (entries : List Entry) → entries_of (moments_of entries) (map (λ (entry : Entry). entry.what) entries) ≡ entries
entries-again [] = refl
entries-again (entry ∷ entries) = ap (λ (all : List Entry). entry ∷ all) (entries-again entries)

-- no Genesis may follow another record
no-genesis : (rules : Meaning) (system : ℕ) (text : List ℕ) (first : Record) (before : List Record) (next : Record)
    → may_follow rules system (first ∷ before) next ≡ true → Matches system text next
no-genesis rules system text first before (Genesis number its) may = absurd cc
no-genesis rules system text first before next may = tt

-- a record of a legal log that begins with its Genesis is no other Genesis
matches-at : (rules : Meaning) (system : ℕ) (text : List ℕ) (rest : List Record) (place : ℕ) (next : Record)
    → slice_get (Genesis system text ∷ rest) place ≡ Some next → may_follow rules system (take place (Genesis system text ∷ rest)) next ≡ true
    → Matches system text next
matches-at rules system text rest zero next at may =
    subst (Matches system text) (same_Some (Genesis system text) next at) (refl, refl)
matches-at rules system text rest (suc place) next at may = no-genesis rules system text (Genesis system text) (take place rest) next may

module _ (rules : Meaning) (system : ℕ) (text : List ℕ) (moments : List (Option ℕ)) (log : List Record) (each : length moments ≡ length log)
    (order : AreInOrder moments) (legal : IsLegal rules system log) where
  may-at : (place : ℕ) (next : Record) → slice_get log place ≡ Some next → may_follow rules system (take place log) next ≡ true
  may-at place next at =
      subst (λ r. may_follow rules system (take place log) r ≡ true) (get_or_from_slice_get log place next next at)
      (follows-at rules system log place next legal (slice_get_within log place next at))

  -- such a log is good
  pub good-legal : (rest : List Record) → log ≡ Genesis system text ∷ rest → AreGoodTo rules system text moments log (length log)
  good-legal rest first place next within at = record {
    matches =
        matches-at rules system text rest place next (subst (λ l. slice_get l place ≡ Some next) first at)
        (subst (λ l. may_follow rules system (take place l) next ≡ true) first (may-at place next at));
    in_time = in-time moments order place (omega (arith, within, each));
    legal = may-at place next at;
  }

-- ---- bytes that stand for sound logs

module _ (systems : ℕ) (text : List ℕ) (images : ℕ → List ℕ) (logs : ℕ → List Record)
    (stand : (system : ℕ) → 1 ≤ system → system ≤ systems → StandsForLog (images system) (logs system)) where
  -- the entries of a system's log
  record IsReadOf (system : ℕ) (entries : List Entry) : Type 0 where
    pub stands : Stands (images system) entries
    pub records : map (λ (entry : Entry). entry.what) entries ≡ logs system
    pub order : AreInOrder (moments_of entries)

  read : (system : ℕ) → (entries : List Entry) × (1 ≤ system → system ≤ systems → IsReadOf system entries)
  read system = elim (cases_lt 0 system) [
    | inl least ↦ elim (cases_lt systems system) [
      | inl more ↦ ([], λ one most. absurd (omega (arith, more, most)))
      | inr most ↦
          let its = stand system (omega (arith, least)) (omega (arith, most)) in
          (its.0, λ one less. record { stands = its.1; records = its.2; order = its.3 })
    ]
    | inr none ↦ ([], λ one most. absurd (omega (arith, none, one)))
  ]

  abbrev found : Logs
  found = record { records = logs; moments = λ system. moments_of (read system).0 }

  module _ (sound : Sound (model_meaning systems) logs) (within : AreOfSystems (model_meaning systems) logs)
      (first : (system : ℕ) → 1 ≤ system → system ≤ systems → (rest : List Record) × (logs system ≡ Genesis system text ∷ rest)) where
    good : (system : ℕ) → 1 ≤ system → system ≤ systems → IsGoodLog systems text system (found.moments system) (logs system)
    good system least most =
        let its = (read system).1 least most in
        let each : length (moments_of (read system).0) ≡ length (logs system) =
        length-map (read system).0 (λ (entry : Entry). entry.moment)
        ∙ sym (length-map (read system).0 (λ (entry : Entry). entry.what))
        ∙ ap (λ (l : List Record). length l) its.records in
        record {
          each = each;
          good = good-legal (model_meaning systems) system text (found.moments system) (logs system) each its.order (sound.legal system)
              (first system least most).0 (first system least most).1;
        }

    -- Volumes whose bytes stand for sound logs, each of which begins with the Genesis of its system and of a text, hold sound logs of that text.
    pub holds-logs : HoldSoundLogs systems text images
    holds-logs = (
      found,
      record { good = good; within = within; once = sound.once },
      λ system least most.
          let its = (read system).1 least most in
          subst (Stands (images system))
          (sym (entries-again (read system).0) ∙ ap (entries_of (found.moments system)) its.records)
          its.stands,
    )

-- ---- what a crash leaves

-- a log with a record more begins as it did
with-first : (genesis : Record) (log : List Record) (rest : List Record) (more : Option Record) → log ≡ genesis ∷ rest
    → (behind : List Record) × (log_with log more ≡ genesis ∷ behind)
with-first genesis log rest None is = (rest, is)
with-first genesis log rest (Some next) is = (rest ++ next ∷ [], ap (λ l. l ++ next ∷ []) is)

-- so does one that has grown
between-first : (genesis : Record) (log front : List Record) (rest : List Record) → IsPrefix log front → log ≡ genesis ∷ rest
    → (behind : List Record) × (front ≡ genesis ∷ behind)
between-first genesis log front rest more is = (rest ++ more.0, sym more.1 ∙ ap (λ l. l ++ more.0) is)

module _ {V : Type 0} (before : KeptOf ModelRules DocumentTables V) (all : length before.world.systems ≡ before.world.rules.systems)
    (begun : AreBegun before.world) where
  abbrev many : ℕ
  many = before.world.rules.systems

  its-first : (system : ℕ) → 1 ≤ system → system ≤ many → (rest : List Record) × (log_of before.world system ≡ Genesis system begun.text ∷ rest)
  its-first system least most = let is = begun.each system least most in (is.rest, is.first)

  few : (system : ℕ) → system ≤ many → system ≤ length before.world.systems
  few system most = omega (arith, all, most)

  -- what a crash inside a call leaves of it
  found-holds : (images : ℕ → List ℕ) → AreFound meaning before images → HoldSoundLogs many begun.text images
  found-holds images found =
      holds-logs many begun.text images found.logs (λ system least most. found.stand system least (few system most)) found.sound found.within
      (λ system least most.
      let is = its-first system least most in
      let whole = found.whole system in
      let with_it = with-first (Genesis system begun.text) (log_of before.world system) is.0 whole.0 is.1 in
      (with_it.0, whole.1 ∙ with_it.1))

  -- and what one leaves of it at a moment of many calls
  found_since-holds : (after : KeptOf ModelRules DocumentTables V) (images : ℕ → List ℕ) → AreFoundSince meaning before after images
      → HoldSoundLogs many begun.text images
  found_since-holds after images found =
      holds-logs many begun.text images found.logs (λ system least most. found.stand system least (few system most)) found.sound found.within
      (λ system least most.
      let is = its-first system least most in
      let its = found.between system in
      let front = between-first (Genesis system begun.text) (log_of before.world system) its.0 is.0 its.2 is.1 in
      let with_it = with-first (Genesis system begun.text) its.0 front.0 its.1 front.1 in
      (with_it.0, its.4 ∙ with_it.1))

-- What a crash inside a call leaves can be opened again, by the text with which the logs begin.
pub opens-left : {V : Type 0} (disk : Disk V) (before after : KeptOf ModelRules DocumentTables V)
    → length before.world.systems ≡ before.world.rules.systems → LeavesSoundLogs disk before after → LeavesOpenable disk before after
opens-left disk before after all leaves tells begun images left = found-holds before all begun images ((leaves tells).each images left)

-- So can what one leaves of all volumes at one moment of many calls.
pub opens-later : {V : Type 0} (disk : Disk V) (before after : KeptOf ModelRules DocumentTables V)
    → length before.world.systems ≡ before.world.rules.systems → GoesSoundly disk before after → StaysOpenable disk before after
opens-later disk before after all goes tells begun moment after_it most images left =
    found_since-holds before all begun after images ((goes tells).each moment after_it most images left)

-- The volumes of a landscape hold sound logs, as a read gives them.
pub holds-now : {V : Type 0} (disk : Disk V)
    → (disk.told → (vols : V) (n t : ℕ) (image : List ℕ) → t ≤ disk.moment vols → IsImage (disk.volume vols n) image → LeftSince disk vols n t image)
    → (disk.told → (vols : V) (n : ℕ) → IsImage (disk.volume vols n) (disk.volume vols n).contents)
    → (now : KeptOf ModelRules DocumentTables V) → LeavesOpenable disk now now → disk.told → (begun : AreBegun now.world)
    → HoldSoundLogs now.world.rules.systems begun.text (bytes_in disk now.vols)
holds-now disk counts_now read_is_image now opens tells begun =
    opens tells begun (bytes_in disk now.vols)
    (λ system least most. counts_now tells now.vols (system - 1) (disk.moment now.vols) (bytes_in disk now.vols system) (omega arith)
    (read_is_image tells now.vols (system - 1)))
