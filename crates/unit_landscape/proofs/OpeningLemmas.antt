-- Volumes that are opened one after the other: what is opened stays kept, and the world is one that begins.
use Rattle.std.specs.Prelude.{slice_get, map, Result, Ok, IsErrOf}
use Rattle.std.proofs.Common.{◌≡◌, ◌≢◌, ℕ, zero, suc, ◌+◌, ◌<◌, Option, Some, List, [], ◌∷◌, ◌++◌, length, inl, inr, Err, refl, sym, ap, subst, ◌∙◌, arith}
use Rattle.std.proofs.Common.{◌≤◌, ◌-◌, length-append}
use Rattle.std.proofs.lemmas.List.{map-append}
use Rattle.std.proofs.lemmas.Bool.{cases_eq, cases_lt, both_ways}
use Rattle.std.proofs.lemmas.Option.{same_Some, slice_get_within}
use Rattle.ale_base.proofs.ListLemmas.{slice_get-front}
use Rattle.ale_base.proofs.SnocLemmas.{slice_get-last}
use Rattle.ale_volumes.specs.Disk.{Disk}
use Rattle.ale_volumes.specs.Faults.{CountsFault}
use Rattle.byte_journal.specs.Log.{Stands as StandsForBodies, ReadsAs}
use Rattle.byte_journal.specs.Settled.{LeavesOnlyLater, LeavesOnlyFromSync}
use Rattle.byte_journal.proofs.OneAnswer.{has_one_answer}
use Rattle.unit_core.specs.declared.records.Record.{Record}
use Rattle.unit_codec.specs.declared.entry.Entry.{Entry}
use Rattle.unit_journal.specs.Log.{Stands, bodies_of}
use Rattle.trfc_protocol.specs.declared.world.World.{World}
use Rattle.trfc_protocol.specs.declared.world.SystemState.{SystemState}
use Rattle.trfc_protocol.specs.declared.held.Held.{Held}
use Rattle.trfc_protocol.specs.Meaning.{Meaning}
use Rattle.trfc_protocol.specs.Legal.{IsLegal}
use Rattle.trfc_protocol.specs.Worlds.{log_of, log_or_none}
use Rattle.trfc_protocol.specs.Start.{first_state, first_world}
use Rattle.log_tables.specs.OfLog.{no_claims}
use Rattle.system_tables.specs.Tables.{TablesOf}
use Rattle.system_tables.specs.OfLog.{AreTablesOf}
use Rattle.unit_landscape.specs.InStep.{AreTablesAt, AreInStep}
use Rattle.unit_journal.specs.declared.journals.SystemJournals.{SystemJournals}
use Rattle.unit_journal.specs.OnDisk.{count_of, moments_at, AreInOrder, entries_of, IsOnDisk}
use Rattle.unit_journal.specs.Changes.{IsNext}
use Rattle.unit_journal.proofs.KeptLemmas.{IsOnDisk-same, IsLeftOnDisk-same}
use Rattle.unit_journal.proofs.OrderLemmas.{AreInOrder-same, AreInOrder-past}
use Rattle.unit_landscape.specs.OnVolumes.{AreOnVolumes}
use Rattle.unit_landscape.specs.Causes.{no_causes, AreCausesOf}
use Rattle.unit_landscape.specs.KeptWorlds.{KeptOf}
use Rattle.unit_landscape.proofs.CausesLemmas.{causes-opened}
use Rattle.unit_landscape.proofs.CountedLemmas.{state-last, state-push}
use Rattle.unit_landscape.specs.declared.opening.fault.OpenFault.{OpenFault}
use Rattle.unit_landscape.specs.declared.opening.fault.OpenFault.TheVariants.{Volume}
use Rattle.unit_landscape.specs.Opening.{with_log, BeginsLegal, IsOpening}
use Rattle.unit_landscape.specs.Volumes.{VolumeOf, place_in, moments_in, IsVolume}

-- no records have no entries
pub entries-none : (moments : List (Option ℕ)) → entries_of moments [] ≡ []
entries-none [] = refl
entries-none (moment ∷ moments) = refl

-- what is at a place of a list with one item more: that item at the end, and else what was there
pub at-end : {A : Type 0} (xs : List A) (x y : A) (place : ℕ) → place ≡ length xs → slice_get (xs ++ x ∷ []) place ≡ Some y → x ≡ y
at-end xs x y place is at = same_Some x y (sym (slice_get-last xs place x is) ∙ at)

pub before-end : {A : Type 0} (xs : List A) (x y : A) (place : ℕ) → place ≢ length xs → slice_get (xs ++ x ∷ []) place ≡ Some y
    → (place < length xs) × (slice_get xs place ≡ Some y)
before-end xs x y place differs at =
    let within = slice_get_within (xs ++ x ∷ []) place y at in
    let long = length-append xs (x ∷ []) in
    let less : place < length xs = omega (arith, within, long, differs) in
    (less, sym (slice_get-front xs (x ∷ []) place less) ∙ at)

-- one system more that is up, with tables that are those of its log, leaves the tables in step
in_step-up : {A : Type 0} (stands : A → List Record → Type 0) (rules : Meaning) (systems : List SystemState) (claims : List Held)
    (tables : List (TablesOf A)) (log : List Record) (its : TablesOf A) → AreTablesAt stands rules claims (suc (length systems)) (first_state log) its
    → AreInStep stands rules systems claims tables → AreInStep stands rules (systems ++ first_state log ∷ []) claims (tables ++ its ∷ [])
in_step-up {A} stands rules systems claims tables log its are_its are = record {
  all = length-append tables (its ∷ []) ∙ ap (λ n. n + 1) are.all ∙ sym (length-append systems (first_state log ∷ []));
  each = λ place state found at there. elim (cases_eq place (length systems)) [
    | inl same ↦
        subst (λ (s : SystemState). AreTablesAt stands rules claims (suc place) s found) (at-end systems (first_state log) state place same at)
        (subst (λ (t : TablesOf A). AreTablesAt stands rules claims (suc place) (first_state log) t)
        (at-end tables its found place (same ∙ sym are.all) there)
        (subst (λ n. AreTablesAt stands rules claims (suc n) (first_state log) its) (sym same) are_its))
    | inr differs ↦
        let old = before-end systems (first_state log) state place differs at in
        let its_old = before-end tables its found place (λ e. differs (e ∙ are.all)) there in
        are.each place state found old.1 its_old.1
  ];
}

-- one system more leaves the moments of all logs in order, where its own are
order-found : (before after : SystemJournals) → IsNext before after → ((place : ℕ) → AreInOrder (moments_at before place))
    → AreInOrder (moments_at after (count_of before)) → (place : ℕ) → AreInOrder (moments_at after place)
order-found before after next order its place = elim (cases_lt place (count_of before)) [
  | inl older ↦ AreInOrder-same place before after (next.others place older).moments (order place)
  | inr not_older ↦ elim (cases_eq place (count_of before)) [
    | inl same ↦ subst (λ k. AreInOrder (moments_at after k)) (sym same) its
    | inr differs ↦ AreInOrder-past place after next.moments (omega (arith, next.count, not_older, differs))
  ]
]

-- one system more, whose volume is opened and holds this log, leaves what the other volumes hold
on_volumes-found : {D : Type 0} (disk : Disk D) (old new : D) (systems : List SystemState) (log : List Record) (before after : SystemJournals)
    → AreOnVolumes disk old systems before → length systems < 16 → IsNext before after
    → ((other : ℕ) → other ≢ count_of before → disk.told → disk.volume new other ≡ disk.volume old other)
    → IsOnDisk disk new (count_of before) after log → AreInOrder (moments_at after (count_of before))
    → AreOnVolumes disk new (systems ++ first_state log ∷ []) after
on_volumes-found disk old new systems log before after are room next others on_disk order = record {
  count = next.count ∙ ap (λ n. n + 1) are.count ∙ sym (length-append systems (first_state log ∷ []));
  moments = next.moments;
  order = order-found before after next are.order order;
  few = omega (arith, room, length-append systems (first_state log ∷ []));
  up = λ place state at up. elim (cases_eq place (length systems)) [
    | inl same ↦
        subst (λ (s : SystemState). IsOnDisk disk new place after s.log) (at-end systems (first_state log) state place same at)
        (subst (λ n. IsOnDisk disk new n after log) (are.count ∙ sym same) on_disk)
    | inr differs ↦
        let here = before-end systems (first_state log) state place differs at in
        IsOnDisk-same disk old new place before after state.log (others place (λ e. differs (e ∙ are.count)))
        (next.others place (subst (λ n. place < n) (sym are.count) here.0)) (are.up place state here.1 up)
  ];
  down = λ place state at down. elim (cases_eq place (length systems)) [
    | inl same ↦ absurd (both_ways state.up down (sym (ap (λ (s : SystemState). s.up) (at-end systems (first_state log) state place same at))))
    | inr differs ↦
        let here = before-end systems (first_state log) state place differs at in
        IsLeftOnDisk-same disk old new place before after state.log state.rest (others place (λ e. differs (e ∙ are.count)))
        (next.others place (subst (λ n. place < n) (sym are.count) here.0)) (are.down place state here.1 down)
  ];
}

-- a world that begins with legal logs still does with one system more, whose log is legal
BeginsLegal-up : {R : Type 0} (meaning : R → Meaning) (world : World R) (log : List Record) → BeginsLegal meaning world
    → IsLegal (meaning world.rules) (suc (length world.systems)) log → BeginsLegal meaning (with_log world log)
BeginsLegal-up {R} meaning world log begins its = record {
  world =
      ap (λ w. with_log w log) begins.world
      ∙ ap (λ (states : List SystemState). let w : World R = record (first_world world.rules []) { systems = states } in w) sides;
  legal = legal;
}
  where
    sides : map first_state (map (λ (state : SystemState). state.log) world.systems) ++ first_state log ∷ []
        ≡ map first_state (map (λ (state : SystemState). state.log) (world.systems ++ first_state log ∷ []))
    sides =
        sym (ap (map first_state) (map-append (λ (state : SystemState). state.log) world.systems (first_state log ∷ []))
        ∙ map-append first_state (map (λ (state : SystemState). state.log) world.systems) (log ∷ []))

    legal : (system : ℕ) → IsLegal (meaning world.rules) system (log_of (with_log world log) system)
    legal zero = tt
    legal (suc k) =
        let least : 1 ≤ suc k = omega arith in
        elim (cases_eq (suc k - 1) (length world.systems)) [
          | inl same ↦
              let number : suc (length world.systems) ≡ suc k = omega (arith, same) in
              subst (λ found. IsLegal (meaning world.rules) (suc k) (log_or_none found)) (sym (state-last world.systems (first_state log) (suc k) least same))
              (subst (λ n. IsLegal (meaning world.rules) n log) number its)
          | inr differs ↦
              subst (λ found. IsLegal (meaning world.rules) (suc k) (log_or_none found))
              (sym (state-push world.systems (first_state log) (suc k) least differs))
              (begins.legal (suc k))
        ]

module _ {R A V : Type 0} (meaning : R → Meaning) (stands : A → List Record → Type 0) (disk : Disk V) where
  -- a volume more that is opened leaves what was opened as it is, and its log is on the disk
  pub IsVolume-found : (before : KeptOf R A V) (journals : SystemJournals) (vols : V) (log : List Record) → IsOpening meaning stands disk before
      → length before.world.systems < 16 → IsNext before.journals journals
      → ((other : ℕ) → other ≢ count_of before.journals → disk.told → disk.volume vols other ≡ disk.volume before.vols other)
      → IsOnDisk disk vols (count_of before.journals) journals log
      → IsVolume meaning stands disk (record { kept = record before { journals = journals; vols = vols }; log = log })
  IsVolume-found before journals vols log opening room next others on_disk =
      let count : count_of before.journals ≡ length before.world.systems = opening.kept.on_volumes.count in
      record {
        begins = opening.begins;
        few = room;
        in_step = opening.kept.in_step;
        causes = opening.kept.causes;
        found = subst (λ n. IsOnDisk disk vols n journals log) count on_disk;
        on_volumes = λ order. on_volumes-found disk before.vols vols before.world.systems log before.journals journals opening.kept.on_volumes room next others
            on_disk (subst (λ n. AreInOrder (moments_at journals n)) (sym count) order);
      }

  -- a system that is up with the log of the volume leaves all kept, where that log is legal, its moments are in order, and the tables are its
  pub IsOpening-up : (volume : VolumeOf R A V) (its : TablesOf A) (world : World R) (tables : List (TablesOf A)) → IsVolume meaning stands disk volume
      → IsLegal (meaning volume.kept.world.rules) (suc (place_in volume)) volume.log → AreInOrder (moments_in volume)
      → AreTablesOf stands ((meaning volume.kept.world.rules).committed (suc (place_in volume)) volume.log) volume.log no_claims no_claims its
      → volume.kept.causes ≡ no_causes → world ≡ with_log volume.kept.world volume.log → tables ≡ volume.kept.tables ++ its ∷ []
      → IsOpening meaning stands disk (record volume.kept { world = world; tables = tables })
  IsOpening-up volume its world tables is legal order are none grown more =
      let before = volume.kept.world in
      let none_claimed : before.claims ≡ [] = ap (λ (w : World R). w.claims) is.begins.world in
      let here : AreTablesAt stands (meaning before.rules) before.claims (suc (place_in volume)) (first_state volume.log) its =
      subst (λ (claims : List Held). AreTablesAt stands (meaning before.rules) claims (suc (place_in volume)) (first_state volume.log) its)
      (sym none_claimed) (record { units = are.units; up = λ _. are }) in
      subst (λ (w : World R). IsOpening meaning stands disk (record volume.kept { world = w; tables = tables })) (sym grown)
      (subst (λ (t : List (TablesOf A)). IsOpening meaning stands disk (record volume.kept { world = with_log before volume.log; tables = t })) (sym more)
      (record {
        kept = record {
          in_step = in_step-up stands (meaning before.rules) before.systems before.claims volume.kept.tables volume.log its here is.in_step;
          on_volumes = is.on_volumes order;
          causes = subst (AreCausesOf (with_log before volume.log).systems) (sym none)
              (causes-opened before.systems volume.log (subst (AreCausesOf before.systems) none is.causes));
        };
        begins = BeginsLegal-up meaning before volume.log is.begins legal;
      }))

-- what reads as bytes that stand for a log of entries stands for it
found-read : (bytes image : List ℕ) (log : List Entry) → Stands bytes log → ReadsAs bytes image → Stands image log
found-read bytes image log stands (inl same) = subst (λ (b : List ℕ). Stands b log) (sym same) stands
found-read bytes image log stands (inr (found, one, other)) = record {
  bodies = subst (λ (l : List (List ℕ)). StandsForBodies image l) ((has_one_answer bytes).one_log found (bodies_of log) one stands.bodies) other;
  entries = stands.entries;
}

-- where no call failed and the bytes stand for a log, a crash leaves from some moment on what stands for it
pub found-later : {D : Type 0} (disk : Disk D) (old new : D) (n : ℕ) (bytes : List ℕ) (log : List Entry)
    (Failed : Type 0) → (Failed → ⊥) → Stands bytes log → LeavesOnlyFromSync disk old new n Failed (ReadsAs bytes)
    → LeavesOnlyLater disk old new n (λ image. Stands image log)
found-later disk old new n bytes log Failed never stands (inl failed) = absurd (never failed.0)
found-later disk old new n bytes log Failed never stands (inr later) = record {
  from = later.from;
  not_before = later.not_before;
  not_after = later.not_after;
  each = λ image left. found-read bytes image log stands (later.each image left);
  earlier = later.earlier;
}

-- the fault that is told is the same where the volumes are given back with it
fault-told : {T : Type 0} (why : OpenFault) → IsErrOf {T = T} (Err why) Volume → why ≡ Volume
fault-told why told = cc

-- where the call did not fail, no fault is counted
pub faults-none : {T : Type 0} (result : Result T OpenFault) (done : T) (before after : ℕ → ℕ) (n : ℕ) → result ≡ Ok done
    → CountsFault (IsErrOf result Volume) before after n → CountsFault ⊥ before after n
faults-none result done before after n is counts = record {
  rose = λ never. absurd never;
  quiet = λ isnt. counts.quiet (λ failed. let both = sym is ∙ failed in cc);
  never_falls = counts.never_falls;
  others = counts.others;
}

pub faults-told : {T : Type 0} (why : OpenFault) (before after : ℕ → ℕ) (n : ℕ) → CountsFault (IsErrOf {T = T} (Err why) Volume) before after n
    → CountsFault (why ≡ Volume) before after n
faults-told {T} why before after n counts = record {
  rose = λ is. counts.rose (ap Err is);
  quiet = λ isnt. counts.quiet (λ told. isnt (fault-told {T = T} why told));
  never_falls = counts.never_falls;
  others = counts.others;
}

pub sync-told : {D T : Type 0} (disk : Disk D) (old new : D) (n : ℕ)
    (P : List ℕ → Type 0)
    (why : OpenFault) → LeavesOnlyFromSync disk old new n (IsErrOf {T = T} (Err why) Volume) P
    → LeavesOnlyFromSync disk old new n (why ≡ Volume) P
sync-told {T = T} disk old new n P why (inl failed) = inl (fault-told {T = T} why failed.0, failed.1)
sync-told disk old new n P why (inr later) = inr later
