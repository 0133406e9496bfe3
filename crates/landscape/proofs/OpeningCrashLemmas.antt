-- What a crash inside an opening leaves of the volumes of all systems holds sound logs, where what one left before does: each log is as it was,
-- or an empty one has become its Genesis, and a Genesis takes in, executes, finishes, forgets and ends nothing.
use Rattle.std.specs.Prelude.{All, Contains, Result, Ok, Err, IsErrAnd, map}
use Rattle.std.specs.Bool.{⊤}
use Rattle.std.proofs.Common.{◌≡◌, ◌⊎◌, inl, inr, ℕ, zero, suc, ◌-◌, ◌≤◌, Option, List, [], ◌∷◌, take, refl, sym, ap, subst, ◌∙◌, arith}
use Rattle.std.proofs.lemmas.Bool.{cases_lt, eq-eqb}
use Rattle.std.proofs.lemmas.List.Elements.{All-nil, All-weaker}
use Rattle.ale_base.specs.Prefix.{IsPrefix}
use Rattle.ale_base.specs.Tid.{TidOf}
use Rattle.ale_base.proofs.PrefixLemmas.{IsPrefix-Contains, IsPrefix-filter, IsPrefix-filter_map, IsPrefix-same, IsPrefix-trans}
use Rattle.ale_volumes.specs.Disk.{Disk}
use Rattle.ale_volumes.specs.Volume.{IsImage}
use Rattle.byte_journal.specs.Log.{ReadsAs, Stands as StandsForBodies}
use Rattle.byte_journal.proofs.OneAnswer.{has_one_answer}
use Rattle.unit_core.specs.declared.ale_unit.AleUnit.{AleUnit}
use Rattle.unit_core.specs.declared.queue.Queue.TheVariants.{Outbound}
use Rattle.unit_core.specs.declared.records.Record.{Record}
use Rattle.unit_core.specs.declared.records.Record.TheVariants.{Genesis}
use Rattle.unit_core.specs.Filters.{done_by, done_in, ended_in, executed, forgotten_by, forgotten_in, received, taken_by}
use Rattle.unit_core.specs.Once.{ExecutedInOrder, Once, TakenInOrder, TakenOnce, TakenWasCommitted}
use Rattle.unit_core.specs.Queues.{in_queue, stands_in, tids_of}
use Rattle.unit_core.proofs.OnceLemmas.{WasForgotten, WasTaken}
use Rattle.unit_codec.specs.declared.entry.Entry.{Entry}
use Rattle.unit_codec.specs.Entries.{entry_with}
use Rattle.unit_journal.specs.Log.{Stands, bodies_of}
use Rattle.unit_journal.specs.OnDisk.{entries_of}
use Rattle.unit_journal.specs.Settled.{IsBeforeOrAfter}
use Rattle.unit_journal.proofs.PlaceLemmas.{entries_of-records}
use Rattle.document_state.specs.LawfulLemmas.{committed-nothing}
use Rattle.document_state.specs.Meaning.{model_meaning}
use Rattle.landscape.specs.Crashes.{AreOpenable, OpeningLeavesOpenable}
use Rattle.unit_landscape.specs.KeptWorlds.{KeptOf}
use Rattle.document_state.specs.declared.document_tables.DocumentTables.{DocumentTables}
use Rattle.document_state.specs.declared.model_rules.ModelRules.{ModelRules}
use Rattle.landscape.specs.declared.open_end.OpenEnd.{OpenEnd}
use Rattle.landscape.specs.Opened.{AreSound, AreWithin, HasEndedEarly, HoldSoundLogs, IsGoodLog, IsLeft, IsNotRefused, LeavesOpening, Logs, MayBegin}
use Rattle.landscape.specs.Opened.{bytes_in, committed_in, vols_after}
use Rattle.landscape.specs.steps.Opening.{HasEnded}
use Rattle.landscape.proofs.CrashOpensLemmas.{good-legal}
use Rattle.landscape.proofs.OneReadingLemmas.{one-log}

-- ---- the exactly-once law stays where empty logs become a Genesis

-- a log is as it was, or it was empty and is a Genesis alone
abbrev IsKeptOrBegun : List Record → List Record → Type 0
IsKeptOrBegun log after = (after ≡ log) ⊎ ((log ≡ []) × (number : ℕ) × (text : List ℕ) × (after ≡ Genesis number text ∷ []))

-- a Genesis alone executes nothing, however many of its records are taken
none-executed : (number : ℕ) (text : List ℕ) (n : ℕ)
    → All (λ tid. Contains (tids_of (received (take n (Genesis number text ∷ [])))) tid) (executed (take n (Genesis number text ∷ [])))
none-executed number text zero = All-nil _
none-executed number text (suc zero) = All-nil _
none-executed number text (suc (suc n)) = All-nil _

module _ (committed more : ℕ → List AleUnit) (logs after : ℕ → List Record) (once : Once committed logs)
    (each : (system : ℕ) → IsKeptOrBegun (logs system) (after system)) (units : (system : ℕ) → IsPrefix (committed system) (more system)) where
  -- logs grow
  grows : (system : ℕ) → IsPrefix (logs system) (after system)
  grows system = elim (each system) [
    | inl same ↦ subst (IsPrefix (logs system)) (sym same) (IsPrefix-same (logs system))
    | inr begun ↦ subst (λ log. IsPrefix log (after system)) (sym begun.0) (after system, refl)
  ]

  -- what holds of each log before, and of a Genesis alone, holds of each after
  each-after : (P : ℕ → List Record → Type 0) → ((system : ℕ) → P system (logs system))
      → ((system number : ℕ) (text : List ℕ) → P system (Genesis number text ∷ [])) → (system : ℕ) → P system (after system)
  each-after P before begun system = elim (each system) [
    | inl same ↦ subst (P system) (sym same) (before system)
    | inr is ↦ subst (P system) (sym is.3) (begun system is.1 is.2)
  ]

  still-taken : (system : ℕ) (tid : TidOf) → WasTaken committed logs system tid → WasTaken more after system tid
  still-taken system tid was = (
    was.0,
    was.1,
    IsPrefix-Contains (committed system) (more system) was.0 (units system) was.2,
    IsPrefix-Contains (received (logs was.0.receiver)) (received (after was.0.receiver)) was.0
        (IsPrefix-filter_map taken_by (logs was.0.receiver) (after was.0.receiver) (grows was.0.receiver)) was.3,
  )

  still-forgotten : (system : ℕ) (tid : TidOf) → WasForgotten committed logs system tid → WasForgotten more after system tid
  still-forgotten system tid was = (
    was.0,
    was.1,
    IsPrefix-Contains (committed system) (more system) was.0 (units system) was.2,
    IsPrefix-Contains (forgotten_in (logs was.0.receiver)) (forgotten_in (after was.0.receiver)) tid
        (IsPrefix-filter_map forgotten_by (logs was.0.receiver) (after was.0.receiver) (grows was.0.receiver)) was.3,
  )

  still-done : (tid : TidOf) → Contains (done_in (logs tid.system)) tid → Contains (done_in (after tid.system)) tid
  still-done tid =
      IsPrefix-Contains (done_in (logs tid.system)) (done_in (after tid.system)) tid
      (IsPrefix-filter_map done_by (logs tid.system) (after tid.system) (grows tid.system))

  still-committed : (system : ℕ) (unit : AleUnit) → (unit.receiver ≡ system) × Contains (committed unit.sender) unit
      → (unit.receiver ≡ system) × Contains (more unit.sender) unit
  still-committed system unit is = (is.0, IsPrefix-Contains (committed unit.sender) (more unit.sender) unit (units unit.sender) is.1)

  in-order : (system : ℕ) → TakenInOrder more system (logs system)
  in-order system sender name =
      IsPrefix-trans (in_queue (Outbound sender system name) (received (logs system))) (in_queue (Outbound sender system name) (committed sender))
      (in_queue (Outbound sender system name) (more sender)) (once.taken_in_order system sender name)
      (IsPrefix-filter (stands_in (Outbound sender system name)) (committed sender) (more sender) (units sender))

  -- The exactly-once law stays where empty logs become a Genesis.
  pub Once-begun : Once more after
  Once-begun = record {
    taken_once = each-after (λ _ log. TakenOnce log) once.taken_once (λ _ _ _. tt);
    taken_was_committed = each-after (TakenWasCommitted more)
        (λ system. All-weaker _ _ (still-committed system) (received (logs system)) (once.taken_was_committed system))
        (λ _ _ _. All-nil _);
    taken_in_order = each-after (TakenInOrder more) in-order
        (λ system number text sender name. (in_queue (Outbound sender system name) (more sender), refl));
    executed_in_order = each-after (λ _ log. ExecutedInOrder log) once.executed_in_order
        (λ system number text. record { was_received = none-executed number text; once = tt; in_order = λ name. ([], refl) });
    done_was_taken = each-after (λ system log. All (WasTaken more after system) (done_in log))
        (λ system. All-weaker (WasTaken committed logs system) (WasTaken more after system) (still-taken system) (done_in (logs system))
        (once.done_was_taken system))
        (λ _ _ _. All-nil _);
    forgotten_was_done = each-after (λ _ log. All (λ tid. Contains (done_in (after tid.system)) tid) (forgotten_in log))
        (λ system. All-weaker _ _ still-done (forgotten_in (logs system)) (once.forgotten_was_done system))
        (λ _ _ _. All-nil _);
    ended_was_forgotten = each-after (λ system log. All (WasForgotten more after system) (ended_in log))
        (λ system. All-weaker (WasForgotten committed logs system) (WasForgotten more after system) (still-forgotten system) (ended_in (logs system))
        (once.ended_was_forgotten system))
        (λ _ _ _. All-nil _);
  }

-- ---- so logs stay sound where empty ones become the Genesis of their systems

module _ (systems : ℕ) (text : List ℕ) where
  -- the log of a system and its moments are as they were; or there was none, and it is its Genesis alone, with some moment
  abbrev IsSameOrBegun : ℕ → Logs → List (Option ℕ) → List Record → Type 0
  IsSameOrBegun system logs moments log =
      ((moments ≡ logs.moments system) × (log ≡ logs.records system))
      ⊎ ((logs.records system ≡ []) × (log ≡ Genesis system text ∷ []) × (first : Option ℕ) × (moments ≡ first ∷ []))

  -- the Genesis of a system alone is good, with any moment
  good-begun : (system : ℕ) (first : Option ℕ) → IsGoodLog systems text system (first ∷ []) (Genesis system text ∷ [])
  good-begun system first = record {
    each = refl;
    good = good-legal (model_meaning systems) system text (first ∷ []) (Genesis system text ∷ []) refl (tt, tt) (eq-eqb system system refl, tt) [] refl;
  }

  module _ (logs after : Logs) (sound : AreSound systems text logs)
      (each : (system : ℕ) → 1 ≤ system → system ≤ systems → IsSameOrBegun system logs (after.moments system) (after.records system))
      (within : AreWithin systems text after.records) where
    kept : (system : ℕ) → IsKeptOrBegun (logs.records system) (after.records system)
    kept system = elim (cases_lt 0 system) [
      | inl least ↦ elim (cases_lt systems system) [
        | inl more ↦ inl (outside (λ one most. omega (arith, more, most)))
        | inr most ↦ inside (omega (arith, least)) (omega (arith, most))
      ]
      | inr none ↦ inl (outside (λ one most. omega (arith, none, one)))
    ]
      where
        outside : (1 ≤ system → system ≤ systems → ⊥) → after.records system ≡ logs.records system
        outside not = within system not ∙ sym (sound.within system not)

        inside : 1 ≤ system → system ≤ systems → IsKeptOrBegun (logs.records system) (after.records system)
        inside least most = elim (each system least most) [
          | inl same ↦ inl same.1
          | inr begun ↦ inr (begun.0, system, text, begun.1)
        ]

    units : (system : ℕ) → IsPrefix (committed_in systems text logs.records system) (committed_in systems text after.records system)
    units system = elim (kept system) [
      | inl same ↦ subst (λ log. IsPrefix (committed_in systems text logs.records system) ((model_meaning systems).committed system log)) (sym same)
          (IsPrefix-same (committed_in systems text logs.records system))
      | inr begun ↦ subst (λ all. IsPrefix all (committed_in systems text after.records system))
          (sym (ap ((model_meaning systems).committed system) begun.0 ∙ committed-nothing))
          (committed_in systems text after.records system, refl)
    ]

    -- Logs stay sound where empty ones become the Genesis of their systems, with any moment.
    pub sound-begun : AreSound systems text after
    sound-begun = record {
      good = λ system least most. elim (each system least most) [
        | inl same ↦ subst (λ m. IsGoodLog systems text system m (after.records system)) (sym same.0)
            (subst (λ log. IsGoodLog systems text system (logs.moments system) log) (sym same.1) (sound.good system least most))
        | inr begun ↦ subst (λ m. IsGoodLog systems text system m (after.records system)) (sym begun.3)
            (subst (λ log. IsGoodLog systems text system (begun.2 ∷ []) log) (sym begun.1) (good-begun system begun.2))
      ];
      within = within;
      once = Once-begun (committed_in systems text logs.records) (committed_in systems text after.records) logs.records after.records sound.once kept units;
    }

-- ---- what a crash inside an opening leaves

-- what reads as bytes that stand for a log stands for it
reads-stands : (bytes image : List ℕ) (log : List Entry) → Stands bytes log → ReadsAs bytes image → Stands image log
reads-stands bytes image log stands (inl same) = subst (λ its. Stands its log) (sym same) stands
reads-stands bytes image log stands (inr (bodies, its, also)) = record {
  bodies = subst (λ all. StandsForBodies image all) (sym ((has_one_answer bytes).one_log (bodies_of log) bodies stands.bodies its)) also;
  entries = stands.entries;
}

module _ (text : List ℕ) (set : Option ℕ) where
  -- an image reads as bytes; or these stand for the empty log, and the image for that or for the Genesis of the system alone
  abbrev IsReadOrBegun : ℕ → List ℕ → List ℕ → Type 0
  IsReadOrBegun system bytes image =
      ReadsAs bytes image ⊎ (Stands bytes [] × IsBeforeOrAfter [] (entry_with set (Genesis system text)) image)

  module _ (many : ℕ) (bytes : ℕ → List ℕ) (hold : HoldSoundLogs many text bytes) where
    -- an image of the volume of a system stands for its log, or for its Genesis alone where that was empty
    record IsFoundAt (system : ℕ) (image : List ℕ) (moments : List (Option ℕ)) (log : List Record) : Type 0 where
      pub stands : Stands image (entries_of moments log)
      pub is : IsSameOrBegun many text system hold.0 moments log

    abbrev Found : ℕ → List ℕ → Type 0
    Found system image = (moments : List (Option ℕ)) × (log : List Record) × IsFoundAt system image moments log

    module _ (system : ℕ) (least : 1 ≤ system) (most : system ≤ many) (image : List ℕ) where
      same-found : Stands image (entries_of (hold.0.moments system) (hold.0.records system)) → Found system image
      same-found stands = (hold.0.moments system, hold.0.records system, record { stands = stands; is = inl (refl, refl) })

      begun-found : Stands (bytes system) [] → IsBeforeOrAfter [] (entry_with set (Genesis system text)) image → Found system image
      begun-found empty is = elim is [
        | inl stays ↦ same-found (subst (Stands image) (sym none) stays)
        | inr genesis ↦ (set ∷ [], Genesis system text ∷ [], record { stands = genesis; is = inr (no-records, refl, set, refl) })
      ]
        where
          none : entries_of (hold.0.moments system) (hold.0.records system) ≡ []
          none = one-log (bytes system) (entries_of (hold.0.moments system) (hold.0.records system)) [] (hold.2 system least most) empty

          no-records : hold.0.records system ≡ []
          no-records =
              sym (entries_of-records (hold.0.moments system) (hold.0.records system) (hold.1.good system least most).each)
              ∙ ap (map (λ (entry : Entry). entry.what)) none

      image-found : IsReadOrBegun system (bytes system) image → Found system image
      image-found (inl reads) =
          same-found (reads-stands (bytes system) image (entries_of (hold.0.moments system) (hold.0.records system)) (hold.2 system least most) reads)
      image-found (inr begun) = begun-found begun.0 begun.1

    module _ (images : ℕ → List ℕ)
        (each : (system : ℕ) → 1 ≤ system → system ≤ many → IsReadOrBegun system (bytes system) (images system)) where
      -- the log of a system, with its moments; none where there is no such system
      record IsChosen (system : ℕ) (moments : List (Option ℕ)) (log : List Record) : Type 0 where
        pub inside : 1 ≤ system → system ≤ many → IsFoundAt system (images system) moments log
        pub outside : (1 ≤ system → system ≤ many → ⊥) → log ≡ []

      abbrev Chosen : ℕ → Type 0
      Chosen system = (moments : List (Option ℕ)) × (log : List Record) × IsChosen system moments log

      chosen-none : (system : ℕ) → (1 ≤ system → system ≤ many → ⊥) → Chosen system
      chosen-none system not = ([], [], record { inside = λ least most. absurd (not least most); outside = λ out. refl })

      chosen-some : (system : ℕ) → 1 ≤ system → system ≤ many → Found system (images system) → Chosen system
      chosen-some system least most its = (its.0, its.1, record { inside = λ one other. its.2; outside = λ out. absurd (out least most) })

      chosen : (system : ℕ) → Chosen system
      chosen system = elim (cases_lt 0 system) [
        | inl least ↦ elim (cases_lt many system) [
          | inl more ↦ chosen-none system (λ one most. omega (arith, more, most))
          | inr most ↦
              let low : 1 ≤ system = omega (arith, least) in
              chosen-some system low most (image-found system low most (images system) (each system low most))
        ]
        | inr none ↦ chosen-none system (λ one most. omega (arith, none, one))
      ]

      abbrev found : Logs
      found = record { records = λ system. (chosen system).1; moments = λ system. (chosen system).0 }

      -- Images hold sound logs that read as bytes which do, or have a Genesis in place of an empty log.
      pub holds-read : HoldSoundLogs many text images
      holds-read = (
        found,
        sound-begun many text hold.0 found hold.1 (λ system least most. ((chosen system).2.inside least most).is)
            (λ system not. (chosen system).2.outside not),
        λ system least most. ((chosen system).2.inside least most).stands,
      )

module _ {V : Type 0} (disk : Disk V) (many : ℕ) (text : List ℕ) (set : Option ℕ) (before : V) (begins : Type 0)
    (reads : (n : ℕ) → IsImage (disk.volume before n) (disk.volume before n).contents) (images : ℕ → List ℕ)
    (each : (system : ℕ) → 1 ≤ system → system ≤ many → IsLeft disk text set before begins (system - 1) (images system)) where
  -- what a crash may have left of the volume of a system as the opening began, of which the image is what the opening made
  record IsBase (system : ℕ) (bytes : List ℕ) : Type 0 where
    pub image : IsImage (disk.volume before (system - 1)) bytes
    pub is : IsReadOrBegun text set system bytes (images system)

  module _ (system : ℕ) (least : 1 ≤ system) (most : system ≤ many) where
    base-of : IsLeft disk text set before begins (system - 1) (images system) → (bytes : List ℕ) × IsBase system bytes
    base-of (inl (inl is)) = (images system, record { image = is; is = inl (inl refl) })
    base-of (inl (inr same)) = ((disk.volume before (system - 1)).contents, record { image = reads (system - 1); is = inl same })
    base-of (inr began) =
        let number : suc (system - 1) ≡ system = omega (arith, least) in
        let begun = subst (λ n. IsBeforeOrAfter [] (entry_with set (Genesis n text)) (images system)) number began.1.is in (
          (disk.volume before (system - 1)).contents,
          record { image = reads (system - 1); is = inr (began.1.empty, begun) },
        )

  base : (system : ℕ) → (bytes : List ℕ) × (1 ≤ system → system ≤ many → IsBase system bytes)
  base system = elim (cases_lt 0 system) [
    | inl least ↦ elim (cases_lt many system) [
      | inl more ↦ ([], λ one most. absurd (omega (arith, more, most)))
      | inr most ↦
          let low : 1 ≤ system = omega (arith, least) in
          let its = base-of system low most (each system low most) in (its.0, λ one less. its.1)
    ]
    | inr none ↦ ([], λ one most. absurd (omega (arith, none, one)))
  ]

  holds-left : AreOpenable disk many text before → HoldSoundLogs many text images
  holds-left openable =
      let bytes : ℕ → List ℕ = λ system. (base system).0 in
      holds-read text set many bytes (openable bytes (λ system least most. ((base system).1 least most).image)) images
      (λ system least most. ((base system).1 least most).is)

-- Whatever a crash inside an opening leaves of the volumes of all systems holds sound logs, where whatever one left before does.
pub opening-openable : {V : Type 0} (disk : Disk V) → (disk.told → (vols : V) (n : ℕ) → IsImage (disk.volume vols n) (disk.volume vols n).contents)
    → (many : ℕ) (text : List ℕ) (set : Option ℕ) (before after : V) (begins early : Type 0)
    → (disk.told → LeavesOpening disk many text set before after begins early) → OpeningLeavesOpenable disk many text before after
opening-openable disk read_is_image many text set before after begins early left tells openable images since =
    holds-left disk many text set before begins (read_is_image tells before) images
    (λ system least most. ((left tells).leaves (system - 1)).each (images system) (since system least most)) openable

-- what an opening leaves that ended early, by what it answers
module _ {V : Type 0} (disk : Disk V) (many : ℕ) (text : List ℕ) (set : Option ℕ) (before : V) (end : OpenEnd V)
    (ended : HasEnded disk many text set before end) where
  pub ended-volumes : (result : Result (KeptOf ModelRules DocumentTables V) (OpenEnd V)) → IsErrAnd result (λ told. told ≡ end) → disk.told
      → LeavesOpening disk many text set before (vols_after result) (IsNotRefused result × HoldSoundLogs many text (bytes_in disk before))
      (HasEndedEarly result)
  ended-volumes (Ok done) is tells = absurd is
  ended-volumes (Err told) is tells =
      subst (λ (e : OpenEnd V). LeavesOpening disk many text set before e.vols (MayBegin e.why × HoldSoundLogs many text (bytes_in disk before)) ⊤) (sym is)
      (ended.leaves tells)

  pub ended-opens : (disk.told → (vols : V) (n : ℕ) → IsImage (disk.volume vols n) (disk.volume vols n).contents)
      → (result : Result (KeptOf ModelRules DocumentTables V) (OpenEnd V)) → IsErrAnd result (λ told. told ≡ end)
      → OpeningLeavesOpenable disk many text before (vols_after result)
  ended-opens read_is_image (Ok done) is = absurd is
  ended-opens read_is_image (Err told) is =
      subst (λ (e : OpenEnd V). OpeningLeavesOpenable disk many text before e.vols) (sym is)
      (opening-openable disk read_is_image many text set before end.vols (MayBegin end.why × HoldSoundLogs many text (bytes_in disk before)) ⊤
      ended.leaves)
