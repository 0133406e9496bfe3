-- The logs of all systems as they are looked at together, and systems that begin where theirs are empty.
use Rattle.std.specs.Prelude.{slice_get, Result, Ok, Err, OnOk}
use Rattle.std.specs.Bool.{⊤}
use Rattle.std.proofs.Common.{◌≡◌, ◌≢◌, inl, inr, ℕ, zero, suc, ◌-◌, ◌≤◌, ◌<◌, true, Option, Some, None, List, [], ◌∷◌, length, refl, sym, ap, subst, ◌∙◌, arith}
use Rattle.std.proofs.lemmas.Bool.{cases_eq}
use Rattle.ale_volumes.specs.Disk.{Disk}
use Rattle.ale_volumes.specs.Clock.{KeepsOthers, LeavesOnly}
use Rattle.ale_volumes.specs.Faults.{CountsFault}
use Rattle.dist_model.specs.declared.lists.Lists.{Lists}
use Rattle.unit_core.specs.declared.records.Record.{Record}
use Rattle.unit_core.specs.declared.records.Record.TheVariants.{Genesis}
use Rattle.unit_core.specs.Once.{Once}
use Rattle.unit_codec.specs.Entries.{entry_with}
use Rattle.unit_journal.specs.Log.{Stands}
use Rattle.unit_journal.specs.Settled.{IsBeforeOrAfter}
use Rattle.unit_journal.specs.OnDisk.{entries_of, moment_of, moments_at}
use Rattle.trfc_protocol.specs.declared.world.World.{World}
use Rattle.trfc_protocol.specs.declared.world.SystemState.{SystemState}
use Rattle.trfc_protocol.specs.Legal.{may_begin}
use Rattle.trfc_protocol.specs.Worlds.{log_of, log_or_none, state_of, state_with, with_record, with_state_at}
use Rattle.once_check.specs.declared.breach.Breach.{Breach as OnceBreach}
use Rattle.once_check.specs.Breaches.{IsFirstBreach}
use Rattle.log_reading.specs.Bad.{Matches}
use Rattle.said_models.specs.Said.{said}
use Rattle.unit_landscape.specs.KeptWorlds.{KeptOf}
use Rattle.unit_landscape.specs.declared.beginning.BeginEnd.{BeginEnd}
use Rattle.unit_landscape.specs.declared.beginning.BeginEnd.TheVariants as begin
use Rattle.unit_landscape.specs.Beginning.{AreBegunFrom, BegunAs, HaveBegun, begun_log}
use Rattle.unit_landscape.specs.Breaches.{KeepsOnce}
use Rattle.unit_landscape.proofs.ReopeningLemmas.{from-by, from-none, from-there}
use Rattle.document_state.specs.declared.document_tables.DocumentTables.{DocumentTables}
use Rattle.document_state.specs.declared.model_rules.ModelRules.{ModelRules}
use Rattle.landscape.specs.Begun.{AreBegun, IsBegun}
use Rattle.landscape.specs.declared.open_end.OpenWhy.{OpenWhy}
use Rattle.landscape.specs.declared.open_end.OpenWhy.TheVariants as why
use Rattle.landscape.specs.declared.open_end.Refused.TheVariants as refused
use Rattle.landscape.specs.Opened.{AreLogsTo, AreWithin, HasOpened, HoldSoundLogs, IsBreached, IsGoodLog, LeavesOpening, Logs, begun_moments}
use Rattle.landscape.specs.Opened.{bytes_in, committed_in, logs_in}
use Rattle.landscape.specs.steps.Opening.{AreBegunSoFar, AreOpened, BeginsNext, HasEnded, begun_of, rules_of}
use Rattle.landscape.proofs.BegunLemmas.{is_lawful}
use Rattle.landscape.proofs.OneReadingLemmas.{ends-sound}
use Rattle.landscape.proofs.LeavingLemmas.{left-begun, left-weaker}
use Rattle.landscape.proofs.OpeningLemmas.{failed-here, none-more, same_moments}

-- a record more leaves the rules
rules-kept : (world : World ModelRules) (system : ℕ) (next : Record) → (with_record world system next).rules ≡ world.rules
rules-kept world system next = by-found (state_of world.systems system)
  where
    by-found : (found : Option SystemState) → (with_state_at world (system - 1) (state_with next) found).rules ≡ world.rules
    by-found None = refl
    by-found (Some state) = refl

-- a list of no length has no items
pub none-of : {A : Type 0} (xs : List A) → length xs ≡ 0 → xs ≡ []
none-of [] same = refl
none-of (x ∷ xs) same = absurd (omega (arith, same))

-- systems that are not there have no log
log-outside : (systems : List SystemState) (system : ℕ) → (1 ≤ system → system ≤ length systems → ⊥) → log_or_none (state_of systems system) ≡ []
log-outside systems zero not = refl
log-outside systems (suc k) not = at systems k (λ less. not (omega arith) (omega (arith, less)))
  where
    at : (systems : List SystemState) (k : ℕ) → (k < length systems → ⊥) → log_or_none (slice_get systems k) ≡ []
    at [] k not = refl
    at (state ∷ systems) zero not = absurd (not (omega arith))
    at (state ∷ systems) (suc k) not = at systems k (λ less. not (omega (arith, less)))

-- a log begins with the Genesis of its system and of this text where its first record is good
first-good : (systems : ℕ) (text : List ℕ) (system : ℕ) (first : Record) → Matches system text first → may_begin system first ≡ true
    → first ≡ Genesis system text
first-good systems text system (Genesis kept its) matches begins =
    ap (λ n. Genesis n its) matches.0 ∙ ap (Genesis system) matches.1
first-good systems text system other matches begins = absurd cc

-- moments that are there are those of a log that has begun
moments-same : (set : Option ℕ) (moments : List (Option ℕ)) (log : List Record) → length moments ≡ length log → log ≢ []
    → moments ≡ begun_moments set moments
moments-same set [] log same some = absurd (some (none-of log (sym same)))
moments-same set (first ∷ rest) log same some = refl

-- ---- the logs of all systems are looked at together

module _ {V : Type 0} (disk : Disk V) (many : ℕ) (text : List ℕ) (set : Option ℕ) (before : V) (now : KeptOf ModelRules DocumentTables V)
    (is : AreOpened disk many text set before many now) where
  -- the volumes hold sound logs
  abbrev Sound : Type 0
  Sound = HoldSoundLogs many text (bytes_in disk before)

  within-now : AreWithin many text (log_of now.world)
  within-now system not =
      log-outside now.world.systems system (λ least most. let opened = is.opened in not least (omega (arith, most, opened)))

  -- they keep the law, and none has begun yet
  pub begun-first : KeepsOnce (rules_of now.world.rules) now.world → AreBegunSoFar disk many text set before 0 now
  begun-first once = record {
    all = is.all;
    moment_set = is.moment_set;
    logs = logs_in now;
    sound = record {
      good = is.good;
      within = within-now;
      once = subst (λ m. Once (committed_in m text (log_of now.world)) (log_of now.world)) is.all once;
    };
    held = is.held;
    records = from-none text (log_of now.world);
    moments = record { begun = λ system least most. absurd (omega (arith, least, most)); others = λ system more. refl };
    leaves = λ tells. left-weaker disk text set before many now.vols ⊥ ⊤ ⊥ ⊥ (λ never. tt) (λ never. never) (is.leaves tells);
    none_failed = is.none_failed;
  }

  -- or this is the first breach of it
  pub ended-breach : (breach : OnceBreach)
      → IsFirstBreach (committed_in now.world.rules.systems text (log_of now.world)) (log_of now.world) breach
      → HasEnded disk many text set before (record { why = why.Refused (refused.Breach breach); vols = now.vols })
  ended-breach breach first = record {
    why = broken;
    not_refused = ends-sound disk many text set before now.vols (why.Refused (refused.Breach breach)) broken;
    leaves = λ tells.
        left-weaker disk text set before many now.vols ⊥ (⊥ × Sound) ⊥ ⊤ (λ never. absurd never) (λ never. tt) (is.leaves tells);
    faulted = is.none_failed;
  }
    where
      broken : disk.told → IsBreached many text (bytes_in disk before) breach
      broken tells = (
        logs_in now,
        (λ system least most. record { stands = is.held tells system least most; good = is.good system least most }),
        within-now,
        subst (λ m. IsFirstBreach (committed_in m text (log_of now.world)) (log_of now.world) breach) is.all first,
      )

  -- or memory was wanting
  pub ended-unknown : HasEnded disk many text set before (record { why = why.OutOfMemory; vols = now.vols })
  ended-unknown = record {
    why = tt;
    not_refused = λ tells hold. tt;
    leaves = λ tells.
        left-weaker disk text set before many now.vols ⊥ (⊤ × Sound) ⊥ ⊤ (λ never. absurd never) (λ never. tt) (is.leaves tells);
    faulted = is.none_failed;
  }

-- ---- the next system begins

module _ {V : Type 0} (disk : Disk V) (many : ℕ) (text : List ℕ) (set : Option ℕ) (before : V) (now : KeptOf ModelRules DocumentTables V) (system : ℕ)
    (least : 1 ≤ system) (most : system ≤ many) (is : AreBegunSoFar disk many text set before (system - 1) now) where
  number : system ≡ suc (system - 1)
  number = omega (arith, least)

  behind : system - 1 < system
  behind = omega (arith, least)

  its-good : IsGoodLog many text system (is.logs.moments system) (is.logs.records system)
  its-good = is.sound.good system least most

  -- the volumes hold sound logs
  holds-now : disk.told → HoldSoundLogs many text (bytes_in disk before)
  holds-now tells = (is.logs, is.sound, is.held tells)

  -- where systems may have begun, the volumes hold sound logs
  left-now : (after : V) (ended : Type 0) → LeavesOpening disk many text set before after ⊤ ended → disk.told
      → LeavesOpening disk many text set before after (⊤ × HoldSoundLogs many text (bytes_in disk before)) ⊤
  left-now after ended left tells =
      left-weaker disk text set before many after ⊤ (⊤ × HoldSoundLogs many text (bytes_in disk before)) ended ⊤ (λ may. (tt, holds-now tells)) (λ ends. tt)
      left

  -- its log is as it was
  its-log : log_of now.world system ≡ is.logs.records system
  its-log = is.records.others system behind

  -- where its log is there it has begun
  pub begun-there : log_of now.world system ≢ [] → AreBegunSoFar disk many text set before system now
  begun-there there = record {
    all = is.all;
    moment_set = is.moment_set;
    logs = is.logs;
    sound = is.sound;
    held = is.held;
    records = subst (λ n. AreBegunFrom text n is.logs.records (log_of now.world)) (sym number)
        (from-there text (system - 1) is.logs.records (log_of now.world) is.records (subst (λ n. log_of now.world n ≢ []) number there));
    moments = record {
      begun = λ other low high. elim (cases_eq other system) [
        | inl same ↦ subst (λ s. moments_at now.journals (s - 1) ≡ begun_moments set (is.logs.moments s)) (sym same)
            (is.moments.others system behind
            ∙ moments-same set (is.logs.moments system) (is.logs.records system) its-good.each (λ none. there (its-log ∙ none)))
        | inr differs ↦ is.moments.begun other low (omega (arith, high, differs))
      ];
      others = λ other more. is.moments.others other (omega (arith, more));
    };
    leaves = is.leaves;
    none_failed = is.none_failed;
  }

  -- its log is empty, and a Genesis is appended
  module _ (empty : log_of now.world system ≡ []) (begun : HaveBegun rules_of (system - 1) now.world) (after : KeptOf ModelRules DocumentTables V)
      (only : disk.told → LeavesOnly disk now.vols after.vols (system - 1)
      (IsBeforeOrAfter [] (entry_with (moment_of now.journals) (Genesis system text))))
      (others : disk.told → KeepsOthers disk now.vols after.vols (system - 1))
      (counted : (place : ℕ) → place ≢ system - 1 → disk.faults after.vols place ≡ disk.faults now.vols place) where
    no-records : is.logs.records system ≡ []
    no-records = sym its-log ∙ empty

    no-moments : is.logs.moments system ≡ []
    no-moments = none-of (is.logs.moments system) (its-good.each ∙ ap (λ (log : List Record). length log) no-records)

    holds-none : disk.told → Stands (disk.volume before (system - 1)).contents []
    holds-none tells =
        subst (λ m. Stands (bytes_in disk before system) (entries_of m (is.logs.records system))) no-moments (is.held tells system least most)

    begun-left : disk.told → LeavesOpening disk many text set before after.vols ⊤ ⊥
    begun-left tells =
        left-begun disk text set before many (system - 1) now.vols after.vols (is.leaves tells) (omega (arith, least, most)) (holds-none tells)
        (subst (λ m. LeavesOnly disk now.vols after.vols (system - 1) (IsBeforeOrAfter [] (entry_with m (Genesis (suc (system - 1)) text)))) is.moment_set
        (subst (λ n. LeavesOnly disk now.vols after.vols (system - 1) (IsBeforeOrAfter [] (entry_with (moment_of now.journals) (Genesis n text)))) number
        (only tells)))
        (others tells) counted

    ended-left : disk.told → LeavesOpening disk many text set before after.vols (⊤ × HoldSoundLogs many text (bytes_in disk before)) ⊤
    ended-left tells = left-now after.vols ⊥ (begun-left tells) tells

    -- the volumes of the systems before it are read as logs
    logs-before : disk.told → (logs : Logs) × AreLogsTo many text (bytes_in disk before) (system - 1) logs
    logs-before tells = (
      is.logs,
      λ other low high.
          let within : other ≤ many = omega (arith, high, most) in
          record { stands = is.held tells other low within; good = is.sound.good other low within },
    )

    -- so it has begun, or why not
    pub begins-by : {T : Type 0} (result : Result T BeginEnd) → BegunAs now after system text result
        → CountsFault (result ≡ Err begin.Volume) (disk.faults now.vols) (disk.faults after.vols) (system - 1)
        → BeginsNext disk many text set before system after (begun_of result)
    begins-by (Ok done) did counts = record {
      all = ap (λ (w : World ModelRules). w.rules.systems) did.0 ∙ ap (λ (r : ModelRules). r.systems) (rules-kept now.world system (Genesis system text)) ∙ is.all;
      moment_set = did.1.one.moment ∙ is.moment_set;
      logs = is.logs;
      sound = is.sound;
      held = is.held;
      records = from-by rules_of is_lawful now after system begun least (subst (λ m. system ≤ m) (sym is.all) most) empty text
          (Ok done) is.logs.records did is.records;
      moments = record {
        begun = λ other low high. elim (cases_eq other system) [
          | inl same ↦ subst (λ s. moments_at after.journals (s - 1) ≡ begun_moments set (is.logs.moments s)) (sym same)
              (did.1.first ∙ ap (λ (m : Option ℕ). m ∷ []) is.moment_set ∙ sym (ap (begun_moments set) no-moments))
          | inr differs ↦
              same_moments (other - 1) now.journals after.journals (did.1.one.others (other - 1) (λ same. differs (omega (arith, same, low, least))))
              ∙ is.moments.begun other low (omega (arith, high, differs))
        ];
        others = λ other more.
            same_moments (other - 1) now.journals after.journals (did.1.one.others (other - 1) (λ same. omega (arith, same, more, least)))
            ∙ is.moments.others other (omega (arith, more));
      };
      leaves = begun-left;
      none_failed = none-more disk before now.vols after.vols (system - 1) counts is.none_failed (λ same. cc);
    }
    begins-by (Err begin.Volume) did counts = record {
      why = tt;
      not_refused = λ tells hold. tt;
      leaves = ended-left;
      faulted =
          failed-here disk before now.vols after.vols (system - 1) counts is.none_failed many text (omega (arith, least, most)) logs-before refl;
    }
    begins-by (Err begin.OutOfMemory) did counts = record {
      why = tt;
      not_refused = λ tells hold. tt;
      leaves = ended-left;
      faulted = none-more disk before now.vols after.vols (system - 1) counts is.none_failed (λ same. cc);
    }

  -- memory was wanting before anything was done
  pub begins-unable : HasEnded disk many text set before (record { why = why.OutOfMemory; vols = now.vols })
  begins-unable = record {
    why = tt;
    not_refused = λ tells hold. tt;
    leaves = λ tells. left-now now.vols ⊥ (is.leaves tells) tells;
    faulted = is.none_failed;
  }

-- ---- all systems have begun

module _ {V : Type 0} (disk : Disk V) (many : ℕ) (text : List ℕ) (set : Option ℕ) (before : V) (now : KeptOf ModelRules DocumentTables V)
    (is : AreBegunSoFar disk many text set before many now) where
  -- the landscape is opened
  pub has-opened : HaveBegun rules_of many now.world → HasOpened disk many text set before now
  has-opened begun = record {
    all = is.all;
    count = begun.all ∙ is.all;
    world = begun.begins.world;
    moment = is.moment_set;
    logs = is.logs;
    sound = is.sound;
    held = is.held;
    records = is.records;
    moments = is.moments;
  }

  -- only where the volumes hold sound logs
  pub holds-sound : disk.told → HoldSoundLogs many text (bytes_in disk before)
  holds-sound tells = (is.logs, is.sound, is.held tells)

  -- and systems have begun only there
  pub opened-left : disk.told → LeavesOpening disk many text set before now.vols (⊤ × HoldSoundLogs many text (bytes_in disk before)) ⊥
  opened-left tells =
      left-weaker disk text set before many now.vols ⊤ (⊤ × HoldSoundLogs many text (bytes_in disk before)) ⊥ ⊥ (λ may. (tt, holds-sound tells))
      (λ never. never) (is.leaves tells)

-- ---- a landscape that was opened

module _ {V : Type 0} (disk : Disk V) (many : ℕ) (text : List ℕ) (set : Option ℕ) (before : V) (now : KeptOf ModelRules DocumentTables V)
    (is : HasOpened disk many text set before now) where
  -- a log that begins is that of its system, by this text
  pub IsBegun-log : (model : Lists) → said text ≡ Some model → length model.systems ≡ many → (system : ℕ) (moments : List (Option ℕ)) (log now : List Record)
      → IsGoodLog many text system moments log → now ≡ begun_log text system log → IsBegun text many system now
  IsBegun-log model says its system moments [] now good begun = record { rest = []; model = model; first = begun; says = says; many = its }
  IsBegun-log model says its system moments (first ∷ rest) now good begun =
      let one = good.good 0 first (omega arith) refl in
      record {
        rest = rest;
        model = model;
        first = begun ∙ ap (λ record_first. record_first ∷ rest) (first-good many text system first one.matches one.legal);
        says = says;
        many = its;
      }

  -- all logs begin with the model
  unfoldable pub are-begun : (model : Lists) → said text ≡ Some model → length model.systems ≡ many → AreBegun now.world
  are-begun model says its = record {
    text = text;
    each = λ system least most.
        let within : system ≤ many = subst (λ n. system ≤ n) is.all most in
        subst (λ n. IsBegun text n system (log_of now.world system)) (sym is.all)
        (IsBegun-log model says its system (is.logs.moments system) (is.logs.records system) (log_of now.world system)
        (is.sound.good system least within) (is.records.begun system least within));
  }

-- what is so where a system has begun is so where that is answered
pub on-begun : {T : Type 0} (result : Result T BeginEnd) (end : Result T OpenWhy) (P : Type 0) → end ≡ begun_of result → OnOk result P → OnOk end P
on-begun (Ok done) end P is so = subst (λ e. OnOk e P) (sym is) so
on-begun (Err failed) end P is so = subst (λ e. OnOk e P) (sym is) tt
