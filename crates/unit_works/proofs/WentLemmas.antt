-- How a landscape goes on.
use Rattle.std.specs.Prelude.{slice_get}
use Rattle.std.specs.List.{list_all}
use Rattle.std.specs.Option.{unwrap_or}
use Rattle.std.proofs.Common.{◌≡◌, ◌≢◌, ◌≤◌, ◌-◌, ◌^◌, ℕ, Bool, true, false, ◌&&◌, Option, Some, None, List, [], ◌∷◌, ◌++◌, inl, inr, refl, sym, ap}
use Rattle.std.proofs.Common.{subst, ◌∙◌}
use Rattle.std.proofs.Common.{zero, suc, ◌+◌, arith}
use Rattle.std.proofs.lemmas.Bool.{and_parts, and_from, both_ways, cases_Bool, cases_eq}
use Rattle.std.proofs.lemmas.List.{get_or-set_other}
use Rattle.std.proofs.lemmas.List.Folds.{list_all-append}
use Rattle.ale_volumes.specs.Disk.{Disk}
use Rattle.ale_base.specs.Tid.{TidOf}
use Rattle.unit_core.specs.declared.records.Record.{Record}
use Rattle.trfc_protocol.specs.declared.event.Event.{Event}
use Rattle.trfc_protocol.specs.declared.event.Event.TheVariants.{Fall, Open}
use Rattle.trfc_protocol.specs.declared.world.World.{World}
use Rattle.trfc_protocol.specs.Happens.{happens, run}
use Rattle.trfc_protocol.specs.Legal.{IsLawful, may_follow}
use Rattle.trfc_protocol.specs.Meaning.{Meaning}
use Rattle.trfc_protocol.specs.RecordOf.{Writing, record_of}
use Rattle.trfc_protocol.specs.Safe.{Safe}
use Rattle.trfc_protocol.specs.Worlds.{committed_unit, is_up, log_of, log_or_none, rest_of, rest_or_none, state_of, up_or_not, with_fall}
use Rattle.trfc_protocol.proofs.EventLemmas.{Safe-step}
use Rattle.trfc_protocol.proofs.RecordLemmas.{MayWrite-record}
use Rattle.trfc_protocol.proofs.WorldLemmas.{is_up-known, state_of-least, state_of-most}
use Rattle.unit_journal.specs.declared.journals.SystemJournals.{SystemJournals}
use Rattle.unit_journal.specs.Changes.{with_rest, OnlyAt}
use Rattle.unit_journal.specs.OnDisk.{last_moment, later, moment_of, moments_at, next_moment, rest_at}
use Rattle.unit_landscape.specs.AppendEnds.{HasOneMore}
use Rattle.unit_landscape.specs.KeptWorlds.{KeptOf, cause_at}
use Rattle.unit_landscape.specs.LogAnswers.{KeepsDisk}
use Rattle.unit_landscape.specs.declared.cause.Cause.{Cause}
use Rattle.unit_landscape.specs.declared.cause.Cause.TheVariants.{Crashed, Up, Faulted, Overran, Short}
use Rattle.unit_landscape.specs.Causes.{cause_in, with_cause, causes_after}
use Rattle.unit_landscape.specs.Ends.{NoFaults, Happened, Failed, FellBehind, Stays, FellInstead, IsShort, Overflowed}
use Rattle.unit_landscape.specs.Crashes.{HasGrown, LeavesSound, StaysSound}
use Rattle.unit_landscape.specs.Kept.{IsLandscape}
use Rattle.unit_landscape.specs.Writes.{MomentsAs}
use Rattle.unit_landscape.proofs.CrashLemmas.{stays-none, stays-on, stays-one}
use Rattle.unit_landscape.proofs.GrownLemmas.{grown-behind, grown-event, grown-stays}
use Rattle.unit_landscape.proofs.EndsLemmas.{falls-up, too_long-same}
use Rattle.unit_works.specs.Events.{is_works_record, is_works_rest}
use Rattle.unit_works.specs.Went.{AreStamped, HasCause, HasNotFallen, HasRisen, HaveWorksBehind, IsUnfit, StaysDown, WentOn, with_more}
use Rattle.unit_works.proofs.FellLemmas.{fell-failed, fell-full, fell-up}
use Rattle.unit_works.proofs.LogLemmas.{works-event, works-on, works-same}
use Rattle.unit_works.proofs.StateLemmas.{IsOfWorks, fall-committed, fall-down, fall-is_down, fall-log, fall-only, fall-rest, is_step, step-committed}
use Rattle.unit_works.proofs.StateLemmas.{step-down, step-sent, step-up, step-works}

-- ---- one after the other

-- events one after the other, and then more of them
run-append : {R : Type 0} (meaning : R → Meaning) (world : World R) (events more : List Event)
    → run meaning world (events ++ more) ≡ run meaning (run meaning world events) more
run-append meaning world [] more = refl
run-append meaning world (e ∷ events) more = run-append meaning (happens (meaning world.rules) world e) events more

not_fallen-on : (a b c : ℕ) → HasNotFallen a b → HasNotFallen b c → HasNotFallen a c
not_fallen-on a b c first second = elim second [
  | inl least ↦ elim first [
    | inl lower ↦ inl (omega arith)
    | inr end ↦ inr (omega arith)
  ]
  | inr end ↦ inr end
]

risen-then : (a b c : ℕ) → HasRisen a b → HasNotFallen b c → HasRisen a c
risen-then a b c first second = elim second [
  | inl least ↦ elim first [
    | inl lower ↦ inl (omega arith)
    | inr end ↦ inr (omega arith)
  ]
  | inr end ↦ inr end
]

then-risen : (a b c : ℕ) → HasNotFallen a b → HasRisen b c → HasRisen a c
then-risen a b c first second = elim second [
  | inl least ↦ elim first [
    | inl lower ↦ inl (omega arith)
    | inr end ↦ inr (omega arith)
  ]
  | inr end ↦ inr end
]

all-wider : (may might : Event → Bool) (events : List Event) → ((e : Event) → may e ≡ true → might e ≡ true) → list_all may events ≡ true
    → list_all might events ≡ true
all-wider may might [] wider each = refl
all-wider may might (e ∷ events) wider each =
    let parts = and_parts (may e) (list_all may events) each in
    and_from (might e) (list_all might events) (wider e parts.0) (all-wider may might events wider parts.1)

-- a step changes no cause
quiet-step : (e : Event) (causes : List Cause) → is_step e ≡ true → causes_after e causes ≡ causes
quiet-step (Fall system kept) causes step = cc
quiet-step (Open system) causes step = cc
quiet-step e causes step = refl

module _ {R A V : Type 0} (meaning : R → Meaning) (disk : Disk V) (before between after : KeptOf R A V) (system : ℕ) where
  -- a record that did not fit does not where its system stays down
  unfit-still : (rules : after.world.rules ≡ between.world.rules)
      → ((tid : TidOf) → committed_unit (meaning after.world.rules) after.world tid ≡ committed_unit (meaning between.world.rules) between.world tid)
      → StaysDown between after system → IsUnfit meaning disk before between system → IsUnfit meaning disk before after system
  unfit-still rules committed stays unfit =
      record {
        next = unfit.next;
        works = unfit.works;
        may = ap (λ (r : R). may_follow (meaning r) system (log_of after.world system) unfit.next) rules
            ∙ ap (λ l. may_follow (meaning between.world.rules) system l unfit.next) stays.log ∙ unfit.may;
        sent = λ unit takes. committed unit.tid ∙ unfit.sent unit takes;
        size = unfit.size;
        long = too_long-same between after (record { system = system; next = unfit.next }) unfit.size stays.log stays.moments stays.moment unfit.long;
        told = stays.cause ∙ unfit.told;
      }

  -- a record that does not fit at last did not
  unfit-last : IsUnfit meaning disk between after system → IsUnfit meaning disk before after system
  unfit-last unfit = record {
    next = unfit.next;
    works = unfit.works;
    may = unfit.may;
    sent = unfit.sent;
    size = unfit.size;
    long = unfit.long;
    told = unfit.told;
  }

  -- a system that fell at last did so for its cause
  cause-last : (rest : Option Record) → HasNotFallen (disk.faults before.vols (system - 1)) (disk.faults between.vols (system - 1))
      → HasCause meaning disk between after system rest → HasCause meaning disk before after system rest
  cause-last (Some next) held cause =
      (then-risen (disk.faults before.vols (system - 1)) (disk.faults between.vols (system - 1)) (disk.faults after.vols (system - 1)) held cause.0, cause.1)
  cause-last None held cause = elim cause [
    | inl unfit ↦ inl (unfit-last unfit)
    | inr felled ↦ inr felled
  ]

  -- so did one that fell before, and stays down
  cause-first : (rest : Option Record) → (rules : after.world.rules ≡ between.world.rules)
      → ((tid : TidOf) → committed_unit (meaning after.world.rules) after.world tid ≡ committed_unit (meaning between.world.rules) between.world tid)
      → HasNotFallen (disk.faults between.vols (system - 1)) (disk.faults after.vols (system - 1)) → StaysDown between after system
      → HasCause meaning disk before between system rest → HasCause meaning disk before after system rest
  cause-first (Some next) rules committed holds stays cause = (
    risen-then (disk.faults before.vols (system - 1)) (disk.faults between.vols (system - 1)) (disk.faults after.vols (system - 1)) cause.0 holds,
    stays.cause ∙ cause.1,
  )
  cause-first None rules committed holds stays cause = elim cause [
    | inl unfit ↦ inl (unfit-still rules committed stays unfit)
    | inr felled ↦ inr (stays.cause ∙ felled)
  ]

-- so many moments more, and more of them
more-on : (set : Option ℕ) (n m : ℕ) (moments : List (Option ℕ)) → with_more set (n + m) moments ≡ with_more set m (with_more set n moments)
more-on set zero m moments = let same : zero + m ≡ m = omega arith in ap (λ (k : ℕ). with_more set k moments) same
more-on set (suc n) m moments =
    let same : suc n + m ≡ suc (n + m) = omega arith in
    ap (λ (k : ℕ). with_more set k moments) same ∙ more-on set n m (moments ++ later set (last_moment moments) ∷ [])

stamped-on : (set : Option ℕ) (before between after : List (Option ℕ)) → AreStamped set before between → AreStamped set between after
    → AreStamped set before after
stamped-on set before between after first second =
    (first.0 + second.0, second.1 ∙ ap (with_more set second.0) first.1 ∙ sym (more-on set first.0 second.0 before))

-- a system that is up has a number from 1 on
pub up-least : {R : Type 0} (world : World R) (system : ℕ) → is_up world system ≡ true → 1 ≤ system
up-least world system up = let known = is_up-known world system up in state_of-least world.systems system known.0 known.1

-- and is one of those that the landscape has
pub up-known : {R : Type 0} (rules : Meaning) (world : World R) → Safe rules world → (system : ℕ) → is_up world system ≡ true
    → (1 ≤ system) × (system ≤ rules.systems)
up-known rules world safe system up =
    let known = is_up-known world system up in
    (up-least world system up, subst (λ n. system ≤ n) safe.systems (state_of-most world.systems system known.0 known.1))

module _ {R A V : Type 0} (meaning : R → Meaning) (disk : Disk V) (may : Event → Bool) where
  -- nothing has happened
  went-nowhere : (whole : Bool) (kept : KeptOf R A V) → WentOn meaning disk may whole kept kept
  went-nowhere whole kept = record {
    events = [];
    each = refl;
    world = refl;
    rules = refl;
    logs = works-same kept.world kept.world (λ system. refl);
    committed = λ tid. refl;
    moment = refl;
    moments = λ place. (0, refl);
    counts = λ place. inl (omega arith);
    unharmed = λ system least up. refl;
    stays = λ system least down. record { down = down; rest = refl; log = refl; moments = refl; moment = refl; rest_moment = refl; cause = refl };
    falls = λ is system up down. absurd (both_ways (is_up kept.world system) down up);
    sound = λ tells. stays-none meaning disk kept kept refl refl;
  }

  pub went-same : (whole : Bool) (before after : KeptOf R A V) → after ≡ before → WentOn meaning disk may whole before after
  went-same whole before after same = subst (WentOn meaning disk may whole before) (sym same) (went-nowhere whole before)

  -- whole work is work
  pub went-whole : (whole : Bool) (before after : KeptOf R A V) → WentOn meaning disk may true before after → WentOn meaning disk may whole before after
  went-whole whole before after went = record {
    events = went.events;
    each = went.each;
    world = went.world;
    rules = went.rules;
    logs = went.logs;
    committed = went.committed;
    moment = went.moment;
    moments = went.moments;
    counts = went.counts;
    unharmed = went.unharmed;
    stays = went.stays;
    falls = λ is. went.falls refl;
    sound = went.sound;
  }

  -- on and on
  pub went-on : (whole : Bool) (before between after : KeptOf R A V) → WentOn meaning disk may true before between
      → WentOn meaning disk may whole between after
      → WentOn meaning disk may whole before after
  went-on whole before between after first second = record {
    events = first.events ++ second.events;
    each = list_all-append may first.events second.events ∙ and_from (list_all may first.events) (list_all may second.events) first.each second.each;
    world = second.world ∙ ap (λ (w : World R). run meaning w second.events) first.world ∙ sym (run-append meaning before.world first.events second.events);
    rules = second.rules ∙ first.rules;
    logs = works-on before.world between.world after.world first.logs second.logs;
    committed = λ tid. second.committed tid ∙ first.committed tid;
    moment = second.moment ∙ first.moment;
    moments = λ place.
        stamped-on (moment_of before.journals) (moments_at before.journals place) (moments_at between.journals place) (moments_at after.journals place)
        (first.moments place)
        (subst (λ set. AreStamped set (moments_at between.journals place) (moments_at after.journals place)) first.moment (second.moments place));
    unharmed = λ system least up. elim (cases_Bool (is_up between.world system)) [
      | inl still ↦ second.unharmed system least up ∙ first.unharmed system least still
      | inr down ↦ let stays = second.stays system least down in absurd (both_ways (is_up after.world system) stays.down up)
    ];
    counts = λ place. not_fallen-on (disk.faults before.vols place) (disk.faults between.vols place) (disk.faults after.vols place) (first.counts place)
        (second.counts place);
    stays = λ system least down.
        let one = first.stays system least down in
        let two = second.stays system least one.down in
        record {
          down = two.down;
          rest = two.rest ∙ one.rest;
          log = two.log ∙ one.log;
          moments = two.moments ∙ one.moments;
          moment = two.moment ∙ one.moment;
          rest_moment = two.rest_moment ∙ one.rest_moment;
          cause = two.cause ∙ one.cause;
        };
    falls = λ is system up down. elim (cases_Bool (is_up between.world system)) [
      | inl still ↦ cause-last meaning disk before between after system (rest_of after.world system) (first.counts (system - 1))
          (second.falls is system still down)
      | inr fell ↦
          let stays = second.stays system (up-least before.world system up) fell in
          subst (HasCause meaning disk before after system) (sym stays.rest)
          (cause-first meaning disk before between after system (rest_of between.world system) second.rules second.committed (second.counts (system - 1))
          stays (first.falls refl system up fell))
    ];
    sound = λ tells. stays-on meaning disk before between after (first.sound tells) (second.sound tells);
  }

  -- where more may happen
  pub went-wider : (whole : Bool) (might : Event → Bool) (before after : KeptOf R A V) → ((e : Event) → may e ≡ true → might e ≡ true)
      → WentOn meaning disk may whole before after → WentOn meaning disk might whole before after
  went-wider whole might before after wider went = record {
    events = went.events;
    each = all-wider may might went.events wider went.each;
    world = went.world;
    rules = went.rules;
    logs = went.logs;
    committed = went.committed;
    moment = went.moment;
    moments = went.moments;
    counts = went.counts;
    unharmed = went.unharmed;
    stays = went.stays;
    falls = went.falls;
    sound = went.sound;
  }

-- ---- what became of an event

-- what is kept of the moments of a log is as it was
record AreStill (before after : SystemJournals) (place : ℕ) : Type 0 where
  moments : moments_at after place ≡ moments_at before place
  next : next_moment after place ≡ next_moment before place
  rest : rest_at after place ≡ rest_at before place

-- so it is where the journals are as they were
still-same : (before after : SystemJournals) (place : ℕ) → after ≡ before → AreStill before after place
still-same before after place same = record {
  moments = ap (λ (j : SystemJournals). moments_at j place) same;
  next = ap (λ (j : SystemJournals). next_moment j place) same;
  rest = ap (λ (j : SystemJournals). rest_at j place) same;
}

-- and at other places than that of a call
still-other : (before after : SystemJournals) (place other : ℕ) → OnlyAt place before after → other ≢ place → AreStill before after other
still-other before after place other only differs =
    let same = only.others other differs in
    record {
      moments = ap (λ moments. unwrap_or moments []) same.moments;
      next = ap (λ m. later m (last_moment (unwrap_or (slice_get after.moments other) []))) only.moment
          ∙ ap (λ moments. later before.moment (last_moment (unwrap_or moments []))) same.moments;
      rest = same.rest;
    }

-- no moment of a log has changed, and no other one that is kept but of a record at one place whose write failed
record NoneNoted (place : ℕ) (before after : SystemJournals) : Type 0 where
  set : moment_of after ≡ moment_of before
  moments : (other : ℕ) → moments_at after other ≡ moments_at before other
  others : (other : ℕ) → other ≢ place → AreStill before after other

none-noted-same : (place : ℕ) (before after : SystemJournals) → after ≡ before → NoneNoted place before after
none-noted-same place before after same = record {
  set = ap (λ (j : SystemJournals). moment_of j) same;
  moments = λ other. ap (λ (j : SystemJournals). moments_at j other) same;
  others = λ other differs. still-same before after other same;
}

none-noted-rest : (place : ℕ) (moment : Option ℕ) (before after : SystemJournals) → after ≡ with_rest place moment before
    → NoneNoted place before after
none-noted-rest place moment before after left = record {
  set = ap (λ (j : SystemJournals). moment_of j) left;
  moments = λ other. ap (λ (j : SystemJournals). moments_at j other) left;
  others = λ other differs. record {
    moments = ap (λ (j : SystemJournals). moments_at j other) left;
    next = ap (λ (j : SystemJournals). next_moment j other) left;
    rest = ap (λ (j : SystemJournals). rest_at j other) left ∙ get_or-set_other before.rests place other moment None differs;
  };
}

module _ {R A V : Type 0} (meaning : R → Meaning) (lawful : (r : R) → IsLawful (meaning r)) (disk : Disk V) (may : Event → Bool)
    (before after : KeptOf R A V)
    (is : IsLandscape meaning before.world) (leaves : disk.told → LeavesSound meaning disk before after) where
  -- one call, of which it is known what it leaves
  linked : disk.told → HasGrown before.world after.world → StaysSound meaning disk before after
  linked tells grown = stays-one meaning disk before after grown (leaves tells)

  counted-same : NoFaults (meaning before.world.rules) disk before after → (place : ℕ) →
      HasNotFallen (disk.faults before.vols place) (disk.faults after.vols place)
  counted-same none place = let same = none place in inl (omega arith)

  -- a system that is down is other than one that is up, and so is its journal
  places-differ : (system other : ℕ) → is_up before.world system ≡ true → 1 ≤ other → is_up before.world other ≡ false → other - 1 ≢ system - 1
  places-differ system other up least down same =
      let lowest = up-least before.world system up in
      let equal : other ≡ system = omega (arith, same) in
      both_ways (is_up before.world system) (sym (ap (is_up before.world) equal) ∙ down) up

  same-state : (other : ℕ) → is_up before.world other ≡ false → state_of after.world.systems other ≡ state_of before.world.systems other
      → AreStill before.journals after.journals (other - 1) → cause_at after other ≡ cause_at before other → StaysDown before after other
  same-state other down state still cause = record {
    down = ap up_or_not state ∙ down;
    rest = ap rest_or_none state;
    log = ap log_or_none state;
    moments = still.moments;
    moment = still.next;
    rest_moment = still.rest;
    cause = cause;
  }

  same-cause : after.causes ≡ before.causes → (other : ℕ) → cause_at after other ≡ cause_at before other
  same-cause same other = ap (λ all. cause_in all other) same

  -- another system that is told of leaves the cause of one that is down
  other-cause : (system : ℕ) (cause : Cause) → is_up before.world system ≡ true → after.causes ≡ with_cause before.causes system cause
      → (other : ℕ) → 1 ≤ other → is_up before.world other ≡ false → cause_at after other ≡ cause_at before other
  other-cause system cause up told other least down =
      ap (λ all. cause_in all other) told ∙ get_or-set_other before.causes (system - 1) (other - 1) cause Up (places-differ system other up least down)

  -- a record leaves the journals of systems that are down
  moments-still : (e : Event) (found : Option Writing) → record_of (meaning before.world.rules) before.world e ≡ found
      → MomentsAs before.journals after.journals found
      → (other : ℕ) → 1 ≤ other → is_up before.world other ≡ false → AreStill before.journals after.journals (other - 1)
  moments-still e None writes same other least down = still-same before.journals after.journals (other - 1) same
  moments-still e (Some it) writes more other least down =
      let up = (MayWrite-record (meaning before.world.rules) (lawful before.world.rules) before.world is.safe e it writes).up in
      still-other before.journals after.journals (it.system - 1) (other - 1) more.one (places-differ it.system other up least down)

  by-rules : (rules : after.world.rules ≡ before.world.rules) → ((tid : TidOf)
      → committed_unit (meaning before.world.rules) after.world tid ≡ committed_unit (meaning before.world.rules) before.world tid)
      → (tid : TidOf) → committed_unit (meaning after.world.rules) after.world tid ≡ committed_unit (meaning before.world.rules) before.world tid
  by-rules rules same tid = ap (λ (r : R). committed_unit (meaning r) after.world tid) rules ∙ same tid

  moments-moment : (found : Option Writing) → MomentsAs before.journals after.journals found → moment_of after.journals ≡ moment_of before.journals
  moments-moment None same = ap (λ (j : SystemJournals). moment_of j) same
  moments-moment (Some it) more = let only = more.one in only.moment

  -- the moment of a record is the next one of its log
  stamped-one : (at : ℕ) → HasOneMore at before.journals after.journals → (place : ℕ)
      → AreStamped (moment_of before.journals) (moments_at before.journals place) (moments_at after.journals place)
  stamped-one at more place = elim (cases_eq place at) [
    | inl here ↦ (
      1,
      subst (λ p. moments_at after.journals p ≡ moments_at before.journals p ++ next_moment before.journals p ∷ []) (sym here) more.grown,
    )
    | inr differs ↦
        let only = more.one in
        let same = only.others place differs in
        (0, ap (λ (found : Option (List (Option ℕ))). unwrap_or found []) same.moments)
  ]

  stamped-by : (found : Option Writing) → MomentsAs before.journals after.journals found → (place : ℕ)
      → AreStamped (moment_of before.journals) (moments_at before.journals place) (moments_at after.journals place)
  stamped-by None same place = (0, ap (λ (j : SystemJournals). moments_at j place) same)
  stamped-by (Some it) more place = stamped-one (it.system - 1) more place

  -- an event happened
  pub went-happened : (whole : Bool) (e : Event) → is_step e ≡ true → may e ≡ true → Happened (meaning before.world.rules) disk before after e
      → WentOn meaning disk may whole before after
  went-happened whole e step is_may did = record {
    events = e ∷ [];
    each = and_from (may e) true is_may refl;
    world = did.world;
    rules = (Safe-step meaning lawful before.world after.world e is.safe did.world).0;
    logs = subst (HaveWorksBehind before.world) (sym did.world)
        (works-event (meaning before.world.rules) (lawful before.world.rules) before.world is.safe e step);
    committed = by-rules (Safe-step meaning lawful before.world after.world e is.safe did.world).0
        (λ tid. ap (λ (w : World R). committed_unit (meaning before.world.rules) w tid) did.world
        ∙ step-committed (meaning before.world.rules) (lawful before.world.rules) before.world is.safe e step tid);
    moment = moments-moment (record_of (meaning before.world.rules) before.world e) did.moments;
    moments = stamped-by (record_of (meaning before.world.rules) before.world e) did.moments;
    unharmed = λ other least up. did.no_faults (other - 1);
    counts = counted-same did.no_faults;
    stays = λ other least down.
        let journals = moments-still e (record_of (meaning before.world.rules) before.world e) refl did.moments other least down in
        same-state other down
        (ap (λ (w : World R). state_of w.systems other) did.world
        ∙ step-down (meaning before.world.rules) (lawful before.world.rules) before.world is.safe e step other down) journals
        (same-cause (did.causes ∙ quiet-step e before.causes step) other);
    falls = λ is_whole other up down.
        absurd (both_ways (is_up before.world other)
        (sym (step-up (meaning before.world.rules) (lawful before.world.rules) before.world is.safe e step other)
        ∙ sym (ap (λ (w : World R). is_up w other) did.world) ∙ down) up);
    sound = λ tells. linked tells (grown-event meaning lawful before.world after.world is.safe e did.world);
  }

  -- memory was wanting before
  pub went-stays : (whole : Bool) → Stays (meaning before.world.rules) disk before after → WentOn meaning disk may whole before after
  went-stays whole did = record {
    events = [];
    each = refl;
    world = did.world;
    rules = ap (λ (w : World R). w.rules) did.world;
    logs = works-same before.world after.world (λ system. ap (λ (w : World R). log_of w system) did.world);
    committed = by-rules (ap (λ (w : World R). w.rules) did.world) (λ tid. ap (λ (w : World R). committed_unit (meaning before.world.rules) w tid) did.world);
    moment = ap (λ (j : SystemJournals). moment_of j) did.journals;
    moments = λ place. (0, ap (λ (j : SystemJournals). moments_at j place) did.journals);
    unharmed = λ other least up. did.no_faults (other - 1);
    counts = counted-same did.no_faults;
    stays = λ other least down.
        same-state other down (ap (λ (w : World R). state_of w.systems other) did.world)
        (still-same before.journals after.journals (other - 1) did.journals) (same-cause did.causes other);
    falls = λ is_whole other up down. absurd (both_ways (is_up before.world other) (sym (ap (λ (w : World R). is_up w other) did.world) ∙ down) up);
    sound = λ tells. linked tells (grown-stays meaning lawful disk before after is.safe did);
  }

  module _ (falls : (system : ℕ) (kept : Option Record) → is_works_rest kept ≡ true → may (Fall system kept) ≡ true) where
    -- a system fell
    one-fall : (whole : Bool) (system : ℕ) (rest : Option Record) → is_works_rest rest ≡ true → is_up before.world system ≡ true
        → after.world ≡ happens (meaning before.world.rules) before.world (Fall system rest) → after.world ≡ with_fall before.world system rest
        → NoneNoted (system - 1) before.journals after.journals
        → ((other : ℕ) → 1 ≤ other → is_up before.world other ≡ false → cause_at after other ≡ cause_at before other)
        → ((place : ℕ) → HasNotFallen (disk.faults before.vols place) (disk.faults after.vols place))
        → ((other : ℕ) → 1 ≤ other → is_up after.world other ≡ true → disk.faults after.vols (other - 1) ≡ disk.faults before.vols (other - 1))
        → HasCause meaning disk before after system rest → WentOn meaning disk may whole before after
    one-fall whole system rest works up world fall journals causes counts unharmed cause = record {
      events = Fall system rest ∷ [];
      each = and_from (may (Fall system rest)) true (falls system rest works) refl;
      world = world;
      rules = (Safe-step meaning lawful before.world after.world (Fall system rest) is.safe world).0;
      logs = works-same before.world after.world
          (λ other. ap (λ (w : World R). log_of w other) fall ∙ fall-log before.world system up rest other);
      committed = by-rules (Safe-step meaning lawful before.world after.world (Fall system rest) is.safe world).0
          (λ tid. ap (λ (w : World R). committed_unit (meaning before.world.rules) w tid) fall
          ∙ fall-committed before.world system up rest (meaning before.world.rules) tid);
      moment = journals.set;
      moments = λ place. (0, journals.moments place);
      unharmed = unharmed;
      counts = counts;
      stays = λ other least down.
          same-state other down (ap (λ (w : World R). state_of w.systems other) fall ∙ fall-down before.world system up rest other down)
          (journals.others (other - 1) (places-differ system other up least down)) (causes other least down);
      falls = λ is_whole other was down.
          let its : other ≡ system = fall-only before.world system up rest other was (sym (ap (λ (w : World R). is_up w other) fall) ∙ down) in
          subst (λ s. HasCause meaning disk before after s (rest_of after.world s)) (sym its)
          (subst (HasCause meaning disk before after system) (sym (ap (λ (w : World R). rest_of w system) fall ∙ fall-rest before.world system up rest))
          cause);
      sound = λ tells. linked tells (grown-event meaning lawful before.world after.world is.safe (Fall system rest) world);
    }

    failed-counts : (it : Writing) → Failed (meaning before.world.rules) disk before after it → (place : ℕ)
        → HasNotFallen (disk.faults before.vols place) (disk.faults after.vols place)
    failed-counts it did place = elim (cases_eq place (it.system - 1)) [
      | inl here ↦
          subst (λ p. HasNotFallen (disk.faults before.vols p) (disk.faults after.vols p)) (sym here)
          (elim (cases_eq (disk.faults after.vols (it.system - 1)) (2 ^ 64 - 1)) [
            | inl end ↦ inr (omega (arith, end))
            | inr less ↦ inl (omega (arith, did.rose less))
          ])
      | inr other ↦ inl (omega (arith, did.others place other))
    ]

    failed-risen : (it : Writing) → Failed (meaning before.world.rules) disk before after it
        → HasRisen (disk.faults before.vols (it.system - 1)) (disk.faults after.vols (it.system - 1))
    failed-risen it did = elim (cases_eq (disk.faults after.vols (it.system - 1)) (2 ^ 64 - 1)) [
      | inl end ↦ inr (omega (arith, end))
      | inr less ↦ inl (did.rose less)
    ]

    -- it fell at a record that works append
    works-of : (e : Event) (it : Writing) → is_step e ≡ true → record_of (meaning before.world.rules) before.world e ≡ Some it → is_works_record it.next ≡ true
    works-of e it step writes =
        subst (IsOfWorks (meaning before.world.rules) before.world) writes (step-works (meaning before.world.rules) before.world e step)

    -- no other volume failed
    failed-unharmed : (it : Writing) → is_up before.world it.system ≡ true → Failed (meaning before.world.rules) disk before after it
        → after.world ≡ with_fall before.world it.system (Some it.next)
        → (other : ℕ) → 1 ≤ other → is_up after.world other ≡ true → disk.faults after.vols (other - 1) ≡ disk.faults before.vols (other - 1)
    failed-unharmed it up did fall other least still =
        did.others (other - 1) (λ same.
        let lowest = up-least before.world it.system up in
        let equal : other ≡ it.system = omega (arith, same) in
        let down = fall-is_down before.world it.system up (Some it.next) in
        both_ways (is_up after.world it.system) (ap (λ (w : World R). is_up w it.system) fall ∙ down) (subst (λ s. is_up after.world s ≡ true) equal still))

    -- the record that did not fit
    unfit : (e : Event) (it : Writing) → is_step e ≡ true → record_of (meaning before.world.rules) before.world e ≡ Some it
        → is_up before.world it.system ≡ true
        → after.world ≡ with_fall before.world it.system None → Overflowed (meaning before.world.rules) disk before after it
        → IsUnfit meaning disk before after it.system
    unfit e it step writes up fall did =
        let rules : after.world.rules ≡ before.world.rules = (Safe-step meaning lawful before.world after.world (Fall it.system None) is.safe did.world).0 in
        let same : log_of after.world it.system ≡ log_of before.world it.system =
        ap (λ (w : World R). log_of w it.system) fall ∙ fall-log before.world it.system up None it.system in
        record {
          next = it.next;
          works = works-of e it step writes;
          may = ap (λ (r : R). may_follow (meaning r) it.system (log_of after.world it.system) it.next) rules
              ∙ ap (λ l. may_follow (meaning before.world.rules) it.system l it.next) same
              ∙ (MayWrite-record (meaning before.world.rules) (lawful before.world.rules) before.world is.safe e it writes).may;
          sent = λ unit takes.
              by-rules rules
              (λ tid. ap (λ (w : World R). committed_unit (meaning before.world.rules) w tid) fall
              ∙ fall-committed before.world it.system up None (meaning before.world.rules) tid) unit.tid
              ∙ (step-sent (meaning before.world.rules) (lawful before.world.rules) before.world is.safe e it writes unit takes);
          size = did.size;
          long = too_long-same before after it did.size same (ap (λ (j : SystemJournals). moments_at j (it.system - 1)) did.journals)
              (ap (λ (j : SystemJournals). next_moment j (it.system - 1)) did.journals) did.long;
          told = did.told;
        }

    pub went-fell : (whole : Bool) (e : Event) → is_step e ≡ true → FellInstead (meaning before.world.rules) disk before after e
        → WentOn meaning disk may whole before after
    went-fell whole e step did =
        let it : Writing = did.0 in
        let up = fell-up meaning lawful disk before after is e did in
        elim did.2 [
          | inl failed ↦
              one-fall whole it.system (Some it.next) (works-of e it step did.1) up failed.world
              (fell-failed meaning lawful disk before after is e did failed)
              (none-noted-rest (it.system - 1) (next_moment before.journals (it.system - 1)) before.journals after.journals failed.journals)
              (other-cause it.system Faulted up failed.causes) (failed-counts it failed)
              (failed-unharmed it up failed (fell-failed meaning lawful disk before after is e did failed)) (failed-risen it failed, failed.told)
          | inr full ↦
              one-fall whole it.system None refl up full.world (fell-full meaning lawful disk before after is e did full)
              (none-noted-same (it.system - 1) before.journals after.journals full.journals)
              (other-cause it.system (Overran full.size) up full.causes)
              (λ place. inl (omega (arith, ap (λ (vols : V). disk.faults vols place) full.vols)))
              (λ other least still. ap (λ (vols : V). disk.faults vols (other - 1)) full.vols)
              (inl (unfit e it step did.1 up (fell-full meaning lawful disk before after is e did full) full))
        ]

    -- a system was felled
    pub went-felled : (whole : Bool) (system : ℕ) → is_up before.world system ≡ true
        → Happened (meaning before.world.rules) disk before after (Fall system None) → KeepsDisk before after → cause_at after system ≡ Crashed
        → WentOn meaning disk may whole before after
    went-felled whole system up did keeps told =
        one-fall whole system None refl up did.world (did.world ∙ falls-up (meaning before.world.rules) before.world system up)
        (none-noted-same (system - 1) before.journals after.journals keeps.journals)
        (other-cause system Crashed up did.causes)
        (λ place. inl (omega (arith, did.no_faults place)))
        (λ other least still. did.no_faults (other - 1))
        (inr told)

    -- memory was wanting behind a record
    behind : (e : Event) (it : Writing) → is_step e ≡ true → may e ≡ true → record_of (meaning before.world.rules) before.world e ≡ Some it
        → FellBehind (meaning before.world.rules) disk before after e it → WentOn meaning disk may false before after
    behind e it step is_may writes did =
        let rules : Meaning = meaning before.world.rules in
        let law = lawful before.world.rules in
        let between : World R = happens rules before.world e in
        let first = Safe-step meaning lawful before.world between e is.safe refl in
        let by : after.world ≡ happens (meaning between.rules) between (Fall it.system None) =
        did.world ∙ ap (λ (r : R). happens (meaning r) between (Fall it.system None)) (sym first.0) in
        let up = (MayWrite-record rules law before.world is.safe e it writes).up in
        let still : is_up between it.system ≡ true = step-up rules law before.world is.safe e step it.system ∙ up in
        let fall : after.world ≡ with_fall between it.system None = did.world ∙ falls-up rules between it.system still in
        record {
          events = e ∷ Fall it.system None ∷ [];
          each = and_from (may e) (may (Fall it.system None) && true) is_may (and_from (may (Fall it.system None)) true (falls it.system None refl) refl);
          world = by;
          rules = (Safe-step meaning lawful between after.world (Fall it.system None) first.1 by).0 ∙ first.0;
          logs = works-on before.world between after.world (works-event rules law before.world is.safe e step)
              (works-same between after.world (λ other. ap (λ (w : World R). log_of w other) fall ∙ fall-log between it.system still None other));
          committed = by-rules ((Safe-step meaning lawful between after.world (Fall it.system None) first.1 by).0 ∙ first.0)
              (λ tid. ap (λ (w : World R). committed_unit rules w tid) fall ∙ fall-committed between it.system still None rules tid
              ∙ step-committed rules law before.world is.safe e step tid);
          moment = let moments = did.moments in let only = moments.one in only.moment;
          moments = stamped-one (it.system - 1) did.moments;
          unharmed = λ other least up_after. did.no_faults (other - 1);
          counts = counted-same did.no_faults;
          stays = λ other least down.
              let moments = did.moments in
              let journals = still-other before.journals after.journals (it.system - 1) (other - 1) moments.one
              (places-differ it.system other up least down) in
              same-state other down
              (ap (λ (w : World R). state_of w.systems other) fall
              ∙ fall-down between it.system still None other (step-up rules law before.world is.safe e step other ∙ down)
              ∙ step-down rules law before.world is.safe e step other down) journals (other-cause it.system Short up did.causes other least down);
          falls = λ is_whole. absurd (cc);
          sound = λ tells. linked tells (grown-behind meaning lawful disk before after is.safe e it did);
        }

    pub went-short : (e : Event) → is_step e ≡ true → may e ≡ true → IsShort (meaning before.world.rules) disk before after e
        → WentOn meaning disk may false before after
    went-short e step is_may did = elim did [
      | inl stays ↦ went-stays false stays
      | inr fell ↦ behind e fell.0 step is_may fell.1 fell.2
    ]
