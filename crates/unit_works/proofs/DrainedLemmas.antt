-- Works until none is left.
use Rattle.std.specs.Prelude.{filter, slice_index_or, Result, Ok, Err, IsErr, OnOk}
use Rattle.std.specs.Result.{is_ok}
use Rattle.std.proofs.Common.{◌≡◌, ◌+◌, ◌≤◌, ◌<◌, ℕ, zero, suc, take, true, false, not, ◌&&◌, ◌||◌, ◌⊎◌, cond, length, Option, Some, None, List, [], ◌∷◌, ◌++◌}
use Rattle.std.proofs.Common.{inl, inr, refl, sym, ap, subst, ◌∙◌, append-nil, append_assoc, arith, Bool}
use Rattle.std.specs.List.{AllByRecursion, IsDistinct, list_all, list_any}
use Rattle.std.proofs.Math.Bool.{or-true}
use Rattle.std.proofs.lemmas.Bool.{and_from, and_parts, both_ways, cases_Bool, cases_lt, or_from, or_parts}
use Rattle.std.proofs.lemmas.List.{take_more}
use Rattle.std.proofs.lemmas.List.Elements.{filter-append}
use Rattle.std.proofs.lemmas.List.Folds.{list_all-append, list_any-append}
use Rattle.std.proofs.lemmas.Option.{same_Some}
use Rattle.ale_volumes.specs.Disk.{Disk}
use Rattle.ale_base.specs.Tid.{IsTid, TidOf, is_tid}
use Rattle.ale_base.specs.declared.out_of_memory.OutOfMemory.{OutOfMemory}
use Rattle.unit_core.specs.declared.ale_unit.AleUnit.{AleUnit}
use Rattle.unit_core.specs.Filters.{done_in, ended_in, received}
use Rattle.unit_core.specs.Queues.{is_listed, unit_named}
use Rattle.unit_core.proofs.TidLemmas.{is_tid-from, is_tid-true, unit_named-Contains}
use Rattle.system_tables.specs.OfLog.{is_unconfirmed}
use Rattle.trfc_protocol.specs.Meaning.{Meaning}
use Rattle.trfc_protocol.proofs.ForCallers.{done_unit}
use Rattle.trfc_protocol.proofs.SafeLemmas.{committed_place, committed_unit-is, numbered, sound_now}
use Rattle.trfc_protocol.specs.declared.held.Held.{Held}
use Rattle.trfc_protocol.specs.declared.held.HeldKind.TheVariants.{Direct, Out, In}
use Rattle.trfc_protocol.specs.declared.world.World.{World}
use Rattle.trfc_protocol.specs.Legal.{IsUnitAt, is_free_inbound, is_free_outbound}
use Rattle.trfc_protocol.specs.Offered.{is_offered_inbound, is_offered_outbound, is_stopped_inbound, is_stopped_outbound, may_move}
use Rattle.trfc_protocol.specs.Worlds.{committed_by, committed_unit, is_claimed, is_kind, is_up, log_of}
use Rattle.unit_landscape.specs.KeptWorlds.{KeptOf}
use Rattle.unit_landscape.specs.Kept.{IsLandscape}
use Rattle.landscape.specs.Shown.{AreUnconfirmedAt}
use Rattle.document_state.specs.declared.document_tables.DocumentTables.{DocumentTables}
use Rattle.document_state.specs.declared.model_rules.ModelRules.{ModelRules}
use Rattle.unit_works.specs.declared.letter.Letter.{Letter}
use Rattle.unit_works.specs.Wires.{letters_left, next_letter, rest_letters}
use Rattle.unit_works.specs.Acts.{Act, HaveActed, confirm, each_but_last_cut, execute, is_cut, loses, ship, takes}
use Rattle.unit_works.specs.Drained.{AreLost, AreOnce, DrainedAs, Found, FoundAs, GoThrough, HasGone, HasWorked, IsIdle, is_round}
use Rattle.unit_works.specs.Claims.{AreOrGone, AreOrNone, NoneRuns}
use Rattle.unit_works.specs.Finished.{finished_in}
use Rattle.unit_works.specs.Events.{is_confirmation, is_execution, is_shipping, is_work}
use Rattle.unit_works.specs.Trips.{Appended, confirmation, forgot, is_due}
use Rattle.unit_works.specs.Trips.{IsDueOf}
use Rattle.unit_works.specs.Worked.{HasTaken, HaveEnded, HaveOnlyClaimed, HaveTaken, Lines, NothingIn, NothingOut, Worked}
use Rattle.unit_works.specs.Works.{ExecutedAs, ShippedAs}
use Rattle.unit_works.specs.Rounds.{HasVisited, IsTo, RoundsAs, VisitedSo}
use Rattle.unit_works.specs.steps.Rounds.{NothingAt, NothingTo, joined}
use Rattle.unit_works.proofs.ClearLemmas.{acts-clear}
use Rattle.unit_works.proofs.FelledLemmas.{all-felled}
use Rattle.unit_works.proofs.IdleLemmas.{idle-through}
use Rattle.unit_works.proofs.LossLemmas.{all-up, due-or-on, lost-or-due, only-committed, only-due}
use Rattle.unit_works.proofs.OnceLemmas.{all-done, none-taken, once-on, once-shipped}
use Rattle.unit_works.proofs.TripLemmas.{due-parts}
use Rattle.unit_works.proofs.WorkedLemmas.{confirmation-works, ended-same, execution-works, is_lawful, meaning, on, shipping-works, still, wider}
use Rattle.unit_works.proofs.WorkedLemmas.{gone-on as claims-on}
use Rattle.unit_works.proofs.WentLemmas.{up-known}

-- where there were no claims there are none
pub none-left : (claims these : List Held) → AreOrNone claims these → these ≡ [] → claims ≡ []
none-left claims these left none = elim left [
  | inl same ↦ same ∙ none
  | inr gone ↦ gone
]

-- where no run was claimed none is
runs-left : (claims these : List Held) → AreOrNone claims these → NoneRuns these → NoneRuns claims
runs-left claims these left none = elim left [
  | inl same ↦ ap (list_all (λ (held : Held). not (is_kind held.kind Direct))) same ∙ none
  | inr gone ↦ ap (list_all (λ (held : Held). not (is_kind held.kind Direct))) gone
]

-- an act confirms a unit
abbrev is_confirmed : Act → Bool
is_confirmed act = not (is_round act)

-- claims that are gone where a system fell are gone
none-gone : (before after : World ModelRules) → AreOrGone before after before.claims → AreOrNone after.claims before.claims
none-gone before after left = elim left [
  | inl same ↦ inl same
  | inr gone ↦ inr gone.0
]

-- claims that stay or go, and then stay or go
none-on : (before between after : List Held) → AreOrNone between before → AreOrNone after between → AreOrNone after before
none-on before between after first second = elim second [
  | inl same ↦ elim first [
    | inl same_before ↦ inl (same ∙ same_before)
    | inr gone ↦ inr (same ∙ gone)
  ]
  | inr gone ↦ inr gone
]

-- ---- letters

-- no unit took a letter
pub taken-none : (lines : Lines) → HaveTaken lines lines
taken-none lines tid = ([], refl)

first-taken : (letters : List Letter) → (taken : List Letter) × (letters ≡ taken ++ rest_letters letters)
first-taken [] = ([], refl)
first-taken (letter ∷ rest) = (letter ∷ [], refl)

-- one did
pub taken-one : (tid : TidOf) (lines after : Lines) → HasTaken tid lines after → HaveTaken lines after
taken-one tid lines after takes other = elim (cases_Bool (is_tid tid other)) [
  | inl same ↦
      let its : tid ≡ other = is_tid-true tid other same in
      let first = first-taken (letters_left lines other) in
      let left : letters_left after other ≡ rest_letters (letters_left lines other) =
      takes other ∙ ap (λ b. cond b (rest_letters (letters_left lines tid)) (letters_left lines other)) same
      ∙ ap (λ t. rest_letters (letters_left lines t)) its in
      (first.0, first.1 ∙ ap (λ rest. first.0 ++ rest) (sym left))
  | inr differs ↦
      let left : letters_left after other ≡ letters_left lines other =
      takes other ∙ ap (λ b. cond b (rest_letters (letters_left lines tid)) (letters_left lines other)) differs in
      ([], sym left)
]

-- one after the other
pub taken-on : (before between after : Lines) → HaveTaken before between → HaveTaken between after → HaveTaken before after
taken-on before between after first second tid =
    let one = first tid in
    let two = second tid in
    (one.0 ++ two.0, one.1 ∙ ap (λ rest. one.0 ++ rest) two.1 ∙ sym (append_assoc one.0 two.0 (letters_left after tid)))

-- ---- units that are due

module _ (world : World ModelRules) (is : IsLandscape meaning world) (unit : AleUnit) where
  -- a unit that is due was committed
  due-committed : is_due world unit ≡ true → (sent : AleUnit) × (committed_unit (meaning world.rules) world unit.tid ≡ Some sent)
  due-committed due =
      let parts = due-parts world unit due in
      let done = (and_parts (is_listed unit.tid (done_in (log_of world unit.tid.system))) (not (is_listed unit.tid (ended_in (log_of world unit.tid.system))))
      parts.2).0 in
      let was = done_unit (meaning world.rules) (is_lawful world.rules) world is.safe unit.tid.system unit.tid done in (
        was.0,
        subst (λ t. unit_named t (committed_by (meaning world.rules) world unit.tid.system) ≡ Some was.0) was.1
            (unit_named-Contains (committed_by (meaning world.rules) world unit.tid.system) was.0
            (numbered (meaning world.rules) (is_lawful world.rules) world is.safe unit.tid.system) was.2),
      )

  -- the numbers of its id are in their ranges
  committed-range : committed_unit (meaning world.rules) world unit.tid ≡ Some unit → is_up world unit.tid.system ≡ true → IsTid unit.tid
  committed-range named up =
      let rules : Meaning = meaning world.rules in
      let system = unit.tid.system in
      let records = log_of world system in
      let legal = (sound_now rules (is_lawful world.rules) world is.safe).legal system in
      let has = (committed_unit-is rules (is_lawful world.rules) world is.safe unit.tid unit named).0 in
      let at = subst (IsUnitAt rules.systems system has.0) has.2 ((is_lawful world.rules).numbered system records legal has.0 unit has.1) in
      let number : unit.tid.unit ≡ has.0 + 1 = ap (λ (t : TidOf). t.unit) at.tid in
      let within = has.1 in
      let most : length (rules.committed system records) ≤ 65536 = (is_lawful world.rules).most system records legal in
      let known = up-known rules world is.safe system up in
      let most_system = known.1 in
      let few = (is_lawful world.rules).systems_most in
      record { system_least = known.0; system_most = omega arith; unit_least = omega arith; unit_most = omega arith }

  -- it is among those that are found unconfirmed at its system
  pub due-found : (system : ℕ) (tids : List TidOf) → AreUnconfirmedAt world system tids → unit.tid.system ≡ system
      → committed_unit (meaning world.rules) world unit.tid ≡ Some unit → is_due world unit ≡ true → is_listed unit.tid tids ≡ true
  due-found system tids are here named due =
      let parts = due-parts world unit due in
      are unit.tid (committed-range named parts.0)
      ∙ ap (λ s. is_up world s && is_unconfirmed unit.tid (log_of world s)) (sym here)
      ∙ and_from (is_up world unit.tid.system) (is_unconfirmed unit.tid (log_of world unit.tid.system)) parts.0 parts.2

-- the ids so far, and one more
pub listed-more : (tids : List TidOf) (tid other : TidOf) → is_listed other (tids ++ tid ∷ []) ≡ true → (is_listed other tids ≡ true) ⊎ (other ≡ tid)
listed-more tids tid other listed = elim (cases_Bool (is_tid tid other)) [
  | inl same ↦ inr (sym (is_tid-true tid other same))
  | inr differs ↦
      let split : (is_listed other tids || (is_tid tid other || false)) ≡ true = sym (list_any-append (λ one. is_tid one other) tids (tid ∷ [])) ∙ listed in
      let same : (is_listed other tids || (is_tid tid other || false)) ≡ is_listed other tids =
      ap (λ b. is_listed other tids || (b || false)) differs ∙ sym (or-none (is_listed other tids)) in
      inl (sym same ∙ split)
]
  where
    or-none : (b : Bool) → b ≡ (b || false)
    or-none true = refl
    or-none false = refl

pub listed-next : (tids : List TidOf) (place : ℕ) (tid other : TidOf) → place < length tids → tid ≡ slice_index_or tids place tid
    → is_listed other (take (place + 1) tids) ≡ true → (is_listed other (take place tids) ≡ true) ⊎ (other ≡ tid)
listed-next tids place tid other within is listed =
    listed-more (take place tids) tid other
    (ap (is_listed other) (sym (take_more tids place tid within ∙ ap (λ t. take place tids ++ t ∷ []) (sym is))) ∙ listed)

-- an id that is listed among the ids so far is with one more, and so is that one
pub listed-still : (tids : List TidOf) (place : ℕ) (tid other : TidOf) → place < length tids → tid ≡ slice_index_or tids place tid
    → (is_listed other (take place tids) ≡ true) ⊎ (other ≡ tid) → is_listed other (take (place + 1) tids) ≡ true
listed-still tids place tid other within is either =
    ap (is_listed other) (take_more tids place tid within ∙ ap (λ t. take place tids ++ t ∷ []) (sym is))
    ∙ list_any-append (λ one. is_tid one other) (take place tids) (tid ∷ [])
    ∙ elim either [
      | inl before ↦ ap (λ b. b || (is_tid tid other || false)) before
      | inr same ↦
          ap (λ b. is_listed other (take place tids) || (b || false)) (is_tid-from tid other (sym same)) ∙ or-true (is_listed other (take place tids))
    ]

-- an id that is there once is not among those before it
pub apart-before : (tids : List TidOf) (place : ℕ) (tid : TidOf) → place < length tids → tid ≡ slice_index_or tids place tid → IsDistinct is_tid tids
    → is_listed tid (take place tids) ≡ false
unfolding IsDistinct
apart-before [] place tid within is apart = absurd (omega (arith, within))
apart-before (t ∷ ts) zero tid within is apart = refl
apart-before (t ∷ ts) (suc k) tid within is apart =
    let below : k < length ts = omega (arith, within) in
    or_from (is_tid t tid) (is_listed tid (take k ts)) (at-place ts k below is apart.0) (apart-before ts k tid below is apart.1)
  where
    at-place : (xs : List TidOf) (i : ℕ) → i < length xs → tid ≡ slice_index_or xs i tid → AllByRecursion (λ y. is_tid t y ≡ false) xs → is_tid t tid ≡ false
    at-place [] i less here each = absurd (omega (arith, less))
    at-place (x ∷ xs) zero less here each = subst (λ y. is_tid t y ≡ false) (sym here) each.0
    at-place (x ∷ xs) (suc i) less here each = at-place xs i (omega (arith, less)) here each.1

-- the first systems, and one more
pub within-more : (number system : ℕ) (tid : TidOf) → system ≡ number + 1 → IsTo (number + 1) tid → IsTo number tid ⊎ (tid.system ≡ system)
within-more number system tid next within = elim (cases_lt number tid.system) [
  | inl last ↦ let most = within.1 in inr (omega arith)
  | inr less ↦ inl (within.0, less)
]

-- so it is with an id of the first systems, or of the next
pub within-still : (number system : ℕ) (tid : TidOf) → system ≡ number + 1 → IsTo number tid ⊎ (tid.system ≡ system) → IsTo (number + 1) tid
within-still number system tid next either = elim either [
  | inl within ↦ (within.0, let most = within.1 in omega arith)
  | inr here ↦ (omega arith, omega arith)
]

-- an id that is found unconfirmed at a system is of a unit of it
pub found-here : (world : World ModelRules) → IsLandscape meaning world → (system : ℕ) (tids : List TidOf) → AreUnconfirmedAt world system tids
    → (tid : TidOf) → IsTid tid → is_listed tid tids ≡ true → tid.system ≡ system
found-here world is system tids are tid range listed =
    let rules : Meaning = meaning world.rules in
    let unconfirmed = and_parts (is_up world system) (is_unconfirmed tid (log_of world system)) (sym (are tid range) ∙ listed) in
    let done = (and_parts (is_listed tid (done_in (log_of world system))) (not (is_listed tid (ended_in (log_of world system)))) unconfirmed.1).0 in
    let was = done_unit rules (is_lawful world.rules) world is.safe system tid done in
    let place = (committed_place rules (is_lawful world.rules) world is.safe system was.0 was.2).1 in
    ap (λ (t : TidOf). t.system) (sym was.1 ∙ place.tid)

module _ {V : Type 0} (disk : Disk V) where
  -- ---- acts

  -- claims that are made or given up, and more of that
  only-on : (before between after : KeptOf ModelRules DocumentTables V) → HaveOnlyClaimed before between → HaveOnlyClaimed between after
      → HaveOnlyClaimed before after
  only-on before between after first second = record {
    world = second.world
        ∙ ap (λ (w : World ModelRules). record w { claims = after.world.claims; next_number = after.world.next_number }) first.world;
    journals = second.journals ∙ first.journals;
    vols = second.vols ∙ first.vols;
    causes = second.causes ∙ first.causes;
  }

  pub only-same : (before after : KeptOf ModelRules DocumentTables V) → after ≡ before → HaveOnlyClaimed before after
  only-same before after same = subst (HaveOnlyClaimed before) (sym same) (record { world = refl; journals = refl; vols = refl; causes = refl })

  only-first : (more : List Act) (before between after : KeptOf ModelRules DocumentTables V) (lines lines_after : Lines) → HaveOnlyClaimed before between
      → HaveActed disk between lines more after lines_after → HaveActed disk before lines more after lines_after
  only-first [] before between after lines lines_after first second = (only-on before between after first second.0, second.1)
  only-first (act ∷ acts) before between after lines lines_after first second =
      (second.0, second.1, second.2, only-on before between second.0 first second.3, second.4, second.5)

  -- acts, and then others
  pub acted-on : (acts more : List Act) (before between after : KeptOf ModelRules DocumentTables V) (lines lines_between lines_after : Lines)
      → HaveActed disk before lines acts between lines_between → HaveActed disk between lines_between more after lines_after
      → HaveActed disk before lines (acts ++ more) after lines_after
  acted-on [] more before between after lines lines_between lines_after first second =
      only-first more before between after lines lines_after first.0 (subst (λ l. HaveActed disk between l more after lines_after) first.1 second)
  acted-on (act ∷ acts) more before between after lines lines_between lines_after first second = (
    first.0,
    first.1,
    first.2,
    first.3,
    first.4,
    acted-on acts more first.1 between after first.2 lines_between lines_after first.5 second,
  )

  -- ---- works

  -- none were done
  pub worked-same : (before after : KeptOf ModelRules DocumentTables V) (lines lines_after : Lines) → after ≡ before → lines_after ≡ lines
      → HasWorked disk before lines after lines_after 0
  worked-same before after lines lines_after same same_lines = record {
    went = still disk is_work true before after same;
    taken = subst (HaveTaken lines) (sym same_lines) (taken-none lines);
    finished = let ended = ended-same disk before after same in ended.finished;
    claims = inl (ap (λ (k : KeptOf ModelRules DocumentTables V). k.world.claims) same);
    acts = [];
    did = (only-same before after same, same_lines);
  }

  -- one after the other
  pub worked-on : (before between after : KeptOf ModelRules DocumentTables V) (lines lines_between lines_after : Lines) (n m : ℕ)
      → HasWorked disk before lines between lines_between n → HasWorked disk between lines_between after lines_after m
      → HasWorked disk before lines after lines_after (n + m)
  worked-on before between after lines lines_between lines_after n m first second = record {
    went = on disk is_work true before between after first.went second.went;
    taken = taken-on lines lines_between lines_after first.taken second.taken;
    finished = let one = first.finished in let two = second.finished in omega (arith, one, two);
    claims = none-on before.world.claims between.world.claims after.world.claims first.claims second.claims;
    acts = first.acts ++ second.acts;
    did = acted-on first.acts second.acts before between after lines lines_between lines_after first.did second.did;
  }

  -- ---- rounds

  -- none were gone
  pub gone-same : (before after : KeptOf ModelRules DocumentTables V) (lines lines_after : Lines) → after ≡ before → lines_after ≡ lines
      → HasGone disk before lines after lines_after 0
  unfolding worked-same
  gone-same before after lines lines_after same same_lines = record {
    worked = worked-same before after lines lines_after same same_lines;
    ships = refl;
    once = λ none tid. inl refl;
  }

  -- one after the other
  pub gone-on : (before between after : KeptOf ModelRules DocumentTables V) (lines lines_between lines_after : Lines) (n m : ℕ)
      → HasGone disk before lines between lines_between n → HasGone disk between lines_between after lines_after m
      → HasGone disk before lines after lines_after (n + m)
  unfolding worked-on
  gone-on before between after lines lines_between lines_after n m first second =
      let one = first.worked in
      let two = second.worked in
      record {
        worked = worked-on before between after lines lines_between lines_after n m one two;
        ships = list_all-append is_round one.acts two.acts ∙ and_from (list_all is_round one.acts) (list_all is_round two.acts) first.ships second.ships;
        once = λ none tid.
            once-on disk one.acts two.acts before between after lines lines_between lines_after two.did second.ships tid (first.once none tid)
            (second.once (runs-left between.world.claims before.world.claims one.claims none) tid);
      }

  -- ---- what was found

  module _ (before after : KeptOf ModelRules DocumentTables V) (lines lines_after : Lines) where
    pub shipped-found : (system : ℕ) (found : Option ℕ) → ShippedAs disk before after lines lines_after system (Ok found)
        → Found disk before lines after lines_after 1 (NothingOut before.world system) found
    shipped-found system None did = did
    shipped-found system (Some n) did =
        let letter = next_letter (letters_left lines did.0) in
        let shipped = did.3 in
        let was = shipped.was in
        let ended = did.4 in (
          record {
            worked = record {
              went = wider disk (is_shipping letter) is_work true before after (shipping-works letter) was.went;
              taken = taken-one did.0 lines lines_after was.taken;
              finished = ended.finished;
              claims = none-gone before.world after.world ended.claims;
              acts = ship did.0 letter did.2 ∷ [];
              did = (before, after, lines_after, only-same before before refl, did.3, (only-same after after refl, refl));
            };
            ships = refl;
            once = λ none tid. once-shipped disk before after lines lines_after did.0 letter did.2 did.3 none tid;
          },
          did.5,
        )

    pub found-went : (most : ℕ) (nothing : Type 0) (found : Option ℕ) → Found disk before lines after lines_after most nothing found
        → Worked disk before after is_work true
    found-went most nothing None did = still disk is_work true before after did.0
    found-went most nothing (Some n) did = let gone = did.0 in let worked = gone.worked in worked.went

    pub found-weaker : (most more : ℕ) (nothing less : Type 0) (found : Option ℕ) → most ≤ more → (nothing → less)
        → Found disk before lines after lines_after most nothing found → Found disk before lines after lines_after more less found
    found-weaker most more nothing less None below follows did = (did.0, did.1, follows did.2)
    found-weaker most more nothing less (Some n) below follows did = (did.0, let few = did.1 in omega arith)

    -- where memory is wanting
    pub found-short : (most : ℕ) (nothing : Type 0) (result : Result (Option ℕ) OutOfMemory) → IsErr result → Worked disk before after is_work false
        → FoundAs disk before lines after lines_after most nothing result
    found-short most nothing (Ok found) short went = absurd (cc)
    found-short most nothing (Err why) short went = went

    pub visited-short : {T : Type 0} (These : TidOf → Type 0) (result : Result T OutOfMemory) → IsErr result → Worked disk before after is_work false
        → VisitedSo disk before lines after lines_after These result
    visited-short These (Ok done) short went = absurd (cc)
    visited-short These (Err why) short went = went

    pub rounds-short : (result : Result ℕ OutOfMemory) → IsErr result → Worked disk before after is_work false
        → RoundsAs disk before lines after lines_after result
    rounds-short (Ok n) short went = absurd (cc)
    rounds-short (Err why) short went = went

    -- no unit was due
    pub visited-none : (These : TidOf → Type 0) → after ≡ before → lines_after ≡ lines
        → ((unit : AleUnit) → These unit.tid → committed_unit (meaning before.world.rules) before.world unit.tid ≡ Some unit
        → is_due before.world unit ≡ true → ⊥)
        → HasVisited disk before lines after lines_after These
    unfolding worked-same
    visited-none These same same_lines not_due = record {
      worked = worked-same before after lines lines_after same same_lines;
      confirms = refl;
      visited = λ unit these named due sender receiver. absurd (not_due unit these named due);
      few = λ tid. inl refl;
    }

    -- those that are among these were visited too
    pub visited-among : (These Those : TidOf → Type 0)
        → ((unit : AleUnit) → Those unit.tid → committed_unit (meaning before.world.rules) before.world unit.tid ≡ Some unit
        → is_due before.world unit ≡ true → These unit.tid)
        → ((tid : TidOf) → IsTid tid → These tid → Those tid)
        → HasVisited disk before lines after lines_after These → HasVisited disk before lines after lines_after Those
    visited-among These Those among back did = record {
      worked = did.worked;
      confirms = did.confirms;
      visited = λ unit those named due sender receiver. did.visited unit (among unit those named due) named due sender receiver;
      few = λ tid. elim (did.few tid) [
        | inl none ↦ inl none
        | inr one ↦ inr (one.0, one.1, back tid one.3 one.2, one.3, one.4)
      ];
    }

    pub visited-so : {T : Type 0} (These Those : TidOf → Type 0) (result : Result T OutOfMemory)
        → ((unit : AleUnit) → Those unit.tid → committed_unit (meaning before.world.rules) before.world unit.tid ≡ Some unit
        → is_due before.world unit ≡ true → These unit.tid)
        → ((tid : TidOf) → IsTid tid → These tid → Those tid)
        → VisitedSo disk before lines after lines_after These result → VisitedSo disk before lines after lines_after Those result
    visited-so These Those (Ok done) among back did = visited-among These Those among back did
    visited-so These Those (Err why) among back did = did

  -- a unit that took a letter was confirmed, or was not
  pub visited-confirmed : {T : Type 0} (before after : KeptOf ModelRules DocumentTables V) (lines lines_after : Lines) (result : Result T OutOfMemory)
      → IsLandscape meaning before.world
      → Worked disk before after is_confirmation (is_ok result) → OnOk result (HaveEnded disk before after 0) → HaveTaken lines lines_after
      → (tid : TidOf) (letter : Letter) → letter ≡ next_letter (letters_left lines tid) → HasTaken tid lines lines_after
      → IsDueOf (meaning before.world.rules) before.world tid
      → ((unit : AleUnit) → committed_unit (meaning before.world.rules) before.world tid ≡ Some unit → is_due before.world unit ≡ true
      → OnOk result (Appended before after (confirmation letter (forgot before.world unit) unit)))
      → VisitedSo disk before lines after lines_after (λ (other : TidOf). other ≡ tid) result
  visited-confirmed before after lines lines_after (Ok done) safe went ended taken tid letter next takes is grew =
      let appended = grew is.unit is.committed is.due in
      let act : Act = confirm tid letter appended.0 in
      let acted : HaveActed disk before lines (act ∷ []) after lines_after = (
        before,
        after,
        lines_after,
        only-same before before refl,
        record {
          unit = is.unit;
          committed = is.committed;
          due = is.due;
          next = next;
          taken = takes;
          went = went;
          grew = appended.1;
        },
        (only-same after after refl, refl),
      ) in
      record {
        worked = record {
          went = wider disk is_confirmation is_work true before after confirmation-works went;
          taken = taken;
          finished = ended.finished;
          claims = none-gone before.world after.world ended.claims;
          acts = act ∷ [];
          did = acted;
        };
        confirms = refl;
        visited = λ unit its named due sender receiver. ap (λ b. b || false) (is_tid-from tid unit.tid (sym its));
        few = λ other. elim (cases_Bool (is_tid tid other)) [
          | inl same ↦
              let equal : other ≡ tid = sym (is_tid-true tid other same) in
              inr (
                act,
                rw same refl,
                equal,
                subst IsTid (sym equal) (range is.unit is.committed is.due),
                all-done disk (act ∷ []) before after lines lines_after acted other
                    (subst (λ (t : TidOf). is_listed t (done_in (log_of before.world t.system)) ≡ true) (sym equal) (done_before is.unit is.committed is.due)),
              )
          | inr differs ↦ inl (rw differs refl)
        ];
      }
    where
      its_tid : (unit : AleUnit) → committed_unit (meaning before.world.rules) before.world tid ≡ Some unit → unit.tid ≡ tid
      its_tid unit named = (committed_unit-is (meaning before.world.rules) (is_lawful before.world.rules) before.world safe.safe tid unit named).1

      range : (unit : AleUnit) → committed_unit (meaning before.world.rules) before.world tid ≡ Some unit → is_due before.world unit ≡ true → IsTid tid
      range unit named due =
          let parts = due-parts before.world unit due in
          subst IsTid (its_tid unit named)
          (committed-range before.world safe unit
          (subst (λ t. committed_unit (meaning before.world.rules) before.world t ≡ Some unit) (sym (its_tid unit named)) named) parts.0)

      done_before : (unit : AleUnit) → committed_unit (meaning before.world.rules) before.world tid ≡ Some unit → is_due before.world unit ≡ true
          → is_listed tid (done_in (log_of before.world tid.system)) ≡ true
      done_before unit named due =
          let parts = due-parts before.world unit due in
          subst (λ (t : TidOf). is_listed t (done_in (log_of before.world t.system)) ≡ true) (its_tid unit named)
          (and_parts (is_listed unit.tid (done_in (log_of before.world unit.tid.system)))
          (not (is_listed unit.tid (ended_in (log_of before.world unit.tid.system)))) parts.2).0
  visited-confirmed before after lines lines_after (Err why) safe went ended taken tid letter next takes is grew =
      wider disk is_confirmation is_work false before after confirmation-works went

  -- units were visited, and then others
  pub visited-on : (before between after : KeptOf ModelRules DocumentTables V) (lines lines_between lines_after : Lines) (These Those All : TidOf → Type 0)
      → ((tid : TidOf) → All tid → These tid ⊎ Those tid) → ((tid : TidOf) → These tid ⊎ Those tid → All tid)
      → ((tid : TidOf) → These tid → Those tid → ⊥)
      → HasVisited disk before lines between lines_between These → HasVisited disk between lines_between after lines_after Those
      → HasVisited disk before lines after lines_after All
  unfolding worked-on
  visited-on before between after lines lines_between lines_after These Those All covers back apart first second =
      let one = first.worked in
      let two = second.worked in
      record {
        worked = worked-on before between after lines lines_between lines_after 0 0 one two;
        confirms = list_all-append is_confirmed one.acts two.acts
            ∙ and_from (list_all is_confirmed one.acts) (list_all is_confirmed two.acts) first.confirms second.confirms;
        visited = λ unit all named due sender receiver.
            let sender_then = all-up disk two.acts between after lines_between lines_after two.did unit.tid.system sender in
            let receiver_then = all-up disk two.acts between after lines_between lines_after two.did unit.receiver receiver in
            list_any-append (takes unit.tid) one.acts two.acts
            ∙ elim (covers unit.tid all) [
              | inl these ↦ ap (λ b. b || list_any (takes unit.tid) two.acts) (first.visited unit these named due sender_then receiver_then)
              | inr those ↦ elim (due-or-on disk one.acts before between lines lines_between one.did unit due sender_then receiver_then) [
                | inl still_due ↦
                    let went = one.went in
                    ap (λ b. list_any (takes unit.tid) one.acts || b)
                    (second.visited unit those (went.committed unit.tid ∙ named) still_due sender receiver)
                    ∙ or-true (list_any (takes unit.tid) one.acts)
                | inr on_it ↦ ap (λ b. b || list_any (takes unit.tid) two.acts) on_it
              ]
            ];
        few = λ tid.
            let both = filter-append (takes tid) one.acts two.acts in
            elim (first.few tid) [
              | inl none ↦ elim (second.few tid) [
                | inl none_too ↦ inl (both ∙ ap (λ l. l ++ filter (takes tid) two.acts) none ∙ none_too)
                | inr later ↦
                    inr (later.0, both ∙ ap (λ l. l ++ filter (takes tid) two.acts) none ∙ later.1, back tid (inr later.2), later.3, later.4)
              ]
              | inr sooner ↦ elim (second.few tid) [
                | inl none_too ↦
                    inr (
                      sooner.0,
                      both ∙ ap (λ l. filter (takes tid) one.acts ++ l) none_too ∙ append-nil (filter (takes tid) one.acts) ∙ sooner.1,
                      back tid (inl sooner.2),
                      sooner.3,
                      all-done disk two.acts between after lines_between lines_after two.did tid sooner.4,
                    )
                | inr later ↦ absurd (apart tid sooner.2 later.2)
              ]
            ];
      }

  -- claims that stay or go as units are visited, and then as others are
  pub visited-claims : (before between after : KeptOf ModelRules DocumentTables V) (lines lines_between lines_after : Lines) (These Those : TidOf → Type 0)
      → HasVisited disk before lines between lines_between These → HasVisited disk between lines_between after lines_after Those
      → AreOrGone before.world between.world before.world.claims → AreOrGone between.world after.world between.world.claims
      → AreOrGone before.world after.world before.world.claims
  visited-claims before between after lines lines_between lines_after These Those first second at_first at_last =
      let one = first.worked in
      let two = second.worked in
      claims-on disk is_work is_work true before between after one.went two.went before.world.claims at_first at_last

  -- claims were given up, and then units were visited
  visited-first : (before start after : KeptOf ModelRules DocumentTables V) (lines lines_after : Lines) (These : TidOf → Type 0)
      → Worked disk before start is_work true → HaveOnlyClaimed before start → start.world.claims ≡ []
      → HasVisited disk start lines after lines_after These → HasVisited disk before lines after lines_after These
  visited-first before start after lines lines_after These went only none did =
      let worked = did.worked in
      record {
        worked = record {
          went = on disk is_work true before start after went worked.went;
          taken = worked.taken;
          finished = worked.finished ∙ ap (λ n. n + 0) (ap finished_in only.world);
          claims = inr (none-left after.world.claims start.world.claims worked.claims none);
          acts = worked.acts;
          did = only-first worked.acts before start after lines lines_after only worked.did;
        };
        confirms = did.confirms;
        visited = λ unit these named due sender receiver.
            did.visited unit these (only-committed before start only unit.tid ∙ named) (only-due before start only unit ∙ due) sender receiver;
        few = did.few;
      }

  module _ (before between after : KeptOf ModelRules DocumentTables V) (lines lines_between lines_after : Lines)
      (is : IsLandscape meaning before.world) (first : HasVisited disk before lines between lines_between (IsTo 16)) (bare : between.world.claims ≡ [])
      (n : ℕ) (gone : HasGone disk between lines_between after lines_after n) where
    -- units were visited, and works were done: each unit whose confirmation is due lost it
    visited-lost : AreLost disk before lines after lines_after ((first.worked).acts ++ (gone.worked).acts)
    visited-lost unit named due =
        let one = first.worked in
        let two = gone.worked in
        let did = acted-on one.acts two.acts before between after lines lines_between lines_after one.did two.did in
        elim (lost-or-due disk (one.acts ++ two.acts) before after lines lines_after did unit named due) [
          | inr lost ↦ lost
          | inl was ↦
              let sent = due-committed before.world is unit was.0 in
              let went = on disk is_work true before between after one.went two.went in
              let equal : sent.0 ≡ unit = same_Some sent.0 unit (sym (went.committed unit.tid ∙ sent.1) ∙ named) in
              let found : committed_unit (meaning before.world.rules) before.world unit.tid ≡ Some unit = sent.1 ∙ ap Some equal in
              let up = due-parts before.world unit was.0 in
              let range = committed-range before.world is unit found up.0 in
              let now = due-parts after.world unit due in
              let visited = first.visited unit (range.system_least, range.system_most) found was.0
              (all-up disk two.acts between after lines_between lines_after two.did unit.tid.system now.0)
              (all-up disk two.acts between after lines_between lines_after two.did unit.receiver now.1) in
              let parts = or_parts (list_any (takes unit.tid) one.acts) (list_any (takes unit.tid) two.acts)
              (sym (list_any-append (takes unit.tid) one.acts two.acts) ∙ was.1) in
              absurd (both_ways (list_any (takes unit.tid) one.acts) parts.0 visited)
        ]

    -- and each took one letter, and more only where a system fell
    visited-once : AreOnce disk before lines after lines_after ((first.worked).acts ++ (gone.worked).acts)
    visited-once tid =
        let one = first.worked in
        let two = gone.worked in
        let both_taken = filter-append (takes tid) one.acts two.acts in
        elim (first.few tid) [
          | inl none_first ↦
              let left : filter (takes tid) (one.acts ++ two.acts) ≡ filter (takes tid) two.acts =
              both_taken ∙ ap (λ l. l ++ filter (takes tid) two.acts) none_first in
              elim (gone.once (ap (list_all (λ (held : Held). not (is_kind held.kind Direct))) bare) tid) [
                | inl cut ↦ inl (ap (list_all is_cut) left ∙ cut)
                | inr once ↦ inr (ap each_but_last_cut left ∙ once.0, once.1)
              ]
          | inr one_act ↦
              let left : filter (takes tid) (one.acts ++ two.acts) ≡ one_act.0 ∷ [] =
              both_taken
              ∙ ap (λ l. filter (takes tid) one.acts ++ l)
              (none-taken disk two.acts between after lines_between lines_after two.did gone.ships tid (inl one_act.4))
              ∙ append-nil (filter (takes tid) one.acts) ∙ one_act.1 in
              inr (ap each_but_last_cut left, inl (all-done disk two.acts between after lines_between lines_after two.did tid one_act.4))
        ]

  -- where nothing held units up before acts until none is offered, each went its whole way
  went-through : (acts : List Act) (before after : KeptOf ModelRules DocumentTables V) (lines lines_after : Lines)
      → IsLandscape meaning before.world → IsLandscape meaning after.world → after.world.rules ≡ before.world.rules
      → HaveActed disk before lines acts after lines_after → IsIdle after.world → after.world.claims ≡ []
      → AreLost disk before lines after lines_after acts → GoThrough disk before lines after lines_after
  went-through acts before after lines lines_after is is_after rules did idle unclaimed lost clear none ups offers_all =
      let stay : (system : ℕ) → is_up before.world system ≡ true → is_up after.world system ≡ true =
      λ system up.
      let known = up-known (meaning before.world.rules) before.world is.safe system up in
      ups system known.0 (subst (λ (r : ModelRules). system ≤ r.systems) (sym rules) known.1) in
      let went = acts-clear disk after is_after ups offers_all acts before lines lines_after did clear none stay in (
        went.0,
        went.1,
        idle-through (meaning after.world.rules) (is_lawful after.world.rules) after.world is_after.safe went.0 unclaimed ups idle.outbound idle.inbound
            (λ unit named due. both_ways (list_any (loses unit.tid) acts) (went.2 unit.tid) (lost unit named due)),
      )

  -- claims were given up, units were visited, and then works were done until none is left
  pub drained-on : (before start between after : KeptOf ModelRules DocumentTables V) (lines lines_between lines_after : Lines) (result : Result ℕ OutOfMemory)
      → IsLandscape meaning before.world → IsLandscape meaning after.world
      → Worked disk before start is_work true → HaveOnlyClaimed before start → start.world.claims ≡ []
      → HasVisited disk start lines between lines_between (IsTo 16) → RoundsAs disk between lines_between after lines_after result
      → DrainedAs disk before lines after lines_after result
  unfolding worked-on
  drained-on before start between after lines lines_between lines_after (Ok n) is is_after begun only none visited second =
      let first = visited-first before start between lines lines_between (IsTo 16) begun only none visited in
      let one = first.worked in
      let gone = second.0 in
      let two = gone.worked in
      let both = worked-on before between after lines lines_between lines_after 0 n one two in
      let went = both.went in
      let visited_worked = visited.worked in
      let bare = none-left between.world.claims start.world.claims visited_worked.claims none in
      let unclaimed = none-left after.world.claims between.world.claims two.claims bare in
      let lost = visited-lost before between after lines lines_between lines_after is first bare n gone in
      record {
        worked = record {
          went = went;
          taken = both.taken;
          finished = let count = both.finished in omega (arith, count);
          claims = both.claims;
          acts = one.acts ++ two.acts;
          did = both.did;
        };
        idle = second.1;
        unclaimed = unclaimed;
        lost = lost;
        once = visited-once before between after lines lines_between lines_after is first bare n gone;
        felled = all-felled disk (one.acts ++ two.acts) before after lines lines_after both.did;
        through = went-through (one.acts ++ two.acts) before after lines lines_after is is_after went.rules both.did second.1 unclaimed lost;
      }
  drained-on before start between after lines lines_between lines_after (Err why) is is_after begun only none visited second =
      let one = visited.worked in
      on disk is_work false before between after (on disk is_work true before start between begun one.went) second

  -- works, and then nothing more is found
  pub rounds-idle : (before between after : KeptOf ModelRules DocumentTables V) (lines lines_between lines_after : Lines) (n : ℕ)
      → HasGone disk before lines between lines_between n → Found disk between lines_between after lines_after 32 (IsIdle between.world) None
      → RoundsAs disk before lines after lines_after (Ok n)
  rounds-idle before between after lines lines_between lines_after n worked none = (
    subst (λ (k : KeptOf ModelRules DocumentTables V). HasGone disk before lines k lines_after n) (sym none.0)
        (subst (λ l. HasGone disk before lines between l n) (sym none.1) worked),
    subst (λ (k : KeptOf ModelRules DocumentTables V). IsIdle k.world) (sym none.0) none.2,
  )

  pub executed-found : (before after : KeptOf ModelRules DocumentTables V) (lines : Lines) (system : ℕ) (found : Option ℕ)
      → ExecutedAs disk before after system (Ok found)
      → Found disk before lines after lines 1 (NothingIn before.world system) found
  executed-found before after lines system None did = (did.0, refl, did.1)
  executed-found before after lines system (Some n) did = (
    record {
      worked = record {
        went = let executed = did.3 in wider disk is_execution is_work true before after execution-works executed.went;
        taken = taken-none lines;
        finished = let ended = did.4 in ended.finished;
        claims = let ended = did.4 in none-gone before.world after.world ended.claims;
        acts = execute system did.0 did.2 ∷ [];
        did = (before, after, lines, only-same before before refl, (did.3, refl), (only-same after after refl, refl));
      };
      ships = refl;
      once = λ none tid. inl refl;
    },
    few did.2 did.5,
  )
    where
      few : (whole : Bool) → n ≡ cond whole 1 0 → n ≤ 1
      few true is = omega (arith, is)
      few false is = omega (arith, is)

  pub executed-went : (whole : Bool) (before after : KeptOf ModelRules DocumentTables V) → Worked disk before after is_execution whole
      → Worked disk before after is_work whole
  executed-went whole before after went = wider disk is_execution is_work whole before after execution-works went

  -- what was found here, and then there
  pub found-on : (before between after : KeptOf ModelRules DocumentTables V) (lines lines_between lines_after : Lines) (few many : ℕ) (here : Type 0)
      → (there : KeptOf ModelRules DocumentTables V → Type 0) → (first second : Option ℕ)
      → Found disk before lines between lines_between few here first → Found disk between lines_between after lines_after many (there between) second
      → Found disk before lines after lines_after (few + many) (here × there before) (joined first second)
  found-on before between after lines lines_between lines_after few many here there None None first second = (
    second.0 ∙ first.0,
    second.1 ∙ first.1,
    (first.2, subst there first.0 second.2),
  )
  found-on before between after lines lines_between lines_after few many here there None (Some m) first second = (
    subst (λ (k : KeptOf ModelRules DocumentTables V). HasGone disk k lines after lines_after m) first.0
        (subst (λ l. HasGone disk between l after lines_after m) first.1 second.0),
    let below = second.1 in omega arith,
  )
  found-on before between after lines lines_between lines_after few many here there (Some n) None first second = (
    subst (λ (k : KeptOf ModelRules DocumentTables V). HasGone disk before lines k lines_after n) (sym second.0)
        (subst (λ l. HasGone disk before lines between l n) (sym second.1) first.0),
    let below = first.1 in omega arith,
  )
  found-on before between after lines lines_between lines_after few many here there (Some n) (Some m) first second = (
    gone-on before between after lines lines_between lines_after n m first.0 second.0,
    let below = first.1 in let above = second.1 in omega arith,
  )

-- ---- nothing is offered

-- nothing is offered at the systems so far, and at one more
pub nothing-more : (world : World ModelRules) (number system : ℕ) → system ≡ number + 1 → NothingTo world number × NothingAt world system
    → NothingTo world (number + 1)
nothing-more world number system next both other least most = elim (cases_lt number other) [
  | inl last ↦ let same : other ≡ system = omega arith in subst (NothingAt world) (sym same) both.1
  | inr within ↦ both.0 other least within
]

module _ (world : World ModelRules) where
  -- nothing is offered by a system that is down
  down-outbound : (tid : TidOf) → is_up world tid.system ≡ false → is_offered_outbound (meaning world.rules) world tid ≡ false
  down-outbound tid down =
      ap (λ up. up && is_free_outbound (committed_by (meaning world.rules) world tid.system) (log_of world tid.system) tid && not
      (is_claimed Out tid world.claims)
      && may_move (is_stopped_outbound (log_of world tid.system)) (committed_unit (meaning world.rules) world tid)) down

  down-inbound : (system : ℕ) (tid : TidOf) → is_up world system ≡ false → is_offered_inbound world system tid ≡ false
  down-inbound system tid down =
      ap (λ up. up && is_free_inbound (log_of world system) tid && not (is_claimed In tid world.claims)
      && may_move (is_stopped_inbound (log_of world system)) (unit_named tid (received (log_of world system)))) down

  -- where none of the systems offers anything, none does
  pub idle-all : IsLandscape meaning world → NothingTo world 16 → IsIdle world
  idle-all is nothing = record { outbound = outbound; inbound = inbound }
    where
      at : (system : ℕ) → is_up world system ≡ true → NothingAt world system
      at system up =
          let known = up-known (meaning world.rules) world is.safe system up in
          let most = known.1 in
          let few = (is_lawful world.rules).systems_most in
          nothing system known.0 (omega arith)

      outbound : (tid : TidOf) → is_offered_outbound (meaning world.rules) world tid ≡ false
      outbound tid = elim (cases_Bool (is_up world tid.system)) [
        | inl up ↦ elim (at tid.system up).0 [
          | inl down ↦ down-outbound tid down
          | inr none ↦ none tid refl
        ]
        | inr down ↦ down-outbound tid down
      ]

      inbound : (system : ℕ) (tid : TidOf) → is_offered_inbound world system tid ≡ false
      inbound system tid = elim (cases_Bool (is_up world system)) [
        | inl up ↦ elim (at system up).1 [
          | inl down ↦ down-inbound system tid down
          | inr none ↦ none tid
        ]
        | inr down ↦ down-inbound system tid down
      ]

-- so nothing is left where nothing was found at any system
pub found-idle : {V : Type 0} (disk : Disk V) (before after : KeptOf ModelRules DocumentTables V) (lines lines_after : Lines) (found : Option ℕ)
    → IsLandscape meaning after.world
    → Found disk before lines after lines_after 32 (NothingTo before.world 16) found
    → Found disk before lines after lines_after 32 (IsIdle before.world) found
found-idle {V} disk before after lines lines_after None is did = (
  did.0,
  did.1,
  idle-all before.world (subst (λ (k : KeptOf ModelRules DocumentTables V). IsLandscape meaning k.world) did.0 is) did.2,
)
found-idle disk before after lines lines_after (Some n) is did = did
