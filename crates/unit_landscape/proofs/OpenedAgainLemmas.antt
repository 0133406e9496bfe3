-- A system that is down is up again, with what a look at its volume found.
use Rattle.std.specs.Prelude.{slice_get, slice_set, slice_index_or, find, All, Result, Ok, Err, OnOk, OnErr, if◌then◌else◌}
use Rattle.std.specs.Option.{option_map}
use Rattle.std.proofs.Common.{◌≡◌, ◌≢◌, ℕ, zero, suc, ◌-◌, ◌<◌, ◌≤◌, Bool, true, false, cond, ◌==◌, ◌&&◌, Option, Some, None, List, [], ◌∷◌, length, inl, inr}
use Rattle.std.proofs.Common.{refl, sym, ap, subst, ◌∙◌, arith}
use Rattle.std.proofs.lemmas.Bool.{and_left, and_right, both_ways, cases_eq, ne_eqb}
use Rattle.std.proofs.lemmas.List.{length-set, get_or-set_same, get_or-set_other}
use Rattle.std.proofs.lemmas.List.Elements.{All-contains, All-head, All-tail}
use Rattle.std.proofs.lemmas.Option.{same_Some, slice_get_within}
use Rattle.ale_base.specs.Tid.{TidOf, is_tid}
use Rattle.ale_base.proofs.ListLemmas.{slice_get-within}
use Rattle.ale_volumes.specs.Disk.{Disk}
use Rattle.ale_volumes.specs.Clock.{KeepsOthers}
use Rattle.unit_core.specs.declared.records.Record.{Record}
use Rattle.unit_core.specs.Filters.{received, executed}
use Rattle.unit_journal.specs.declared.fault.LookFault.{LookFault}
use Rattle.unit_journal.specs.declared.fault.LookFault.TheVariants.{Volume, Changed, OutOfMemory}
use Rattle.unit_journal.specs.declared.looked.Looked.{Looked}
use Rattle.unit_journal.specs.Looking.{IsLooked, is_found, log_found, system_of, with_looked}
use Rattle.unit_journal.specs.OnDisk.{AreInOrder, IsKept, IsLeftOnDisk, IsOnDisk, moments_at}
use Rattle.unit_journal.specs.Changes.{OnlyAt}
use Rattle.unit_journal.specs.declared.journals.SystemJournals.{SystemJournals}
use Rattle.unit_journal.proofs.LookLemmas.{AreInOrder-looked}
use Rattle.trfc_protocol.specs.declared.event.Event.TheVariants.{Fall, Open}
use Rattle.trfc_protocol.specs.declared.held.Held.{Held}
use Rattle.trfc_protocol.specs.declared.held.HeldKind.{HeldKind}
use Rattle.trfc_protocol.specs.declared.held.HeldKind.TheVariants.{Out, In}
use Rattle.trfc_protocol.specs.declared.world.World.{World}
use Rattle.trfc_protocol.specs.declared.world.SystemState.{SystemState}
use Rattle.trfc_protocol.specs.Happens.{falls_empty, opens, run}
use Rattle.trfc_protocol.specs.Legal.{IsLawful, IsLegal}
use Rattle.trfc_protocol.specs.Meaning.{Meaning}
use Rattle.trfc_protocol.specs.Safe.{Holds, Safe}
use Rattle.trfc_protocol.specs.Worlds.{log_found as log_under_choice}
use Rattle.trfc_protocol.specs.Worlds.{is_kind, is_up, log_of, log_or_none, log_with, rest_of, rest_or_none, state_down, state_of, state_open}
use Rattle.trfc_protocol.specs.Worlds.{up_or_not, with_fall, with_state}
use Rattle.trfc_protocol.proofs.ClaimLemmas.{All-from_Contains}
use Rattle.trfc_protocol.proofs.WorldLemmas.{kept-with_state, state_of-elsewhere, state_of-here, state_of-least, state_of-most, with_state-known}
use Rattle.system_tables.specs.Tables.{TablesOf}
use Rattle.system_tables.specs.OfLog.{AreTablesOf}
use Rattle.log_tables.specs.OfLog.{no_claims}
use Rattle.unit_landscape.specs.Causes.{AreCausesOf, cause_in, is_of_up, with_cause}
use Rattle.unit_landscape.specs.Changed.{ChangedAt}
use Rattle.unit_landscape.specs.Claims.{claim_at, is_at}
use Rattle.unit_landscape.specs.Counted.{AreCounted}
use Rattle.unit_landscape.specs.Crashes.{HasGrown}
use Rattle.unit_landscape.specs.InStep.{AreInStep, AreInStepWith, AreTablesAt}
use Rattle.unit_landscape.specs.Kept.{IsLandscape}
use Rattle.unit_landscape.specs.OnVolumes.{AreOnVolumes}
use Rattle.unit_landscape.specs.Reopening.{IsDown, NoneAt, log_looked, opening_events, state_reopened, told_by_look}
use Rattle.unit_landscape.specs.declared.cause.Cause.{Cause}
use Rattle.unit_landscape.specs.declared.cause.Cause.TheVariants.{Up, Faulted}
use Rattle.unit_landscape.specs.declared.counted.Counted.{Counted}
use Rattle.unit_landscape.proofs.CausesLemmas.{cause-told, causes-known}
use Rattle.unit_landscape.proofs.EnteringLemmas.{got_at}
use Rattle.unit_landscape.proofs.EndsLemmas.{landscape-step, landscape-steps}
use Rattle.unit_landscape.proofs.GrownLemmas.{grown-event, grown-events}
use Rattle.unit_landscape.proofs.InStepLemmas.{ChangedAt-same, ChangedAt-set, in_step-changed}
use Rattle.unit_landscape.proofs.OnVolumesLemmas.{OnlyAt-same, on_volumes-changed}

-- ---- the world

-- a system that is down has its state at the place of its number
pub down-at : {R : Type 0} (world : World R) (system : ℕ) (is : IsDown world system) → slice_get world.systems (system - 1) ≡ Some is.state
down-at world system is = got_at world.systems system is.state is.known

-- its number is one from 1
pub down-least : {R : Type 0} (world : World R) (system : ℕ) → IsDown world system → 1 ≤ system
down-least world system is = state_of-least world.systems system is.state is.known

-- and one of the systems
pub down-most : {R : Type 0} (world : World R) (system : ℕ) → IsDown world system → system ≤ length world.systems
down-most world system is = state_of-most world.systems system is.state is.known

-- a system of the landscape that is not up is down
pub not-up : {R : Type 0} (world : World R) (system : ℕ) → 1 ≤ system → system ≤ length world.systems → is_up world system ≡ false → IsDown world system
not-up world zero least most down = absurd (omega arith)
not-up world (suc place) least most down =
    let is = slice_get-within world.systems place (omega arith) in
    record { state = is.0; known = is.1; down = sym (ap up_or_not is.1) ∙ down }

set_twice : {A : Type 0} (xs : List A) (k : ℕ) (y z : A) → slice_set (slice_set xs k y) k z ≡ slice_set xs k z
set_twice [] k y z = refl
set_twice (x ∷ xs) zero y z = refl
set_twice (x ∷ xs) (suc k) y z = ap (λ v. x ∷ v) (set_twice xs k y z)

-- the log that was found is the log, with the record where that was found
pub found-log : (found : Bool) (log : List Record) (rest : Option Record) → log_found found log rest ≡ log_with log (if found then rest else None)
found-log false log rest = refl
found-log true log None = refl
found-log true log (Some next) = refl

module _ {R : Type 0} (world : World R) (system : ℕ) (standing : IsDown world system) where
  pub is_down : is_up world system ≡ false
  is_down = ap up_or_not standing.known ∙ standing.down

  -- the state of a system twice
  with_state-twice : (first second : SystemState → SystemState)
      → with_state (with_state world system first) system second ≡ with_state world system (λ state. second (first state))
  with_state-twice first second =
      let state = standing.state in
      let once : World R = with_state world system first in
      with_state-known once system second (first state) (state_of-here world system first state standing.known)
      ∙ ap (λ (w : World R). let v : World R = record w { systems = slice_set w.systems (system - 1) (second (first state)) } in v)
      (with_state-known world system first state standing.known)
      ∙ ap (λ systems. let v : World R = record world { systems = systems } in v)
      (set_twice world.systems (system - 1) (first state) (second (first state)))
      ∙ sym (with_state-known world system (λ s. second (first s)) state standing.known)

  -- the events of an opening bring a system up, with the record where that was found
  pub run-reopened : (meaning : R → Meaning) (found : Bool)
      → with_state world system (state_reopened found) ≡ run meaning world (opening_events found system)
  run-reopened meaning true = sym (ap (λ b. cond b world (with_state world system state_open)) is_down)
  run-reopened meaning false =
      let fallen : World R = with_state world system (state_down None) in
      let falls : falls_empty world system ≡ fallen = ap (λ b. cond b (with_fall world system None) fallen) is_down in
      let lies : is_up fallen system ≡ false = ap up_or_not (state_of-here world system (state_down None) standing.state standing.known) in
      sym (ap (λ (w : World R). opens w system) falls
      ∙ ap (λ b. cond b fallen (with_state fallen system state_open)) lies
      ∙ with_state-twice (state_down None) state_open)

  -- its log is that with what was found
  pub log-reopened : (found : Bool)
      → log_of (with_state world system (state_reopened found)) system ≡ log_with (log_of world system) (if found then rest_of world system else None)
  log-reopened found =
      let state = standing.state in
      ap log_or_none (state_of-here world system (state_reopened found) state standing.known)
      ∙ sym (ap (λ s. log_with (log_or_none s) (if found then rest_or_none s else None)) standing.known)

  -- the state of one system changes, and no other
  pub systems-known : (change : SystemState → SystemState)
      → ChangedAt (λ old new. new ≡ change old) (system - 1) world.systems (with_state world system change).systems
  systems-known change =
      subst (λ (w : World R). ChangedAt (λ old new. new ≡ change old) (system - 1) world.systems w.systems)
      (sym (with_state-known world system change standing.state standing.known))
      (ChangedAt-set (λ old new. new ≡ change old) (system - 1) world.systems standing.state (change standing.state) (down-at world system standing) refl)

  -- ---- the tables

  -- they are in step where those of the system are of the log that it has now, and no unit of it is claimed
  pub in_step-reopened : {A : Type 0} (stands : A → List Record → Type 0) (meaning : R → Meaning) (tables : List (TablesOf A)) (found : Bool) (its : TablesOf A)
      → AreInStepWith stands meaning world tables → NoneAt system world.claims
      → AreTablesOf stands ((meaning world.rules).committed system (state_reopened found standing.state).log) (state_reopened found standing.state).log
      no_claims no_claims its
      → AreInStepWith stands meaning (with_state world system (state_reopened found)) (slice_set tables (system - 1) its)
  in_step-reopened {A} stands meaning tables found its are none agree =
      let place = system - 1 in
      let number : suc place ≡ system = let least = down-least world system standing in omega arith in
      let rules = meaning world.rules in
      let kept = kept-with_state world system (state_reopened found) standing.state standing.known in
      let within : place < length tables =
      let all = are.all in let inside = slice_get_within world.systems place standing.state (down-at world system standing) in omega (arith, all, inside) in
      let old = slice_get-within tables place within in
      let log = (state_reopened found standing.state).log in
      let sent : no_claims ≡ claim_at Out (suc place) world.claims = λ i tid. sym (ap (λ s. claim_at Out s world.claims tid) number ∙ none Out tid) i in
      let arrived : no_claims ≡ claim_at In (suc place) world.claims = λ i tid. sym (ap (λ s. claim_at In s world.claims tid) number ∙ none In tid) i in
      let now : AreTablesOf stands (rules.committed (suc place) log) log (claim_at Out (suc place) world.claims) (claim_at In (suc place) world.claims) its =
      subst (λ c. AreTablesOf stands (rules.committed (suc place) log) log c (claim_at In (suc place) world.claims) its) sent
      (subst (λ c. AreTablesOf stands (rules.committed (suc place) log) log no_claims c its) arrived
      (subst (λ s. AreTablesOf stands (rules.committed s log) log no_claims no_claims its) (sym number) agree)) in
      subst (λ claims. AreInStep stands (meaning (with_state world system (state_reopened found)).rules)
      (with_state world system (state_reopened found)).systems claims (slice_set tables place its)) (sym kept.0)
      (subst (λ r. AreInStep stands (meaning r) (with_state world system (state_reopened found)).systems world.claims (slice_set tables place its)) (sym kept.2)
      (in_step-changed stands rules world.systems (with_state world system (state_reopened found)).systems world.claims world.claims tables
      (slice_set tables place its) place (λ old new. new ≡ state_reopened found old) (λ old new. new ≡ its) are (systems-known (state_reopened found))
      (ChangedAt-set (λ old new. new ≡ its) place tables old.0 its old.1 refl) (λ other kind tid differs. refl)
      (λ state new old its_now known same set _.
      let its_state : state ≡ standing.state = same_Some state standing.state (sym known ∙ down-at world system standing) in
      subst (λ (t : TablesOf A). AreTablesAt stands rules world.claims (suc place) new t) (sym set)
      (subst (λ (s : SystemState). AreTablesAt stands rules world.claims (suc place) s its) (sym (same ∙ ap (state_reopened found) its_state))
      (record { units = now.units; up = λ up. now })))))

  -- ---- the causes

  -- the system is up, and told so
  pub causes-reopened : (found : Bool) (causes : List Cause) → system ≤ 16 → AreCausesOf world.systems causes
      → AreCausesOf (with_state world system (state_reopened found)).systems (with_cause causes system Up)
  causes-reopened found causes most are =
      causes-known world system causes standing.state standing.known are most (state_reopened found) Up refl

  -- ---- the counts

  -- those of its log are counted anew
  pub counted-reopened : (found : Bool) (before after : Counted) → system ≤ 16
      → after.received ≡ slice_set before.received (system - 1) (length (received (log_of (with_state world system (state_reopened found)) system)))
      → after.executed ≡ slice_set before.executed (system - 1) (length (executed (log_of (with_state world system (state_reopened found)) system)))
      → AreCounted world.systems before → AreCounted (with_state world system (state_reopened found)).systems after
  counted-reopened found before after most is_received is_executed are = record {
    all_received = ap length is_received ∙ length-set before.received place many_received ∙ are.all_received;
    all_executed = ap length is_executed ∙ length-set before.executed place many_executed ∙ are.all_executed;
    taken = λ other from to. ap (λ l. slice_index_or l (other - 1) 0) is_received ∙ elim (cases_eq other system) [
      | inl same ↦ subst (λ s. slice_index_or (slice_set before.received place many_received) (s - 1) 0 ≡ length (received (log_of now s))) (sym same)
          (get_or-set_same before.received place many_received 0
          (let all = are.all_received in let least = down-least world system standing in omega (arith, all, least, most)))
      | inr differs ↦ get_or-set_other before.received place (other - 1) many_received 0 (apart other from differs) ∙ are.taken other from to
          ∙ ap (λ s. length (received (log_or_none s)))
          (sym (state_of-elsewhere world system (state_reopened found) standing.state standing.known other differs))
    ];
    run = λ other from to. ap (λ l. slice_index_or l (other - 1) 0) is_executed ∙ elim (cases_eq other system) [
      | inl same ↦ subst (λ s. slice_index_or (slice_set before.executed place many_executed) (s - 1) 0 ≡ length (executed (log_of now s))) (sym same)
          (get_or-set_same before.executed place many_executed 0
          (let all = are.all_executed in let least = down-least world system standing in omega (arith, all, least, most)))
      | inr differs ↦ get_or-set_other before.executed place (other - 1) many_executed 0 (apart other from differs) ∙ are.run other from to
          ∙ ap (λ s. length (executed (log_or_none s)))
          (sym (state_of-elsewhere world system (state_reopened found) standing.state standing.known other differs))
    ];
  }
    where
      now : World R
      now = with_state world system (state_reopened found)

      place : ℕ
      place = system - 1

      many_received : ℕ
      many_received = length (received (log_of now system))

      many_executed : ℕ
      many_executed = length (executed (log_of now system))

      apart : (other : ℕ) → 1 ≤ other → other ≢ system → other - 1 ≢ system - 1
      apart other from differs same = differs (let least = down-least world system standing in omega (arith, same, from, least))

-- ---- the volumes

-- what was found is on the disk for good, and what is on all other volumes stays
pub on_volumes-reopened : {R D : Type 0} (disk : Disk D) (vols : D) (world : World R) (journals after : SystemJournals) (looked : Looked)
    (standing : IsDown world (system_of looked)) → AreOnVolumes disk vols world.systems journals
    → IsLooked disk vols (system_of looked) journals (log_of world (system_of looked)) (rest_of world (system_of looked)) looked
    → after ≡ with_looked looked journals → OnlyAt (system_of looked - 1) journals after
    → AreOnVolumes disk vols (with_state world (system_of looked) (state_reopened (is_found looked))).systems after
on_volumes-reopened {R} disk vols world journals after looked standing are is entered one =
    let system = system_of looked in
    let place = system_of looked - 1 in
    let found = is_found looked in
    let state = standing.state in
    let log : log_of world system ≡ state.log = ap log_or_none standing.known in
    let rest : rest_of world system ≡ state.rest = ap rest_or_none standing.known in
    let its : IsLooked disk vols system journals state.log state.rest looked =
    subst (λ l. IsLooked disk vols system journals l state.rest looked) log
    (subst (λ r. IsLooked disk vols system journals (log_of world system) r looked) rest is) in
    let left = are.down place state (down-at world system standing) standing.down in
    on_volumes-changed disk vols vols world.systems (with_state world system (state_reopened found)).systems journals after place
    (λ old new. new ≡ state_reopened found old) are (systems-known world system standing (state_reopened found)) one
    (subst (λ j. AreInOrder (moments_at j place)) (sym entered)
    (AreInOrder-looked disk vols system journals state.log state.rest looked left.kept its (are.order place)))
    (λ other differs tells. refl)
    (λ old new at change.
    let same : new ≡ state_reopened found state = change ∙ ap (state_reopened found) (same_Some old state (sym at ∙ down-at world system standing)) in (
      λ up. subst (λ (s : SystemState). IsOnDisk disk vols place after s.log) (sym same)
          (subst (λ j. IsOnDisk disk vols place j (state_reopened found state).log) (sym entered)
          (subst (IsOnDisk disk vols place (with_looked looked journals)) (found-log found state.log state.rest) its.on_disk)),
      λ down. absurd (both_ways new.up down (ap (λ (s : SystemState). s.up) same)),
    ))

-- ---- the claims

-- no claim of a kind on a unit is at a system where no claim is
none-found : (claims : List Held) (kind : HeldKind) (system : ℕ) (tid : TidOf) → All (λ (held : Held). held.system ≢ system) claims
    → claim_at kind system claims tid ≡ None
none-found [] kind system tid none = refl
none-found (held ∷ claims) kind system tid none =
    let apart : is_at kind system tid held ≡ false =
    and_left (is_kind held.kind kind && (held.system == system)) (is_tid held.tid tid)
    (and_right (is_kind held.kind kind) (held.system == system)
    (ne_eqb held.system system (All-head (λ (h : Held). h.system ≢ system) held claims none))) in
    ap (λ b. option_map (λ (h : Held). h.number) (cond b (Some held) (find (is_at kind system tid) claims))) apart
    ∙ none-found claims kind system tid (All-tail (λ (h : Held). h.system ≢ system) held claims none)

-- each claim that holds is at a system that is up
apart-held : {R : Type 0} (rules : Meaning) (world : World R) (system : ℕ) (claims : List Held) → is_up world system ≡ false
    → All (Holds rules world) claims → All (λ (held : Held). held.system ≢ system) claims
apart-held rules world system claims down hold =
    All-from_Contains (λ (held : Held). held.system ≢ system) claims (λ held has same.
    let holds = All-contains (Holds rules world) claims held hold has in
    both_ways (is_up world system) down (subst (λ s. is_up world s ≡ true) same holds.up))

-- so no unit is claimed at a system of a safe world that is down
pub none-at : {R : Type 0} (rules : Meaning) (world : World R) (system : ℕ) → Safe rules world → is_up world system ≡ false → NoneAt system world.claims
none-at rules world system safe down kind tid =
    none-found world.claims kind system tid (apart-held rules world system world.claims down safe.hold)

-- ---- the look

-- a look leaves the causes those of the systems, and tells that of the one that it was of
pub causes-looked : {R T : Type 0} (world : World R) (system : ℕ) (causes : List Cause) (result : Result T LookFault)
    → IsDown world system → system ≤ 16 → AreCausesOf world.systems causes → AreCausesOf world.systems (told_by_look causes system result)
causes-looked world system causes (Ok looked) standing most are = are
causes-looked world system causes (Err (Changed number)) standing most are = are
causes-looked world system causes (Err OutOfMemory) standing most are = are
causes-looked world system causes (Err Volume) standing most are = record {
  sixteen = length-set causes (system - 1) Faulted ∙ are.sixteen;
  each = λ other state known. elim (cases_eq other system) [
    | inl same ↦
        let its : state ≡ standing.state =
        same_Some state standing.state (sym (subst (λ s. state_of world.systems s ≡ Some state) same known) ∙ standing.known) in
        ap is_of_up (ap (cause_in (with_cause causes system Faulted)) same ∙ cause-told world.systems system Faulted causes are most)
        ∙ sym (ap (λ (s : SystemState). s.up) its ∙ standing.down)
    | inr differs ↦
        let apart : other - 1 ≢ system - 1 =
        λ same. differs (let least = down-least world system standing in let from = state_of-least world.systems other state known in
        omega (arith, same, least, from)) in
        ap is_of_up (get_or-set_other causes (system - 1) (other - 1) Faulted Up apart) ∙ are.each other state known
  ];
}

-- the volumes hold the logs through a call on that of a system that is down, which leaves it as it may be left
pub on_volumes-looked : {R D : Type 0} (disk : Disk D) (old new : D) (world : World R) (journals : SystemJournals) (system : ℕ)
    (log : List Record) (rest : Option Record) → IsDown world system → AreOnVolumes disk old world.systems journals
    → log ≡ log_of world system → rest ≡ rest_of world system
    → (IsLeftOnDisk disk old (system - 1) journals log rest → IsLeftOnDisk disk new (system - 1) journals log rest)
    → (disk.told → KeepsOthers disk old new (system - 1)) → AreOnVolumes disk new world.systems journals
on_volumes-looked disk old new world journals system log rest standing are is_log is_rest goes others =
    let state = standing.state in
    let here : log ≡ state.log = is_log ∙ ap log_or_none standing.known in
    let there : rest ≡ state.rest = is_rest ∙ ap rest_or_none standing.known in
    let was : IsLeftOnDisk disk old (system - 1) journals log rest =
    subst (λ l. IsLeftOnDisk disk old (system - 1) journals l rest) (sym here)
    (subst (IsLeftOnDisk disk old (system - 1) journals state.log) (sym there)
    (are.down (system - 1) state (down-at world system standing) standing.down)) in
    let left : IsLeftOnDisk disk new (system - 1) journals state.log state.rest =
    subst (λ l. IsLeftOnDisk disk new (system - 1) journals l state.rest) here
    (subst (IsLeftOnDisk disk new (system - 1) journals log) there (goes was)) in
    on_volumes-changed disk old new world.systems world.systems journals journals (system - 1) (λ before now. now ≡ before) are
    (ChangedAt-same (λ before now. now ≡ before) (system - 1) world.systems (λ s. refl)) (OnlyAt-same disk (system - 1) journals) (are.order (system - 1))
    (λ other differs tells. ((others tells).each other differs).known)
    (λ before now at same.
    let its : now ≡ state = same ∙ same_Some before state (sym at ∙ down-at world system standing) in (
      λ up. absurd (both_ways now.up (ap (λ (s : SystemState). s.up) its ∙ standing.down) up),
      λ down. subst (λ (s : SystemState). IsLeftOnDisk disk new (system - 1) journals s.log s.rest) (sym its) left,
    ))

-- ---- the landscape

module _ {R : Type 0} (meaning : R → Meaning) (lawful : (rules : R) → IsLawful (meaning rules)) (world after : World R) where
  -- it stays one
  pub landscape-reopened : (found : Bool) (system : ℕ) → IsLandscape meaning world → after ≡ run meaning world (opening_events found system)
      → IsLandscape meaning after
  landscape-reopened true system is same = landscape-step meaning lawful world after (Open system) is same
  landscape-reopened false system is same = landscape-steps meaning lawful world after (Fall system None) (Open system) is same

  -- however the call ends
  pub landscape-entered : {T E : Type 0} (result : Result T E) (found : Bool) (system : ℕ) → IsLandscape meaning world
      → OnOk result (after ≡ run meaning world (opening_events found system)) → OnErr result (after ≡ world) → IsLandscape meaning after
  landscape-entered (Ok done) found system is opened stays = landscape-reopened found system is opened
  landscape-entered (Err end) found system is opened stays = subst (IsLandscape meaning) (sym stays) is

  -- its logs have only grown
  pub grown-reopened : (found : Bool) (system : ℕ) → Safe (meaning world.rules) world → after ≡ run meaning world (opening_events found system)
      → HasGrown world after
  grown-reopened true system safe same = grown-event meaning lawful world after safe (Open system) same
  grown-reopened false system safe same = grown-events meaning lawful world after safe (Fall system None) (Open system) same

-- ---- the log that was found, for who makes its tables

-- what is found of a state
under-found : (found : Bool) (state : Option SystemState)
    → log_under_choice found state ≡ log_with (log_or_none state) (if found then rest_or_none state else None)
under-found false state = refl
under-found true None = refl
under-found true (Some state) = refl

module _ {R : Type 0} (rules : Meaning) (world : World R) (safe : Safe rules world) where
  -- the log that is kept of a system is legal
  pub legal-kept : (system : ℕ) → IsLegal rules system (log_of world system)
  legal-kept system = (safe.sound (λ _. false)).legal system

  -- so is the one that was found
  pub legal-looked : (looked : Looked) → IsLegal rules (system_of looked) (log_looked world looked)
  legal-looked looked =
      subst (IsLegal rules (system_of looked)) (under-found (is_found looked) (state_of world.systems (system_of looked)))
      ((safe.sound (λ _. is_found looked)).legal (system_of looked))

-- what is kept of a system that is down: each record of its log has a spelling with its moment, and one that it was writing can be written
pub kept-down : {R D : Type 0} (disk : Disk D) (vols : D) (world : World R) (journals : SystemJournals) (system : ℕ)
    → AreOnVolumes disk vols world.systems journals → IsDown world system → IsKept (system - 1) journals (log_of world system) (rest_of world system)
kept-down disk vols world journals system are down =
    subst (λ log. IsKept (system - 1) journals log (rest_of world system)) (sym (ap log_or_none down.known))
    (subst (IsKept (system - 1) journals down.state.log) (sym (ap rest_or_none down.known))
    (are.down (system - 1) down.state (down-at world system down) down.down).kept)
