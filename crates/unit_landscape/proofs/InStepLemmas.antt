-- Tables that stay in step with a world.
use Rattle.std.specs.Prelude.{◌↔◌, IfSome, IsNone, slice_get, slice_set, slice_index_or, drop, is_some, is_none, Result, Ok, Err, OnOk, OnErr}
use Rattle.std.specs.Result.{is_err}
use Rattle.std.specs.List.{list_all}
use Rattle.std.specs.Option.{option_and_then, option_map_or}
use Rattle.std.proofs.Common.{◌≡◌, ◌≢◌, ℕ, zero, suc, ◌-◌, ◌≤◌, ◌<◌, Bool, true, false, not, cond, ◌==◌, ◌&&◌, Option, Some, None, List, [], ◌∷◌, ◌++◌, length}
use Rattle.std.proofs.Common.{inl, inr, refl, sym, ap, subst, ◌∙◌, arith}
use Rattle.std.proofs.lemmas.Bool.{cases_eq, and_parts, and_left, and_right, both_ways, ne_eqb}
use Rattle.std.proofs.lemmas.Option.{none-some, same_Some, slice_get_within}
use Rattle.std.proofs.lemmas.List.{length-set}
use Rattle.ale_base.specs.Tid.{TidOf, is_tid}
use Rattle.ale_base.specs.declared.way.Way.{Way}
use Rattle.ale_base.specs.declared.way.Way.TheVariants.{Outgoing, Incoming}
use Rattle.ale_base.proofs.TidLemmas.{is_tid-turned}
use Rattle.ale_base.proofs.OptionLemmas.{none_or_some, option_map-Some}
use Rattle.ale_base.proofs.ListLemmas.{slice_get-within, slice_get-set_other}
use Rattle.unit_core.specs.declared.ale_unit.AleUnit.{AleUnit}
use Rattle.unit_core.specs.declared.records.Record.{Record}
use Rattle.unit_core.specs.Queues.{is_listed, unit_named}
use Rattle.unit_core.proofs.TidLemmas.{unit_named-Some}
use Rattle.plain_queues.specs.declared.claim.Claim.{Claim}
use Rattle.plain_queues.specs.declared.queued_unit.QueuedUnit.{QueuedUnit}
use Rattle.plain_queues.specs.Queues.{QueuesOf, unit_of, claim_of}
use Rattle.plain_queues.specs.Offered.{first_offered, is_ready, is_offered, lets_go}
use Rattle.plain_queues.specs.Changes.{claimed, released}
use Rattle.plain_queues.specs.LogQueues.{AreQueuesOver, through, queued, units_of, Claims}
use Rattle.plain_queues.proofs.GoesLemmas.{unit_of-log}
use Rattle.plain_queues.proofs.UnitLemmas.{not_found, changed-none}
use Rattle.trfc_protocol.specs.declared.held.Held.{Held}
use Rattle.trfc_protocol.specs.declared.held.HeldKind.{HeldKind}
use Rattle.trfc_protocol.specs.declared.held.HeldKind.TheVariants.{Out, In, Direct}
use Rattle.trfc_protocol.specs.declared.world.SystemState.{SystemState}
use Rattle.trfc_protocol.specs.Worlds.{is_kind, state_of, up_or_not, state_down}
use Rattle.trfc_protocol.specs.Meaning.{Meaning}
use Rattle.system_tables.specs.Tables.{TablesOf, queues_of, with_queues}
use Rattle.system_tables.specs.OfLog.{AreTablesOf, claims_of}
use Rattle.system_tables.specs.Joins.{ClaimsBy}
use Rattle.system_tables.proofs.TablesLemmas.{AreTablesOf-claimed, AreTablesOf-released}
use Rattle.system_tables.proofs.AskingLemmas.{AreTablesOf-queues}
use Rattle.unit_landscape.specs.Claims.{is_at, claim_at, kind_of, IsClaimed, queues_claimed, tables_claimed}
use Rattle.unit_landscape.specs.Changed.{ChangedAt}
use Rattle.unit_landscape.specs.ClaimAnswers.{IsClaimedUnit, IsNextUnit}
use Rattle.unit_landscape.specs.InStep.{AreTablesAt, AreInStep, IsHeldIn}
use Rattle.unit_landscape.proofs.ClaimsLemmas.{push-other, last-made}

-- ---- what the queues know of claims

if-Some : {A : Type 0} (b : Bool) (found : Option A) (x : A) → cond b found None ≡ Some x → found ≡ Some x
if-Some true found x is = is
if-Some false found x is = absurd (none-some x is)

-- the claim on a unit in the queues is that of the caller
claim-there : (way : Way) (all : List AleUnit) (log : List Record) (claims : TidOf → Option ℕ) (queues : QueuesOf) (tid : TidOf) (unit : QueuedUnit)
    → AreQueuesOver way all log claims queues → unit_of tid queues ≡ Some unit → claim_of tid queues ≡ claims tid
claim-there way all log claims queues tid unit are there =
    let open_ = not (is_listed tid (through way log)) in
    let from = option_map-Some (queued way log claims) (cond open_ (unit_named tid all) None) unit (sym (unit_of-log way all log claims queues tid are)
    ∙ there) in
    ap (option_and_then (λ (u : QueuedUnit). u.claim)) there
    ∙ ap (λ (u : QueuedUnit). u.claim) (sym from.2)
    ∙ ap claims (unit_named-Some tid all from.0 (if-Some open_ (unit_named tid all) from.0 from.1)).1

is_none-None : {A : Type 0} (found : Option A) → is_none found ≡ true → found ≡ None
is_none-None None is = refl
is_none-None (Some x) is = cc

-- a unit that is offered has no claim
claim-offered : (way : Way) (all : List AleUnit) (log : List Record) (claims : TidOf → Option ℕ) (queues : QueuesOf) (tid : TidOf)
    → AreQueuesOver way all log claims queues → is_offered tid queues ≡ true → claims tid ≡ None
claim-offered way all log claims queues tid are offered =
    elim (none_or_some (unit_of tid queues)) [
      | inl none ↦ absurd (both_ways (is_offered tid queues) (ap (λ found. option_map_or (is_ready queues) found false) none) offered)
      | inr is ↦
          let ready : is_ready queues is.0 ≡ true = sym (ap (λ found. option_map_or (is_ready queues) found false) is.1) ∙ offered in
          let unit : QueuedUnit = is.0 in
          let lets = list_all (lets_go unit.tid queues) unit.keys in
          let free = and_parts (is_none unit.claim) (is_none unit.mark) (and_parts (is_none unit.claim && is_none unit.mark) lets ready).0 in
          sym (claim-there way all log claims queues tid unit are is.1)
          ∙ ap (option_and_then (λ (u : QueuedUnit). u.claim)) is.1
          ∙ is_none-None unit.claim free.0
    ]

released-not : (tid : TidOf) (queues : QueuesOf) → is_some (unit_of tid queues) ≡ false → released tid queues ≡ queues
released-not tid queues none =
    elim (none_or_some (unit_of tid queues)) [
      | inl nothing ↦
          ap (λ units. let q : QueuesOf = record queues { units = units } in q)
          (changed-none (λ unit. record unit { claim = None }) tid queues.units (not_found tid queues.units nothing))
      | inr is ↦ absurd (both_ways (is_some (unit_of tid queues)) none (ap is_some is.1))
    ]

module _ {A : Type 0} (stands : A → List Record → Type 0) where
  -- the claim on a unit in the queues of a direction is that of the caller
  pub claim-tables : (way : Way) (committed : List AleUnit) (log : List Record) (sent arrived : TidOf → Option ℕ) (tables : TablesOf A) (tid : TidOf)
      → AreTablesOf stands committed log sent arrived tables → is_some (unit_of tid (queues_of way tables)) ≡ true
      → claim_of tid (queues_of way tables) ≡ claims_of way sent arrived tid
  claim-tables way committed log sent arrived tables tid are there =
      elim (none_or_some (unit_of tid (queues_of way tables))) [
        | inl none ↦ absurd (both_ways (is_some (unit_of tid (queues_of way tables))) (ap is_some none) there)
        | inr is ↦ claim-there way (units_of way committed log) log (claims_of way sent arrived) (queues_of way tables) tid is.0
            (AreTablesOf-queues stands way committed log sent arrived tables are) is.1
      ]

  -- a unit that is offered in a direction has no claim
  pub unclaimed-tables : (way : Way) (committed : List AleUnit) (log : List Record) (sent arrived : TidOf → Option ℕ) (tables : TablesOf A) (tid : TidOf)
      → AreTablesOf stands committed log sent arrived tables → is_offered tid (queues_of way tables) ≡ true → claims_of way sent arrived tid ≡ None
  unclaimed-tables way committed log sent arrived tables tid are offered =
      claim-offered way (units_of way committed log) log (claims_of way sent arrived) (queues_of way tables) tid
      (AreTablesOf-queues stands way committed log sent arrived tables are) offered

-- a unit that is not in the queues of a direction has no claim to give up there
pub released-none : {A : Type 0} (way : Way) (tid : TidOf) (tables : TablesOf A) → is_some (unit_of tid (queues_of way tables)) ≡ false
    → with_queues way (released tid (queues_of way tables)) tables ≡ tables
released-none Outgoing tid tables none =
    ap (λ queues. with_queues Outgoing queues tables) (released-not tid tables.outgoing none)
released-none Incoming tid tables none =
    ap (λ queues. with_queues Incoming queues tables) (released-not tid tables.incoming none)

-- ---- results

pub on_err : {T E P Q : Type 0} (r : Result T E) → OnErr r P → (P → Q) → OnErr r Q
on_err (Ok x) is go = tt
on_err (Err e) is go = go is

pub not_err : {T E P : Type 0} (r : Result T E) → is_err r ≡ false → OnOk r P → P
not_err (Ok x) good is = is
not_err (Err e) good is = cc

-- ---- lists

pub drop-at : {A : Type 0} (xs : List A) (k : ℕ) (x : A) → k < length xs → x ≡ slice_index_or xs k x → drop k xs ≡ x ∷ drop (suc k) xs
drop-at [] k x within is = absurd (omega arith)
drop-at (y ∷ ys) zero x within is = ap (λ z. z ∷ ys) (sym is)
drop-at (y ∷ ys) (suc k) x within is = let inside : k < length ys = omega arith in drop-at ys k x inside is

pub drop_all : {A : Type 0} (xs : List A) (k : ℕ) → length xs ≤ k → drop k xs ≡ []
drop_all [] zero past = refl
drop_all [] (suc k) past = refl
drop_all (x ∷ xs) zero past = absurd (omega arith)
drop_all (x ∷ xs) (suc k) past = let over : length xs ≤ k = omega arith in drop_all xs k over

-- ---- one item changes

-- no item changes
pub ChangedAt-same : {A : Type 0} (Change : A → A → Type 0) (place : ℕ) (xs : List A) → ((x : A) → Change x x) → ChangedAt Change place xs xs
ChangedAt-same Change place xs stays = record { long = refl; others = λ other differs. refl; its = λ now at. (now, at, stays now) }

get-set : {A : Type 0} (xs : List A) (k : ℕ) (x y : A) → slice_get (slice_set xs k x) k ≡ Some y → x ≡ y
get-set [] k x y here = cc
get-set (z ∷ zs) zero x y here = cc
get-set (z ∷ zs) (suc k) x y here = get-set zs k x y here

-- one item is set
pub ChangedAt-set : {A : Type 0} (Change : A → A → Type 0) (place : ℕ) (xs : List A) (old new : A) → slice_get xs place ≡ Some old → Change old new
    → ChangedAt Change place xs (slice_set xs place new)
ChangedAt-set Change place xs old new at changes = record {
  long = length-set xs place new;
  others = λ other differs. slice_get-set_other xs place other new differs;
  its = λ now got. (old, at, subst (Change old) (get-set xs place new now got) changes);
}

-- the item of a number, from 1, is set
pub ChangedAt-row : {A : Type 0} (Change : A → A → Type 0) (number n : ℕ) (xs : List A) (old new : A) → n ≡ number → slice_get xs (n - 1) ≡ Some old →
    Change old new
    → ChangedAt Change (number - 1) xs (slice_set xs (n - 1) new)
ChangedAt-row Change number n xs old new same at changes =
    subst (λ k. ChangedAt Change (k - 1) xs (slice_set xs (n - 1) new)) same (ChangedAt-set Change (n - 1) xs old new at changes)

-- the unit that is next is the one that is claimed
pub next-claimed : {A : Type 0} (way : Way) (tid : TidOf) (number : ℕ) (before after : TablesOf A) (result : Option Claim) → IsNextUnit way tid before
    → IfSome result (λ claim. first_offered (queues_of way before) ≡ Some claim.tid)
    → IfSome result (λ claim. after ≡ with_queues way (claimed number claim.tid (queues_of way before)) before)
    → (IsNone result ↔ ((other : TidOf) → is_offered other (queues_of way before) ≡ false)) → IsClaimedUnit way tid number before after
next-claimed way tid number before after None next first claims none =
    absurd (both_ways (is_offered tid (queues_of way before)) (none.0 refl tid) next.offered)
next-claimed way tid number before after (Some claim) next first claims none =
    claims ∙ ap (λ t. with_queues way (claimed number t (queues_of way before)) before) (same_Some claim.tid tid (sym first ∙ next.first))

-- a change that says more
pub ChangedAt-weaker : {A : Type 0} (Change Other : A → A → Type 0) (place : ℕ) (before after : List A) → ((x y : A) → Change x y → Other x y)
    → ChangedAt Change place before after → ChangedAt Other place before after
ChangedAt-weaker Change Other place before after weaker a = record {
  long = a.long;
  others = a.others;
  its = λ now at. let one = a.its now at in (one.0, one.1, weaker one.0 now one.2);
}

-- the change of an item that is known
pub ChangedAt-known : {A : Type 0} {Change : A → A → Type 0} (place : ℕ) (before after : List A) → ChangedAt Change place before after
    → ChangedAt (λ old now. Change old now × (slice_get before place ≡ Some old)) place before after
ChangedAt-known place before after a = record {
  long = a.long;
  others = a.others;
  its = λ now at. let one = a.its now at in (one.0, one.1, (one.2, one.1));
}

-- one change behind another
pub ChangedAt-then : {A : Type 0} (First Second Both : A → A → Type 0) (place : ℕ) (before middle after : List A)
    → ((x y z : A) → First x y → Second y z → Both x z)
    → ChangedAt First place before middle → ChangedAt Second place middle after → ChangedAt Both place before after
ChangedAt-then First Second Both place before middle after both a b = record {
  long = b.long ∙ a.long;
  others = λ other differs. b.others other differs ∙ a.others other differs;
  its = λ now at.
      let second = b.its now at in
      let first = a.its second.0 second.1 in
      (first.0, first.1, both first.0 second.0 now first.2 second.2);
}

-- ---- in step

-- the claims of a direction are those of its kind
by_way : (way : Way) (system : ℕ) (claims : List Held) (tid : TidOf)
    → claims_of way (claim_at Out system claims) (claim_at In system claims) tid ≡ claim_at (kind_of way) system claims tid
by_way Outgoing system claims tid = refl
by_way Incoming system claims tid = refl

claimed-kind : {A : Type 0} (way : Way) (tid : TidOf) (number : ℕ) (tables : TablesOf A)
    → with_queues way (claimed number tid (queues_of way tables)) tables ≡ tables_claimed (kind_of way) tid (Some number) tables
claimed-kind Outgoing tid number tables = refl
claimed-kind Incoming tid number tables = refl

-- a kind that is not the one of a run
kind-turned : (kind : HeldKind) → is_kind kind Direct ≡ false → is_kind Direct kind ≡ false
kind-turned Out other = refl
kind-turned In other = refl
kind-turned Direct other = cc

-- a system that is up stands at its place
pub record StandsUp (systems : List SystemState) (system : ℕ) : Type 0 where
  pub state : SystemState
  pub known : state_of systems system ≡ Some state
  pub at : slice_get systems (system - 1) ≡ Some state
  pub up : state.up ≡ true
  pub least : 1 ≤ system
  pub most : system ≤ length systems

pub stands_up : (systems : List SystemState) (system : ℕ) → up_or_not (state_of systems system) ≡ true → StandsUp systems system
stands_up systems zero up = cc
stands_up systems (suc place) up =
    elim (none_or_some (slice_get systems place)) [
      | inl none ↦ absurd (both_ways (up_or_not (slice_get systems place)) (ap up_or_not none) up)
      | inr is ↦
          let less : suc place - 1 ≡ place = omega arith in
          let within = slice_get_within systems place is.0 is.1 in
          record {
            state = is.0;
            known = is.1;
            at = ap (slice_get systems) less ∙ is.1;
            up = sym (ap up_or_not is.1) ∙ up;
            least = omega arith;
            most = omega arith;
          }
    ]

module _ {A : Type 0} (stands : A → List Record → Type 0) (rules : Meaning) where
  -- the tables of a system stay where the claims at it do
  pub claims-same : (claims after : List Held) (system : ℕ) (state : SystemState) (its : TablesOf A)
      → ((kind : HeldKind) → is_kind kind Direct ≡ false → (tid : TidOf) → claim_at kind system after tid ≡ claim_at kind system claims tid)
      → AreTablesAt stands rules claims system state its → AreTablesAt stands rules after system state its
  claims-same claims after system state its same are =
      let sent : claim_at Out system claims ≡ claim_at Out system after = λ i tid. sym (same Out refl tid) i in
      let arrived : claim_at In system claims ≡ claim_at In system after = λ i tid. sym (same In refl tid) i in
      record {
        units = are.units;
        up = λ up.
            subst (λ c. AreTablesOf stands (rules.committed system state.log) state.log c (claim_at In system after) its) sent
            (subst (λ c. AreTablesOf stands (rules.committed system state.log) state.log (claim_at Out system claims) c its) arrived (are.up up));
      }

  -- the state, the tables and the claims of one system change, and nothing of the others
  pub in_step-changed : (systems systems_after : List SystemState) (claims claims_after : List Held) (tables after : List (TablesOf A)) (place : ℕ)
      (StateChange : SystemState → SystemState → Type 0) (Change : TablesOf A → TablesOf A → Type 0)
      → AreInStep stands rules systems claims tables → ChangedAt StateChange place systems systems_after → ChangedAt Change place tables after
      → ((other : ℕ) (kind : HeldKind) (tid : TidOf) → other ≢ place → claim_at kind (suc other) claims_after tid ≡ claim_at kind (suc other) claims tid)
      → ((state new : SystemState) (old now : TablesOf A) → slice_get systems place ≡ Some state → StateChange state new → Change old now
      → AreTablesAt stands rules claims (suc place) state old → AreTablesAt stands rules claims_after (suc place) new now)
      → AreInStep stands rules systems_after claims_after after
  in_step-changed systems systems_after claims claims_after tables after place StateChange Change is state_changed changed elsewhere here = record {
    all = changed.long ∙ is.all ∙ sym state_changed.long;
    each = λ other new now at got. elim (cases_eq other place) [
      | inl same ↦
          let its = changed.its now (subst (λ k. slice_get after k ≡ Some now) same got) in
          let state = state_changed.its new (subst (λ k. slice_get systems_after k ≡ Some new) same at) in
          subst (λ k. AreTablesAt stands rules claims_after (suc k) new now) (sym same)
          (here state.0 new its.0 now state.1 state.2 its.2 (is.each place state.0 its.0 state.1 its.1))
      | inr differs ↦
          claims-same claims claims_after (suc other) new now (λ kind _ tid. elsewhere other kind tid differs)
          (is.each other new now (sym (state_changed.others other differs) ∙ at) (sym (changed.others other differs) ∙ got))
    ];
  }

  -- ---- claims

  -- a claim is not at another system
  at_other : (held : Held) (place other : ℕ) (kind : HeldKind) (tid : TidOf) → held.system ≡ suc place → other ≢ place
      → is_at kind (suc other) tid held ≡ false
  at_other held place other kind tid at differs =
      and_left (is_kind held.kind kind && (held.system == suc other)) (is_tid held.tid tid)
      (and_right (is_kind held.kind kind) (held.system == suc other)
      (ne_eqb held.system (suc other) (λ same. let equal : other ≡ place = omega arith in differs equal)))

  -- nor of another kind
  of_other : (held : Held) (kind : HeldKind) (system : ℕ) (tid : TidOf) → is_kind held.kind kind ≡ false → is_at kind system tid held ≡ false
  of_other held kind system tid differs =
      and_left (is_kind held.kind kind && (held.system == system)) (is_tid held.tid tid) (and_left (is_kind held.kind kind) (held.system == system) differs)

  module _ (claims after : List Held) (held : Held) (number : Option ℕ) (place : ℕ) (at : held.system ≡ suc place)
      (is : IsClaimed held number claims after) where
    -- the claims of a kind at a system, by their units' ids
    pub claims-by : (kind : HeldKind) → held.kind ≡ kind → Claims held.tid number (claim_at kind (suc place) claims) (claim_at kind (suc place) after)
    claims-by kind same = record {
      its = λ other its. subst (λ k. claim_at k (suc place) after other ≡ number) same
          (subst (λ s. claim_at held.kind s after other ≡ number) at (is.its other its));
      others = λ other differs. is.others kind (suc place) other
          (and_right (is_kind held.kind kind && (held.system == suc place)) (is_tid held.tid other) (is_tid-turned held.tid other ∙ differs));
    }

    -- those of another kind stay
    pub claims-of : (kind : HeldKind) → is_kind held.kind kind ≡ false → claim_at kind (suc place) after ≡ claim_at kind (suc place) claims
    claims-of kind differs = λ i tid. is.others kind (suc place) tid (of_other held kind (suc place) tid differs) i

    set_in : (way : Way) (committed : List AleUnit) (log : List Record) (sent arrived sent_after arrived_after : TidOf → Option ℕ) (tables : TablesOf A)
        (given : Option ℕ) → ClaimsBy way held.tid given sent arrived sent_after arrived_after → AreTablesOf stands committed log sent arrived tables
        → AreTablesOf stands committed log sent_after arrived_after (with_queues way (queues_claimed given held.tid (queues_of way tables)) tables)
    set_in way committed log sent arrived sent_after arrived_after tables None by are =
        AreTablesOf-released stands way committed log held.tid sent arrived sent_after arrived_after tables by are
    set_in way committed log sent arrived sent_after arrived_after tables (Some n) by are =
        AreTablesOf-claimed stands way committed log held.tid n sent arrived sent_after arrived_after tables by are

    -- the tables of the system of a claim that is made or given up
    claimed-its : (kind : HeldKind) → held.kind ≡ kind → (state : SystemState) (its : TablesOf A) → AreTablesAt stands rules claims (suc place) state its
        → AreTablesAt stands rules after (suc place) state (tables_claimed kind held.tid number its)
    claimed-its Out same state its are = record {
      units = are.units;
      up = λ up.
          set_in Outgoing (rules.committed (suc place) state.log) state.log (claim_at Out (suc place) claims) (claim_at In (suc place) claims)
          (claim_at Out (suc place) after) (claim_at In (suc place) after) its number
          (claims-by Out same, claims-of In (ap (λ k. is_kind k In) same)) (are.up up);
    }
    claimed-its In same state its are = record {
      units = are.units;
      up = λ up.
          set_in Incoming (rules.committed (suc place) state.log) state.log (claim_at Out (suc place) claims) (claim_at In (suc place) claims)
          (claim_at Out (suc place) after) (claim_at In (suc place) after) its number
          (claims-of Out (ap (λ k. is_kind k Out) same), claims-by In same) (are.up up);
    }
    claimed-its Direct same state its are =
        let sent : claim_at Out (suc place) claims ≡ claim_at Out (suc place) after = sym (claims-of Out (ap (λ k. is_kind k Out) same)) in
        let arrived : claim_at In (suc place) claims ≡ claim_at In (suc place) after = sym (claims-of In (ap (λ k. is_kind k In) same)) in
        let log = state.log in
        record {
          units = are.units;
          up = λ up.
              subst (λ c. AreTablesOf stands (rules.committed (suc place) log) log c (claim_at In (suc place) after) its) sent
              (subst (λ c. AreTablesOf stands (rules.committed (suc place) log) log (claim_at Out (suc place) claims) c its) arrived (are.up up));
        }

    -- the claims at other systems stay
    pub claims-elsewhere : (other : ℕ) (kind : HeldKind) (tid : TidOf) → other ≢ place
        → claim_at kind (suc other) after tid ≡ claim_at kind (suc other) claims tid
    claims-elsewhere other kind tid differs = is.others kind (suc other) tid (at_other held place other kind tid at differs)

    -- a claim is made or given up in the tables of its system
    pub in_step-claimed : (systems : List SystemState) (tables its : List (TablesOf A)) → AreInStep stands rules systems claims tables
        → ChangedAt (λ old now. now ≡ tables_claimed held.kind held.tid number old) place tables its → AreInStep stands rules systems after its
    in_step-claimed systems tables its are changed =
        in_step-changed systems systems claims after tables its place (λ old new. new ≡ old) (λ old now. now ≡ tables_claimed held.kind held.tid number old)
        are (ChangedAt-same (λ old new. new ≡ old) place systems (λ s. refl)) changed claims-elsewhere
        (λ state new old now known same set are_its.
        subst (λ (s : SystemState). AreTablesAt stands rules after (suc place) s now) (sym same)
        (subst (AreTablesAt stands rules after (suc place) state) (sym set) (claimed-its held.kind refl state old are_its)))

  -- a claim at a system that is down, or that the landscape does not have, is given up without a change of tables
  pub in_step-claimed_down : (claims after : List Held) (held : Held) (number : Option ℕ) (systems : List SystemState) (tables : List (TablesOf A))
      → up_or_not (state_of systems held.system) ≡ false → AreInStep stands rules systems claims tables → IsClaimed held number claims after
      → AreInStep stands rules systems after tables
  in_step-claimed_down claims after held number systems tables down are is = record {
    all = are.all;
    each = λ place state its at got. elim (cases_eq held.system (suc place)) [
      | inl same ↦
          let lies : state.up ≡ false = sym (ap up_or_not at) ∙ subst (λ s. up_or_not (state_of systems s) ≡ false) same down in
          record { units = (are.each place state its at got).units; up = λ up. absurd (both_ways state.up lies up) }
      | inr differs ↦
          claims-same claims after (suc place) state its
          (λ kind _ tid. is.others kind (suc place) tid
          (and_left (is_kind held.kind kind && (held.system == suc place)) (is_tid held.tid tid)
          (and_right (is_kind held.kind kind) (held.system == suc place) (ne_eqb held.system (suc place) differs))))
          (are.each place state its at got)
    ];
  }

  -- a claim is made or given up in the tables of its system, by its kind
  pub in_step-by_kind : (claims after : List Held) (held : Held) (number : Option ℕ) (kind : HeldKind) (systems : List SystemState)
      (tables its : List (TablesOf A))
      → held.kind ≡ kind → 1 ≤ held.system → ChangedAt (λ old now. now ≡ tables_claimed kind held.tid number old) (held.system - 1) tables its
      → AreInStep stands rules systems claims tables → IsClaimed held number claims after → AreInStep stands rules systems after its
  in_step-by_kind claims after held number kind systems tables its same least changed are is =
      let at : held.system ≡ suc (held.system - 1) = omega arith in
      in_step-claimed claims after held number (held.system - 1) at is systems tables its are
      (subst (λ k. ChangedAt (λ old now. now ≡ tables_claimed k held.tid number old) (held.system - 1) tables its) (sym same) changed)

  -- a claim to run a unit as it arrives is in no table
  pub in_step-direct : (claims : List Held) (held : Held) (systems : List SystemState) (tables : List (TablesOf A)) → held.kind ≡ Direct
      → AreInStep stands rules systems claims tables → AreInStep stands rules systems (claims ++ held ∷ []) tables
  in_step-direct claims held systems tables direct are = record {
    all = are.all;
    each = λ place state its at got.
        claims-same claims (claims ++ held ∷ []) (suc place) state its
        (λ kind other tid. push-other claims held kind (suc place) tid
        (of_other held kind (suc place) tid (ap (λ k. is_kind k kind) direct ∙ kind-turned kind other)))
        (are.each place state its at got);
  }

  -- ---- states

  -- a system falls: its units are those of its log, which stays
  pub down-its : (claims after : List Held) (system : ℕ) (state : SystemState) (rest : Option Record) (its now : TablesOf A)
      → now.units ≡ its.units → AreTablesAt stands rules claims system state its → AreTablesAt stands rules after system (state_down rest state) now
  down-its claims after system state rest its now same are = record { units = same ∙ are.units; up = λ up. cc }

  -- a system falls, and its tables keep their units
  pub in_step-down : (systems after : List SystemState) (claims : List Held) (tables its : List (TablesOf A)) (place : ℕ) (rest : Option Record)
      → AreInStep stands rules systems claims tables → ChangedAt (λ old new. new ≡ state_down rest old) place systems after
      → ChangedAt (λ old now. now.units ≡ old.units) place tables its → AreInStep stands rules after claims its
  in_step-down systems after claims tables its place rest are fell changed =
      in_step-changed systems after claims claims tables its place (λ old new. new ≡ state_down rest old) (λ old now. now.units ≡ old.units) are fell changed
      (λ other kind tid differs. refl)
      (λ state new old now known same units are_its.
      subst (λ (s : SystemState). AreTablesAt stands rules claims (suc place) s now) (sym same)
      (down-its claims claims (suc place) state rest old now units are_its))

  -- ---- what the calls ask

  -- the number of a claim stands in the queues of its system, where its unit is in them
  pub held-in : (way : Way) (systems : List SystemState) (tables : List (TablesOf A)) (held : Held) → held.kind ≡ kind_of way
      → up_or_not (state_of systems held.system) ≡ true → IsHeldIn stands rules systems tables held
      → (its : TablesOf A) → slice_get tables (held.system - 1) ≡ Some its → is_some (unit_of held.tid (queues_of way its)) ≡ true
      → claim_of held.tid (queues_of way its) ≡ Some held.number
  held-in way systems tables held kind up is its got there =
      let standing = stands_up systems held.system up in
      let place = held.system - 1 in
      let number : suc place ≡ held.system = omega (arith, standing.least) in
      let sent = claim_at Out (suc place) is.claims in
      let arrived = claim_at In (suc place) is.claims in
      let log = (standing.state).log in
      claim-tables stands way (rules.committed (suc place) log) log sent arrived its held.tid
      ((is.in_step.each place standing.state its standing.at got).up standing.up) there
      ∙ by_way way (suc place) is.claims held.tid
      ∙ ap (λ k. claim_at k (suc place) is.claims held.tid) (sym kind)
      ∙ ap (λ s. claim_at held.kind s is.claims held.tid) number
      ∙ is.found

  -- a unit that is offered at a system that is up has no claim there
  pub offered-free : (way : Way) (systems : List SystemState) (claims : List Held) (tables : List (TablesOf A)) (system : ℕ) (tid : TidOf) (its : TablesOf A)
      → up_or_not (state_of systems system) ≡ true → AreInStep stands rules systems claims tables → slice_get tables (system - 1) ≡ Some its
      → is_offered tid (queues_of way its) ≡ true → claim_at (kind_of way) system claims tid ≡ None
  offered-free way systems claims tables system tid its up are got offered =
      let standing = stands_up systems system up in
      let place = system - 1 in
      let number : suc place ≡ system = omega (arith, standing.least) in
      let log = (standing.state).log in
      ap (λ s. claim_at (kind_of way) s claims tid) (sym number)
      ∙ sym (by_way way (suc place) claims tid)
      ∙ unclaimed-tables stands way (rules.committed (suc place) log) log (claim_at Out (suc place) claims) (claim_at In (suc place) claims) its tid
      ((are.each place standing.state its standing.at got).up standing.up) offered

  -- a unit that is offered at a system that is up is claimed there
  pub in_step-made : (way : Way) (systems : List SystemState) (claims : List Held) (tables after : List (TablesOf A)) (held : Held)
      → held.kind ≡ kind_of way → up_or_not (state_of systems held.system) ≡ true → AreInStep stands rules systems claims tables
      → ((its : TablesOf A) → slice_get tables (held.system - 1) ≡ Some its → is_offered held.tid (queues_of way its) ≡ true)
      → ChangedAt (IsClaimedUnit way held.tid held.number) (held.system - 1) tables after
      → AreInStep stands rules systems (claims ++ held ∷ []) after
  in_step-made way systems claims tables after held kind up are offered changed =
      let standing = stands_up systems held.system up in
      let most : held.system ≤ length tables = subst (λ n. held.system ≤ n) (sym are.all) standing.most in
      let within : held.system - 1 < length tables = omega (arith, standing.least) in
      let its = slice_get-within tables (held.system - 1) within in
      let free : claim_at held.kind held.system claims held.tid ≡ None =
      ap (λ k. claim_at k held.system claims held.tid) kind
      ∙ offered-free way systems claims tables held.system held.tid its.0 up are its.1 (offered its.0 its.1) in
      in_step-by_kind claims (claims ++ held ∷ []) held (Some held.number) (kind_of way) systems tables after kind standing.least
      (ChangedAt-weaker (IsClaimedUnit way held.tid held.number) (λ old now. now ≡ tables_claimed (kind_of way) held.tid (Some held.number) old)
      (held.system - 1) tables after (λ old now is. is ∙ claimed-kind way held.tid held.number old) changed) are (last-made held claims free)
