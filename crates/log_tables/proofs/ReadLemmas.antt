-- A record that may follow a log is noted: the tables are those of the log with it.
use Rattle.std.specs.Prelude.{not, ◌==◌, ◌&&◌, slice_get}
use Rattle.std.specs.List.{filter_map}
use Rattle.std.proofs.Common.{◌≡◌, ◌↔◌, ◌<◌, ◌+◌, ℕ, zero, suc, Bool, true, false, ◌||◌, Option, Some, None, List, [], ◌∷◌, ◌++◌, length, take, get_or, inl, inr, refl, sym, ap, subst, ◌∙◌}
use Rattle.std.proofs.Common.{arith}
use Rattle.std.proofs.lemmas.Bool.{cases_lt, and_parts, both_ways, false_from_ne_true, cond-true, cond-false, not-true}
use Rattle.std.proofs.lemmas.List.{take_all, take_more}
use Rattle.std.proofs.lemmas.List.Folds.{list_any-append}
use Rattle.std.proofs.lemmas.Option.{same_Some, none-some, slice_get-get_or, slice_get_within, get_or_from_slice_get}
use Rattle.ale_base.specs.Tid.{TidOf, is_tid}
use Rattle.ale_base.specs.declared.way.Way.TheVariants.{Outgoing, Incoming}
use Rattle.ale_base.proofs.OptionLemmas.{none_or_some}
use Rattle.ale_base.proofs.MemberLemmas.{filter_map-None, filter_map-Some}
use Rattle.unit_core.specs.declared.ale_unit.AleUnit.{AleUnit}
use Rattle.unit_core.specs.declared.records.Record.{Record}
use Rattle.unit_core.specs.declared.records.Record.TheVariants.{Mark, Done, Accept, Execute, Direct, Fail}
use Rattle.unit_core.specs.Filters.{received, taken_by, done_by, forgotten_by}
use Rattle.unit_core.specs.Queues.{is_listed, is_among}
use Rattle.unit_core.proofs.TidLemmas.{is_tid-same, is_tid-true}
use Rattle.tid_table.specs.Tids.{Enters}
use Rattle.plain_queues.specs.Queues.{QueuesOf}
use Rattle.plain_queues.specs.LogQueues.{AreQueuesOf, Claims}
use Rattle.plain_queues.proofs.RecordLemmas.{AreQueuesOf-claimed}
use Rattle.system_tables.specs.Tables.{TablesOf, entered}
use Rattle.system_tables.specs.OfLog.{AreTablesOf}
use Rattle.system_tables.specs.Noted.{Noted}
use Rattle.system_tables.specs.CanNote.{CanNote}
use Rattle.system_tables.specs.Joins.{Joins, ClaimsAfter}
use Rattle.system_tables.proofs.TablesLemmas.{AreTablesOf-nothing, AreTablesOf-noted, CanNote-joins}
use Rattle.trfc_protocol.specs.Meaning.{Meaning}
use Rattle.trfc_protocol.specs.Legal.{is_empty, is_free_inbound, is_new, offers_received, may_follow, IsLawful, IsLegal}
use Rattle.trfc_protocol.proofs.LegalLemmas.{IsLegal-push, follows-at}
use Rattle.trfc_protocol.proofs.LegalFacts.{free-committed, free-received}
use Rattle.log_tables.specs.Places.{Placed, place_of}
use Rattle.log_tables.specs.OfLog.{LogTablesOf, no_claims, no_log_tables, AreListed, Listed, IsRead, IsReadTo}
use Rattle.log_tables.specs.Read.{CommitFew, IsProper}
use Rattle.log_tables.specs.Held.{held_queues, held, one_claim, claims_held}
use Rattle.log_tables.proofs.PlacesLemmas.{ArePlaces-nothing, ArePlaces-push}
use Rattle.log_tables.proofs.JoinsLegalLemmas.{others, HeldBy, IsEnding, joins-legal}

-- ---- one claim

one-made : (tid : TidOf) → Claims tid (Some 0) no_claims (one_claim tid)
one-made tid = record {
  its = λ other its. cond-true (is_tid other tid) (Some 0) None its;
  others = λ other differs. cond-false (is_tid other tid) (Some 0) None differs;
}

one-gone : (tid : TidOf) → Claims tid None (one_claim tid) no_claims
one-gone tid = record {
  its = λ other its. refl;
  others = λ other differs. sym (cond-false (is_tid other tid) (Some 0) None differs);
}

one-held : (tid : TidOf) → HeldBy (one_claim tid) tid (Some 0)
one-held tid = record { number = 0; given = refl; held = cond-true (is_tid tid tid) (Some 0) None (is_tid-same tid) }

one-none : (its tid : TidOf) (units : List AleUnit) → is_among its units ≡ true → is_among tid units ≡ false → one_claim its tid ≡ None
one-none its tid units there gone =
    cond-false (is_tid tid its) (Some 0) None (false_from_ne_true (is_tid tid its) (λ same.
    both_ways (is_among tid units) gone (subst (λ t. is_among t units ≡ true) (sym (is_tid-true tid its same)) there)))

-- ---- the claim that a record ends

pub ending : (next : Record) → IsEnding next (Some 0) (claims_held Outgoing next) (claims_held Incoming next)
ending (Done tid) = one-held tid
ending (Mark tid cause) = one-held tid
ending (Execute tid) = one-held tid
ending (Fail tid) = one-held tid
ending _ = tt

pub claims-after : (next : Record) → ClaimsAfter next (claims_held Outgoing next) (claims_held Incoming next) no_claims no_claims
claims-after (Done tid) = (one-gone tid, refl)
claims-after (Mark tid cause) = (one-gone tid, refl)
claims-after (Execute tid) = (refl, one-gone tid)
claims-after (Fail tid) = (refl, one-gone tid)
claims-after _ = (refl, refl)

held-out : (committed : List AleUnit) (log : List Record) (next : Record) (queues : QueuesOf) → AreQueuesOf Outgoing committed log no_claims queues
    → AreQueuesOf Outgoing committed log (claims_held Outgoing next) (held_queues Outgoing next queues)
held-out committed log (Done tid) queues are = AreQueuesOf-claimed Outgoing committed log tid 0 no_claims (one_claim tid) queues (one-made tid) are
held-out committed log (Mark tid cause) queues are = AreQueuesOf-claimed Outgoing committed log tid 0 no_claims (one_claim tid) queues (one-made tid) are
held-out committed log _ queues are = are

held-in : (committed : List AleUnit) (log : List Record) (next : Record) (queues : QueuesOf) → AreQueuesOf Incoming committed log no_claims queues
    → AreQueuesOf Incoming committed log (claims_held Incoming next) (held_queues Incoming next queues)
held-in committed log (Execute tid) queues are = AreQueuesOf-claimed Incoming committed log tid 0 no_claims (one_claim tid) queues (one-made tid) are
held-in committed log (Fail tid) queues are = AreQueuesOf-claimed Incoming committed log tid 0 no_claims (one_claim tid) queues (one-made tid) are
held-in committed log _ queues are = are

held-tables : {A : Type 0} (stands : A → List Record → Type 0) (committed : List AleUnit) (log : List Record) (next : Record) (tables : TablesOf A)
    → AreTablesOf stands committed log no_claims no_claims tables
    → AreTablesOf stands committed log (claims_held Outgoing next) (claims_held Incoming next) (held next tables)
held-tables stands committed log next tables are = record {
  units = are.units;
  received = are.received;
  seen = are.seen;
  unconfirmed = are.unconfirmed;
  outgoing = held-out committed log next tables.outgoing are.outgoing;
  incoming = held-in committed log next tables.incoming are.incoming;
  application = are.application;
}

-- ---- ids

listed-then : (its had : Bool) → (its || had) ≡ (had || (its || false))
listed-then true true = refl
listed-then true false = refl
listed-then false true = refl
listed-then false false = refl

-- the ids that a log tells are those of the longer one once its last record is noted
AreListed-push : (by : Record → Option TidOf) (log : List Record) (next : Record) (before after : List TidOf) → Listed (by next) before after
    → AreListed (filter_map by log) before → AreListed (filter_map by (log ++ next ∷ [])) after
AreListed-push by log next before after listed are =
    elim (none_or_some (by next)) [
      | inl none ↦
          let same : after ≡ before = subst (λ t. Listed t before after) none listed in
          record {
            each = λ other. ap (is_listed other) same ∙ are.each other ∙ ap (is_listed other) (sym (filter_map-None by log next none));
          }
      | inr some ↦
          let enters : Enters some.0 before after = subst (λ t. Listed t before after) some.1 listed in
          record {
            each = λ other.
                enters.enters other
                ∙ ap (λ b. is_tid some.0 other || b) (are.each other)
                ∙ listed-then (is_tid some.0 other) (is_listed other (filter_map by log))
                ∙ sym (list_any-append (λ (t : TidOf). is_tid t other) (filter_map by log) (some.0 ∷ []))
                ∙ ap (is_listed other) (sym (filter_map-Some by log next some.0 some.1));
          }
    ]

-- ---- a log of no records

pub IsRead-nothing : {A : Type 0} (rules : Meaning) (lawful : IsLawful rules) (stands : A → List Record → Type 0) (system : ℕ) (application : A)
    → stands application [] → IsRead rules stands system [] (no_log_tables application)
IsRead-nothing rules lawful stands system application begins = record {
  legal = tt;
  tables = subst (λ units. AreTablesOf stands units [] no_claims no_claims (no_log_tables application).tables) (sym (lawful.nothing_at_first system))
      (AreTablesOf-nothing stands application no_claims no_claims begins);
  places = ArePlaces-nothing;
  done = record { each = λ tid. refl };
  forgotten = record { each = λ tid. refl };
}

-- ---- one more record

module _ {A : Type 0} (rules : Meaning) (lawful : IsLawful rules) (few : CommitFew rules) (stands : A → List Record → Type 0) (system : ℕ) (log : List Record)
    (its : LogTablesOf A) (read : IsRead rules stands system log its) (next : Record) (may : may_follow rules system log next ≡ true)
    (proper : IsProper next) where
  none-sent : (way_next : Record) → may_follow rules system log way_next ≡ true → (tid : TidOf) → is_among tid (rules.committed system log) ≡ false
      → claims_held Outgoing way_next tid ≡ None
  none-sent (Done t) ok tid gone =
      one-none t tid (rules.committed system log) (free-committed (rules.committed system log) log t (others rules system log (Done t) refl ok)) gone
  none-sent (Mark t cause) ok tid gone =
      one-none t tid (rules.committed system log) (free-committed (rules.committed system log) log t (others rules system log (Mark t cause) refl ok)) gone
  none-sent _ ok tid gone = refl

  none-arrived : (way_next : Record) → may_follow rules system log way_next ≡ true → (tid : TidOf) → is_among tid (received log) ≡ false
      → claims_held Incoming way_next tid ≡ None
  none-arrived (Execute t) ok tid gone =
      one-none t tid (received log) (free-received log t
      (and_parts (is_free_inbound log t) (offers_received rules system log t) (others rules system log (Execute t) refl ok)).0) gone
  none-arrived (Fail t) ok tid gone =
      one-none t tid (received log) (free-received log t
      (and_parts (is_free_inbound log t) (not (offers_received rules system log t)) (others rules system log (Fail t) refl ok)).0) gone
  none-arrived _ ok tid gone = refl

  -- the record joins the tables in which its claim is held
  joins : (more : List AleUnit) → rules.committed system (log ++ next ∷ []) ≡ rules.committed system log ++ more
      → Joins (rules.committed system log) more log (Some 0) (claims_held Outgoing next) (claims_held Incoming next) next
  joins more commits =
      joins-legal rules lawful few system log read.legal (claims_held Outgoing next) (claims_held Incoming next) (none-sent next may) (none-arrived next may)
      next more (Some 0) may proper commits (ending next)

  pub can-note : (more : List AleUnit) → rules.committed system (log ++ next ∷ []) ≡ rules.committed system log ++ more
      → CanNote next more (Some 0) (entered more (held next its.tables))
  can-note more commits =
      CanNote-joins stands (rules.committed system log) more log (Some 0) (claims_held Outgoing next) (claims_held Incoming next) next (held next its.tables)
      (held-tables stands (rules.committed system log) log next its.tables read.tables) (joins more commits)

  -- a unit that is taken in was not received
  taken-new : (r : Record) → may_follow rules system log r ≡ true → (unit : AleUnit) → taken_by r ≡ Some unit → is_among unit.tid (received log) ≡ false
  taken-new (Accept u) ok unit same =
      subst (λ (v : AleUnit). is_among v.tid (received log) ≡ false) (same_Some u unit same)
      (fresh u (and_parts (is_new system log u) (not (is_empty u.inq)) (others rules system log (Accept u) refl ok)).0)
    where
      fresh : (v : AleUnit) → is_new system log v ≡ true → is_among v.tid (received log) ≡ false
      fresh v new = not-true (is_among v.tid (received log)) (and_parts (v.receiver == system) (not (is_among v.tid (received log))) new).1
  taken-new (Direct u) ok unit same =
      subst (λ (v : AleUnit). is_among v.tid (received log) ≡ false) (same_Some u unit same)
      (fresh u (and_parts (is_new system log u) (is_empty u.inq)
      (and_parts (is_new system log u && is_empty u.inq) (rules.offers system log u.function) (others rules system log (Direct u) refl ok)).0).0)
    where
      fresh : (v : AleUnit) → is_new system log v ≡ true → is_among v.tid (received log) ≡ false
      fresh v new = not-true (is_among v.tid (received log)) (and_parts (v.receiver == system) (not (is_among v.tid (received log))) new).1
  taken-new _ ok unit same = absurd (none-some unit same)

  -- once it is noted, the tables are those of the log with it
  pub IsRead-noted : (goes : A → List Record → Type 0) (more : List AleUnit) (after : LogTablesOf A)
      → rules.committed system (log ++ next ∷ []) ≡ rules.committed system log ++ more
      → goes its.tables.application log → Noted stands goes next more (entered more (held next its.tables)) after.tables
      → Placed (taken_by next) (length log) (place_of its.places) (place_of after.places)
      → Listed (done_by next) its.done after.done → Listed (forgotten_by next) its.forgotten after.forgotten
      → IsRead rules stands system (log ++ next ∷ []) after
  IsRead-noted goes more after commits made noted placed done forgotten = record {
    legal = IsLegal-push rules system log next read.legal may;
    tables = subst (λ units. AreTablesOf stands units (log ++ next ∷ []) no_claims no_claims after.tables) (sym commits)
        (AreTablesOf-noted stands goes (rules.committed system log) more log (Some 0) (claims_held Outgoing next) (claims_held Incoming next)
        no_claims no_claims next (held next its.tables) after.tables
        (held-tables stands (rules.committed system log) log next its.tables read.tables) (joins more commits) (claims-after next) noted made);
    places = ArePlaces-push log next (place_of its.places) (place_of after.places) (taken-new next may) placed read.places;
    done = AreListed-push done_by log next its.done after.done done read.done;
    forgotten = AreListed-push forgotten_by log next its.forgotten after.forgotten forgotten read.forgotten;
  }

  -- ---- step by step, as the code goes

  held_are : (t0 t1 : TablesOf A) → t0 ≡ its.tables → t1 ≡ held next t0 → t1 ≡ held next its.tables
  held_are t0 t1 here holds = holds ∙ ap (λ (t : TablesOf A). held next t) here

  -- units that are entered change nothing of what noting asks
  can-note-held : (more : List AleUnit) → rules.committed system (log ++ next ∷ []) ≡ rules.committed system log ++ more
      → CanNote next more (Some 0) (held next its.tables)
  can-note-held more commits =
      let can = can-note more commits in
      record { outgoing = can.outgoing; incoming = can.incoming }

  pub can-note-at : (more a : List AleUnit) (t0 t1 : TablesOf A) → t0 ≡ its.tables → t1 ≡ held next t0 → a ≡ more
      → rules.committed system (log ++ next ∷ []) ≡ rules.committed system log ++ more → CanNote next a (Some 0) t1
  can-note-at more a t0 t1 here holds same commits =
      subst (λ units. CanNote next units (Some 0) t1) (sym same)
      (subst (λ (t : TablesOf A). CanNote next more (Some 0) t) (sym (held_are t0 t1 here holds)) (can-note-held more commits))

  -- a record that is noted before its units are entered, as if they were entered before
  entered_after : (goes : A → List Record → Type 0) (more : List AleUnit) (t1 t2 : TablesOf A) → Noted stands goes next more t1 t2
      → Noted stands goes next more (entered more t1) (entered more t2)
  entered_after goes more t1 t2 noted = record {
    units = ap (λ units. units ++ more) noted.units;
    received = noted.received;
    seen = noted.seen;
    unconfirmed = noted.unconfirmed;
    outgoing = noted.outgoing;
    incoming = noted.incoming;
    application = noted.application;
  }

  pub IsRead-at : (goes : A → List Record → Type 0) (more a : List AleUnit) (t0 t1 t2 t3 : TablesOf A) (p0 p3 : List ((ℕ × ℕ) × ℕ)) (d0 d3 f0 f3 : List TidOf) (place : ℕ)
      → t0 ≡ its.tables → t1 ≡ held next t0 → a ≡ more → t3 ≡ entered more t2 → p0 ≡ its.places → d0 ≡ its.done → f0 ≡ its.forgotten → place ≡ length log
      → rules.committed system (log ++ next ∷ []) ≡ rules.committed system log ++ more
      → goes t0.application log → Noted stands goes next a t1 t2
      → Placed (taken_by next) place (place_of p0) (place_of p3) → Listed (done_by next) d0 d3 → Listed (forgotten_by next) f0 f3
      → IsRead rules stands system (log ++ next ∷ []) (record { tables = t3; places = p3; done = d3; forgotten = f3 })
  IsRead-at goes more a t0 t1 t2 t3 p0 p3 d0 d3 f0 f3 place here holds same enters same_p same_d same_f last commits made noted placed done forgotten =
      let as_held = subst (λ (t : TablesOf A). Noted stands goes next more t t2) (held_are t0 t1 here holds)
      (subst (λ units. Noted stands goes next units t1 t2) same noted) in
      IsRead-noted goes more (record { tables = t3; places = p3; done = d3; forgotten = f3 }) commits
      (subst (λ (t : TablesOf A). goes t.application log) here made)
      (subst (λ (t : TablesOf A). Noted stands goes next more (entered more (held next its.tables)) t) (sym enters)
      (entered_after goes more (held next its.tables) t2 as_held))
      (subst (λ p. Placed (taken_by next) (length log) (place_of p) (place_of p3)) same_p
      (subst (λ n. Placed (taken_by next) n (place_of p0) (place_of p3)) last placed))
      (subst (λ d. Listed (done_by next) d d3) same_d done)
      (subst (λ f. Listed (forgotten_by next) f f3) same_f forgotten)

-- ---- a log as far as it is legal

pub read-so_far : {A : Type 0} (rules : Meaning) (stands : A → List Record → Type 0) (system : ℕ) (log : List Record) (k : ℕ) (next : Record) (its : LogTablesOf A)
    → k < length log → next ≡ get_or log k next → IsRead rules stands system (take k log ++ next ∷ []) its → IsRead rules stands system (take (k + 1) log) its
read-so_far rules stands system log k next its within is read =
    subst (λ l. IsRead rules stands system l its) (ap (λ r. take k log ++ r ∷ []) is ∙ sym (take_more log k next within)) read

pub read-to : {A : Type 0} (rules : Meaning) (stands : A → List Record → Type 0) (system : ℕ) (log : List Record) (k : ℕ) (next : Record) (its : LogTablesOf A)
    → k < length log → next ≡ get_or log k next → may_follow rules system (take k log) next ≡ false → IsRead rules stands system (take k log) its
    → IsReadTo rules stands system log k its
read-to rules stands system log k next its within is refuses read = record {
  within = omega (arith, within);
  read = read;
  stops = λ r at.
      let same : r ≡ next = same_Some r next (sym at ∙ slice_get-get_or log k next within ∙ ap Some (sym is)) in
      ap (may_follow rules system (take k log)) same ∙ refuses;
}

-- a log that was read to its end is legal, and one that was not is not
pub IsReadTo-legal : {A : Type 0} (rules : Meaning) (stands : A → List Record → Type 0) (system : ℕ) (log : List Record) (count : ℕ) (its : LogTablesOf A)
    → IsReadTo rules stands system log count its → (count ≡ length log) ↔ IsLegal rules system log
IsReadTo-legal rules stands system log count its to = (
  λ whole. subst (IsLegal rules system) (ap (λ n. take n log) whole ∙ take_all (length log) log (omega arith)) to.read.legal,
  λ legal. elim (cases_lt count (length log)) [
    | inl less ↦ absurd (by (slice_get log count) refl less legal)
    | inr more ↦ omega (arith, more, to.within)
  ],
)
  where
    missing : (l : List Record) (k : ℕ) → k < length l → slice_get l k ≡ None → ⊥
    missing [] k less at = omega (arith, less)
    missing (x ∷ xs) zero less at = cc
    missing (x ∷ xs) (suc k) less at = missing xs k (omega (arith, less)) at

    by : (found : Option Record) → slice_get log count ≡ found → count < length log → IsLegal rules system log → ⊥
    by None at less legal = missing log count less at
    by (Some next) at less legal =
        both_ways (may_follow rules system (take count log) next) (to.stops next at)
        (subst (λ r. may_follow rules system (take count log) r ≡ true) (get_or_from_slice_get log count next next at)
        (follows-at rules system log count next legal less))

-- a log that was read to its end
pub read-whole : {A : Type 0} (rules : Meaning) (stands : A → List Record → Type 0) (system : ℕ) (log : List Record) (k : ℕ) (its : LogTablesOf A)
    → k ≡ length log → IsRead rules stands system (take k log) its → IsReadTo rules stands system log (length log) its
read-whole rules stands system log k its whole read = record {
  within = omega arith;
  read = subst (λ n. IsRead rules stands system (take n log) its) whole read;
  stops = λ next at. absurd (let less = slice_get_within log (length log) next at in omega (arith, less));
}
