-- Records one after the other at the logs of systems, and how the record of an event lets logs grow.
use Rattle.std.specs.Prelude.{⊤, Contains, filter, map}
use Rattle.std.specs.List.{filter_map, fold, list_all}
use Rattle.std.proofs.Common.{◌≡◌, ◌≢◌, ◌==◌, ℕ, Bool, true, false, cond, Option, Some, None, List, [], ◌∷◌, ◌++◌, inl, inr, refl, sym, ap, subst, ◌∙◌}
use Rattle.std.proofs.Common.{append-nil, append_assoc}
use Rattle.std.proofs.lemmas.Bool.{and_from, and_parts, cases_Bool, cases_eq, cond-true, eq-eqb, ne_eqb}
use Rattle.std.proofs.lemmas.List.{map-append}
use Rattle.std.proofs.lemmas.List.Elements.{filter-append, filter_map-append}
use Rattle.std.proofs.lemmas.List.Folds.{list_all-append}
use Rattle.ale_base.specs.Tid.{TidOf}
use Rattle.ale_base.proofs.MemberLemmas.{Contains-here, Contains-there}
use Rattle.unit_core.specs.declared.ale_unit.AleUnit.{AleUnit}
use Rattle.unit_core.specs.declared.records.Record.{Record}
use Rattle.unit_core.specs.Queues.{is_among, is_listed}
use Rattle.unit_core.proofs.TidLemmas.{is_among-Contains, is_listed-Contains}
use Rattle.trfc_protocol.specs.declared.event.Event.{Event}
use Rattle.trfc_protocol.specs.declared.world.World.{World}
use Rattle.trfc_protocol.specs.Happens.{happens, with_claims_after, written}
use Rattle.trfc_protocol.specs.Legal.{IsLawful}
use Rattle.trfc_protocol.specs.Meaning.{Meaning}
use Rattle.trfc_protocol.specs.RecordOf.{Writing, record_if, record_of}
use Rattle.trfc_protocol.specs.Safe.{Safe}
use Rattle.trfc_protocol.specs.Worlds.{is_up, log_of, log_or_none, offers_now, state_of, state_with, up_or_not, with_record}
use Rattle.trfc_protocol.proofs.RecordLemmas.{MayWrite-record}
use Rattle.trfc_protocol.proofs.WorldLemmas.{is_up-known, joins-with_state, offers_now-known}
use Rattle.unit_works.specs.Events.{is_works_record}
use Rattle.unit_works.specs.Trips.{HaveGrown, one_at, records_at}
use Rattle.unit_works.specs.Went.{HaveWorksBehind}
use Rattle.unit_works.proofs.StateLemmas.{IsOfWorks, claims_systems, happens-step, is_step, step-works}

-- ---- records one after the other

-- the records of a system among these and those are its records among these, and then those among those
pub records-on : (system : ℕ) (xs ys : List Writing) → records_at system (xs ++ ys) ≡ records_at system xs ++ records_at system ys
records-on system xs ys =
    let here : Writing → Bool = λ (it : Writing). it.system == system in
    let next : Writing → Record = λ (it : Writing). it.next in
    ap (map next) (filter-append here xs ys) ∙ map-append next (filter here xs) (filter here ys)

-- one record is at its system
pub record-here : (system : ℕ) (next : Record) → records_at system (one_at system next) ≡ next ∷ []
record-here system next =
    ap (map (λ (it : Writing). it.next)) (cond-true (system == system) (one_at system next) [] (eq-eqb system system refl))

-- and at no other
pub record-elsewhere : (system other : ℕ) (next : Record) → other ≢ system → records_at other (one_at system next) ≡ []
record-elsewhere system other next differs =
    ap (λ b. map (λ (it : Writing). it.next) (cond b (one_at system next) [])) (ne_eqb system other (λ same. differs (sym same)))

-- each of these records is such a one
abbrev pub EachIs : (Writing → Type 0) → List Writing → Type 0
EachIs P [] = ⊤
EachIs P (it ∷ rest) = P it × EachIs P rest

-- so are those of a system
pub all-at : (is : Record → Bool) (system : ℕ) (added : List Writing) → EachIs (λ it. is it.next ≡ true) added → list_all is (records_at system added) ≡ true
all-at is system [] each = refl
all-at is system (it ∷ rest) each = elim (cases_Bool (it.system == system)) [
  | inl here ↦ rw here (and_from (is it.next) (list_all is (records_at system rest)) each.0 (all-at is system rest each.1))
  | inr other ↦ rw other (all-at is system rest each.1)
]

-- records that leave what is read of a log so far, each and all
pub fold-all : {T : Type 0} (of : T → Record → T) (before : T) (is : Record → Bool) → ((next : Record) → is next ≡ true → of before next ≡ before)
    → (added : List Record) → list_all is added ≡ true → fold of before added ≡ before
fold-all of before is leaves [] each = refl
fold-all of before is leaves (next ∷ added) each =
    let parts = and_parts (is next) (list_all is added) each in
    ap (λ b. fold of b added) (leaves next parts.0) ∙ fold-all of before is leaves added parts.1

module _ {R : Type 0} where
  -- logs that are as they were have grown by nothing
  pub grown-same : (before after : World R) → ((system : ℕ) → log_of after system ≡ log_of before system) → HaveGrown before after []
  grown-same before after same system = same system ∙ sym (append-nil (log_of before system))

  pub same-grown : (before after : World R) → HaveGrown before after [] → (system : ℕ) → log_of after system ≡ log_of before system
  same-grown before after grown system = grown system ∙ append-nil (log_of before system)

  -- logs that grow by these, and then by those
  pub grown-on : (before between after : World R) (xs ys : List Writing) → HaveGrown before between xs → HaveGrown between after ys
      → HaveGrown before after (xs ++ ys)
  grown-on before between after xs ys first second system =
      second system ∙ ap (λ l. l ++ records_at system ys) (first system)
      ∙ append_assoc (log_of before system) (records_at system xs) (records_at system ys)
      ∙ ap (λ l. log_of before system ++ l) (sym (records-on system xs ys))

  grown-from_none : (before between after : World R) (xs : List Writing) → HaveGrown before between [] → HaveGrown between after xs
      → HaveGrown before after xs
  grown-from_none before between after xs first second system =
      second system ∙ ap (λ l. l ++ records_at system xs) (same-grown before between first system)

  -- a record lets the log of its system grow
  pub grown-record : (world : World R) (system : ℕ) (next : Record) → is_up world system ≡ true
      → HaveGrown world (with_record world system next) (one_at system next)
  grown-record world system next up other =
      let known = is_up-known world system up in
      let joins = joins-with_state world system (state_with next) known.0 known.1 next refl in
      elim (cases_eq other system) [
        | inl here ↦
            subst (λ s. log_of (with_record world system next) s ≡ log_of world s ++ records_at s (one_at system next)) (sym here)
            (joins.here ∙ ap (λ l. log_of world system ++ l) (sym (record-here system next)))
        | inr differs ↦
            joins.elsewhere other differs
            ∙ sym (ap (λ l. log_of world other ++ l) (record-elsewhere system other next differs) ∙ append-nil (log_of world other))
      ]

  -- what a system that is up offers goes by its log
  pub offers-log : (rules : Meaning) (world : World R) (system : ℕ) (function : List ℕ) → is_up world system ≡ true
      → offers_now rules world system function ≡ rules.offers system (log_of world system) function
  offers-log rules world system function up =
      let known = is_up-known world system up in offers_now-known world rules system known.0 function known.1

-- ---- the record of an event

-- the records of an event: one or none
abbrev pub listed : Option Writing → List Writing
listed None = []
listed (Some it) = it ∷ []

module _ {R : Type 0} (rules : Meaning) (lawful : IsLawful rules) (world : World R) (safe : Safe rules world) (e : Event) (step : is_step e ≡ true) where
  -- an event lets logs grow by its record, where it has one
  pub grown-event : HaveGrown world (happens rules world e) (listed (record_of rules world e))
  grown-event = subst (λ (w : World R). HaveGrown world w (listed (record_of rules world e))) (sym (happens-step rules lawful world safe e step e step))
      (of (record_of rules world e) refl)
    where
      claimed : World R
      claimed = with_claims_after rules world e

      same : HaveGrown world claimed []
      same = grown-same world claimed (λ system. ap (λ systems. log_or_none (state_of systems system)) (claims_systems rules world e))

      of : (found : Option Writing) → record_of rules world e ≡ found → HaveGrown world (written found claimed) (listed found)
      of None is = same
      of (Some it) is =
          let up : is_up claimed it.system ≡ true =
          ap (λ systems. up_or_not (state_of systems it.system)) (claims_systems rules world e) ∙ (MayWrite-record rules lawful world safe e it is).up in
          grown-from_none world claimed (with_record claimed it.system it.next) (it ∷ []) same (grown-record claimed it.system it.next up)

  -- so each log has records of works behind it
  pub works-event : HaveWorksBehind world (happens rules world e)
  works-event system = (
    records_at system (listed (record_of rules world e)),
    grown-event system,
    one (record_of rules world e) (step-works rules world e step),
  )
    where
      one : (found : Option Writing) → IsOfWorks rules world found → list_all is_works_record (records_at system (listed found)) ≡ true
      one None works = refl
      one (Some it) works = all-at is_works_record system (it ∷ []) (works, tt)

module _ {R : Type 0} where
  -- logs that are as they were
  pub works-same : (before after : World R) → ((system : ℕ) → log_of after system ≡ log_of before system) → HaveWorksBehind before after
  works-same before after same system = ([], same system ∙ sym (append-nil (log_of before system)), refl)

  -- one after the other
  pub works-on : (before between after : World R) → HaveWorksBehind before between → HaveWorksBehind between after → HaveWorksBehind before after
  works-on before between after first second system =
      let one = first system in
      let two = second system in (
        one.0 ++ two.0,
        two.1 ∙ ap (λ l. l ++ two.0) one.1 ∙ append_assoc (log_of before system) one.0 two.0,
        list_all-append is_works_record one.0 two.0 ∙ and_from (list_all is_works_record one.0) (list_all is_works_record two.0) one.2 two.2,
      )

-- a record that is asked for where this is met
pub if-met : (met : Bool) (system : ℕ) (next : Record) (it : Writing) → record_if met system next ≡ Some it → met ≡ true
if-met true system next it is = refl
if-met false system next it is = cc

-- ---- what is read of a log behind which records stand

pub each-append : (P : Writing → Type 0) (xs ys : List Writing) → EachIs P xs → EachIs P ys → EachIs P (xs ++ ys)
each-append P [] ys first second = second
each-append P (x ∷ xs) ys first second = (first.0, each-append P xs ys first.1 second)

pub each-if : (P : Writing → Type 0) (b : Bool) (xs : List Writing) → EachIs P xs → EachIs P (cond b xs [])
each-if P true xs each = each
each-if P false xs each = tt

pub each-wider : (P Q : Writing → Type 0) (xs : List Writing) → ((it : Writing) → P it → Q it) → EachIs P xs → EachIs Q xs
each-wider P Q [] wide each = tt
each-wider P Q (x ∷ xs) wide each = (wide x each.0, each-wider P Q xs wide each.1)

-- so are the first of them, and the one behind these
pub each-first : (P : Writing → Type 0) (xs ys : List Writing) → EachIs P (xs ++ ys) → EachIs P xs
each-first P [] ys each = tt
each-first P (x ∷ xs) ys each = (each.0, each-first P xs ys each.1)

pub each-next : (P : Writing → Type 0) (xs : List Writing) (it : Writing) (ys : List Writing) → EachIs P (xs ++ it ∷ ys) → P it
each-next P [] it ys each = each.0
each-next P (x ∷ xs) it ys each = each-next P xs it ys each.1

-- no record of these counts
abbrev pub NoneCounts : {T : Type 0} → (Record → Option T) → List Writing → Type 0
NoneCounts of added = EachIs (λ it. of it.next ≡ None) added

none-read : {T : Type 0} (of : Record → Option T) (system : ℕ) (added : List Writing) → NoneCounts of added
    → filter_map of (records_at system added) ≡ []
none-read of system [] none = refl
none-read of system (it ∷ rest) none = elim (cases_Bool (it.system == system)) [
  | inl here ↦ rw here (rw none.0 (none-read of system rest none.1))
  | inr other ↦ rw other (none-read of system rest none.1)
]

-- they leave what is read
pub read-same : {T : Type 0} (of : Record → Option T) (system : ℕ) (added : List Writing) → NoneCounts of added → (records : List Record)
    → filter_map of (records ++ records_at system added) ≡ filter_map of records
read-same of system added none records =
    filter_map-append of records (records_at system added) ∙ ap (λ l. filter_map of records ++ l) (none-read of system added none)
    ∙ append-nil (filter_map of records)

-- the last id is listed
pub listed-behind : (tid : TidOf) (tids : List TidOf) → is_listed tid (tids ++ tid ∷ []) ≡ true
listed-behind tid tids = is_listed-Contains tid (tids ++ tid ∷ []) (last tids)
  where
    last : (ts : List TidOf) → Contains (ts ++ tid ∷ []) tid
    last [] = Contains-here tid []
    last (t ∷ ts) = Contains-there t (ts ++ tid ∷ []) tid (last ts)

-- the last unit is among them
pub among-behind : (unit : AleUnit) (units : List AleUnit) → is_among unit.tid (units ++ unit ∷ []) ≡ true
among-behind unit units = is_among-Contains unit (units ++ unit ∷ []) (last units)
  where
    last : (us : List AleUnit) → Contains (us ++ unit ∷ []) unit
    last [] = Contains-here unit []
    last (u ∷ us) = Contains-there u (us ++ unit ∷ []) unit (last us)
