-- What each record of a log does to queues over some units, in either direction. `RecordLemmas` says it of those of the log.
use Rattle.std.specs.Prelude.{filter, not, ◌&&◌, ◌||◌}
use Rattle.std.specs.List.{AllByRecursion}
use Rattle.std.proofs.Common.{◌≡◌, ℕ, Bool, true, false, cond, Option, Some, None, List, [], ◌∷◌, ◌++◌, map, inl, inr, refl, sym, ap, ◌∙◌, append_assoc}
use Rattle.std.proofs.lemmas.Bool.{cases_Bool, not-true, or_parts, cond-true, cond-false}
use Rattle.std.proofs.lemmas.List.{map-append, append-nil}
use Rattle.std.proofs.lemmas.List.Sums.{fold_push}
use Rattle.std.proofs.lemmas.List.Folds.{list_any-append}
use Rattle.std.proofs.lemmas.List.Elements.{filter-append}
use Rattle.ale_base.specs.Tid.{TidOf, is_tid}
use Rattle.ale_base.proofs.TidLemmas.{is_tid-turned}
use Rattle.ale_base.specs.declared.mark.Mark.{Mark as Cause}
use Rattle.ale_base.specs.declared.mark.Mark.TheVariants.{Sysfail}
use Rattle.ale_base.specs.declared.way.Way.{Way}
use Rattle.ale_base.specs.declared.way.Way.TheVariants.{Outgoing, Incoming}
use Rattle.ale_base.proofs.ListLemmas.{AllByRecursion-weaker}
use Rattle.ale_base.proofs.MemberLemmas.{filter_map-None, filter_map-Some}
use Rattle.unit_core.specs.declared.ale_unit.AleUnit.{AleUnit}
use Rattle.unit_core.specs.declared.records.Record.{Record}
use Rattle.unit_core.specs.declared.records.Record.TheVariants.{Genesis, Commit, Dispatch, Mark, Done, Ended, Accept, Execute, Direct, Fail, Forget, Stop}
use Rattle.unit_core.specs.declared.records.Record.TheVariants.{Start, Retry, Put, App, Repost, Model}
use Rattle.unit_core.specs.Filters.{done_by, executed_by, mark_of, mark_after, stopped_after, is_way, is_queue}
use Rattle.unit_core.specs.Filters.{is_stopped as is_stopped_by}
use Rattle.unit_core.specs.Queues.{is_listed, is_among, is_outstanding}
use Rattle.unit_core.proofs.TidLemmas.{is_tid-same}
use Rattle.plain_queues.specs.declared.queue_key.QueueKey.{QueueKey}
use Rattle.plain_queues.specs.declared.queued_unit.QueuedUnit.{QueuedUnit}
use Rattle.plain_queues.specs.Keys.{is_key, has_key}
use Rattle.plain_queues.specs.Queues.{QueuesOf, is_stopped}
use Rattle.plain_queues.specs.Changes.{added, changed_if, new_unit, claimed, released, marked, retried, finished, Stops, Starts}
use Rattle.plain_queues.specs.LogQueues.{through, through_by, keys_of, queued, AreQueuesOver, added_all, IsNew, LeavesMarks, LeavesStops, LeavesQueues, Claims}
use Rattle.plain_queues.specs.LogQueues.{SetsMark, is_silent}

-- ---- lists

filter-map : {X Y : Type 0} (p : Y → Bool) (f : X → Y) (xs : List X) → filter p (map f xs) ≡ map f (filter (λ x. p (f x)) xs)
filter-map p f [] = refl
filter-map p f (x ∷ xs) =
    elim (cases_Bool (p (f x))) [
      | inl pass ↦ rw pass (ap (λ ys. f x ∷ ys) (filter-map p f xs))
      | inr miss ↦ rw miss (filter-map p f xs)
    ]

filter-both : {X : Type 0} (p q : X → Bool) (xs : List X) → filter q (filter p xs) ≡ filter (λ x. p x && q x) xs
filter-both p q [] = refl
filter-both p q (x ∷ xs) =
    elim (cases_Bool (p x)) [
      | inl pass ↦ rw pass (ap (λ r. cond (q x) (x ∷ r) r) (filter-both p q xs))
      | inr miss ↦ rw miss (filter-both p q xs)
    ]

-- functions that agree where a test passes
map-kept : {X Y : Type 0} (p : X → Bool) (f g : X → Y) (xs : List X) → ((x : X) → p x ≡ true → f x ≡ g x) → map f (filter p xs) ≡ map g (filter p xs)
map-kept p f g [] agree = refl
map-kept p f g (x ∷ xs) agree =
    elim (cases_Bool (p x)) [
      | inl pass ↦ rw pass (ap (λ y. y ∷ map f (filter p xs)) (agree x pass) ∙ ap (λ ys. g x ∷ ys) (map-kept p f g xs agree))
      | inr miss ↦ rw miss (map-kept p f g xs agree)
    ]

map-map : {X Y Z : Type 0} (g : Y → Z) (f : X → Y) (xs : List X) → map g (map f xs) ≡ map (λ x. g (f x)) xs
map-map g f [] = refl
map-map g f (x ∷ xs) = ap (λ zs. g (f x) ∷ zs) (map-map g f xs)

-- ---- one more record

mark-push : (way : Way) (tid : TidOf) (log : List Record) (next : Record) → mark_of way tid (log ++ next ∷ []) ≡ mark_after way tid (mark_of way tid log) next
mark-push way tid log next = fold_push (mark_after way tid) None log next

stop-push : (way : Way) (destination : ℕ) (name : List ℕ) (log : List Record) (next : Record)
    → is_stopped_by way destination name (log ++ next ∷ []) ≡ stopped_after way destination name (is_stopped_by way destination name log) next
stop-push way destination name log next = fold_push (stopped_after way destination name) false log next

through-none : (way : Way) (log : List Record) (next : Record) → through_by way next ≡ None → through way (log ++ next ∷ []) ≡ through way log
through-none Outgoing log next none = filter_map-None done_by log next none
through-none Incoming log next none = filter_map-None executed_by log next none

through-some : (way : Way) (log : List Record) (next : Record) (tid : TidOf) → through_by way next ≡ Some tid → through way (log ++ next ∷ []) ≡ through way log
    ++ tid ∷ []
through-some Outgoing log next tid some = filter_map-Some done_by log next tid some
through-some Incoming log next tid some = filter_map-Some executed_by log next tid some

-- a unit as the queues hold it, part by part
queued_as : (way : Way) (unit : AleUnit) (claim : Option ℕ) (mark : Option Cause) (log : List Record) (claims : TidOf → Option ℕ)
    → claim ≡ claims unit.tid → mark ≡ mark_of way unit.tid log
    → ◌≡◌ {A = QueuedUnit} (record { tid = unit.tid; keys = keys_of way unit; claim = claim; mark = mark }) (queued way log claims unit)
queued_as way unit claim mark log claims of_claims of_marks = λ i. record { tid = unit.tid; keys = keys_of way unit; claim = of_claims i; mark = of_marks i }

-- a log of no records has no queues, where nothing was committed
pub AreQueuesOver-nothing : (way : Way) (claims : TidOf → Option ℕ) → AreQueuesOver way [] [] claims (record { units = []; stops = [] })
AreQueuesOver-nothing way claims = record { units = refl; stops = λ key. refl }

stops-stay : (way : Way) (log : List Record) (next : Record) (queues : QueuesOf) → LeavesStops way next
    → ((key : QueueKey) → is_stopped key queues ≡ is_stopped_by way key.partner key.name log)
    → (key : QueueKey) → is_stopped key queues ≡ is_stopped_by way key.partner key.name (log ++ next ∷ [])
stops-stay way log next queues leaves stops key =
    stops key ∙ sym (leaves key.partner key.name (is_stopped_by way key.partner key.name log)) ∙ sym (stop-push way key.partner key.name log next)

units-stay : (way : Way) (all : List AleUnit) (log : List Record) (next : Record) (claims : TidOf → Option ℕ) → through_by way next ≡ None →
    LeavesMarks way next
    → map (queued way log claims) (filter (is_outstanding (through way log)) all)
    ≡ map (queued way (log ++ next ∷ []) claims) (filter (is_outstanding (through way (log ++ next ∷ []))) all)
units-stay way all log next claims none leaves =
    ap (λ f. map f (filter (is_outstanding (through way log)) all)) (λ i unit.
    queued_as way unit (claims unit.tid) (mark_of way unit.tid log) (log ++ next ∷ []) claims refl
    (sym (leaves unit.tid (mark_of way unit.tid log)) ∙ sym (mark-push way unit.tid log next)) i)
    ∙ ap (λ tids. map (queued way (log ++ next ∷ []) claims) (filter (is_outstanding tids) all)) (sym (through-none way log next none))

-- a record that says nothing of the queues leaves them
pub AreQueuesOver-other : (way : Way) (all : List AleUnit) (log : List Record) (next : Record) (claims : TidOf → Option ℕ) (queues : QueuesOf)
    → LeavesQueues way next → AreQueuesOver way all log claims queues → AreQueuesOver way all (log ++ next ∷ []) claims queues
AreQueuesOver-other way all log next claims queues leaves are = record {
  units = are.units ∙ units-stay way all log next claims leaves.none_through leaves.marks;
  stops = stops-stay way log next queues leaves.stops are.stops;
}

-- ---- units are added

added-units : (way : Way) (more : List AleUnit) (queues : QueuesOf) → (added_all way more queues).units ≡ queues.units
    ++ map (λ (unit : AleUnit). new_unit unit.tid (keys_of way unit)) more
added-units way [] queues = sym (append-nil queues.units)
added-units way (unit ∷ more) queues =
    added-units way more (record queues { units = queues.units ++ new_unit unit.tid (keys_of way unit) ∷ [] })
    ∙ append_assoc queues.units (new_unit unit.tid (keys_of way unit) ∷ []) (map (λ (u : AleUnit). new_unit u.tid (keys_of way u)) more)

added-stops : (way : Way) (more : List AleUnit) (queues : QueuesOf) → (added_all way more queues).stops ≡ queues.stops
added-stops way [] queues = refl
added-stops way (unit ∷ more) queues = added-stops way more (record queues { units = queues.units ++ new_unit unit.tid (keys_of way unit) ∷ [] })

new-kept : (way : Way) (log : List Record) (claims : TidOf → Option ℕ) (more : List AleUnit) → AllByRecursion (IsNew way log claims) more
    → map (λ (unit : AleUnit). new_unit unit.tid (keys_of way unit)) more ≡ map (queued way log claims) (filter (is_outstanding (through way log)) more)
new-kept way log claims [] new = refl
new-kept way log claims (unit ∷ more) new =
    ap (λ first. first ∷ map (λ (u : AleUnit). new_unit u.tid (keys_of way u)) more)
    (queued_as way unit None None log claims (sym new.0.unclaimed) (sym new.0.unmarked))
    ∙ ap (λ rest. queued way log claims unit ∷ rest) (new-kept way log claims more new.1)
    ∙ sym (ap (λ b. map (queued way log claims)
    (cond b (unit ∷ filter (is_outstanding (through way log)) more) (filter (is_outstanding (through way log)) more))) (ap not new.0.outstanding))

-- a unit that is new stays so, where a record says nothing of the queues
pub new-then : (way : Way) (log : List Record) (next : Record) (claims : TidOf → Option ℕ) (unit : AleUnit) → LeavesQueues way next → IsNew way log claims unit
    → IsNew way (log ++ next ∷ []) claims unit
new-then way log next claims unit leaves new = record {
  outstanding = ap (is_listed unit.tid) (through-none way log next leaves.none_through) ∙ new.outstanding;
  unclaimed = new.unclaimed;
  unmarked = mark-push way unit.tid log next ∙ leaves.marks unit.tid (mark_of way unit.tid log) ∙ new.unmarked;
}

-- new units are added behind all others, in order: those of a Commit or a Dispatch, the one of an Accept
pub AreQueuesOver-added : (way : Way) (all more : List AleUnit) (log : List Record) (claims : TidOf → Option ℕ) (queues : QueuesOf)
    → AllByRecursion (IsNew way log claims) more → AreQueuesOver way all log claims queues →
    AreQueuesOver way (all ++ more) log claims (added_all way more queues)
AreQueuesOver-added way all more log claims queues new are = record {
  units = added-units way more queues
      ∙ ap (λ us. us ++ map (λ (unit : AleUnit). new_unit unit.tid (keys_of way unit)) more) are.units
      ∙ ap (λ us. map (queued way log claims) (filter (is_outstanding (through way log)) all) ++ us) (new-kept way log claims more new)
      ∙ sym (map-append (queued way log claims) (filter (is_outstanding (through way log)) all) (filter (is_outstanding (through way log)) more))
      ∙ ap (map (queued way log claims)) (sym (filter-append (is_outstanding (through way log)) all more));
  stops = λ key. ap (λ (stops : List QueueKey). has_key key stops) (added-stops way more queues) ∙ are.stops key;
}

-- ---- a unit is finished

with_one : (its listed : Bool) → not (listed || (its || false)) ≡ (not listed && not its)
with_one true true = refl
with_one true false = refl
with_one false true = refl
with_one false false = refl

outstanding-push : (tids : List TidOf) (tid : TidOf) (unit : AleUnit) →
    is_outstanding (tids ++ tid ∷ []) unit ≡ (is_outstanding tids unit && not (is_tid unit.tid tid))
outstanding-push tids tid unit =
    ap not (list_any-append (λ (t : TidOf). is_tid t unit.tid) tids (tid ∷ []))
    ∙ with_one (is_tid tid unit.tid) (is_listed unit.tid tids)
    ∙ ap (λ b. is_outstanding tids unit && not b) (is_tid-turned tid unit.tid)

-- a record that brings a unit through finishes it: a Done of an outbound one, an Execute of an inbound one
pub AreQueuesOver-through : (way : Way) (all : List AleUnit) (log : List Record) (next : Record) (tid : TidOf) (claims after : TidOf → Option ℕ)
    (queues : QueuesOf)
    → through_by way next ≡ Some tid → LeavesMarks way next → LeavesStops way next → Claims tid None claims after
    → AreQueuesOver way all log claims queues → AreQueuesOver way all (log ++ next ∷ []) after (finished tid queues)
AreQueuesOver-through way all log next tid claims after queues brings leaves_marks leaves_stops change are =
    let open_ = is_outstanding (through way log) in
    let other = λ (unit : AleUnit). not (is_tid unit.tid tid) in
    record {
      units = ap (filter (λ (unit : QueuedUnit). not (is_tid unit.tid tid))) are.units
          ∙ filter-map (λ (unit : QueuedUnit). not (is_tid unit.tid tid)) (queued way log claims) (filter open_ all)
          ∙ map-kept other (queued way log claims) (queued way (log ++ next ∷ []) after) (filter open_ all) (λ unit differs.
          queued_as way unit (claims unit.tid) (mark_of way unit.tid log) (log ++ next ∷ []) after
          (sym (change.others unit.tid (not-true (is_tid unit.tid tid) differs)))
          (sym (leaves_marks unit.tid (mark_of way unit.tid log)) ∙ sym (mark-push way unit.tid log next)))
          ∙ ap (map (queued way (log ++ next ∷ []) after)) (
          filter-both open_ other all
          ∙ ap (λ f. filter f all) (λ i unit. sym (outstanding-push (through way log) tid unit) i)
          ∙ ap (λ tids. filter (is_outstanding tids) all) (sym (through-some way log next tid brings)));
      stops = stops-stay way log next queues leaves_stops are.stops;
    }

none_has : (tids : List TidOf) (unit : AleUnit) (all : List AleUnit) → is_among unit.tid all ≡ false
    → filter (is_outstanding (tids ++ unit.tid ∷ [])) all ≡ filter (is_outstanding tids) all
none_has tids unit [] none = refl
none_has tids unit (u ∷ us) none =
    let parts = or_parts (is_tid u.tid unit.tid) (is_among unit.tid us) none in
    ap (λ b. cond b (u ∷ filter (is_outstanding (tids ++ unit.tid ∷ [])) us) (filter (is_outstanding (tids ++ unit.tid ∷ [])) us))
    (outstanding-push tids unit.tid u ∙ ap (λ b. is_outstanding tids u && not b) parts.0 ∙ and_true (is_outstanding tids u))
    ∙ ap (λ rest. cond (is_outstanding tids u) (u ∷ rest) rest) (none_has tids unit us parts.1)
  where
    and_true : (b : Bool) → (b && true) ≡ b
    and_true true = refl
    and_true false = refl

goes_at_once : (tids : List TidOf) (unit : AleUnit) → filter (is_outstanding (tids ++ unit.tid ∷ [])) (unit ∷ []) ≡ []
goes_at_once tids unit =
    ap (λ b. cond b (unit ∷ []) [])
    (outstanding-push tids unit.tid unit ∙ ap (λ b. is_outstanding tids unit && not b) (is_tid-same unit.tid) ∙ and_false (is_outstanding tids unit))
  where
    and_false : (b : Bool) → (b && false) ≡ false
    and_false true = refl
    and_false false = refl

-- a Direct leaves the inbound queues: its unit is received and executed at once
pub AreQueuesOver-direct : (all : List AleUnit) (log : List Record) (unit : AleUnit) (claims : TidOf → Option ℕ) (queues : QueuesOf) →
    is_among unit.tid all ≡ false
    → AreQueuesOver Incoming all log claims queues → AreQueuesOver Incoming (all ++ unit ∷ []) (log ++ Direct unit ∷ []) claims queues
AreQueuesOver-direct all log unit claims queues new are =
    let tids = through Incoming log in
    record {
      units = are.units
          ∙ ap (λ f. map f (filter (is_outstanding tids) all)) (λ i u.
          queued_as Incoming u (claims u.tid) (mark_of Incoming u.tid log) (log ++ Direct unit ∷ []) claims refl
          (sym (mark-push Incoming u.tid log (Direct unit))) i)
          ∙ ap (map (queued Incoming (log ++ Direct unit ∷ []) claims)) (
          sym (none_has tids unit all new)
          ∙ sym (append-nil (filter (is_outstanding (tids ++ unit.tid ∷ [])) all))
          ∙ ap (λ us. filter (is_outstanding (tids ++ unit.tid ∷ [])) all ++ us) (sym (goes_at_once tids unit))
          ∙ sym (filter-append (is_outstanding (tids ++ unit.tid ∷ [])) all (unit ∷ []))
          ∙ ap (λ ts. filter (is_outstanding ts) (all ++ unit ∷ [])) (sym (through-some Incoming log (Direct unit) unit.tid refl)));
      stops = stops-stay Incoming log (Direct unit) queues (λ destination name before. refl) are.stops;
    }

-- ---- claims and marks

-- what the parts of a unit are, where those of the unit of an id are changed
record Becomes (claims after : TidOf → Option ℕ) (marks later : TidOf → Option Cause) (claim : Option ℕ → Option ℕ) (mark : Option Cause → Option Cause)
    (tid : TidOf) : Type 0 where
  its_claim : (other : TidOf) → is_tid other tid ≡ true → after other ≡ claim (claims other)
  other_claims : (other : TidOf) → is_tid other tid ≡ false → after other ≡ claims other
  its_mark : (other : TidOf) → is_tid other tid ≡ true → later other ≡ mark (marks other)
  other_marks : (other : TidOf) → is_tid other tid ≡ false → later other ≡ marks other

changed-queued : (way : Way) (log later : List Record) (claims after : TidOf → Option ℕ) (claim : Option ℕ → Option ℕ) (mark : Option Cause → Option Cause)
    (tid : TidOf)
    → Becomes claims after (λ t. mark_of way t log) (λ t. mark_of way t later) claim mark tid → (unit : AleUnit)
    → changed_if (λ (u : QueuedUnit). record u { claim = claim u.claim; mark = mark u.mark }) tid (queued way log claims unit) ≡ queued way later after unit
changed-queued way log later claims after claim mark tid becomes unit =
    let change = λ (u : QueuedUnit). record u { claim = claim u.claim; mark = mark u.mark } in
    elim (cases_Bool (is_tid unit.tid tid)) [
      | inl its ↦ cond-true (is_tid unit.tid tid) (change (queued way log claims unit)) (queued way log claims unit) its
          ∙ queued_as way unit (claim (claims unit.tid)) (mark (mark_of way unit.tid log)) later after (sym (becomes.its_claim unit.tid its))
          (sym (becomes.its_mark unit.tid its))
      | inr other ↦ cond-false (is_tid unit.tid tid) (change (queued way log claims unit)) (queued way log claims unit) other
          ∙ queued_as way unit (claims unit.tid) (mark_of way unit.tid log) later after (sym (becomes.other_claims unit.tid other))
          (sym (becomes.other_marks unit.tid other))
    ]

changed-units : (way : Way) (all : List AleUnit) (log later : List Record) (claims after : TidOf → Option ℕ) (claim : Option ℕ → Option ℕ)
    (mark : Option Cause → Option Cause)
    (tid : TidOf) → through way later ≡ through way log → Becomes claims after (λ t. mark_of way t log) (λ t. mark_of way t later) claim mark tid
    → map (changed_if (λ (u : QueuedUnit). record u { claim = claim u.claim; mark = mark u.mark }) tid)
    (map (queued way log claims) (filter (is_outstanding (through way log)) all))
    ≡ map (queued way later after) (filter (is_outstanding (through way later)) all)
changed-units way all log later claims after claim mark tid same becomes =
    map-map (changed_if (λ (u : QueuedUnit). record u { claim = claim u.claim; mark = mark u.mark }) tid) (queued way log claims)
    (filter (is_outstanding (through way log)) all)
    ∙ ap (λ f. map f (filter (is_outstanding (through way log)) all)) (λ i unit. changed-queued way log later claims after claim mark tid becomes unit i)
    ∙ ap (λ tids. map (queued way later after) (filter (is_outstanding tids) all)) (sym same)

-- a claim is no record: the log stays, and the unit is claimed
pub AreQueuesOver-claimed : (way : Way) (all : List AleUnit) (log : List Record) (tid : TidOf) (number : ℕ) (claims after : TidOf → Option ℕ)
    (queues : QueuesOf)
    → Claims tid (Some number) claims after → AreQueuesOver way all log claims queues → AreQueuesOver way all log after (claimed number tid queues)
AreQueuesOver-claimed way all log tid number claims after queues change are = record {
  units = ap (map (changed_if (λ (u : QueuedUnit). record u { claim = Some number }) tid)) are.units
      ∙ changed-units way all log log claims after (λ claim. Some number) (λ mark. mark) tid refl
      (record { its_claim = change.its; other_claims = change.others; its_mark = λ other its. refl; other_marks = λ other differs. refl });
  stops = are.stops;
}

-- a claim is given up: the log stays, and the unit is released
pub AreQueuesOver-released : (way : Way) (all : List AleUnit) (log : List Record) (tid : TidOf) (claims after : TidOf → Option ℕ) (queues : QueuesOf)
    → Claims tid None claims after → AreQueuesOver way all log claims queues → AreQueuesOver way all log after (released tid queues)
AreQueuesOver-released way all log tid claims after queues change are = record {
  units = ap (map (changed_if (λ (u : QueuedUnit). record u { claim = None }) tid)) are.units
      ∙ changed-units way all log log claims after (λ claim. None) (λ mark. mark) tid refl
      (record { its_claim = change.its; other_claims = change.others; its_mark = λ other its. refl; other_marks = λ other differs. refl });
  stops = are.stops;
}

sets-its : (way : Way) (log : List Record) (next : Record) (tid : TidOf) (mark : Option Cause) → SetsMark way next tid mark → (other : TidOf) →
    is_tid other tid ≡ true
    → mark_of way other (log ++ next ∷ []) ≡ mark
sets-its way log next tid mark sets other its =
    mark-push way other log next ∙ sets.marks other (mark_of way other log)
    ∙ cond-true (is_tid tid other) mark (mark_of way other log) (is_tid-turned tid other ∙ its)

sets-other : (way : Way) (log : List Record) (next : Record) (tid : TidOf) (mark : Option Cause) → SetsMark way next tid mark → (other : TidOf) →
    is_tid other tid ≡ false
    → mark_of way other (log ++ next ∷ []) ≡ mark_of way other log
sets-other way log next tid mark sets other differs =
    mark-push way other log next ∙ sets.marks other (mark_of way other log)
    ∙ cond-false (is_tid tid other) mark (mark_of way other log) (is_tid-turned tid other ∙ differs)

-- a record that marks a unit releases and marks it: a Mark of an outbound one, a Fail of an inbound one
pub AreQueuesOver-marked : (way : Way) (all : List AleUnit) (log : List Record) (next : Record) (tid : TidOf) (cause : Cause) (claims after : TidOf → Option ℕ)
    (queues : QueuesOf)
    → through_by way next ≡ None → SetsMark way next tid (Some cause) → LeavesStops way next → Claims tid None claims after
    → AreQueuesOver way all log claims queues → AreQueuesOver way all (log ++ next ∷ []) after (marked cause tid queues)
AreQueuesOver-marked way all log next tid cause claims after queues none sets leaves change are =
    let freed = AreQueuesOver-released way all log tid claims after queues change are in
    record {
      units = ap (map (changed_if (λ (u : QueuedUnit). record u { mark = Some cause }) tid)) freed.units
          ∙ changed-units way all log (log ++ next ∷ []) after after (λ claim. claim) (λ mark. Some cause) tid (through-none way log next none)
          (record {
            its_claim = λ other its. refl;
            other_claims = λ other differs. refl;
            its_mark = sets-its way log next tid (Some cause) sets;
            other_marks = sets-other way log next tid (Some cause) sets;
          });
      stops = stops-stay way log next queues leaves are.stops;
    }

-- a Retry of this direction removes the mark
pub AreQueuesOver-retried : (way : Way) (all : List AleUnit) (log : List Record) (next : Record) (tid : TidOf) (claims : TidOf → Option ℕ) (queues : QueuesOf)
    → through_by way next ≡ None → SetsMark way next tid None → LeavesStops way next
    → AreQueuesOver way all log claims queues → AreQueuesOver way all (log ++ next ∷ []) claims (retried tid queues)
AreQueuesOver-retried way all log next tid claims queues none sets leaves are = record {
  units = ap (map (changed_if (λ (u : QueuedUnit). record u { mark = None }) tid)) are.units
      ∙ changed-units way all log (log ++ next ∷ []) claims claims (λ claim. claim) (λ mark. None) tid (through-none way log next none)
      (record {
        its_claim = λ other its. refl;
        other_claims = λ other differs. refl;
        its_mark = sets-its way log next tid None sets;
        other_marks = sets-other way log next tid None sets;
      });
  stops = stops-stay way log next queues leaves are.stops;
}

-- ---- queues are stopped and started

same_way : (way : Way) → is_way way way ≡ true
same_way Outgoing = refl
same_way Incoming = refl

this_queue : (way : Way) (destination : ℕ) (name : List ℕ) (key : QueueKey)
    → is_queue way key.partner key.name way destination name ≡ is_key (record { partner = destination; name = name }) key
this_queue Outgoing destination name key = refl
this_queue Incoming destination name key = refl

stop-none : (way : Way) (destination : ℕ) (name : List ℕ) → through_by way (Stop way destination name) ≡ None
stop-none Outgoing destination name = refl
stop-none Incoming destination name = refl

start-none : (way : Way) (destination : ℕ) (name : List ℕ) → through_by way (Start way destination name) ≡ None
start-none Outgoing destination name = refl
start-none Incoming destination name = refl

stop-marks : (way : Way) (destination : ℕ) (name : List ℕ) → LeavesMarks way (Stop way destination name)
stop-marks Outgoing destination name tid before = refl
stop-marks Incoming destination name tid before = refl

start-marks : (way : Way) (destination : ℕ) (name : List ℕ) → LeavesMarks way (Start way destination name)
start-marks Outgoing destination name tid before = refl
start-marks Incoming destination name tid before = refl

sets : (b r : Bool) → (b || r) ≡ cond b true r
sets true r = refl
sets false r = refl

unsets : (b r : Bool) → (not b && r) ≡ cond b false r
unsets true r = refl
unsets false r = refl

-- a Stop of this direction stops the queue
pub AreQueuesOver-stopped : (way : Way) (all : List AleUnit) (log : List Record) (destination : ℕ) (name : List ℕ) (claims : TidOf → Option ℕ)
    (queues after : QueuesOf)
    → Stops (record { partner = destination; name = name }) queues after → AreQueuesOver way all log claims queues
    → AreQueuesOver way all (log ++ Stop way destination name ∷ []) claims after
AreQueuesOver-stopped way all log destination name claims queues after stops are =
    let key_of : QueueKey = record { partner = destination; name = name } in
    record {
      units = stops.units ∙ are.units ∙ units-stay way all log (Stop way destination name) claims (stop-none way destination name)
          (stop-marks way destination name);
      stops = λ key.
          stops.stops key
          ∙ ap (λ b. is_key key_of key || b) (are.stops key)
          ∙ sets (is_key key_of key) (is_stopped_by way key.partner key.name log)
          ∙ ap (λ b. cond b true (is_stopped_by way key.partner key.name log)) (sym (this_queue way destination name key))
          ∙ sym (stop-push way key.partner key.name log (Stop way destination name));
    }

-- a Start of this direction starts it
pub AreQueuesOver-started : (way : Way) (all : List AleUnit) (log : List Record) (destination : ℕ) (name : List ℕ) (claims : TidOf → Option ℕ)
    (queues after : QueuesOf)
    → Starts (record { partner = destination; name = name }) queues after → AreQueuesOver way all log claims queues
    → AreQueuesOver way all (log ++ Start way destination name ∷ []) claims after
AreQueuesOver-started way all log destination name claims queues after starts are =
    let key_of : QueueKey = record { partner = destination; name = name } in
    record {
      units = starts.units ∙ are.units ∙ units-stay way all log (Start way destination name) claims (start-none way destination name)
          (start-marks way destination name);
      stops = λ key.
          starts.stops key
          ∙ ap (λ b. not (is_key key_of key) && b) (are.stops key)
          ∙ unsets (is_key key_of key) (is_stopped_by way key.partner key.name log)
          ∙ ap (λ b. cond b false (is_stopped_by way key.partner key.name log)) (sym (this_queue way destination name key))
          ∙ sym (stop-push way key.partner key.name log (Start way destination name));
    }

-- ---- the records of each kind

-- a Done is the end of an outbound unit, an Execute that of an inbound one
pub AreQueuesOver-Done : (all : List AleUnit) (log : List Record) (tid : TidOf) (claims after : TidOf → Option ℕ) (queues : QueuesOf)
    → Claims tid None claims after → AreQueuesOver Outgoing all log claims queues →
    AreQueuesOver Outgoing all (log ++ Done tid ∷ []) after (finished tid queues)
AreQueuesOver-Done all log tid claims after queues change are =
    AreQueuesOver-through Outgoing all log (Done tid) tid claims after queues refl (λ other before. refl) (λ destination name before. refl) change are

pub AreQueuesOver-Execute : (all : List AleUnit) (log : List Record) (tid : TidOf) (claims after : TidOf → Option ℕ) (queues : QueuesOf)
    → Claims tid None claims after → AreQueuesOver Incoming all log claims queues →
    AreQueuesOver Incoming all (log ++ Execute tid ∷ []) after (finished tid queues)
AreQueuesOver-Execute all log tid claims after queues change are =
    AreQueuesOver-through Incoming all log (Execute tid) tid claims after queues refl (λ other before. refl) (λ destination name before. refl) change are

-- a Mark marks an outbound unit, a Fail an inbound one
pub AreQueuesOver-Mark : (all : List AleUnit) (log : List Record) (tid : TidOf) (cause : Cause) (claims after : TidOf → Option ℕ) (queues : QueuesOf)
    → Claims tid None claims after → AreQueuesOver Outgoing all log claims queues →
    AreQueuesOver Outgoing all (log ++ Mark tid cause ∷ []) after (marked cause tid queues)
AreQueuesOver-Mark all log tid cause claims after queues change are =
    AreQueuesOver-marked Outgoing all log (Mark tid cause) tid cause claims after queues refl (record { marks = λ other before. refl })
    (λ destination name before. refl) change are

pub AreQueuesOver-Fail : (all : List AleUnit) (log : List Record) (tid : TidOf) (claims after : TidOf → Option ℕ) (queues : QueuesOf)
    → Claims tid None claims after → AreQueuesOver Incoming all log claims queues →
    AreQueuesOver Incoming all (log ++ Fail tid ∷ []) after (marked Sysfail tid queues)
AreQueuesOver-Fail all log tid claims after queues change are =
    AreQueuesOver-marked Incoming all log (Fail tid) tid Sysfail claims after queues refl (record { marks = λ other before. refl })
    (λ destination name before. refl) change are

-- a Retry removes the mark of a unit of its direction
pub AreQueuesOver-Retry : (way : Way) (all : List AleUnit) (log : List Record) (tid : TidOf) (claims : TidOf → Option ℕ) (queues : QueuesOf)
    → AreQueuesOver way all log claims queues → AreQueuesOver way all (log ++ Retry way tid ∷ []) claims (retried tid queues)
AreQueuesOver-Retry Outgoing all log tid claims queues are =
    AreQueuesOver-retried Outgoing all log (Retry Outgoing tid) tid claims queues refl (record { marks = λ other before. refl })
    (λ destination name before. refl) are
AreQueuesOver-Retry Incoming all log tid claims queues are =
    AreQueuesOver-retried Incoming all log (Retry Incoming tid) tid claims queues refl (record { marks = λ other before. refl })
    (λ destination name before. refl) are

-- an Accept adds its unit to the inbound queues
pub AreQueuesOver-Accept : (all : List AleUnit) (log : List Record) (unit : AleUnit) (claims : TidOf → Option ℕ) (queues : QueuesOf)
    → IsNew Incoming log claims unit → AreQueuesOver Incoming all log claims queues
    → AreQueuesOver Incoming (all ++ unit ∷ []) (log ++ Accept unit ∷ []) claims (added unit.tid (keys_of Incoming unit) queues)
AreQueuesOver-Accept all log unit claims queues new are =
    let leaves : LeavesQueues Incoming (Accept unit) = record { none_through = refl; marks = λ tid before. refl; stops = λ destination name before. refl } in
    AreQueuesOver-added Incoming all (unit ∷ []) (log ++ Accept unit ∷ []) claims queues (new-then Incoming log (Accept unit) claims unit leaves new, tt)
    (AreQueuesOver-other Incoming all log (Accept unit) claims queues leaves are)

-- a Commit or a Dispatch adds the units that it commits to the outbound queues
pub AreQueuesOver-committed : (all more : List AleUnit) (log : List Record) (next : Record) (claims : TidOf → Option ℕ) (queues : QueuesOf)
    → LeavesQueues Outgoing next → AllByRecursion (IsNew Outgoing log claims) more → AreQueuesOver Outgoing all log claims queues
    → AreQueuesOver Outgoing (all ++ more) (log ++ next ∷ []) claims (added_all Outgoing more queues)
AreQueuesOver-committed all more log next claims queues leaves new are =
    AreQueuesOver-added Outgoing all more (log ++ next ∷ []) claims queues
    (AllByRecursion-weaker (IsNew Outgoing log claims) (IsNew Outgoing (log ++ next ∷ []) claims) more (λ unit. new-then Outgoing log next claims unit leaves)
    new)
    (AreQueuesOver-other Outgoing all log next claims queues leaves are)

-- every other record leaves them
pub is_silent-leaves : (way : Way) (next : Record) → is_silent way next ≡ true → LeavesQueues way next
is_silent-leaves Outgoing (Genesis number text) silent = record { none_through = refl; marks = λ t before. refl; stops = λ d n before. refl }
is_silent-leaves Outgoing (Commit origin docs) silent = record { none_through = refl; marks = λ t before. refl; stops = λ d n before. refl }
is_silent-leaves Outgoing Dispatch silent = record { none_through = refl; marks = λ t before. refl; stops = λ d n before. refl }
is_silent-leaves Outgoing (Mark tid cause) silent = absurd (cc)
is_silent-leaves Outgoing (Done tid) silent = absurd (cc)
is_silent-leaves Outgoing (Ended tid) silent = record { none_through = refl; marks = λ t before. refl; stops = λ d n before. refl }
is_silent-leaves Outgoing (Accept unit) silent = record { none_through = refl; marks = λ t before. refl; stops = λ d n before. refl }
is_silent-leaves Outgoing (Execute tid) silent = record { none_through = refl; marks = λ t before. refl; stops = λ d n before. refl }
is_silent-leaves Outgoing (Direct unit) silent = record { none_through = refl; marks = λ t before. refl; stops = λ d n before. refl }
is_silent-leaves Outgoing (Fail tid) silent = record { none_through = refl; marks = λ t before. refl; stops = λ d n before. refl }
is_silent-leaves Outgoing (Forget tid) silent = record { none_through = refl; marks = λ t before. refl; stops = λ d n before. refl }
is_silent-leaves Outgoing (Put kind key fields) silent = record { none_through = refl; marks = λ t before. refl; stops = λ d n before. refl }
is_silent-leaves Outgoing (App doc) silent = record { none_through = refl; marks = λ t before. refl; stops = λ d n before. refl }
is_silent-leaves Outgoing (Repost doc) silent = record { none_through = refl; marks = λ t before. refl; stops = λ d n before. refl }
is_silent-leaves Outgoing (Model text) silent = record { none_through = refl; marks = λ t before. refl; stops = λ d n before. refl }
is_silent-leaves Outgoing (Stop Outgoing destination name) silent = absurd (cc)
is_silent-leaves Outgoing (Stop Incoming destination name) silent = record { none_through = refl; marks = λ t before. refl; stops = λ d n before. refl }
is_silent-leaves Outgoing (Start Outgoing destination name) silent = absurd (cc)
is_silent-leaves Outgoing (Start Incoming destination name) silent = record { none_through = refl; marks = λ t before. refl; stops = λ d n before. refl }
is_silent-leaves Outgoing (Retry Outgoing tid) silent = absurd (cc)
is_silent-leaves Outgoing (Retry Incoming tid) silent = record { none_through = refl; marks = λ t before. refl; stops = λ d n before. refl }
is_silent-leaves Incoming (Genesis number text) silent = record { none_through = refl; marks = λ t before. refl; stops = λ d n before. refl }
is_silent-leaves Incoming (Commit origin docs) silent = record { none_through = refl; marks = λ t before. refl; stops = λ d n before. refl }
is_silent-leaves Incoming Dispatch silent = record { none_through = refl; marks = λ t before. refl; stops = λ d n before. refl }
is_silent-leaves Incoming (Mark tid cause) silent = record { none_through = refl; marks = λ t before. refl; stops = λ d n before. refl }
is_silent-leaves Incoming (Done tid) silent = record { none_through = refl; marks = λ t before. refl; stops = λ d n before. refl }
is_silent-leaves Incoming (Ended tid) silent = record { none_through = refl; marks = λ t before. refl; stops = λ d n before. refl }
is_silent-leaves Incoming (Accept unit) silent = record { none_through = refl; marks = λ t before. refl; stops = λ d n before. refl }
is_silent-leaves Incoming (Execute tid) silent = absurd (cc)
is_silent-leaves Incoming (Direct unit) silent = absurd (cc)
is_silent-leaves Incoming (Fail tid) silent = absurd (cc)
is_silent-leaves Incoming (Forget tid) silent = record { none_through = refl; marks = λ t before. refl; stops = λ d n before. refl }
is_silent-leaves Incoming (Put kind key fields) silent = record { none_through = refl; marks = λ t before. refl; stops = λ d n before. refl }
is_silent-leaves Incoming (App doc) silent = record { none_through = refl; marks = λ t before. refl; stops = λ d n before. refl }
is_silent-leaves Incoming (Repost doc) silent = record { none_through = refl; marks = λ t before. refl; stops = λ d n before. refl }
is_silent-leaves Incoming (Model text) silent = record { none_through = refl; marks = λ t before. refl; stops = λ d n before. refl }
is_silent-leaves Incoming (Stop Incoming destination name) silent = absurd (cc)
is_silent-leaves Incoming (Stop Outgoing destination name) silent = record { none_through = refl; marks = λ t before. refl; stops = λ d n before. refl }
is_silent-leaves Incoming (Start Incoming destination name) silent = absurd (cc)
is_silent-leaves Incoming (Start Outgoing destination name) silent = record { none_through = refl; marks = λ t before. refl; stops = λ d n before. refl }
is_silent-leaves Incoming (Retry Incoming tid) silent = absurd (cc)
is_silent-leaves Incoming (Retry Outgoing tid) silent = record { none_through = refl; marks = λ t before. refl; stops = λ d n before. refl }
