-- Legal logs, one record longer, and the records that may join them.
use Rattle.std.specs.Prelude.{Contains, is_some, slice_index_or}
use Rattle.std.specs.List.{cons_option}
use Rattle.std.proofs.lemmas.List.Elements.{filter_map-append}
use Rattle.std.proofs.Common.{◌≡◌, ◌≢◌, ℕ, zero, suc, ◌+◌, ◌<◌, Bool, true, false, not, cond, ◌&&◌, Option, Some, None, List, [], ◌∷◌, ◌++◌, length, get_or}
use Rattle.std.proofs.Common.{take, inl, inr, refl, sym, ap, subst, ◌∙◌, arith, append_assoc}
use Rattle.std.proofs.lemmas.Bool.{cases_Bool, both_ways, and_parts, and_from, or_from, not-true, not_from_false}
use Rattle.std.proofs.lemmas.List.{append-nil, take_more}
use Rattle.std.proofs.lemmas.List.Sums.{fold-append}
use Rattle.std.proofs.lemmas.Option.{same_Some, none-some}
use Rattle.ale_base.specs.Tid.{TidOf, is_tid}
use Rattle.ale_base.specs.declared.mark.Mark.{Mark as Cause}
use Rattle.ale_base.specs.declared.way.Way.{Way}
use Rattle.ale_base.specs.declared.way.Way.TheVariants.{Outgoing, Incoming}
use Rattle.unit_core.specs.declared.ale_unit.AleUnit.{AleUnit}
use Rattle.unit_core.specs.declared.records.Record.{Record}
use Rattle.unit_core.specs.declared.records.Record.TheVariants.{Genesis, Commit, Dispatch, Done, Ended, Accept, Execute, Direct, Forget, Stop, Start, Retry}
use Rattle.unit_core.specs.declared.records.Record.TheVariants.{Put, App, Repost, Model}
use Rattle.unit_core.specs.Filters.{taken_by, executed_by, done_by, ended_by, forgotten_by, received, executed, done_in, mark_after, mark_of, is_marked}
use Rattle.unit_core.specs.Queues.{is_listed, is_outstanding, unit_named, tids_of, heads_outbound, heads_inbound}
use Rattle.ale_base.specs.Prefix.{IsPrefix}
use Rattle.unit_core.specs.Once.{NoneTwice}
use Rattle.ale_base.proofs.MemberLemmas.{find-longer}
use Rattle.unit_core.proofs.TidLemmas.{is_tid-other, is_listed-one, is_listed-append, unit_named-Some}
use Rattle.unit_core.proofs.QueueLemmas.{heads_outbound-keeps, heads_inbound-keeps}
use Rattle.unit_core.proofs.InsideLemmas.{MayExecute}
use Rattle.unit_core.proofs.OnceLemmas.{MayTake, MayJoin, WasTaken, WasForgotten}
use Rattle.trfc_protocol.specs.Meaning.{Meaning}
use Rattle.trfc_protocol.specs.Legal.{is_free, is_free_outbound, is_free_inbound, may_follow, may_follow_others, AllFollow, IsLegal, is_commit, is_operators}
use Rattle.trfc_protocol.specs.Legal.{is_model, may_change_offers, IsUnitAt, IsLawful}

-- a legal log goes on by a record that may follow it
AllFollow-push : (rules : Meaning) (system : ℕ) (before log : List Record) (next : Record) → AllFollow rules system before log
    → may_follow rules system (before ++ log) next ≡ true → AllFollow rules system before (log ++ next ∷ [])
AllFollow-push rules system before [] next all may = (subst (λ l. may_follow rules system l next ≡ true) (append-nil before) may, tt)
AllFollow-push rules system before (x ∷ xs) next all may = (
  all.0,
  AllFollow-push rules system (before ++ x ∷ []) xs next all.1
      (subst (λ l. may_follow rules system l next ≡ true) (sym (append_assoc before (x ∷ []) xs)) may),
)

-- a legal log stays so with a record that may follow it
pub IsLegal-push : (rules : Meaning) (system : ℕ) (log : List Record) (next : Record) → IsLegal rules system log → may_follow rules system log next ≡ true
    → IsLegal rules system (log ++ next ∷ [])
IsLegal-push rules system log next legal may = AllFollow-push rules system [] log next legal may

-- the last record of a legal log may follow those before it
pub last_follows : (rules : Meaning) (system : ℕ) (log : List Record) (next : Record) → IsLegal rules system (log ++ next ∷ [])
    → may_follow rules system log next ≡ true
last_follows rules system log next legal = behind [] log legal
  where
    behind : (before log : List Record) → AllFollow rules system before (log ++ next ∷ []) → may_follow rules system (before ++ log) next ≡ true
    behind before [] all = subst (λ l. may_follow rules system l next ≡ true) (sym (append-nil before)) all.0
    behind before (x ∷ xs) all =
        subst (λ l. may_follow rules system l next ≡ true) (append_assoc before (x ∷ []) xs) (behind (before ++ x ∷ []) xs all.1)

-- each record of a legal log may follow those before it
pub follows-at : (rules : Meaning) (system : ℕ) (log : List Record) (k : ℕ) (d : Record) → IsLegal rules system log → k < length log
    → may_follow rules system (take k log) (get_or log k d) ≡ true
follows-at rules system log k d legal within = behind [] log k legal within
  where
    behind : (before log : List Record) (k : ℕ) → AllFollow rules system before log → k < length log
        → may_follow rules system (before ++ take k log) (get_or log k d) ≡ true
    behind before [] k all within = absurd (omega arith)
    behind before (x ∷ xs) zero all within = subst (λ l. may_follow rules system l x ≡ true) (sym (append-nil before)) all.0
    behind before (x ∷ xs) (suc k) all within =
        subst (λ l. may_follow rules system l (get_or xs k d) ≡ true) (append_assoc before (x ∷ []) (take k xs))
        (behind (before ++ x ∷ []) xs k all.1 (omega arith))

-- what a scan tells of one record: a legal log has none that may not follow, and the records so far are legal with one that may
pub legal_refutes : (rules : Meaning) (system : ℕ) (log : List Record) (k : ℕ) (next : Record) (may : Bool) → k < length log → next ≡ get_or log k next
    → may ≡ may_follow rules system (take k log) next → may ≡ false → IsLegal rules system log → ⊥
legal_refutes rules system log k next may within is told refuses legal =
    both_ways may refuses (told ∙ ap (may_follow rules system (take k log)) is ∙ follows-at rules system log k next legal within)

pub legal_so_far : (rules : Meaning) (system : ℕ) (log : List Record) (k : ℕ) (next : Record) (may : Bool) → k < length log → next ≡ get_or log k next
    → may ≡ may_follow rules system (take k log) next → may ≡ true → IsLegal rules system (take k log) → IsLegal rules system (take (k + 1) log)
legal_so_far rules system log k next may within is told allows legal =
    subst (IsLegal rules system) (sym (take_more log k next within))
    (IsLegal-push rules system (take k log) (get_or log k next) legal (ap (may_follow rules system (take k log)) (sym is) ∙ sym told ∙ allows))

-- a log that is begun goes on by the rules for all records but the first
pub may_follow-others : (rules : Meaning) (system : ℕ) (log : List Record) (next : Record) → log ≢ [] → may_follow_others rules system log next ≡ true
    → may_follow rules system log next ≡ true
may_follow-others rules system [] next begun may = absurd (begun refl)
may_follow-others rules system (x ∷ xs) next begun may = may

-- ---- the units of a legal log

not_listed : (tid : TidOf) (units : List AleUnit) → ((j : ℕ) (d : AleUnit) → j < length units → (slice_index_or units j d).tid ≢ tid)
    → is_listed tid (tids_of units) ≡ false
not_listed tid [] differ = refl
not_listed tid (u ∷ us) differ =
    or_from (is_tid u.tid tid) (is_listed tid (tids_of us)) (is_tid-other u.tid tid (differ 0 u (omega arith)))
    (not_listed tid us (λ j d within. differ (suc j) d (omega arith)))

numbered_from : (system k : ℕ) (units : List AleUnit)
    → ((j : ℕ) (d : AleUnit) → j < length units → (slice_index_or units j d).tid ≡ record { system = system; unit = k + j + 1 }) → NoneTwice (tids_of units)
numbered_from system k [] at = tt
numbered_from system k (u ∷ us) at = (
  not_listed u.tid us (λ j d within same.
      let first : u.tid.unit ≡ k + 0 + 1 = ap (λ (t : TidOf). t.unit) (at 0 u (omega arith)) in
      let there : (slice_index_or us j d).tid.unit ≡ k + suc j + 1 = ap (λ (t : TidOf). t.unit) (at (suc j) d (omega arith)) in
      let equal : (slice_index_or us j d).tid.unit ≡ u.tid.unit = ap (λ (t : TidOf). t.unit) same in
      omega arith),
  numbered_from system (k + 1) us (λ j d within.
      let moved : k + suc j + 1 ≡ k + 1 + j + 1 = omega arith in
      at (suc j) d (omega arith) ∙ ap (λ (n : ℕ). record { system = system; unit = n }) moved),
)

module _ (rules : Meaning) (lawful : IsLawful rules) (system : ℕ) (log : List Record) (legal : IsLegal rules system log) where
  -- their ids differ
  pub committed-NoneTwice : NoneTwice (tids_of (rules.committed system log))
  committed-NoneTwice =
      numbered_from system 0 (rules.committed system log) (λ j d within.
      let from_none : j + 1 ≡ 0 + j + 1 = omega arith in
      (lawful.numbered system log legal j d within).tid ∙ ap (λ (n : ℕ). record { system = system; unit = n }) from_none)

  -- each has a place
  pub committed-at : (unit : AleUnit) → Contains (rules.committed system log) unit → (k : ℕ) × IsUnitAt rules.systems system k unit
  committed-at unit has = (has.0, subst (IsUnitAt rules.systems system has.0) has.2 (lawful.numbered system log legal has.0 unit has.1))

  -- a record that may follow leaves those before it
  pub committed-grows : (next : Record) → may_follow rules system log next ≡ true
      → IsPrefix (rules.committed system log) (rules.committed system (log ++ next ∷ []))
  committed-grows next may =
      elim (cases_Bool (is_commit next)) [
        | inl commits ↦ lawful.commits system log next (record { legal = legal; may = may }) commits
        | inr other ↦ ([], append-nil (rules.committed system log) ∙ sym (lawful.commits_nothing system log next other))
      ]

-- a log that a record joined is not empty
pub push_not_empty : {A : Type 0} (xs : List A) (x : A) → xs ++ x ∷ [] ≢ []
push_not_empty [] x same = cc
push_not_empty (y ∷ ys) x same = cc

-- a Genesis follows no record, so a record that does and is no Model says nothing of the model
pub offers_kept : (rules : Meaning) (system : ℕ) (log : List Record) (next : Record) → log ≢ [] → may_follow rules system log next ≡ true
    → is_model next ≡ false → may_change_offers next ≡ false
offers_kept rules system [] next begun may other = absurd (begun refl)
offers_kept rules system (x ∷ xs) (Genesis number text) begun may other = cc
offers_kept rules system (x ∷ xs) (Model text) begun may other = cc
offers_kept rules system (x ∷ xs) _ begun may other = refl

-- ---- a unit that may go on

-- what is known of a unit that may go on
pub is_free-parts : (through : List TidOf) (marked : Bool) (heads : AleUnit → Bool) (found : Option AleUnit) → is_free through marked heads found ≡ true
    → (unit : AleUnit) × (found ≡ Some unit) × (is_listed unit.tid through ≡ false) × (marked ≡ false) × (heads unit ≡ true)
is_free-parts through marked heads None free = cc
is_free-parts through marked heads (Some unit) free =
    let parts = and_parts (is_outstanding through unit && not marked) (heads unit) free in
    let more = and_parts (is_outstanding through unit) (not marked) parts.0 in
    (unit, refl, not-true (is_listed unit.tid through) more.0, not-true marked more.1, parts.1)

-- a unit may go on where all of this is known of it
pub is_free-from : (through : List TidOf) (marked : Bool) (heads : AleUnit → Bool) (found : Option AleUnit) (unit : AleUnit) → found ≡ Some unit
    → is_listed unit.tid through ≡ false → marked ≡ false → heads unit ≡ true → is_free through marked heads found ≡ true
is_free-from through marked heads found unit same open_ unmarked head =
    ap (is_free through marked heads) same
    ∙ and_from (is_outstanding through unit && not marked) (heads unit)
    (and_from (is_outstanding through unit) (not marked) (not_from_false (is_listed unit.tid through) open_) (not_from_false marked unmarked)) head

unmarked : (mark : Option Cause) → is_some mark ≡ false → mark ≡ None
unmarked None is = refl
unmarked (Some cause) is = cc

-- a unit stays unmarked with a record that does not mark it
pub is_marked-push : (way : Way) (tid : TidOf) (log : List Record) (next : Record) → is_marked way tid log ≡ false → mark_after way tid None next ≡ None
    → is_marked way tid (log ++ next ∷ []) ≡ false
is_marked-push way tid log next before stays =
    let none : mark_of way tid log ≡ None = unmarked (mark_of way tid log) before in
    ap is_some (fold-append (mark_after way tid) None log (next ∷ []) ∙ ap (λ mark. mark_after way tid mark next) none ∙ stays)

-- an id is not in the list of an option that is another one or none
pub option_misses : (tid : TidOf) (found : Option TidOf) → ((t : TidOf) → found ≡ Some t → t ≢ tid) → is_listed tid (cons_option found []) ≡ false
option_misses tid None differs = refl
option_misses tid (Some t) differs = is_listed-one tid t (differs t refl)

-- a unit may be sent still, where the record is not its own
pub is_free_outbound-keeps : (committed more : List AleUnit) (log : List Record) (next : Record) (tid : TidOf) → is_free_outbound committed log tid ≡ true
    → ((t : TidOf) → done_by next ≡ Some t → t ≢ tid) → mark_after Outgoing tid None next ≡ None
    → is_free_outbound (committed ++ more) (log ++ next ∷ []) tid ≡ true
is_free_outbound-keeps committed more log next tid free differs stays =
    let is = is_free-parts (done_in log) (is_marked Outgoing tid log) (heads_outbound (done_in log) committed) (unit_named tid committed) free in
    let unit : AleUnit = is.0 in
    let its : unit.tid ≡ tid = (unit_named-Some tid committed unit is.1).1 in
    let other : is_listed unit.tid (cons_option (done_by next) []) ≡ false = subst (λ t. is_listed t (cons_option (done_by next) []) ≡ false) (sym its)
    (option_misses tid (done_by next) differs) in
    let done : done_in (log ++ next ∷ []) ≡ done_in log ++ cons_option (done_by next) [] = filter_map-append done_by log (next ∷ []) in
    is_free-from (done_in (log ++ next ∷ [])) (is_marked Outgoing tid (log ++ next ∷ [])) (heads_outbound (done_in (log ++ next ∷ [])) (committed ++ more))
    (unit_named tid (committed ++ more)) unit
    (find-longer (λ u. is_tid u.tid tid) committed more unit is.1)
    (subst (λ tids. is_listed unit.tid tids ≡ false) (sym done) (is_listed-append unit.tid (done_in log) (cons_option (done_by next) []) is.2 other))
    (is_marked-push Outgoing tid log next is.3 stays)
    (subst (λ tids. heads_outbound tids (committed ++ more) unit ≡ true) (sym done)
    (heads_outbound-keeps (done_in log) (cons_option (done_by next) []) committed more unit other is.4))

-- a unit may be executed still, where the record is not its own
pub is_free_inbound-keeps : (log : List Record) (next : Record) (tid : TidOf) → is_free_inbound log tid ≡ true
    → ((t : TidOf) → executed_by next ≡ Some t → t ≢ tid) → mark_after Incoming tid None next ≡ None → is_free_inbound (log ++ next ∷ []) tid ≡ true
is_free_inbound-keeps log next tid free differs stays =
    let is = is_free-parts (executed log) (is_marked Incoming tid log) (heads_inbound (executed log) (received log)) (unit_named tid (received log)) free in
    let unit : AleUnit = is.0 in
    let its : unit.tid ≡ tid = (unit_named-Some tid (received log) unit is.1).1 in
    let other : is_listed unit.tid (cons_option (executed_by next) []) ≡ false = subst (λ t. is_listed t (cons_option (executed_by next) []) ≡ false)
    (sym its) (option_misses tid (executed_by next) differs) in
    let done : executed (log ++ next ∷ []) ≡ executed log ++ cons_option (executed_by next) [] = filter_map-append executed_by log (next ∷ []) in
    let units : received (log ++ next ∷ []) ≡ received log ++ cons_option (taken_by next) [] = filter_map-append taken_by log (next ∷ []) in
    is_free-from (executed (log ++ next ∷ [])) (is_marked Incoming tid (log ++ next ∷ []))
    (heads_inbound (executed (log ++ next ∷ [])) (received (log ++ next ∷ []))) (unit_named tid (received (log ++ next ∷ []))) unit
    (ap (unit_named tid) units ∙ find-longer (λ u. is_tid u.tid tid) (received log) (cons_option (taken_by next) []) unit is.1)
    (subst (λ tids. is_listed unit.tid tids ≡ false) (sym done) (is_listed-append unit.tid (executed log) (cons_option (executed_by next) []) is.2 other))
    (is_marked-push Incoming tid log next is.3 stays)
    (subst (λ tids. heads_inbound tids (received (log ++ next ∷ [])) unit ≡ true) (sym done)
    (subst (λ us. heads_inbound (executed log ++ cons_option (executed_by next) []) us unit ≡ true) (sym units)
    (heads_inbound-keeps (executed log) (cons_option (executed_by next) []) (received log) (cons_option (taken_by next) []) unit other is.4)))

-- ---- records that may join

-- a record that takes in, executes, finishes, forgets and ends nothing, and marks nothing
pub record IsPlain (next : Record) : Type 0 where
  pub takes : taken_by next ≡ None
  pub executes : executed_by next ≡ None
  pub finishes : done_by next ≡ None
  pub forgets : forgotten_by next ≡ None
  pub ends : ended_by next ≡ None
  pub marks : (way : Way) (tid : TidOf) → mark_after way tid None next ≡ None

retried : (way to : Way) (t tid : TidOf) → mark_after way tid None (Retry to t) ≡ None
retried Outgoing Outgoing t tid = cond_same (is_tid t tid)
  where
    cond_same : (b : Bool) → cond {A = Option Cause} b None None ≡ None
    cond_same true = refl
    cond_same false = refl
retried Incoming Incoming t tid = cond_same (is_tid t tid)
  where
    cond_same : (b : Bool) → cond {A = Option Cause} b None None ≡ None
    cond_same true = refl
    cond_same false = refl
retried Outgoing Incoming t tid = refl
retried Incoming Outgoing t tid = refl

nothing_marked : (next : Record) → ((way : Way) (tid : TidOf) → mark_after way tid None next ≡ None) → taken_by next ≡ None → executed_by next ≡ None
    → done_by next ≡ None
    → forgotten_by next ≡ None → ended_by next ≡ None → IsPlain next
nothing_marked next marks takes executes finishes forgets ends = record
    { takes = takes; executes = executes; finishes = finishes; forgets = forgets; ends = ends; marks = marks }

-- a record that commits is plain
pub IsPlain-commit : (next : Record) → is_commit next ≡ true → IsPlain next
IsPlain-commit (Commit origin docs) is = nothing_marked (Commit origin docs) (elim [ Outgoing ↦ λ tid. refl | Incoming ↦ λ tid. refl ]) refl refl refl refl refl
IsPlain-commit Dispatch is = nothing_marked Dispatch (elim [ Outgoing ↦ λ tid. refl | Incoming ↦ λ tid. refl ]) refl refl refl refl refl
IsPlain-commit _ is = cc

-- a record of an operator or of the application is plain
pub IsPlain-operators : (next : Record) → is_operators next ≡ true → IsPlain next
IsPlain-operators (Stop way destination name) is = nothing_marked (Stop way destination name)
    (elim [ Outgoing ↦ λ tid. refl | Incoming ↦ λ tid. refl ]) refl refl refl refl refl
IsPlain-operators (Start way destination name) is = nothing_marked (Start way destination name)
    (elim [ Outgoing ↦ λ tid. refl | Incoming ↦ λ tid. refl ]) refl refl refl refl refl
IsPlain-operators (Retry way t) is = nothing_marked (Retry way t) (λ w tid. retried w way t tid) refl refl refl refl refl
IsPlain-operators (Put kind key fields) is = nothing_marked (Put kind key fields)
    (elim [ Outgoing ↦ λ tid. refl | Incoming ↦ λ tid. refl ]) refl refl refl refl refl
IsPlain-operators (App doc) is = nothing_marked (App doc) (elim [ Outgoing ↦ λ tid. refl | Incoming ↦ λ tid. refl ]) refl refl refl refl refl
IsPlain-operators (Repost doc) is = nothing_marked (Repost doc) (elim [ Outgoing ↦ λ tid. refl | Incoming ↦ λ tid. refl ]) refl refl refl refl refl
IsPlain-operators (Model text) is = nothing_marked (Model text) (elim [ Outgoing ↦ λ tid. refl | Incoming ↦ λ tid. refl ]) refl refl refl refl refl
IsPlain-operators _ is = cc

module _ (committed : ℕ → List AleUnit) (logs : ℕ → List Record) (system : ℕ) where
  -- a record that takes in, executes, finishes, forgets and ends nothing may join
  pub MayJoin-plain : (next : Record) → taken_by next ≡ None → executed_by next ≡ None → done_by next ≡ None → forgotten_by next ≡ None → ended_by next ≡ None
      → MayJoin committed logs system next
  MayJoin-plain next takes executes finishes forgets ends = record {
    takes = λ unit same. absurd (none-some unit (sym takes ∙ same));
    executes = λ tid same. absurd (none-some tid (sym executes ∙ same));
    runs = λ unit same. absurd (none-some unit (sym takes ∙ same));
    finishes = λ tid same. absurd (none-some tid (sym finishes ∙ same));
    forgets = λ tid same. absurd (none-some tid (sym forgets ∙ same));
    ends = λ tid same. absurd (none-some tid (sym ends ∙ same));
  }

  -- an Accept may join where its unit may be taken in
  pub MayJoin-accept : (unit : AleUnit) → MayTake committed logs system unit → MayJoin committed logs system (Accept unit)
  MayJoin-accept unit take = record {
    takes = λ u same. subst (MayTake committed logs system) (same_Some unit u same) take;
    executes = λ tid same. absurd (none-some tid same);
    runs = λ u same. inl refl;
    finishes = λ tid same. absurd (none-some tid same);
    forgets = λ tid same. absurd (none-some tid same);
    ends = λ tid same. absurd (none-some tid same);
  }

  -- a Direct may join where its unit may be taken in and has no inbound queue
  pub MayJoin-direct : (unit : AleUnit) → MayTake committed logs system unit → unit.inq ≡ [] → MayJoin committed logs system (Direct unit)
  MayJoin-direct unit take direct = record {
    takes = λ u same. subst (MayTake committed logs system) (same_Some unit u same) take;
    executes = λ tid same. inr (record { unit = unit; taken = refl; its_tid = same_Some unit.tid tid same; direct = direct });
    runs = λ u same. let is = same_Some unit u same in inr (ap (λ (v : AleUnit). Some v.tid) is, subst (λ (v : AleUnit). v.inq ≡ []) is direct);
    finishes = λ tid same. absurd (none-some tid same);
    forgets = λ tid same. absurd (none-some tid same);
    ends = λ tid same. absurd (none-some tid same);
  }

  -- an Execute may join where its unit may be executed
  pub MayJoin-execute : (tid : TidOf) → MayExecute (logs system) tid → MayJoin committed logs system (Execute tid)
  MayJoin-execute tid execute = record {
    takes = λ u same. absurd (none-some u same);
    executes = λ t same. inl (refl, subst (MayExecute (logs system)) (same_Some tid t same) execute);
    runs = λ u same. absurd (none-some u same);
    finishes = λ t same. absurd (none-some t same);
    forgets = λ t same. absurd (none-some t same);
    ends = λ t same. absurd (none-some t same);
  }

  -- a Done may join where its unit was received
  pub MayJoin-done : (tid : TidOf) → WasTaken committed logs system tid → MayJoin committed logs system (Done tid)
  MayJoin-done tid was = record {
    takes = λ u same. absurd (none-some u same);
    executes = λ t same. absurd (none-some t same);
    runs = λ u same. absurd (none-some u same);
    finishes = λ t same. subst (WasTaken committed logs system) (same_Some tid t same) was;
    forgets = λ t same. absurd (none-some t same);
    ends = λ t same. absurd (none-some t same);
  }

  -- a Forget may join where its unit is done
  pub MayJoin-forget : (tid : TidOf) → Contains (done_in (logs tid.system)) tid → MayJoin committed logs system (Forget tid)
  MayJoin-forget tid done = record {
    takes = λ u same. absurd (none-some u same);
    executes = λ t same. absurd (none-some t same);
    runs = λ u same. absurd (none-some u same);
    finishes = λ t same. absurd (none-some t same);
    forgets = λ t same. subst (λ (s : TidOf). Contains (done_in (logs s.system)) s) (same_Some tid t same) done;
    ends = λ t same. absurd (none-some t same);
  }

  -- an Ended may join where its unit was forgotten
  pub MayJoin-ended : (tid : TidOf) → WasForgotten committed logs system tid → MayJoin committed logs system (Ended tid)
  MayJoin-ended tid was = record {
    takes = λ u same. absurd (none-some u same);
    executes = λ t same. absurd (none-some t same);
    runs = λ u same. absurd (none-some u same);
    finishes = λ t same. absurd (none-some t same);
    forgets = λ t same. absurd (none-some t same);
    ends = λ t same. subst (WasForgotten committed logs system) (same_Some tid t same) was;
  }
