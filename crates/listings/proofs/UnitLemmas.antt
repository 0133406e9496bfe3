-- What the tables of a system tell of its units is what its log says of them.
use Rattle.std.specs.Prelude.{Contains, is_some, not, slice_get}
use Rattle.std.specs.List.{cons_option}
use Rattle.std.specs.Option.{option_and_then, option_map, option_map_or}
use Rattle.std.proofs.Common.{◌≡◌, ℕ, zero, suc, ◌≤◌, ◌-◌, ◌==◌, Bool, true, false, ◌&&◌, ◌||◌, cond, if◌then◌else◌, Option}
use Rattle.std.proofs.Common.{Some, None, List, [], ◌∷◌, ◌++◌, length, map, drop, refl, sym, ap, subst, ◌∙◌, append_assoc, arith}
use Rattle.std.proofs.lemmas.Bool.{cond-false, ne_eqb}
use Rattle.std.proofs.lemmas.List.{append-nil}
use Rattle.ale_base.specs.Tid.{TidOf, is_tid}
use Rattle.ale_base.specs.declared.mark.Mark.{Mark}
use Rattle.ale_base.specs.declared.way.Way.{Way}
use Rattle.ale_base.specs.declared.way.Way.TheVariants.{Outgoing, Incoming}
use Rattle.ale_base.proofs.MemberLemmas.{Contains-here, Contains-map_back, Contains-there}
use Rattle.idoc_tree.proofs.NodeLemmas.{drop-past}
use Rattle.unit_core.specs.declared.ale_unit.AleUnit.{AleUnit}
use Rattle.unit_core.specs.declared.records.Record.{Record}
use Rattle.unit_core.specs.Filters.{done_in, ended_in, executed, forgotten_in, mark_of, received}
use Rattle.unit_core.specs.Queues.{is_among, is_listed, is_outstanding, tids_of, unit_named}
use Rattle.unit_core.proofs.TidLemmas.{is_among-Contains, unit_named-Some}
use Rattle.plain_queues.specs.Queues.{mark_on, unit_of}
use Rattle.plain_queues.specs.LogQueues.{through, units_of}
use Rattle.status_log.specs.declared.line.UnitLine.{UnitLine}
use Rattle.status_log.specs.declared.line.UnitState.{UnitState}
use Rattle.status_log.specs.declared.line.UnitState.TheVariants as state
use Rattle.said_models.specs.OfLog.{model_of}
use Rattle.document_state.specs.declared.document_tables.DocumentTables.{DocumentTables}
use Rattle.document_state.specs.Tables.{AreTablesOf as AreDocumentsOf}
use Rattle.system_tables.specs.Tables.{TablesOf, queues_of, unit_numbered}
use Rattle.system_tables.proofs.AskingLemmas.{mark-tables, outstanding-tables}
use Rattle.listings.specs.OfSystem.{AreSystemOf}
use Rattle.listings.specs.SystemNames.{name_under}
use Rattle.listings.specs.UnitLines.{arrived_state, arrived_unit, sent_state, sent_unit, unit_lines, waiting_as}
use Rattle.listings.proofs.LineLemmas.{cons-split}
use Rattle.listings.specs.steps.Kept.{arrived_kept, arrived_kept_line, sent_kept, sent_kept_line}

-- two functions that agree on the elements of a list map it alike
map-agree : {A B : Type 0} (f g : A → B) (xs : List A) → ((x : A) → Contains xs x → f x ≡ g x) → map f xs ≡ map g xs
map-agree f g [] agree = refl
map-agree f g (x ∷ xs) agree =
    ap (λ y. y ∷ map f xs) (agree x (Contains-here x xs))
    ∙ ap (λ ys. g x ∷ ys) (map-agree f g xs (λ y has. agree y (Contains-there x xs y has)))

-- a unit of an id that is there is found
named-among : (tid : TidOf) (all : List AleUnit) → is_among tid all ≡ true → (unit : AleUnit) × (unit_named tid all ≡ Some unit)
named-among tid [] among = absurd (cc)
named-among tid (first ∷ all) among = by_test (is_tid first.tid tid) (λ later. named-among tid all later) among
  where
    by_test : (b : Bool) → (is_among tid all ≡ true → (unit : AleUnit) × (unit_named tid all ≡ Some unit)) → (b || is_among tid all) ≡ true
        → (unit : AleUnit) × (cond b (Some first) (unit_named tid all) ≡ Some unit)
    by_test true later among = (first, refl)
    by_test false later among = later among

-- a state by what the tables answer, where that is what the log says
sent-by : (log : List Record) (tid : TidOf) (done ended open_ unconfirmed : Bool) (kept mark : Option Mark)
    → open_ ≡ not done → unconfirmed ≡ (done && not ended) → kept ≡ cond (not done) mark None
    → (if open_ then waiting_as state.Unsent kept else (if unconfirmed then state.Done else state.Ended))
    ≡ (if done then (if ended then state.Ended else state.Done) else waiting_as state.Unsent mark)
sent-by log tid true true open_ unconfirmed kept mark is_open is_unconfirmed is_kept = rw (is_open, is_unconfirmed) refl
sent-by log tid true false open_ unconfirmed kept mark is_open is_unconfirmed is_kept = rw (is_open, is_unconfirmed) refl
sent-by log tid false ended open_ unconfirmed kept mark is_open is_unconfirmed is_kept = rw (is_open, is_kept) refl

arrived-by : (executed open_ : Bool) (kept mark : Option Mark) → open_ ≡ not executed → kept ≡ cond (not executed) mark None
    → (if open_ then waiting_as state.Accepted kept else state.Executed) ≡ (if executed then state.Executed else waiting_as state.Accepted mark)
arrived-by true open_ kept mark is_open is_kept = rw is_open refl
arrived-by false open_ kept mark is_open is_kept = rw (is_open, is_kept) refl

forgotten-by : (forgotten among seen : Bool) → seen ≡ (among && not forgotten) → among ≡ true → not seen ≡ forgotten
forgotten-by true among seen is among_is = rw (is, among_is) refl
forgotten-by false among seen is among_is = rw (is, among_is) refl

module _ (committed : List AleUnit) (log : List Record) (sent arrived : TidOf → Option ℕ) (tables : TablesOf DocumentTables)
    (are : AreSystemOf committed log sent arrived tables) where
  module _ (way : Way) (tid : TidOf) (unit : AleUnit) (named : unit_named tid (units_of way committed log) ≡ Some unit) where
    own-tid : unit.tid ≡ tid
    own-tid = (unit_named-Some tid (units_of way committed log) unit named).1

    is-open : is_some (unit_of tid (queues_of way tables)) ≡ not (is_listed tid (through way log))
    is-open =
        outstanding-tables (λ documents records. AreDocumentsOf records documents) way committed log sent arrived tables tid are
        ∙ ap (λ (o : Option AleUnit). option_map_or (is_outstanding (through way log)) o false) named
        ∙ ap (λ (t : TidOf). not (is_listed t (through way log))) own-tid

    has-mark : mark_on tid (queues_of way tables) ≡ cond (not (is_listed tid (through way log))) (mark_of way tid log) None
    has-mark =
        mark-tables (λ documents records. AreDocumentsOf records documents) way committed log sent arrived tables tid are
        ∙ ap (λ (o : Option AleUnit). option_and_then (λ (u : AleUnit). cond (is_outstanding (through way log) u) (mark_of way u.tid log) None) o) named
        ∙ ap (λ (t : TidOf). cond (not (is_listed t (through way log))) (mark_of way t log) None) own-tid

  -- the state of a unit that the system committed
  sent-state : (tid : TidOf) (unit : AleUnit) → unit_named tid committed ≡ Some unit → sent_kept tables tid ≡ sent_state log tid
  sent-state tid unit named =
      sent-by log tid (is_listed tid (done_in log)) (is_listed tid (ended_in log)) (is_some (unit_of tid tables.outgoing)) (is_listed tid tables.unconfirmed)
      (mark_on tid tables.outgoing) (mark_of Outgoing tid log)
      (is-open Outgoing tid unit named) (are.unconfirmed.each tid) (has-mark Outgoing tid unit named)

  -- the state of a unit that it received
  arrived-state : (tid : TidOf) (unit : AleUnit) → unit_named tid (received log) ≡ Some unit → arrived_kept tables tid ≡ arrived_state log tid
  arrived-state tid unit named =
      arrived-by (is_listed tid (executed log)) (is_some (unit_of tid tables.incoming)) (mark_on tid tables.incoming) (mark_of Incoming tid log)
      (is-open Incoming tid unit named) (has-mark Incoming tid unit named)

  sent-line : (unit : AleUnit) → Contains committed unit → sent_kept_line tables log unit ≡ sent_unit log unit
  sent-line unit has =
      let found = named-among unit.tid committed (is_among-Contains unit committed has) in
      ap (λ (s : UnitState). record { way = Outgoing; tid = unit.tid; partner = name_under (model_of log) unit.receiver; state = s; forgotten = false })
      (sent-state unit.tid found.0 found.1)

  arrived-line : (tid : TidOf) → Contains (tids_of (received log)) tid → arrived_kept_line tables log tid ≡ arrived_unit log tid
  arrived-line tid has =
      let own = Contains-map_back (λ (u : AleUnit). u.tid) (received log) tid has in
      let among : is_among tid (received log) ≡ true =
      subst (λ (t : TidOf). is_among t (received log) ≡ true) own.2 (is_among-Contains own.0 (received log) own.1) in
      let found = named-among tid (received log) among in
      let line : UnitState → Bool → UnitLine =
      λ s f. record { way = Incoming; tid = tid; partner = name_under (model_of log) tid.system; state = s; forgotten = f } in
      ap (λ (s : UnitState). line s (not (is_listed tid tables.seen))) (arrived-state tid found.0 found.1)
      ∙ ap (line (arrived_state log tid))
      (forgotten-by (is_listed tid (forgotten_in log)) (is_among tid (received log)) (is_listed tid tables.seen) (are.seen.known tid) among)

  -- the lines of all units
  pub all-lines : map (sent_kept_line tables log) tables.units ++ map (arrived_kept_line tables log) tables.received ≡ unit_lines committed log
  all-lines =
      ap (λ (us : List AleUnit). map (sent_kept_line tables log) us ++ map (arrived_kept_line tables log) tables.received) are.units
      ∙ ap (λ (ts : List TidOf). map (sent_kept_line tables log) committed ++ map (arrived_kept_line tables log) ts) are.received
      ∙ ap (λ (ls : List UnitLine). ls ++ map (arrived_kept_line tables log) (tids_of (received log)))
      (map-agree (sent_kept_line tables log) (sent_unit log) committed sent-line)
      ∙ ap (λ (ls : List UnitLine). map (sent_unit log) committed ++ ls)
      (map-agree (arrived_kept_line tables log) (arrived_unit log) (tids_of (received log)) arrived-line)

-- the lines of units from one on begin with its own
mapped-drop : {A B : Type 0} (line : A → B) (place : ℕ) (all : List A)
    → map line (drop place all) ≡ cons_option (option_map line (slice_get all place)) (map line (drop (suc place) all))
mapped-drop line zero [] = refl
mapped-drop line (suc place) [] = refl
mapped-drop line zero (one ∷ all) = refl
mapped-drop line (suc place) (one ∷ all) = mapped-drop line place all

-- one more is listed
pub mapped-step : {A B : Type 0} (line : A → B) (place next : ℕ) (all : List A) (before after whole : List B) → next ≡ suc place
    → before ++ map line (drop place all) ≡ whole
    → after ≡ before ++ cons_option (option_map line (slice_get all place)) []
    → after ++ map line (drop next all) ≡ whole
mapped-step line place next all before after whole counted so_far is =
    ap (λ n. after ++ map line (drop n all)) counted
    ∙ ap (λ ls. ls ++ map line (drop (suc place) all)) is
    ∙ append_assoc before (cons_option (option_map line (slice_get all place)) []) (map line (drop (suc place) all))
    ∙ ap (λ ls. before ++ ls) (cons-split (option_map line (slice_get all place)) (map line (drop (suc place) all)) ∙ sym (mapped-drop line place all))
    ∙ so_far

-- all are listed
pub mapped-end : {A B : Type 0} (line : A → B) (place : ℕ) (all : List A) (before whole : List B) → length all ≤ place
    → before ++ map line (drop place all) ≡ whole → before ≡ whole
mapped-end line place all before whole past so_far =
    sym (append-nil before) ∙ ap (λ ds. before ++ map line ds) (sym (drop-past all place past)) ∙ so_far

-- the unit of a number, by its place
pub numbered-at : (place number : ℕ) (units : List AleUnit) → number ≡ suc place → unit_numbered number units ≡ slice_get units place
numbered-at place number units counted =
    ap (λ n. unit_numbered n units) counted
    ∙ cond-false (suc place == 0) None (slice_get units (suc place - 1)) (ne_eqb (suc place) 0 (λ same. omega arith))
    ∙ ap (slice_get units) (omega arith)
