-- What a legal log says of its units, by legality alone: one that is done was committed, one that is ended is done, one that is forgotten
-- or executed was received, and one that is marked is there.
use Rattle.std.specs.Prelude.{Contains}
use Rattle.std.specs.List.{filter_map}
use Rattle.std.proofs.Common.{◌≡◌, ℕ, Bool, true, false, not, cond, Option, Some, None, List, [], ◌∷◌, ◌++◌, inl, inr, ◌⊎◌, refl, sym, ap, subst, ◌∙◌}
use Rattle.std.proofs.Common.{append_assoc}
use Rattle.std.proofs.lemmas.Bool.{cases_Bool, both_ways, and_parts}
use Rattle.std.proofs.lemmas.List.{append-nil}
use Rattle.std.proofs.lemmas.List.Elements.{Contains-append_right}
use Rattle.std.proofs.lemmas.List.Sums.{fold_push}
use Rattle.std.proofs.lemmas.Option.{same_Some, none-some}
use Rattle.ale_base.specs.Tid.{TidOf, is_tid}
use Rattle.ale_base.specs.declared.mark.Mark.{Mark as Cause}
use Rattle.ale_base.specs.declared.mark.Mark.TheVariants.{Sysfail}
use Rattle.ale_base.specs.declared.way.Way.{Way}
use Rattle.ale_base.specs.declared.way.Way.TheVariants.{Outgoing, Incoming}
use Rattle.ale_base.specs.Prefix.{IsPrefix}
use Rattle.ale_base.proofs.OptionLemmas.{none_or_some}
use Rattle.ale_base.proofs.MemberLemmas.{Contains-here, filter_map-None, filter_map-Some}
use Rattle.ale_base.proofs.PrefixLemmas.{IsPrefix-Contains, IsPrefix-filter_map}
use Rattle.unit_core.specs.declared.ale_unit.AleUnit.{AleUnit}
use Rattle.unit_core.specs.declared.records.Record.{Record}
use Rattle.unit_core.specs.declared.records.Record.TheVariants.{Mark, Done, Ended, Execute, Direct, Fail, Forget, Retry}
use Rattle.unit_core.specs.Filters.{taken_by, executed_by, done_by, ended_by, forgotten_by, received, executed, done_in, ended_in, forgotten_in, mark_after}
use Rattle.unit_core.specs.Filters.{mark_of, is_marked}
use Rattle.unit_core.specs.Queues.{is_listed, is_among, unit_named, heads_outbound, heads_inbound}
use Rattle.unit_core.proofs.TidLemmas.{is_tid-true, is_tid-from, is_listed-append, is_listed-one, is_among-Contains, Contains-is_among, unit_named-Some}
use Rattle.unit_core.proofs.TidLemmas.{is_listed-Contains, Contains-is_listed}
use Rattle.trfc_protocol.specs.Meaning.{Meaning}
use Rattle.trfc_protocol.specs.Legal.{is_free_outbound, is_free_inbound, offers_received, may_follow, AllFollow, IsLegal, IsLawful}
use Rattle.trfc_protocol.proofs.LegalLemmas.{IsLegal-push, committed-grows, is_free-parts}

-- ---- units and ids

-- an id that is among units is so among more
pub is_among-grows : (tid : TidOf) (units more : List AleUnit) → IsPrefix units more → is_among tid units ≡ true → is_among tid more ≡ true
is_among-grows tid units more longer among =
    let found = Contains-is_among tid units among in
    subst (λ t. is_among t more ≡ true) found.2 (is_among-Contains found.0 more (IsPrefix-Contains units more found.0 longer found.1))

-- an id that names a unit is among them
pub is_among-named : (tid : TidOf) (units : List AleUnit) (unit : AleUnit) → unit_named tid units ≡ Some unit → is_among tid units ≡ true
is_among-named tid units unit named =
    let is = unit_named-Some tid units unit named in
    subst (λ t. is_among t units ≡ true) is.1 (is_among-Contains unit units is.0)

-- an id that is listed is so in a longer list
is_listed-grows : (tid : TidOf) (tids more : List TidOf) → IsPrefix tids more → is_listed tid tids ≡ true → is_listed tid more ≡ true
is_listed-grows tid tids more longer listed =
    is_listed-Contains tid more (IsPrefix-Contains tids more tid longer (Contains-is_listed tid tids listed))

-- a unit that may be sent was committed
pub free-committed : (committed : List AleUnit) (log : List Record) (tid : TidOf) → is_free_outbound committed log tid ≡ true → is_among tid committed ≡ true
free-committed committed log tid free =
    let is = is_free-parts (done_in log) (is_marked Outgoing tid log) (heads_outbound (done_in log) committed) (unit_named tid committed) free in
    is_among-named tid committed is.0 is.1

-- a unit that may be executed was received
pub free-received : (log : List Record) (tid : TidOf) → is_free_inbound log tid ≡ true → is_among tid (received log) ≡ true
free-received log tid free =
    let is = is_free-parts (executed log) (is_marked Incoming tid log) (heads_inbound (executed log) (received log)) (unit_named tid (received log)) free in
    is_among-named tid (received log) is.0 is.1

-- ---- along a legal log

module _ (rules : Meaning) (system : ℕ) where
  abbrev Stays : (List Record → Type 0) → Type 0
  Stays P = (log : List Record) (next : Record) → IsLegal rules system log → may_follow rules system log next ≡ true → P log → P (log ++ next ∷ [])

  along-on : (P : List Record → Type 0) → Stays P → (before log : List Record) → IsLegal rules system before → AllFollow rules system before log → P before
      → P (before ++ log)
  along-on P stays before [] legal all is = subst P (sym (append-nil before)) is
  along-on P stays before (next ∷ log) legal all is =
      subst P (append_assoc before (next ∷ []) log)
      (along-on P stays (before ++ next ∷ []) log (IsLegal-push rules system before next legal all.0) all.1 (stays before next legal all.0 is))

  -- what holds of no records, and stays with each record that may follow, holds of a legal log
  pub along : (P : List Record → Type 0) → P [] → Stays P → (log : List Record) → IsLegal rules system log → P log
  along P first stays log legal = along-on P stays [] log tt legal first

  -- what a legal log lists of ids is so, where each record that lists one brings it about and each record leaves it
  pub listed-along : (by : Record → Option TidOf) (tid : TidOf) (so : List Record → Bool) → Stays (λ log. so log ≡ true)
      → ((log : List Record) (next : Record) → may_follow rules system log next ≡ true → by next ≡ Some tid → so (log ++ next ∷ []) ≡ true)
      → (log : List Record) → IsLegal rules system log → is_listed tid (filter_map by log) ≡ true → so log ≡ true
  listed-along by tid so stays brings log legal =
      along (λ l. is_listed tid (filter_map by l) ≡ true → so l ≡ true) (λ listed. absurd (cc)) (λ l next ok may before listed.
      elim (none_or_some (by next)) [
        | inl none ↦ stays l next ok may (before (ap (is_listed tid) (sym (filter_map-None by l next none)) ∙ listed))
        | inr some ↦ elim (cases_Bool (is_tid some.0 tid)) [
          | inl same ↦ brings l next may (some.1 ∙ ap Some (is_tid-true some.0 tid same))
          | inr other ↦ elim (cases_Bool (is_listed tid (filter_map by l))) [
            | inl already ↦ stays l next ok may (before already)
            | inr miss ↦ absurd (both_ways (is_listed tid (filter_map by (l ++ next ∷ [])))
                (ap (is_listed tid) (filter_map-Some by l next some.0 some.1)
                ∙ is_listed-append tid (filter_map by l) (some.0 ∷ []) miss
                (is_listed-one tid some.0 (λ e. both_ways (is_tid some.0 tid) other (is_tid-from some.0 tid e)))) listed)
          ]
        ]
      ]) log legal

module _ (rules : Meaning) (lawful : IsLawful rules) (system : ℕ) (tid : TidOf) where
  committed-stays : Stays rules system (λ log. is_among tid (rules.committed system log) ≡ true)
  committed-stays log next legal may among =
      is_among-grows tid (rules.committed system log) (rules.committed system (log ++ next ∷ [])) (committed-grows rules lawful system log legal next may) among

  received-stays : Stays rules system (λ log. is_among tid (received log) ≡ true)
  received-stays log next legal may among =
      is_among-grows tid (received log) (received (log ++ next ∷ [])) (IsPrefix-filter_map taken_by log (log ++ next ∷ []) (next ∷ [], refl)) among

  done-stays : Stays rules system (λ log. is_listed tid (done_in log) ≡ true)
  done-stays log next legal may listed =
      is_listed-grows tid (done_in log) (done_in (log ++ next ∷ [])) (IsPrefix-filter_map done_by log (log ++ next ∷ []) (next ∷ [], refl)) listed

  -- ---- done was committed

  may_done : (log : List Record) (t : TidOf) → may_follow rules system log (Done t) ≡ true → is_free_outbound (rules.committed system log) log t ≡ true
  may_done [] t may = cc
  may_done (first ∷ rest) t may = may

  done-brings : (log : List Record) (next : Record) → may_follow rules system log next ≡ true → done_by next ≡ Some tid
      → is_among tid (rules.committed system (log ++ next ∷ [])) ≡ true
  done-brings log (Done t) may same =
      subst (λ s. is_among s (rules.committed system (log ++ Done t ∷ [])) ≡ true) (same_Some t tid same)
      (ap (is_among t) (lawful.commits_nothing system log (Done t) refl) ∙ free-committed (rules.committed system log) log t (may_done log t may))
  done-brings log _ may same = absurd (none-some tid same)

  -- an id that a legal log says to be done was committed
  pub done-committed : (log : List Record) → IsLegal rules system log → is_listed tid (done_in log) ≡ true → is_among tid (rules.committed system log) ≡ true
  done-committed = listed-along rules system done_by tid (λ log. is_among tid (rules.committed system log)) committed-stays done-brings

  -- ---- ended is done

  may_ended : (log : List Record) (t : TidOf) → may_follow rules system log (Ended t) ≡ true → is_listed t (done_in log) ≡ true
  may_ended [] t may = cc
  may_ended (first ∷ rest) t may = (and_parts (is_listed t (done_in (first ∷ rest))) (not (is_listed t (ended_in (first ∷ rest)))) may).0

  ended-brings : (log : List Record) (next : Record) → may_follow rules system log next ≡ true → ended_by next ≡ Some tid
      → is_listed tid (done_in (log ++ next ∷ [])) ≡ true
  ended-brings log (Ended t) may same =
      subst (λ s. is_listed s (done_in (log ++ Ended t ∷ [])) ≡ true) (same_Some t tid same)
      (ap (is_listed t) (filter_map-None done_by log (Ended t) refl) ∙ may_ended log t may)
  ended-brings log _ may same = absurd (none-some tid same)

  -- an id that a legal log says to be ended is done by it
  pub ended-done : (log : List Record) → IsLegal rules system log → is_listed tid (ended_in log) ≡ true → is_listed tid (done_in log) ≡ true
  ended-done = listed-along rules system ended_by tid (λ log. is_listed tid (done_in log)) done-stays ended-brings

  -- ---- forgotten was received

  may_forget : (log : List Record) (t : TidOf) → may_follow rules system log (Forget t) ≡ true → is_among t (received log) ≡ true
  may_forget [] t may = cc
  may_forget (first ∷ rest) t may = (and_parts (is_among t (received (first ∷ rest))) (not (is_listed t (forgotten_in (first ∷ rest)))) may).0

  forgotten-brings : (log : List Record) (next : Record) → may_follow rules system log next ≡ true → forgotten_by next ≡ Some tid
      → is_among tid (received (log ++ next ∷ [])) ≡ true
  forgotten-brings log (Forget t) may same =
      subst (λ s. is_among s (received (log ++ Forget t ∷ [])) ≡ true) (same_Some t tid same)
      (ap (is_among t) (filter_map-None taken_by log (Forget t) refl) ∙ may_forget log t may)
  forgotten-brings log _ may same = absurd (none-some tid same)

  -- an id that a legal log forgot was received by it
  pub forgotten-received : (log : List Record) → IsLegal rules system log → is_listed tid (forgotten_in log) ≡ true → is_among tid (received log) ≡ true
  forgotten-received = listed-along rules system forgotten_by tid (λ log. is_among tid (received log)) received-stays forgotten-brings

  -- ---- executed was received

  may_execute : (log : List Record) (t : TidOf) → may_follow rules system log (Execute t) ≡ true → is_among t (received log) ≡ true
  may_execute [] t may = cc
  may_execute (first ∷ rest) t may =
      free-received (first ∷ rest) t (and_parts (is_free_inbound (first ∷ rest) t) (offers_received rules system (first ∷ rest) t) may).0

  executed-brings : (log : List Record) (next : Record) → may_follow rules system log next ≡ true → executed_by next ≡ Some tid
      → is_among tid (received (log ++ next ∷ [])) ≡ true
  executed-brings log (Execute t) may same =
      subst (λ s. is_among s (received (log ++ Execute t ∷ [])) ≡ true) (same_Some t tid same)
      (ap (is_among t) (filter_map-None taken_by log (Execute t) refl) ∙ may_execute log t may)
  executed-brings log (Direct unit) may same =
      subst (λ s. is_among s (received (log ++ Direct unit ∷ [])) ≡ true) (same_Some unit.tid tid same)
      (is_among-Contains unit (received (log ++ Direct unit ∷ []))
      (subst (λ units. Contains units unit) (sym (filter_map-Some taken_by log (Direct unit) unit refl))
      (Contains-append_right (received log) (unit ∷ []) unit (Contains-here unit []))))
  executed-brings log _ may same = absurd (none-some tid same)

  -- an id that a legal log executed was received by it
  pub executed-received : (log : List Record) → IsLegal rules system log → is_listed tid (executed log) ≡ true → is_among tid (received log) ≡ true
  executed-received = listed-along rules system executed_by tid (λ log. is_among tid (received log)) received-stays executed-brings

  -- ---- marked is there

  -- the units of a direction, by a log
  abbrev there : Way → List Record → List AleUnit
  there Outgoing log = rules.committed system log
  there Incoming log = received log

  -- an id is not marked, or its unit is there
  abbrev IsThere : Way → List Record → Type 0
  IsThere way log = (mark_of way tid log ≡ None) ⊎ (is_among tid (there way log) ≡ true)

  grows : (way : Way) (log : List Record) (next : Record) → IsLegal rules system log → may_follow rules system log next ≡ true
      → is_among tid (there way log) ≡ true → is_among tid (there way (log ++ next ∷ [])) ≡ true
  grows Outgoing = committed-stays
  grows Incoming = received-stays

  may_mark : (log : List Record) (other : TidOf) (cause : Cause) → may_follow rules system log (Mark other cause) ≡ true
      → is_among other (rules.committed system log) ≡ true
  may_mark [] other cause may = cc
  may_mark (first ∷ rest) other cause may = free-committed (rules.committed system (first ∷ rest)) (first ∷ rest) other may

  may_fail : (log : List Record) (other : TidOf) → may_follow rules system log (Fail other) ≡ true → is_among other (received log) ≡ true
  may_fail [] other may = cc
  may_fail (first ∷ rest) other may =
      free-received (first ∷ rest) other (and_parts (is_free_inbound (first ∷ rest) other) (not (offers_received rules system (first ∷ rest) other)) may).0

  no_mark : (b : Bool) → cond {A = Option Cause} b None None ≡ None
  no_mark true = refl
  no_mark false = refl

  -- a record that may follow marks no unit that is not there
  marks_out : (log : List Record) (next : Record) → may_follow rules system log next ≡ true
      → (mark_after Outgoing tid None next ≡ None) ⊎ (is_among tid (rules.committed system log) ≡ true)
  marks_out log (Mark other cause) may =
      elim (cases_Bool (is_tid other tid)) [
        | inl same ↦ inr (subst (λ t. is_among t (rules.committed system log) ≡ true) (is_tid-true other tid same) (may_mark log other cause may))
        | inr differs ↦ inl (ap (λ b. cond b (Some cause) None) differs)
      ]
  marks_out log (Retry Outgoing other) may = inl (no_mark (is_tid other tid))
  marks_out log _ may = inl refl

  marks_in : (log : List Record) (next : Record) → may_follow rules system log next ≡ true
      → (mark_after Incoming tid None next ≡ None) ⊎ (is_among tid (received log) ≡ true)
  marks_in log (Fail other) may =
      elim (cases_Bool (is_tid other tid)) [
        | inl same ↦ inr (subst (λ t. is_among t (received log) ≡ true) (is_tid-true other tid same) (may_fail log other may))
        | inr differs ↦ inl (ap (λ b. cond {A = Option Cause} b (Some Sysfail) None) differs)
      ]
  marks_in log (Retry Incoming other) may = inl (no_mark (is_tid other tid))
  marks_in log _ may = inl refl

  marks : (way : Way) (log : List Record) (next : Record) → may_follow rules system log next ≡ true
      → (mark_after way tid None next ≡ None) ⊎ (is_among tid (there way log) ≡ true)
  marks Outgoing = marks_out
  marks Incoming = marks_in

  -- an id of which no unit is there is not marked
  pub unmarked-new : (way : Way) (log : List Record) → IsLegal rules system log → is_among tid (there way log) ≡ false → mark_of way tid log ≡ None
  unmarked-new way log legal new =
      elim (along rules system (IsThere way) (inl refl) (λ l next ok may is.
      elim is [
        | inl none ↦ elim (marks way l next may) [
          | inl stays ↦ inl (fold_push (mark_after way tid) None l next ∙ ap (λ mark. mark_after way tid mark next) none ∙ stays)
          | inr among ↦ inr (grows way l next ok may among)
        ]
        | inr among ↦ inr (grows way l next ok may among)
      ]) log legal) [
        | inl none ↦ none
        | inr among ↦ absurd (both_ways (is_among tid (there way log)) new among)
      ]
