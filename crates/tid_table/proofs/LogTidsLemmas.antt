-- What each record of a log does to its table of ids.
use Rattle.std.proofs.Common.{◌≡◌, Bool, true, false, not, ◌&&◌, ◌||◌, Some, None, List, [], ◌∷◌, ◌++◌, refl, sym, ap, subst, ◌∙◌}
use Rattle.std.proofs.lemmas.List.Folds.{list_any-append}
use Rattle.ale_base.specs.Tid.{TidOf, is_tid}
use Rattle.ale_base.proofs.MemberLemmas.{filter_map-None, filter_map-Some}
use Rattle.unit_core.specs.declared.ale_unit.AleUnit.{AleUnit}
use Rattle.unit_core.specs.declared.records.Record.{Record}
use Rattle.unit_core.specs.declared.records.Record.TheVariants.{Forget}
use Rattle.unit_core.specs.Filters.{received, forgotten_in, taken_by, forgotten_by}
use Rattle.unit_core.specs.Queues.{is_listed, is_among}
use Rattle.unit_core.proofs.TidLemmas.{is_tid-true}
use Rattle.tid_table.specs.Tids.{Enters, Forgets}
use Rattle.tid_table.specs.LogTids.{AreTidsOf}

-- the table of no records is empty
pub AreTidsOf-nothing : AreTidsOf [] []
AreTidsOf-nothing = record { known = λ tid. refl }

-- a record that takes in no unit and forgets none leaves the table
pub AreTidsOf-other : (log : List Record) (next : Record) (tids : List TidOf) → taken_by next ≡ None → forgotten_by next ≡ None
    → AreTidsOf log tids → AreTidsOf (log ++ next ∷ []) tids
AreTidsOf-other log next tids takes_none forgets_none are = record {
  known = λ tid. are.known tid
      ∙ ap (λ (units : List AleUnit). is_among tid units && not (is_listed tid (forgotten_in log))) (sym (filter_map-None taken_by log next takes_none))
      ∙ ap (λ (gone : List TidOf). is_among tid (received (log ++ next ∷ [])) && not (is_listed tid gone))
      (sym (filter_map-None forgotten_by log next forgets_none));
}

taken_in : (its had gone : Bool) → (its ≡ true → gone ≡ false) → (its || (had && not gone)) ≡ ((had || (its || false)) && not gone)
taken_in true had gone new = ap (λ b. true) (new refl) ∙ sym (ap (λ b. (had || true) && not b) (new refl) ∙ either had)
  where
    either : (b : Bool) → ((b || true) && true) ≡ true
    either true = refl
    either false = refl
taken_in false true gone new = refl
taken_in false false gone new = refl

-- a record that takes in a unit, whose id the log has not forgotten, enters its id
pub AreTidsOf-taken : (log : List Record) (next : Record) (unit : AleUnit) (before after : List TidOf) → taken_by next ≡ Some unit → forgotten_by next ≡ None
    → is_listed unit.tid (forgotten_in log) ≡ false → Enters unit.tid before after → AreTidsOf log before → AreTidsOf (log ++ next ∷ []) after
AreTidsOf-taken log next unit before after takes forgets_none new enters are = record {
  known = λ tid.
      let gone = is_listed tid (forgotten_in log) in
      enters.enters tid
      ∙ ap (λ b. is_tid unit.tid tid || b) (are.known tid)
      ∙ taken_in (is_tid unit.tid tid) (is_among tid (received log)) gone
      (λ its. subst (λ t. is_listed t (forgotten_in log) ≡ false) (is_tid-true unit.tid tid its) new)
      ∙ ap (λ b. b && not gone) (sym (list_any-append (λ (u : AleUnit). is_tid u.tid tid) (received log) (unit ∷ [])))
      ∙ ap (λ (units : List AleUnit). is_among tid units && not gone) (sym (filter_map-Some taken_by log next unit takes))
      ∙ ap (λ (tids : List TidOf). is_among tid (received (log ++ next ∷ [])) && not (is_listed tid tids))
      (sym (filter_map-None forgotten_by log next forgets_none));
}

forgets_it : (its had gone : Bool) → (not its && (had && not gone)) ≡ (had && not (gone || (its || false)))
forgets_it true had gone = sym (ap (λ b. had && not b) (either gone) ∙ none had)
  where
    either : (b : Bool) → (b || true) ≡ true
    either true = refl
    either false = refl

    none : (b : Bool) → (b && false) ≡ false
    none true = refl
    none false = refl
forgets_it false had true = refl
forgets_it false had false = refl

-- a record that forgets an id removes it
pub AreTidsOf-forget : (log : List Record) (tid : TidOf) (before after : List TidOf) → Forgets tid before after → AreTidsOf log before
    → AreTidsOf (log ++ Forget tid ∷ []) after
AreTidsOf-forget log tid before after forgets are = record {
  known = λ other.
      forgets.forgets other
      ∙ ap (λ b. not (is_tid tid other) && b) (are.known other)
      ∙ forgets_it (is_tid tid other) (is_among other (received log)) (is_listed other (forgotten_in log))
      ∙ ap (λ b. is_among other (received log) && not b) (sym (list_any-append (λ (t : TidOf). is_tid t other) (forgotten_in log) (tid ∷ [])))
      ∙ ap (λ (gone : List TidOf). is_among other (received log) && not (is_listed other gone)) (sym (filter_map-Some forgotten_by log (Forget tid) tid refl))
      ∙ ap (λ (units : List AleUnit). is_among other units && not (is_listed other (forgotten_in (log ++ Forget tid ∷ []))))
      (sym (filter_map-None taken_by log (Forget tid) refl));
}
