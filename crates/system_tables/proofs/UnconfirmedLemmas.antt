-- What each record of a log does to the ids that are done and not ended.
use Rattle.std.proofs.Common.{◌≡◌, Bool, true, false, not, ◌&&◌, ◌||◌, None, List, [], ◌∷◌, ◌++◌, refl, sym, ap, subst, ◌∙◌}
use Rattle.std.proofs.lemmas.List.Folds.{list_any-append}
use Rattle.ale_base.specs.Tid.{TidOf, is_tid}
use Rattle.ale_base.proofs.MemberLemmas.{filter_map-None, filter_map-Some}
use Rattle.unit_core.specs.declared.records.Record.{Record}
use Rattle.unit_core.specs.declared.records.Record.TheVariants.{Done, Ended}
use Rattle.unit_core.specs.Filters.{done_by, done_in, ended_by, ended_in}
use Rattle.unit_core.specs.Queues.{is_listed}
use Rattle.unit_core.proofs.TidLemmas.{is_tid-true}
use Rattle.tid_table.specs.Tids.{Enters, Forgets}
use Rattle.system_tables.specs.OfLog.{AreUnconfirmedIn}

-- by no records nothing is done
pub AreUnconfirmedIn-nothing : AreUnconfirmedIn [] []
AreUnconfirmedIn-nothing = record { each = λ tid. refl }

-- a record that says of no unit that it is done or ended leaves the ids
pub AreUnconfirmedIn-other : (log : List Record) (next : Record) (tids : List TidOf) → done_by next ≡ None → ended_by next ≡ None → AreUnconfirmedIn log tids
    → AreUnconfirmedIn (log ++ next ∷ []) tids
AreUnconfirmedIn-other log next tids none_done none_ended are = record {
  each = λ tid. are.each tid
      ∙ ap (λ (all : List TidOf). is_listed tid all && not (is_listed tid (ended_in log))) (sym (filter_map-None done_by log next none_done))
      ∙ ap (λ (all : List TidOf). is_listed tid (done_in (log ++ next ∷ [])) && not (is_listed tid all)) (sym (filter_map-None ended_by log next none_ended));
}

done_then : (its had gone : Bool) → (its ≡ true → gone ≡ false) → (its || (had && not gone)) ≡ ((had || (its || false)) && not gone)
done_then true true gone new = sym (ap not (new refl))
done_then true false gone new = sym (ap not (new refl))
done_then false true gone new = refl
done_then false false gone new = refl

-- a Done of an id that is not ended enters it
pub AreUnconfirmedIn-Done : (log : List Record) (tid : TidOf) (before after : List TidOf) → is_listed tid (ended_in log) ≡ false → Enters tid before after
    → AreUnconfirmedIn log before → AreUnconfirmedIn (log ++ Done tid ∷ []) after
AreUnconfirmedIn-Done log tid before after not_ended enters are = record {
  each = λ other.
      let gone = is_listed other (ended_in log) in
      enters.enters other
      ∙ ap (λ b. is_tid tid other || b) (are.each other)
      ∙ done_then (is_tid tid other) (is_listed other (done_in log)) gone
      (λ its. subst (λ t. is_listed t (ended_in log) ≡ false) (is_tid-true tid other its) not_ended)
      ∙ ap (λ b. b && not gone) (sym (list_any-append (λ (t : TidOf). is_tid t other) (done_in log) (tid ∷ [])))
      ∙ ap (λ (all : List TidOf). is_listed other all && not gone) (sym (filter_map-Some done_by log (Done tid) tid refl))
      ∙ ap (λ (all : List TidOf). is_listed other (done_in (log ++ Done tid ∷ [])) && not (is_listed other all))
      (sym (filter_map-None ended_by log (Done tid) refl));
}

ended_then : (its had gone : Bool) → (not its && (had && not gone)) ≡ (had && not (gone || (its || false)))
ended_then true true true = refl
ended_then true true false = refl
ended_then true false gone = refl
ended_then false true true = refl
ended_then false true false = refl
ended_then false false gone = refl

-- an Ended removes its id
pub AreUnconfirmedIn-Ended : (log : List Record) (tid : TidOf) (before after : List TidOf) → Forgets tid before after → AreUnconfirmedIn log before
    → AreUnconfirmedIn (log ++ Ended tid ∷ []) after
AreUnconfirmedIn-Ended log tid before after forgets are = record {
  each = λ other.
      forgets.forgets other
      ∙ ap (λ b. not (is_tid tid other) && b) (are.each other)
      ∙ ended_then (is_tid tid other) (is_listed other (done_in log)) (is_listed other (ended_in log))
      ∙ ap (λ b. is_listed other (done_in log) && not b) (sym (list_any-append (λ (t : TidOf). is_tid t other) (ended_in log) (tid ∷ [])))
      ∙ ap (λ (all : List TidOf). is_listed other (done_in log) && not (is_listed other all)) (sym (filter_map-Some ended_by log (Ended tid) tid refl))
      ∙ ap (λ (all : List TidOf). is_listed other all && not (is_listed other (ended_in (log ++ Ended tid ∷ []))))
      (sym (filter_map-None done_by log (Ended tid) refl));
}
