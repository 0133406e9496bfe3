-- Tables of the ids that logs tell of, record by record.
use Rattle.std.proofs.Common.{ℕ, zero, suc, ◌||◌, List, [], ◌∷◌, ◌++◌, refl, sym, ap, ◌∙◌}
use Rattle.std.proofs.lemmas.List.Folds.{list_any-append}
use Rattle.std.proofs.lemmas.List.Elements.{filter_map-append}
use Rattle.ale_base.specs.Tid.{TidOf, is_tid}
use Rattle.unit_core.specs.declared.ale_unit.AleUnit.{AleUnit}
use Rattle.unit_core.specs.declared.records.Record.{Record}
use Rattle.unit_core.specs.Filters.{taken_by, done_by, forgotten_by, received, done_in, forgotten_in}
use Rattle.unit_core.specs.Queues.{is_listed, is_among}
use Rattle.unit_core.specs.Systems.{of_system}
use Rattle.once_check.specs.declared.told.Told.{Told}
use Rattle.once_check.specs.steps.ToldIds.{IsToldBy, Notes, nothing_told, told_at, AreToldBy}
use Rattle.once_check.proofs.SystemsLemmas.{AreMadeOf, at_each_place}

-- no records tell of nothing
pub IsToldBy-none : IsToldBy [] nothing_told
IsToldBy-none = record { received = λ tid. refl; done = λ tid. refl; forgotten = λ tid. refl }

-- one record more
pub IsToldBy-more : (log : List Record) (next : Record) (before after : Told) → IsToldBy log before → Notes next before after → IsToldBy (log ++ next ∷ []) after
IsToldBy-more log next before after told notes = record {
  received = λ tid. notes.received tid ∙ ap (λ b. b || is_among tid (received (next ∷ []))) (told.received tid)
      ∙ sym (list_any-append (λ (unit : AleUnit). is_tid unit.tid tid) (received log) (received (next ∷ [])))
      ∙ ap (λ (units : List AleUnit). is_among tid units) (sym (filter_map-append taken_by log (next ∷ [])));
  done = λ tid. notes.done tid ∙ ap (λ b. b || is_listed tid (done_in (next ∷ []))) (told.done tid)
      ∙ sym (list_any-append (λ (other : TidOf). is_tid other tid) (done_in log) (done_in (next ∷ [])))
      ∙ ap (λ (tids : List TidOf). is_listed tid tids) (sym (filter_map-append done_by log (next ∷ [])));
  forgotten = λ tid. notes.forgotten tid ∙ ap (λ b. b || is_listed tid (forgotten_in (next ∷ []))) (told.forgotten tid)
      ∙ sym (list_any-append (λ (other : TidOf). is_tid other tid) (forgotten_in log) (forgotten_in (next ∷ [])))
      ∙ ap (λ (tids : List TidOf). is_listed tid tids) (sym (filter_map-append forgotten_by log (next ∷ [])));
}

-- the tables of all logs, one by one
pub AreToldBy-each : (logs : List (List Record)) (all : List Told) → AreMadeOf IsToldBy logs all → AreToldBy (of_system logs) all
AreToldBy-each logs all each = record { told_by = at_system logs all each }
  where
    at_system : (logs : List (List Record)) (all : List Told) → AreMadeOf IsToldBy logs all → (system : ℕ) → IsToldBy (of_system logs system) (told_at all system)
    at_system logs all each zero = IsToldBy-none
    at_system logs all each (suc k) = at_each_place IsToldBy logs all nothing_told each IsToldBy-none k
