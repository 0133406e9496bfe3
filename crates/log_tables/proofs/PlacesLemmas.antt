-- The places of a log, one record longer.
use Rattle.std.specs.Prelude.{slice_get, is_some}
use Rattle.std.specs.Option.{option_and_then, option_copied, option_or}
use Rattle.std.proofs.Common.{◌≡◌, ◌<◌, ℕ, zero, suc, false, cond, Option, Some, None, List, [], ◌∷◌, ◌++◌, length, inl, inr, refl, sym, ap, subst, ◌∙◌}
use Rattle.std.proofs.Common.{arith, Bor}
use Rattle.std.proofs.lemmas.Bool.{cases_Bool, cond-false, or_parts}
use Rattle.std.proofs.lemmas.List.{length-append}
use Rattle.ale_base.specs.Tid.{TidOf, is_tid}
use Rattle.ale_base.proofs.OptionLemmas.{none_or_some}
use Rattle.ale_base.proofs.MemberLemmas.{filter_map-None, filter_map-Some}
use Rattle.unit_core.specs.declared.ale_unit.AleUnit.{AleUnit}
use Rattle.unit_core.specs.declared.records.Record.{Record}
use Rattle.unit_core.specs.Filters.{taken_by, received}
use Rattle.unit_core.specs.Queues.{is_among, unit_named}
use Rattle.unit_core.proofs.TidLemmas.{is_tid-true}
use Rattle.log_tables.specs.Places.{unit_at, ArePlaces, Names, Placed}
use Rattle.log_tables.specs.OfLog.{no_claims}

-- ---- lists

get-front : {X : Type 0} (xs ys : List X) (p : ℕ) → p < length xs → slice_get (xs ++ ys) p ≡ slice_get xs p
get-front [] ys p within = absurd (omega (arith, within))
get-front (x ∷ xs) ys zero within = refl
get-front (x ∷ xs) ys (suc p) within = get-front xs ys p (omega (arith, within))

get-last : {X : Type 0} (xs : List X) (x : X) → slice_get (xs ++ x ∷ []) (length xs) ≡ Some x
get-last [] x = refl
get-last (y ∷ ys) x = get-last ys x

-- ---- a unit of an id

-- an id is among units exactly where one is found by it
pub among-named : (tid : TidOf) (units : List AleUnit) → is_among tid units ≡ is_some (unit_named tid units)
among-named tid [] = refl
among-named tid (u ∷ us) =
    elim (cases_Bool (is_tid u.tid tid)) [
      | inl pass ↦ rw pass refl
      | inr miss ↦ rw miss (among-named tid us)
    ]

-- what is lent is there exactly where what it lends is
pub copied-there : {X : Type 0} (found : Option (Bor X)) → is_some (option_copied found) ≡ is_some found
copied-there None = refl
copied-there (Some x) = refl

named-none : (tid : TidOf) (units : List AleUnit) → is_among tid units ≡ false → unit_named tid units ≡ None
named-none tid [] none = refl
named-none tid (u ∷ us) none =
    let parts = or_parts (is_tid u.tid tid) (is_among tid us) none in
    cond-false (is_tid u.tid tid) (Some u) (unit_named tid us) parts.0 ∙ named-none tid us parts.1

-- a unit more at the end
named-push : (tid : TidOf) (units : List AleUnit) (unit : AleUnit)
    → unit_named tid (units ++ unit ∷ []) ≡ option_or (unit_named tid units) (cond (is_tid unit.tid tid) (Some unit) None)
named-push tid [] unit = refl
named-push tid (u ∷ us) unit =
    elim (cases_Bool (is_tid u.tid tid)) [
      | inl pass ↦ rw pass refl
      | inr miss ↦ rw miss (named-push tid us unit)
    ]

or-none : {X : Type 0} (found : Option X) → option_or found None ≡ found
or-none None = refl
or-none (Some x) = refl

-- ---- a record more

-- a log of no records has no places
pub ArePlaces-nothing : ArePlaces [] no_claims
ArePlaces-nothing = record { there = λ tid. refl; within = λ tid p is. cc }

at-longer : (log more : List Record) (place : Option ℕ) → ((p : ℕ) → place ≡ Some p → p < length log) → unit_at log place ≡ unit_at (log ++ more) place
at-longer log more None within = refl
at-longer log more (Some p) within = ap (λ found. option_and_then taken_by found) (sym (get-front log more p (within p refl)))

longer : (log : List Record) (next : Record) (p : ℕ) → p < length log → p < length (log ++ next ∷ [])
longer log next p within = subst (λ n. p < n) (sym (length-append log (next ∷ []))) (omega (arith, within))

placed-none : (taken : Option AleUnit) (place : ℕ) (before after : TidOf → Option ℕ) → taken ≡ None → Placed taken place before after → after ≡ before
placed-none taken place before after none placed = subst (λ t. Placed t place before after) none placed

placed-some : (taken : Option AleUnit) (unit : AleUnit) (place : ℕ) (before after : TidOf → Option ℕ) → taken ≡ Some unit → Placed taken place before after
    → Names unit.tid place before after
placed-some taken unit place before after some placed = subst (λ t. Placed t place before after) some placed

-- the places of a log are those of the longer one once its last record is noted, where that takes in no unit that was received before
pub ArePlaces-push : (log : List Record) (next : Record) (before after : TidOf → Option ℕ)
    → ((unit : AleUnit) → taken_by next ≡ Some unit → is_among unit.tid (received log) ≡ false)
    → Placed (taken_by next) (length log) before after → ArePlaces log before → ArePlaces (log ++ next ∷ []) after
ArePlaces-push log next before after new placed are =
    elim (none_or_some (taken_by next)) [
      | inl none ↦
          let same = placed-none (taken_by next) (length log) before after none placed in
          subst (ArePlaces (log ++ next ∷ [])) (sym same) (record {
            there = λ tid.
                ap (unit_named tid) (filter_map-None taken_by log next none) ∙ are.there tid
                ∙ at-longer log (next ∷ []) (before tid) (λ p is. are.within tid p is);
            within = λ tid p is. longer log next p (are.within tid p is);
          })
      | inr some ↦
          let unit : AleUnit = some.0 in
          let names = placed-some (taken_by next) unit (length log) before after some.1 placed in
          record {
            there = λ tid.
                let whole : unit_named tid (received (log ++ next ∷ [])) ≡ option_or (unit_named tid (received log)) (cond (is_tid unit.tid tid) (Some unit) None) =
                ap (unit_named tid) (filter_map-Some taken_by log next unit some.1) ∙ named-push tid (received log) unit in
                elim (cases_Bool (is_tid unit.tid tid)) [
                  | inl its ↦
                      let absent : unit_named tid (received log) ≡ None =
                      named-none tid (received log) (subst (λ t. is_among t (received log) ≡ false) (is_tid-true unit.tid tid its) (new unit some.1)) in
                      whole
                      ∙ ap (λ found. option_or found (cond (is_tid unit.tid tid) (Some unit) None)) absent
                      ∙ ap (λ b. option_or None (cond b (Some unit) None)) its
                      ∙ sym some.1
                      ∙ ap (λ found. option_and_then taken_by found) (sym (get-last log next))
                      ∙ ap (λ b. unit_at (log ++ next ∷ []) (cond b (Some (length log)) (before tid))) (sym its)
                      ∙ ap (unit_at (log ++ next ∷ [])) (sym (names.each tid))
                  | inr other ↦
                      whole
                      ∙ ap (λ b. option_or (unit_named tid (received log)) (cond b (Some unit) None)) other
                      ∙ or-none (unit_named tid (received log))
                      ∙ are.there tid
                      ∙ at-longer log (next ∷ []) (before tid) (λ p is. are.within tid p is)
                      ∙ ap (λ b. unit_at (log ++ next ∷ []) (cond b (Some (length log)) (before tid))) (sym other)
                      ∙ ap (unit_at (log ++ next ∷ [])) (sym (names.each tid))
                ];
            within = λ tid p is.
                elim (cases_Bool (is_tid unit.tid tid)) [
                  | inl its ↦
                      let at : Some (length log) ≡ Some p = sym (ap (λ b. cond b (Some (length log)) (before tid)) its) ∙ sym (names.each tid) ∙ is in
                      let same : length log ≡ p = cc in
                      subst (λ n. p < n) (sym (length-append log (next ∷ []))) (omega (arith, same))
                  | inr other ↦
                      longer log next p (are.within tid p (sym (ap (λ b. cond b (Some (length log)) (before tid)) other) ∙ sym (names.each tid) ∙ is))
                ];
          }
    ]
