-- What was entered is taken back.
use Rattle.std.specs.Prelude.{slice_get}
use Rattle.std.proofs.Common.{◌≡◌, ℕ, zero, suc, ◌-◌, true, Option, Some, None, List, [], ◌∷◌, ◌++◌, length, inl, inr, refl, sym, ap, subst, ◌∙◌, arith}
use Rattle.std.proofs.lemmas.Bool.{cases_eq}
use Rattle.std.proofs.lemmas.Option.{none-some, same_Some}
use Rattle.std.proofs.lemmas.List.{length-append}
use Rattle.ale_base.proofs.OptionLemmas.{none_or_some}
use Rattle.unit_core.specs.declared.ale_unit.AleUnit.{AleUnit}
use Rattle.unit_core.specs.declared.records.Record.{Record}
use Rattle.trfc_protocol.specs.declared.world.World.{World}
use Rattle.trfc_protocol.specs.declared.world.SystemState.{SystemState}
use Rattle.trfc_protocol.specs.Worlds.{log_of, log_or_none, is_up, last_of, state_of, state_with, with_state, with_record, state_without_last}
use Rattle.trfc_protocol.proofs.WorldLemmas.{is_up-known, with_state-known, state_of-here}
use Rattle.trfc_protocol.proofs.ForCallers.{taken_back}
use Rattle.system_tables.specs.Tables.{entered, left}
use Rattle.system_tables.proofs.TablesLemmas.{left-entered}
use Rattle.unit_landscape.specs.declared.world_tables.WorldTables.{WorldTables}
use Rattle.unit_landscape.specs.Changed.{ChangedAt}
use Rattle.unit_landscape.specs.Entered.{IsEntered, HasCount}
use Rattle.unit_landscape.proofs.InStepLemmas.{ChangedAt-set}

-- lists are the same where they are as long, and each item is the same
same_list : {A : Type 0} (xs ys : List A) → length ys ≡ length xs → ((k : ℕ) → slice_get ys k ≡ slice_get xs k) → ys ≡ xs
same_list [] [] long each = refl
same_list [] (y ∷ ys) long each = absurd (omega arith)
same_list (x ∷ xs) [] long each = absurd (omega arith)
same_list (x ∷ xs) (y ∷ ys) long each =
    let first : y ≡ x = let e = each 0 in cc in
    let shorter : length ys ≡ length xs = omega arith in
    ap (λ z. z ∷ ys) first ∙ ap (λ zs. x ∷ zs) (same_list xs ys shorter (λ k. each (suc k)))

past : {A : Type 0} (xs ys : List A) (k : ℕ) → length ys ≡ length xs → slice_get ys k ≡ None → slice_get xs k ≡ None
past [] ys k long none = refl
past (x ∷ xs) [] k long none = absurd (omega arith)
past (x ∷ xs) (y ∷ ys) zero long none = absurd (none-some y (sym none))
past (x ∷ xs) (y ∷ ys) (suc k) long none = let shorter : length ys ≡ length xs = omega arith in past xs ys k shorter none

-- an item that did not change leaves the list
same-ChangedAt : {A : Type 0} (place : ℕ) (before after : List A) → ChangedAt (λ old now. now ≡ old) place before after → after ≡ before
same-ChangedAt place before after changed =
    same_list before after changed.long
    (λ k. elim (cases_eq k place) [
      | inl same ↦
          subst (λ n. slice_get after n ≡ slice_get before n) (sym same)
          (elim (none_or_some (slice_get after place)) [
            | inl none ↦ none ∙ sym (past before after place changed.long none)
            | inr is ↦ let its = changed.its is.0 is.1 in is.1 ∙ ap Some its.2 ∙ sym its.1
          ])
      | inr differs ↦ changed.others k differs
    ])

-- what was entered is taken back: all is as before
pub all_taken_back : {R A E : Type 0} (before middle after : WorldTables R A E) (system : ℕ) (next : Record) (more : List AleUnit) (count : ℕ)
    → IsEntered before middle system next more → HasCount before.tables (system - 1) count
    → after.world ≡ with_state middle.world system state_without_last
    → ChangedAt (λ old now. now ≡ left count old) (system - 1) middle.tables after.tables → after ≡ before
all_taken_back before middle after system next more count is counts back short =
    let world : after.world ≡ before.world =
    back ∙ ap (λ w. with_state w system state_without_last) is.world ∙ taken_back before.world system next in
    let tables : after.tables ≡ before.tables =
    same-ChangedAt (system - 1) before.tables after.tables (record {
      long = short.long ∙ is.tables.long;
      others = λ other differs. short.others other differs ∙ is.tables.others other differs;
      its = λ now at.
          let second = short.its now at in
          let first = is.tables.its second.0 second.1 in (
            first.0,
            first.1,
            second.2 ∙ ap (left count) first.2 ∙ ap (λ n. left n (entered more first.0)) (counts first.0 first.1) ∙ left-entered more first.0,
          );
    }) in
    λ i. record { world = world i; tables = tables i }

at-end : {A : Type 0} (ys : List A) (y : A) → slice_get (ys ++ y ∷ []) (length ys) ≡ Some y
at-end [] y = refl
at-end (z ∷ zs) y = at-end zs y

last-push : {A : Type 0} (xs : List A) (x : A) → slice_get (xs ++ x ∷ []) (length (xs ++ x ∷ []) - 1) ≡ Some x
last-push xs x =
    let place : length (xs ++ x ∷ []) - 1 ≡ length xs = omega (arith, length-append xs (x ∷ [])) in
    ap (slice_get (xs ++ x ∷ [])) place ∙ at-end xs x

-- the last record of the log is the one that joined it
pub last-entered : {R : Type 0} (world : World R) (system : ℕ) (next : Record) → is_up world system ≡ true
    → last_of (log_of (with_record world system next) system) ≡ Some next
last-entered world system next up =
    let known = is_up-known world system up in
    ap (λ found. last_of (log_or_none found)) (state_of-here world system (state_with next) known.0 known.1) ∙ last-push (known.0).log next

-- ---- systems

-- a system that is known has its state at the place of its number
pub got_at : (systems : List SystemState) (system : ℕ) (state : SystemState) → state_of systems system ≡ Some state → slice_get systems (system - 1) ≡ Some state
got_at systems zero state known = cc
got_at systems (suc k) state known = let place : suc k - 1 ≡ k = omega arith in ap (slice_get systems) place ∙ known

-- the state of a system that is up changes, and no other
pub systems-changed : {R : Type 0} (world : World R) (system : ℕ) (change : SystemState → SystemState) → is_up world system ≡ true
    → ChangedAt (λ old new. new ≡ change old) (system - 1) world.systems (with_state world system change).systems
systems-changed {R} world system change up =
    let known = is_up-known world system up in
    subst (λ (w : World R). ChangedAt (λ old new. new ≡ change old) (system - 1) world.systems w.systems)
    (sym (with_state-known world system change known.0 known.1))
    (ChangedAt-set (λ old new. new ≡ change old) (system - 1) world.systems known.0 (change known.0)
    (got_at world.systems system known.0 known.1) refl)

-- the record that is read back from the log is the one that joined it
pub read-back : {R : Type 0} (world entered_ : World R) (system : ℕ) (next read : Record) (found : Option Record) → is_up world system ≡ true
    → entered_ ≡ with_record world system next → found ≡ last_of (log_of entered_ system) → found ≡ Some read → read ≡ next
read-back world entered_ system next read found up joined last is =
    same_Some read next (sym is ∙ last ∙ ap (λ w. last_of (log_of w system)) joined ∙ last-entered world system next up)
