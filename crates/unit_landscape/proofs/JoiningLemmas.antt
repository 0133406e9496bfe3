-- Tables that stay in step where a record joins the log of a system.
use Rattle.std.specs.Prelude.{slice_get}
use Rattle.std.proofs.Common.{◌≡◌, ◌≢◌, ℕ, suc, true, false, Option, Some, None, List, [], ◌∷◌, ◌++◌, refl, sym, ap, subst, ◌∙◌}
use Rattle.ale_base.specs.Tid.{TidOf}
use Rattle.unit_core.specs.declared.ale_unit.AleUnit.{AleUnit}
use Rattle.unit_core.specs.declared.records.Record.{Record}
use Rattle.unit_core.specs.declared.records.Record.TheVariants.{Mark, Done, Execute, Direct as Run, Fail}
use Rattle.plain_queues.specs.LogQueues.{Claims}
use Rattle.trfc_protocol.specs.declared.held.Held.{Held}
use Rattle.trfc_protocol.specs.declared.held.HeldKind.{HeldKind}
use Rattle.trfc_protocol.specs.declared.held.HeldKind.TheVariants.{Out, In, Direct}
use Rattle.trfc_protocol.specs.declared.world.SystemState.{SystemState}
use Rattle.trfc_protocol.specs.Meaning.{Meaning}
use Rattle.trfc_protocol.specs.Worlds.{is_kind, state_with, state_down}
use Rattle.trfc_protocol.specs.Safe.{AreApart}
use Rattle.system_tables.specs.Tables.{TablesOf, entered}
use Rattle.system_tables.specs.Noted.{Noted}
use Rattle.system_tables.specs.OfLog.{AreTablesOf}
use Rattle.system_tables.specs.Joins.{Joins, ClaimsAfter}
use Rattle.system_tables.proofs.TablesLemmas.{AreTablesOf-noted}
use Rattle.unit_landscape.specs.Claims.{claim_at, IsClaimed}
use Rattle.unit_landscape.specs.Changed.{ChangedAt}
use Rattle.unit_landscape.specs.InStep.{AreTablesAt, AreInStep}
use Rattle.unit_landscape.specs.Joining.{Ends, EndsClaim, EndsNamed, claims_without}
use Rattle.unit_landscape.proofs.ClaimsLemmas.{numbered-gone}
use Rattle.unit_landscape.proofs.InStepLemmas.{ChangedAt-known, claims-by, claims-of, claims-elsewhere, in_step-changed}

-- a record that ends no claim leaves them
claims_after-none : (committed more : List AleUnit) (log : List Record) (sent arrived : TidOf → Option ℕ) (next : Record)
    → Joins committed more log None sent arrived next → ClaimsAfter next sent arrived sent arrived
claims_after-none committed more log sent arrived (Done tid) joins = let given = joins.sending.1.given in cc
claims_after-none committed more log sent arrived (Mark tid cause) joins = let given = joins.sending.1.given in cc
claims_after-none committed more log sent arrived (Execute tid) joins = let given = joins.receiving.given in cc
claims_after-none committed more log sent arrived (Fail tid) joins = let given = joins.receiving.given in cc
claims_after-none committed more log sent arrived next joins = (refl, refl)

module _ {A : Type 0} (stands : A → List Record → Type 0) (rules : Meaning) (claims : List Held) (place : ℕ) (apart : AreApart claims) where
  -- a record that ends a claim
  claims_after-some : (number : ℕ) (next : Record) → EndsClaim claims (suc place) next number
      → ClaimsAfter next (claim_at Out (suc place) claims) (claim_at In (suc place) claims)
      (claim_at Out (suc place) (claims_without claims (Some number))) (claim_at In (suc place) (claims_without claims (Some number)))
  claims_after-some number next ends = by_record next ends.ends
    where
      held : Held
      held = ends.held

      after : List Held
      after = claims_without claims (Some number)

      gone : IsClaimed held None claims after
      gone = numbered-gone number held claims apart ends.found

      by : (kind : HeldKind) (tid : TidOf) → held.kind ≡ kind → held.tid ≡ tid →
          Claims tid None (claim_at kind (suc place) claims) (claim_at kind (suc place) after)
      by kind tid same its = subst (λ t. Claims t None (claim_at kind (suc place) claims) (claim_at kind (suc place) after)) its
          (claims-by stands rules claims after held None place ends.at gone kind same)

      of : (kind other : HeldKind) → held.kind ≡ kind → is_kind kind other ≡ false → claim_at other (suc place) after ≡ claim_at other (suc place) claims
      of kind other same differs = claims-of stands rules claims after held None place ends.at gone other (ap (λ k. is_kind k other) same ∙ differs)

      by_record : (one : Record) → Ends one held → ClaimsAfter one (claim_at Out (suc place) claims) (claim_at In (suc place) claims)
          (claim_at Out (suc place) after) (claim_at In (suc place) after)
      by_record (Done tid) is = (by Out tid is.0 is.1, of Out In is.0 refl)
      by_record (Mark tid cause) is = (by Out tid is.0 is.1, of Out In is.0 refl)
      by_record (Execute tid) is = (of In Out is.0 refl, by In tid is.0 is.1)
      by_record (Fail tid) is = (of In Out is.0 refl, by In tid is.0 is.1)
      by_record (Run unit) is = (of Direct Out is.0 refl, of Direct In is.0 refl)
      by_record one is = absurd is

  claims_after-joins : (committed more : List AleUnit) (log : List Record) (claim : Option ℕ) (next : Record) → EndsNamed claims (suc place) next claim
      → Joins committed more log claim (claim_at Out (suc place) claims) (claim_at In (suc place) claims) next
      → ClaimsAfter next (claim_at Out (suc place) claims) (claim_at In (suc place) claims)
      (claim_at Out (suc place) (claims_without claims claim)) (claim_at In (suc place) (claims_without claims claim))
  claims_after-joins committed more log None next ends joins =
      claims_after-none committed more log (claim_at Out (suc place) claims) (claim_at In (suc place) claims) next joins
  claims_after-joins committed more log (Some number) next ends joins = claims_after-some number next ends

  elsewhere : (claim : Option ℕ) (next : Record) → EndsNamed claims (suc place) next claim
      → (other : ℕ) (kind : HeldKind) (tid : TidOf) → other ≢ place
      → claim_at kind (suc other) (claims_without claims claim) tid ≡ claim_at kind (suc other) claims tid
  elsewhere None next ends other kind tid differs = refl
  elsewhere (Some number) next ends other kind tid differs =
      claims-elsewhere stands rules claims (claims_without claims (Some number)) ends.held None place ends.at
      (numbered-gone number ends.held claims apart ends.found) other kind tid differs

  module _ (systems : List SystemState) (tables : List (TablesOf A)) (is : AreInStep stands rules systems claims tables) (next : Record) (more : List AleUnit)
      (commits : (state : SystemState) → slice_get systems place ≡ Some state
      → rules.committed (suc place) (state.log ++ next ∷ []) ≡ rules.committed (suc place) state.log ++ more) where
    -- a record joins the log of a system that is up, its units are entered, and it is noted, with what goes with it and that log
    pub in_step-noted : (goes : A → List Record → Type 0) (systems_after : List SystemState) (after : List (TablesOf A)) (claim : Option ℕ)
        → ((state : SystemState) → slice_get systems place ≡ Some state
        → (state.up ≡ true) × Joins (rules.committed (suc place) state.log) more state.log claim (claim_at Out (suc place) claims)
        (claim_at In (suc place) claims) next)
        → EndsNamed claims (suc place) next claim
        → ChangedAt (λ old new. new ≡ state_with next old) place systems systems_after
        → ChangedAt (λ old now. Noted stands goes next more (entered more old) now) place tables after
        → ((state : SystemState) (old : TablesOf A) → slice_get systems place ≡ Some state → slice_get tables place ≡ Some old → goes old.application state.log)
        → AreInStep stands rules systems_after (claims_without claims claim) after
    in_step-noted goes systems_after after claim joins ends grown noted made =
        in_step-changed stands rules systems systems_after claims (claims_without claims claim) tables after place (λ old new. new ≡ state_with next old)
        (λ old now. Noted stands goes next more (entered more old) now × (slice_get tables place ≡ Some old)) is grown
        (ChangedAt-known place tables after noted)
        (elsewhere claim next ends)
        (λ state new old now known same its are.
        let committed = rules.committed (suc place) state.log in
        let sent = claim_at Out (suc place) (claims_without claims claim) in
        let arrived = claim_at In (suc place) (claims_without claims claim) in
        let join = joins state known in
        let one = AreTablesOf-noted stands goes committed more state.log claim (claim_at Out (suc place) claims) (claim_at In (suc place) claims) sent arrived
        next old now
        (are.up join.0) join.1 (claims_after-joins committed more state.log claim next ends join.1) its.0 (made state old known its.1) in
        subst (λ (s : SystemState). AreTablesAt stands rules (claims_without claims claim) (suc place) s now) (sym same) (record {
          units = (its.0).units ∙ ap (λ units. units ++ more) are.units ∙ sym (commits state known);
          up = λ up. subst (λ units. AreTablesOf stands units (state.log ++ next ∷ []) sent arrived now) (sym (commits state known)) one;
        }))

    -- a record joins the log of a system, its units are entered, and the system falls behind it
    pub in_step-fallen : (systems_after : List SystemState) (after : List (TablesOf A)) (rest : Option Record)
        → ChangedAt (λ old new. new ≡ state_down rest (state_with next old)) place systems systems_after
        → ChangedAt (λ old now. now.units ≡ old.units ++ more) place tables after
        → AreInStep stands rules systems_after claims after
    in_step-fallen systems_after after rest grown entered_units =
        in_step-changed stands rules systems systems_after claims claims tables after place (λ old new. new ≡ state_down rest (state_with next old))
        (λ old now. now.units ≡ old.units ++ more) is grown entered_units (λ other kind tid differs. refl)
        (λ state new old now known same its are.
        subst (λ (s : SystemState). AreTablesAt stands rules claims (suc place) s now) (sym same) (record {
          units = its ∙ ap (λ units. units ++ more) are.units ∙ sym (commits state known);
          up = λ up. cc;
        }))
