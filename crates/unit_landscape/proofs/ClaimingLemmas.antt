-- The first unit that is offered is found, and claimed.
use Rattle.std.specs.Prelude.{IfOk, OnErr, Result, Ok, Err}
use Rattle.std.proofs.Common.{◌≡◌, ℕ, true, Option, Some, None, inr, refl, sym, ap, subst, ◌∙◌}
use Rattle.std.proofs.lemmas.Option.{none-some}
use Rattle.ale_volumes.specs.Disk.{Disk}
use Rattle.ale_base.specs.Tid.{TidOf}
use Rattle.ale_base.specs.declared.way.Way.TheVariants.{Outgoing, Incoming}
use Rattle.unit_core.specs.declared.ale_unit.AleUnit.{AleUnit}
use Rattle.trfc_protocol.specs.declared.world.World.{World}
use Rattle.trfc_protocol.specs.declared.held.HeldKind.TheVariants.{Out, In}
use Rattle.trfc_protocol.specs.declared.event.Event.TheVariants as event
use Rattle.trfc_protocol.specs.Meaning.{Meaning}
use Rattle.trfc_protocol.specs.Legal.{IsLawful}
use Rattle.trfc_protocol.specs.Worlds.{is_up, committed_unit, with_claim}
use Rattle.trfc_protocol.specs.Offered.{is_offered_outbound}
use Rattle.trfc_protocol.specs.Safe.{Safe}
use Rattle.trfc_protocol.proofs.SafeLemmas.{committed_unit-is}
use Rattle.unit_landscape.specs.KeptWorlds.{KeptOf}
use Rattle.unit_landscape.specs.LogAnswers.{may_go_at, first_to_go, KeepsVolumes}
use Rattle.unit_landscape.specs.Kept.{IsLandscape}
use Rattle.unit_landscape.specs.Claiming.{IsFirstOut, IsNextOut, IsFirstIn, IsNextIn}
use Rattle.unit_landscape.specs.declared.claims.InClaim.{InClaim}
use Rattle.unit_landscape.specs.Calls.{ClaimedIn}
use Rattle.unit_landscape.proofs.HappenedLemmas.{happened-none}
use Rattle.unit_landscape.proofs.EndsLemmas.{landscape-step, landscape-same}
use Rattle.unit_landscape.proofs.OfferedLemmas.{may_go-outbound, may_go-inbound, first-outbound, none-outbound, first-inbound, none-inbound}
use Rattle.unit_landscape.proofs.OfferedLemmas.{outbound_unit, claim-after, run-after}

module _ {R : Type 0} (rules : Meaning) (lawful : IsLawful rules) (world : World R) (safe : Safe rules world) where
  -- a unit that is found by the id of the first to go outbound is the first that is offered
  pub next_out-found : (system : ℕ) (tid : TidOf) (found : Option AleUnit) → is_up world system ≡ true → first_to_go rules world system Outgoing ≡ Some tid
      → found ≡ committed_unit rules world tid → IsNextOut rules world system found
  next_out-found system tid None up first none =
      let is = first-outbound rules lawful world safe system tid up first in
      let unit = outbound_unit rules lawful world safe tid is.1 in
      absurd (none-some unit.0 (none ∙ unit.1))
  next_out-found system tid (Some unit) up first named =
      let is = first-outbound rules lawful world safe system tid up first in
      let its : tid ≡ unit.tid = sym (committed_unit-is rules lawful world safe tid unit (sym named)).1 in
      record {
        up = up;
        first = first ∙ ap Some its;
        offered = subst (λ t. is_offered_outbound rules world t ≡ true) its is.1;
        here = sym (ap (λ (t : TidOf). t.system) its) ∙ is.0;
        named = subst (λ t. committed_unit rules world t ≡ Some unit) its (sym named);
      }

  -- where none may go outbound, none is offered
  pub next_out-none : (system : ℕ) → is_up world system ≡ true → first_to_go rules world system Outgoing ≡ None → IsNextOut rules world system None
  next_out-none system up none = inr (none-outbound rules lawful world safe system up none)

  -- the first to go inbound is the first that is offered
  pub next_in-found : (system : ℕ) (found : Option TidOf) → is_up world system ≡ true → found ≡ first_to_go rules world system Incoming
      → IsNextIn rules world system found
  next_in-found system None up none = inr (none-inbound rules lawful world safe system up (sym none))
  next_in-found system (Some tid) up first = record {
    up = up;
    first = sym first;
    offered = first-inbound rules lawful world safe system tid up (sym first);
  }

  -- the first unit that is offered outbound may go
  pub out-may : (system : ℕ) (unit : AleUnit) → IsFirstOut rules world system unit → may_go_at rules world system Outgoing unit.tid ≡ true
  out-may system unit is =
      let up : is_up world (unit.tid).system ≡ true = ap (is_up world) is.here ∙ is.up in
      ap (λ s. may_go_at rules world s Outgoing unit.tid) (sym is.here) ∙ may_go-outbound rules lawful world safe unit.tid up ∙ is.offered

  -- so may the first that is offered inbound
  pub in-may : (system : ℕ) (tid : TidOf) → IsFirstIn rules world system tid → may_go_at rules world system Incoming tid ≡ true
  in-may system tid is = may_go-inbound rules lawful world safe system tid is.up ∙ is.offered

module _ {R A V : Type 0} (meaning : R → Meaning) (lawful : (r : R) → IsLawful (meaning r)) (before after : KeptOf R A V) (system : ℕ)
    (is : IsLandscape meaning (before.world)) where
  -- a landscape stays one where its first unit that is offered outbound is claimed, or is not
  pub landscape-claimed_out : {T : Type 0} (unit : AleUnit) (result : Result ℕ T) → IsFirstOut (meaning (before.world).rules) before.world system unit
      → IfOk result (λ number. (number ≡ (before.world).next_number) × (after.world ≡ with_claim before.world unit.tid system Out))
      → OnErr result (after ≡ before) → IsLandscape meaning (after.world)
  landscape-claimed_out unit (Ok number) first made kept =
      landscape-step meaning lawful before.world after.world (event.Claim unit.tid) is
      (made.1 ∙ ap (λ s. with_claim before.world unit.tid s Out) (sym first.here)
      ∙ sym (claim-after (meaning (before.world).rules) (lawful (before.world).rules) before.world is.safe unit.tid first.offered))
  landscape-claimed_out unit (Err end) first made kept = landscape-same meaning before.world after.world (ap (λ (k : KeptOf R A V). k.world) kept) is

  -- and so inbound
  pub landscape-claimed_in : {T : Type 0} (tid : TidOf) (result : Result ℕ T) → IsFirstIn (meaning (before.world).rules) before.world system tid
      → IfOk result (λ number. (number ≡ (before.world).next_number) × (after.world ≡ with_claim before.world tid system In))
      → OnErr result (after ≡ before) → IsLandscape meaning (after.world)
  landscape-claimed_in tid (Ok number) first made kept =
      landscape-step meaning lawful before.world after.world (event.Run tid) is
      (made.1 ∙ sym (run-after (meaning (before.world).rules) (lawful (before.world).rules) before.world is.safe system tid first.offered))
  landscape-claimed_in tid (Err end) first made kept = landscape-same meaning before.world after.world (ap (λ (k : KeptOf R A V). k.world) kept) is

-- what a call answers that claimed the first unit that is offered inbound
pub claimed_in : {R A V : Type 0} (rules : Meaning) (lawful : IsLawful rules) (disk : Disk V) (before after : KeptOf R A V) → Safe rules before.world
    → (system : ℕ) (claim : InClaim) → IsFirstIn rules before.world system claim.tid
    → (claim.number ≡ (before.world).next_number) × (after.world ≡ with_claim before.world claim.tid system In) → claim.system ≡ system
    → claim.opening ≡ (before.world).falls → KeepsVolumes before after → ClaimedIn rules disk before after system (Some claim)
claimed_in rules lawful disk before now safe system claim first made here since keeps = (
  happened-none rules disk before now (event.Run claim.tid) refl
      (made.1 ∙ sym (run-after rules lawful before.world safe system claim.tid first.offered)) keeps refl,
  first.offered,
  first.first,
  here,
  record { next = made.0; falls = since },
)
