-- A receiver falls once it has handled a request.
use Rattle.std.specs.Prelude.{◌≡◌, ◌⊎◌, ℕ, Bool, true, false, List, []}
use Rattle.unit_core.specs.declared.ale_unit.AleUnit.{AleUnit}
use Rattle.trfc_protocol.specs.declared.answer.Answer.{Answer}
use Rattle.trfc_protocol.specs.Meaning.{Meaning}
use Rattle.unit_landscape.specs.KeptWorlds.{KeptOf}
use Rattle.unit_landscape.specs.declared.answers.Reply.{Reply}
use Rattle.unit_landscape.specs.declared.claims.OutClaim.{OutClaim}
use Rattle.unit_works.specs.declared.letter.Letter.{Letter}
use Rattle.unit_works.specs.Trips.{Felled, fells}
use Rattle.unit_works.specs.steps.Arriving.{HasDelivered, delivery}
use Rattle.unit_works.specs.steps.Claims.{WasCut}

-- a system was felled where it was to be, and no claims are left; else nothing has changed
abbrev pub FellIf : {R A V : Type 0} → KeptOf R A V → KeptOf R A V → Bool → ℕ → Type 0
FellIf before after true system = Felled before after [] system × (after.world.claims ≡ [])
FellIf before after false system = after ≡ before

-- a letter felled the receiver of a unit behind the records of its delivery, and no claims are left
pub record WasFelled {R A V : Type 0} (before after : KeptOf R A V) (unit : AleUnit) (letter : Letter) (given : Answer) : Type 0 where
  pub fells_it : fells letter given ≡ true
  pub felled : Felled before after (delivery letter given unit) unit.receiver
  pub claims : after.world.claims ≡ []

-- a unit was delivered under a letter that fells no receiver; or its receiver fell, as it was to append one of these records, or behind them
abbrev pub HandledSo : {R A V : Type 0} → Meaning → KeptOf R A V → KeptOf R A V → OutClaim → AleUnit → Letter → Answer → Reply → Type 0
HandledSo rules before after claim unit letter given told =
    (HasDelivered rules before.world after.world claim unit letter given told × (fells letter given ≡ false))
    ⊎ (WasCut before after (delivery letter given unit) ⊎ WasFelled before after unit letter given)
