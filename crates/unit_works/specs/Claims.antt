-- The claims that are left.
use Rattle.std.specs.Prelude.{◌≡◌, ◌⊎◌, ℕ, true, false, not, List, []}
use Rattle.std.specs.List.{list_all}
use Rattle.trfc_protocol.specs.declared.held.Held.{Held}
use Rattle.trfc_protocol.specs.declared.held.HeldKind.TheVariants.{Direct}
use Rattle.trfc_protocol.specs.declared.world.World.{World}
use Rattle.trfc_protocol.specs.Worlds.{is_kind, is_up}

-- a system that was up is down
abbrev pub OneFell : {R : Type 0} → World R → World R → Type 0
OneFell before after = (system : ℕ) × (is_up before system ≡ true) × (is_up after system ≡ false)

-- claims are these; or there are none, and a system fell
abbrev pub AreOrGone : {R : Type 0} → World R → World R → List Held → Type 0
AreOrGone before after these = (after.claims ≡ these) ⊎ ((after.claims ≡ []) × OneFell before after)

-- claims are these; or there are none, as where a system fell or all were given up
abbrev pub AreOrNone : List Held → List Held → Type 0
AreOrNone claims these = (claims ≡ these) ⊎ (claims ≡ [])

-- no claim to run a unit as it arrives stands
abbrev pub NoneRuns : List Held → Type 0
NoneRuns claims = list_all (λ (held : Held). not (is_kind held.kind Direct)) claims ≡ true
