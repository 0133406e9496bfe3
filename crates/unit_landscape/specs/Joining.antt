-- A record that joins the log of a system, and the claim that it ends.
use Rattle.std.specs.Prelude.{◌≡◌, ℕ, ⊤, not, ◌==◌, filter, Option, Some, None, List, ◌∷◌, [], ◌++◌}
use Rattle.unit_core.specs.declared.ale_unit.AleUnit.{AleUnit}
use Rattle.unit_core.specs.declared.records.Record.{Record}
use Rattle.unit_core.specs.declared.records.Record.TheVariants.{Mark, Done, Execute, Direct as Run, Fail}
use Rattle.trfc_protocol.specs.declared.held.Held.{Held}
use Rattle.trfc_protocol.specs.declared.held.HeldKind.TheVariants.{Out, In, Direct}
use Rattle.trfc_protocol.specs.declared.world.World.{World}
use Rattle.trfc_protocol.specs.Meaning.{Meaning}
use Rattle.trfc_protocol.specs.Worlds.{log_of, claim_of, without_claim, with_record}
use Rattle.system_tables.specs.Joins.{Joins}
use Rattle.unit_landscape.specs.Claims.{claim_at}

-- a record ends a claim on its unit: a Done and a Mark one to ship it, an Execute and a Fail one to execute it, a Direct one to
-- run it as it arrives
abbrev pub Ends : Record → Held → Type 0
Ends (Done tid) held = (held.kind ≡ Out) × (held.tid ≡ tid)
Ends (Mark tid cause) held = (held.kind ≡ Out) × (held.tid ≡ tid)
Ends (Execute tid) held = (held.kind ≡ In) × (held.tid ≡ tid)
Ends (Fail tid) held = (held.kind ≡ In) × (held.tid ≡ tid)
Ends (Run unit) held = (held.kind ≡ Direct) × (held.tid ≡ unit.tid)
Ends _ held = ⊥

-- a record of a system ends the claim of a number
pub record EndsClaim (claims : List Held) (system : ℕ) (next : Record) (number : ℕ) : Type 0 where
  pub held : Held
  pub found : claim_of number claims ≡ Some held
  pub at : held.system ≡ system
  pub ends : Ends next held

-- a record of a system ends the claim that is named, if one is
abbrev pub EndsNamed : List Held → ℕ → Record → Option ℕ → Type 0
EndsNamed claims system next None = ⊤
EndsNamed claims system next (Some number) = EndsClaim claims system next number

-- claims without the one that is named, if one is
abbrev pub claims_without : List Held → Option ℕ → List Held
claims_without claims None = claims
claims_without claims (Some number) = filter (λ held. not (held.number == number)) claims

-- the world without the claim that is named, if one is
abbrev pub without_named : {R : Type 0} → World R → Option ℕ → World R
without_named world None = world
without_named world (Some number) = without_claim world number

-- a record joins the log of a system, which commits these units behind those before, and ends this claim
pub record JoinsAt {R : Type 0} (rules : Meaning) (world : World R) (system : ℕ) (next : Record) (more : List AleUnit) (claim : Option ℕ) : Type 0 where
  pub commits : rules.committed system (log_of world system ++ next ∷ []) ≡ rules.committed system (log_of world system) ++ more
  pub joins : Joins (rules.committed system (log_of world system)) more (log_of world system) claim
      (claim_at Out system world.claims) (claim_at In system world.claims) next
  pub ends : EndsNamed world.claims system next claim

-- the world after a record of a system, which ended the claim that is named
abbrev pub after_record : {R : Type 0} → World R → ℕ → Record → Option ℕ → World R
after_record world system next claim = without_named (with_record world system next) claim
