-- What holds of the world at every moment.
use Rattle.std.specs.Prelude.{◌≡◌, ◌≢◌, ℕ, ◌<◌, ◌≤◌, ⊤, Bool, true, false, not, ◌==◌, ◌&&◌, Option, Some, None, List, [], ◌∷◌, length, All}
use Rattle.unit_core.specs.declared.ale_unit.AleUnit.{AleUnit}
use Rattle.unit_core.specs.declared.records.Record.{Record}
use Rattle.unit_core.specs.Filters.{received}
use Rattle.unit_core.specs.Queues.{is_among}
use Rattle.unit_core.specs.Once.{Once}
use Rattle.trfc_protocol.specs.declared.world.World.{World}
use Rattle.trfc_protocol.specs.declared.held.Held.{Held}
use Rattle.trfc_protocol.specs.declared.held.HeldKind.{HeldKind}
use Rattle.trfc_protocol.specs.declared.held.HeldKind.TheVariants.{Out, In, Direct}
use Rattle.trfc_protocol.specs.Meaning.{Meaning}
use Rattle.trfc_protocol.specs.Legal.{IsLegal, is_empty, is_free_outbound, is_free_inbound}
use Rattle.trfc_protocol.specs.Worlds.{log_of, log_under, rest_of, is_up, offers_now, committed_by, committed_unit, is_claimed, claim_of}
use Rattle.trfc_protocol.specs.Offered.{heads_at_sender}

-- a direct run is due: the unit has no inbound queue and a function that its receiver offers, was not received, and heads its
-- outbound queues
abbrev pub is_direct : {R : Type 0} → Meaning → World R → ℕ → Option AleUnit → Bool
is_direct rules world system None = false
is_direct rules world system (Some unit) =
    (unit.receiver == system)
    && is_empty unit.inq
    && offers_now rules world system unit.function
    && not (is_among unit.tid (received (log_of world system)))
    && heads_at_sender rules world unit

-- the unit of a claim is due: it may be sent, executed, or run as it arrives
abbrev pub is_due : {R : Type 0} → Meaning → World R → Held → HeldKind → Bool
is_due rules world held Out = (held.system == held.tid.system)
    && is_free_outbound (committed_by rules world held.system) (log_of world held.system) held.tid
is_due rules world held In = is_free_inbound (log_of world held.system) held.tid
is_due rules world held Direct = is_direct rules world held.system (committed_unit rules world held.tid)

-- a claim holds where its system is up, its unit is due, and its number was given
pub record Holds {R : Type 0} (rules : Meaning) (world : World R) (held : Held) : Type 0 where
  pub up : is_up world held.system ≡ true
  pub due : is_due rules world held held.kind ≡ true
  pub number : held.number < world.next_number

-- claims differ in their numbers, and no unit has two of one kind
abbrev pub AreApart : List Held → Type 0
AreApart [] = ⊤
AreApart (held ∷ others) = (claim_of held.number others ≡ None) × (is_claimed held.kind held.tid others ≡ false) × AreApart others

-- the logs of all systems are legal, each begins with its Genesis, and together they keep the exactly-once law
pub record Sound (rules : Meaning) (logs : ℕ → List Record) : Type 0 where
  pub legal : (system : ℕ) → IsLegal rules system (logs system)
  pub begun : (system : ℕ) → 1 ≤ system → system ≤ rules.systems → logs system ≢ []
  pub once : Once (λ system. rules.committed system (logs system)) logs

-- Whatever the systems that are down find at their openings, the logs are sound. A system that is up has nothing to find.
-- Each claim holds, by the logs as they are.
pub record Safe {R : Type 0} (rules : Meaning) (world : World R) : Type 0 where
  pub systems : length world.systems ≡ rules.systems
  pub sound : (choice : ℕ → Bool) → Sound rules (log_under choice world)
  pub settled : (system : ℕ) → is_up world system ≡ true → rest_of world system ≡ None
  pub hold : All (Holds rules world) world.claims
  pub apart : AreApart world.claims

-- a world is safe by its own rules
abbrev pub IsSafe : {R : Type 0} → (R → Meaning) → World R → Type 0
IsSafe meaning world = Safe (meaning world.rules) world
