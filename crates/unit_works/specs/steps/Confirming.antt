-- The confirmation of a unit comes to its receiver.
use Rattle.std.specs.Prelude.{◌≡◌, ◌⊎◌, ⊤, Bool, true, false, List, [], if◌then◌else◌}
use Rattle.ale_base.specs.Tid.{TidOf}
use Rattle.unit_core.specs.declared.ale_unit.AleUnit.{AleUnit}
use Rattle.unit_core.specs.declared.records.Record.TheVariants.{Forget}
use Rattle.trfc_protocol.specs.declared.world.World.{World}
use Rattle.trfc_protocol.specs.RecordOf.{Writing}
use Rattle.trfc_protocol.specs.Meaning.{Meaning}
use Rattle.unit_landscape.specs.KeptWorlds.{KeptOf}
use Rattle.unit_landscape.specs.declared.answers.Confirmed.{Confirmed}
use Rattle.unit_landscape.specs.declared.answers.Confirmed.TheVariants.{Forgotten, Already, Down}
use Rattle.unit_landscape.specs.Calls.{is_forgotten}
use Rattle.unit_works.specs.Trips.{AppendedAs, Wholly, forgot, one_at}

-- the receiver of a unit has forgotten it, unless it is down
abbrev pub Forgets : {R : Type 0} → Meaning → World R → TidOf → Confirmed → Type 0
Forgets rules world tid Forgotten = is_forgotten rules world tid ≡ true
Forgets rules world tid Already = is_forgotten rules world tid ≡ true
Forgets rules world tid Down = ⊤

-- what is appended as a confirmation comes to a receiver: it forgets the id, unless it has
abbrev pub sent_to : Bool → AleUnit → List Writing
sent_to forgotten unit = if forgotten then [] else one_at unit.receiver (Forget unit.tid)

-- a confirmation came to a receiver, and no system fell
pub record HasSent {R : Type 0} (before after : World R) (tid : TidOf) (unit : AleUnit) (given : Confirmed) : Type 0 where
  pub its : unit.tid ≡ tid
  pub grew : Wholly before after (sent_to (forgot before unit) unit)
  pub came : given ≡ Down → ⊥

-- the same, or the receiver fell as it was to forget the id: nothing comes back
abbrev pub SentSo : {R A V : Type 0} → KeptOf R A V → KeptOf R A V → TidOf → AleUnit → Confirmed → Type 0
SentSo before after tid unit given =
    HasSent before.world after.world tid unit given
    ⊎ (AppendedAs before after (sent_to (forgot before.world unit) unit) false × (given ≡ Down))
