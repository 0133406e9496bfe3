-- Claims that go.
use Rattle.std.specs.Prelude.{◌≡◌, false, List, []}
use Rattle.unit_landscape.specs.KeptWorlds.{KeptOf}
use Rattle.trfc_protocol.specs.RecordOf.{Writing}
use Rattle.unit_works.specs.Trips.{AppendedAs}

-- a system fell as it was to append one of these records, and no claims are left
pub record WasCut {R A V : Type 0} (before after : KeptOf R A V) (added : List Writing) : Type 0 where
  pub cut : AppendedAs before after added false
  pub claims : after.world.claims ≡ []
