-- Works of a landscape whose systems work by models: it goes on by events, units take letters, and runs and executions end.
use Rattle.std.specs.Prelude.{◌≡◌, ◌⊎◌, ◌+◌, ℕ, Bool, false, List, ◌++◌}
use Rattle.ale_volumes.specs.Disk.{Disk}
use Rattle.ale_base.specs.Tid.{TidOf}
use Rattle.trfc_protocol.specs.declared.event.Event.{Event}
use Rattle.trfc_protocol.specs.declared.world.World.{World}
use Rattle.trfc_protocol.specs.Offered.{is_offered_outbound, is_offered_inbound}
use Rattle.trfc_protocol.specs.Worlds.{is_up}
use Rattle.unit_landscape.specs.KeptWorlds.{KeptOf}
use Rattle.document_state.specs.declared.document_tables.DocumentTables.{DocumentTables}
use Rattle.document_state.specs.declared.model_rules.ModelRules.{ModelRules}
use Rattle.document_state.specs.Meaning.{model_meaning}
use Rattle.unit_works.specs.declared.letter.Letter.{Letter}
use Rattle.unit_works.specs.Wires.{after_take, letters_left}
use Rattle.unit_works.specs.Finished.{finished_in}
use Rattle.unit_works.specs.Went.{WentOn}
use Rattle.unit_works.specs.Claims.{AreOrGone}

-- claims were made or given up, and nothing else
pub record HaveOnlyClaimed {R A V : Type 0} (before after : KeptOf R A V) : Type 0 where
  pub world : after.world ≡ record before.world { claims = after.world.claims; next_number = after.world.next_number }
  pub journals : after.journals ≡ before.journals
  pub vols : after.vols ≡ before.vols
  pub causes : after.causes ≡ before.causes

-- what is kept of the letters that are left of units
abbrev pub Lines : Type 0
Lines = List ((ℕ × ℕ) × List Letter)

-- a unit took the letter that was next, and all others keep theirs
abbrev pub HasTaken : TidOf → Lines → Lines → Type 0
HasTaken tid before after = (other : TidOf) → letters_left after other ≡ after_take tid (letters_left before) other

-- units took letters that were next, and keep the others
abbrev pub HaveTaken : Lines → Lines → Type 0
HaveTaken before after = (tid : TidOf) → (taken : List Letter) × (letters_left before tid ≡ taken ++ letters_left after tid)

-- nothing is offered outbound at a system: it is down, or none of its units may go
abbrev pub NothingOut : World ModelRules → ℕ → Type 0
NothingOut world system =
    (is_up world system ≡ false) ⊎ ((tid : TidOf) → tid.system ≡ system → is_offered_outbound (model_meaning world.rules.systems) world tid ≡ false)

-- nothing is offered inbound at a system: it is down, or no unit that it received may be executed
abbrev pub NothingIn : World ModelRules → ℕ → Type 0
NothingIn world system = (is_up world system ≡ false) ⊎ ((tid : TidOf) → is_offered_inbound world system tid ≡ false)

module _ {V : Type 0} (disk : Disk V) (before after : KeptOf ModelRules DocumentTables V) where
  -- A landscape went on by events that may happen. Where the work is whole, each system that fell had a cause; else memory was wanting.
  abbrev pub Worked : (Event → Bool) → Bool → Type 0
  Worked may whole = WentOn (λ (rules : ModelRules). model_meaning rules.systems) disk may whole before after

  -- So many runs and executions have ended. No claim was added: they are as before; or there are none, and a system fell.
  pub record HaveEnded (n : ℕ) : Type 0 where
    pub finished : finished_in after.world ≡ finished_in before.world + n
    pub claims : AreOrGone before.world after.world before.world.claims
