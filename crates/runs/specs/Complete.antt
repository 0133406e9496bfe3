-- A run in which nothing holds units up: behind each drain each unit went its whole way. This project's own.
use Rattle.std.specs.Prelude.{◌≡◌, ⊤, Bool, true, false, List, [], ◌∷◌, None}
use Rattle.script_text.specs.declared.form.Form.{Form}
use Rattle.script_text.specs.declared.form.Form.TheVariants as form
use Rattle.unit_works.specs.Through.{AreOffered, AreThrough, IsClear, NoneLeft}
use Rattle.runs.specs.declared.stage.Stage.{Stage}
use Rattle.runs.specs.Turns.{Turn, first_down}

-- a command stops no queue, gives no letters to a unit and crashes no system
abbrev pub holds_nothing : Form → Bool
holds_nothing (form.Stop sys destination queue) = false
holds_nothing (form.Wire tid letters) = false
holds_nothing (form.Crash sys) = false
holds_nothing (form.Send sys number) = true
holds_nothing (form.Put sys change) = true
holds_nothing (form.Gather sys message) = true
holds_nothing (form.Dispatch sys) = true
holds_nothing form.Drain = true
holds_nothing (form.Start sys destination queue) = true
holds_nothing (form.Retry sys tid) = true
holds_nothing (form.Late tid) = true
holds_nothing (form.App sys doc) = true
holds_nothing (form.Repost sys doc) = true
holds_nothing (form.Open sys) = true
holds_nothing (form.Remodel file) = true
holds_nothing (form.ShowDocs sys) = true
holds_nothing (form.ShowDoc sys doc) = true
holds_nothing (form.ShowHistory sys way doc) = true
holds_nothing (form.ShowUnits sys) = true
holds_nothing (form.ShowQueues sys) = true
holds_nothing (form.ShowObjects sys) = true

module _ {V : Type 0} where
  -- nothing holds units up: all systems are up, no queue is stopped, no unit is marked, and none has a letter left
  pub record IsFree (stage : Stage V) : Type 0 where
    pub up : first_down stage.landscape.world ≡ None
    pub clear : IsClear stage.landscape.world
    pub none : NoneLeft stage.wires

  -- a turn holds no unit up: its command does not, all systems are up behind it, and each unit that was committed has a function that its
  -- receiver offers
  pub record HoldsNothing (turn : Turn V) : Type 0 where
    pub command : holds_nothing turn.command.form ≡ true
    pub up : first_down turn.after.landscape.world ≡ None
    pub offered : AreOffered turn.after.landscape.world

  -- behind each drain each unit that was committed went its whole way, as long as no turn up to it holds any up
  abbrev pub AllGoThrough : List (Turn V) → Type 0
  AllGoThrough [] = ⊤
  AllGoThrough (turn ∷ turns) =
      HoldsNothing turn → (turn.command.form ≡ form.Drain → AreThrough turn.after.landscape.world) × AllGoThrough turns

  -- so it is where nothing holds units up at first
  abbrev pub IsComplete : Stage V → List (Turn V) → Type 0
  IsComplete before turns = IsFree before → AllGoThrough turns
