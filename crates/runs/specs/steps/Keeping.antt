-- Commands that hold nothing up.
use Rattle.std.specs.Prelude.{◌≡◌, true, None}
use Rattle.script_text.specs.declared.form.Form.{Form}
use Rattle.script_text.specs.declared.form.Form.TheVariants as form
use Rattle.unit_works.specs.Through.{AreOffered, AreThrough}
use Rattle.runs.specs.declared.stage.Stage.{Stage}
use Rattle.runs.specs.Complete.{IsFree, holds_nothing}
use Rattle.runs.specs.Turns.{first_down}

-- A command that holds no unit up left them free where they were, if it left all systems up and all is offered; and where it is a drain, each
-- unit that was committed went its whole way.
abbrev pub KeepsFree : {V : Type 0} → Stage V → Stage V → Form → Type 0
KeepsFree before after asked = holds_nothing asked ≡ true → first_down after.landscape.world ≡ None → AreOffered after.landscape.world → IsFree before
    → IsFree after × (asked ≡ form.Drain → AreThrough after.landscape.world)
