use Rattle.std.proofs.Common.{◌≡◌, drop}
use Rattle.dist_model.specs.declared.outbound.Outbound.{Outbound}
use Rattle.dist_model.specs.Message.{message_entries}
use Rattle.model_text.specs.Checked.{checked}
use Rattle.model_text.specs.Whole.{all_whole, whole}
use Rattle.model_text.specs.declared.keys.TheConstants.{OUTBOUND}
use Rattle.model_text.proofs.whole.all_whole.Given as goal

abbrev pub invariant-loop-place : goal.invariant-loop-place
invariant-loop-place l =
    let test = λ (profile : Outbound). whole l.definitions (message_entries l.types l.messages profile.message) profile in
    checked OUTBOUND.now test l.place (drop l.place l.profiles) ≡ all_whole l.definitions l.types l.messages l.profiles
