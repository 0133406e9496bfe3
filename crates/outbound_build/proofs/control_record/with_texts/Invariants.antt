use Rattle.std.proofs.Common.{◌≡◌, take}
use Rattle.idoc_record.specs.Control.{control_with}
use Rattle.outbound_build.specs.ControlRecord.{control_text}
use Rattle.outbound_build.specs.steps.Texts.{written_all}
use Rattle.outbound_build.proofs.control_record.with_texts.Given as goal

abbrev pub invariant-loop-field : goal.invariant-loop-field
invariant-loop-field l = l.control ≡ control_with (written_all (control_text l.lists l.profile l.number.0 l.master) (take l.field-index l.fields))
