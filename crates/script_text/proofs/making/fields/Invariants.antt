use Rattle.std.proofs.Common.{◌≡◌, ◌++◌, map, drop}
use Rattle.script_text.specs.Words.{texts}
use Rattle.script_text.specs.Kinds.{field_value}
use Rattle.script_text.proofs.making.fields.Given as goal

abbrev pub invariant-loop-word : goal.invariant-loop-word
invariant-loop-word l = l.fields ++ map field_value (texts (drop l.word-index l.words)) ≡ map field_value (texts l.words)
