-- Texts that are written one after the other: a step on the way to `control_text` of `ControlRecord`.
use Rattle.std.specs.Prelude.{ℕ, List, fold}
use Rattle.idoc_record.specs.declared.control_field.ControlField.{ControlField}
use Rattle.idoc_record.specs.Control.{blank_text, written_at}

-- the texts of a blank record in which these fields were written, in this order
abbrev pub written_all : (ControlField → List ℕ) → List ControlField → ControlField → List ℕ
written_all texts fields = fold (λ so_far field. written_at field (texts field) so_far) blank_text fields
