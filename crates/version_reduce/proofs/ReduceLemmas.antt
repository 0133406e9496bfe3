-- Fields that are reduced.
use Rattle.std.specs.Prelude.{if◌then◌else◌}
use Rattle.std.proofs.Common.{ℕ, ◌≤◌, Bool, true, false, List, length, ap, arith}
use Rattle.segment_defs.specs.declared.definitions.Definitions.{Definitions}
use Rattle.segment_defs.specs.Definitions.{AreDefinitions}
use Rattle.segment_defs.specs.Version.{HaveRoom}
use Rattle.segment_defs.proofs.FieldLemmas.{length-field_text, text_in-at}
use Rattle.dist_model.specs.declared.filter.FieldPlace.{FieldPlace}
use Rattle.idoc_tree.specs.Forest.{Segment}
use Rattle.version_reduce.specs.Texts.{fields_of, text_at}
use Rattle.version_reduce.specs.Reduced.{is_kept, no_data, reduced_text}
use Rattle.version_reduce.proofs.TextLemmas.{field-is, fields_of-AreFields}

-- the one of two texts fits, if both do
pub either_fits : (b : Bool) (size : ℕ) (text other : List ℕ) → length text ≤ size → length other ≤ size → length (if b then text else other) ≤ size
either_fits true size text other one two = one
either_fits false size text other one two = two

-- the reduced texts of a segment have room
pub HaveRoom-reduced : (definitions : Definitions) (keep : List FieldPlace) (segment : Segment) → AreDefinitions definitions
    → HaveRoom (fields_of definitions segment) (reduced_text definitions keep segment)
HaveRoom-reduced definitions keep segment are place field here =
    let fields = fields_of definitions segment in
    either_fits (is_kept keep segment.type place) field.length (text_at definitions segment place) no_data
    (omega (arith, ap length (text_in-at fields segment.sdata place field here), length-field_text segment.sdata field))
    (field-is fields place field (fields_of-AreFields definitions segment are) here).least
