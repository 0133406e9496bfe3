-- Parts of entries by names. Their numbers are those of one model alone, so two models are compared by names.
use Rattle.std.specs.Prelude.{ℕ, Bool, List, Option}
use Rattle.segment_defs.specs.declared.idoc_type.TypePlace.{TypePlace}
use Rattle.dist_model.specs.declared.filter.FieldPlace.{FieldPlace}
use Rattle.dist_model.specs.declared.lists.Lists.{Lists}
use Rattle.dist_model.specs.Named.{segment_name}

-- an entry of an IDoc type, its segment type by name
abbrev pub named_entry : Lists → TypePlace → List ℕ × Option ℕ × Bool × ℕ × ℕ
named_entry model entry = (segment_name model entry.segment, entry.parent, entry.mandatory, entry.min, entry.max)

-- a field, its segment type by name
abbrev pub named_field : Lists → FieldPlace → List ℕ × ℕ
named_field model place = (segment_name model place.segment, place.field)
