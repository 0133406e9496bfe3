-- The fields of the definition of a segment, and texts in them.
use Rattle.std.specs.Prelude.{ℕ, List, []}
use Rattle.std.specs.Option.{option_map_or}
use Rattle.segment_defs.specs.declared.definitions.Definitions.{Definitions}
use Rattle.segment_defs.specs.declared.field.Field.{Field}
use Rattle.segment_defs.specs.Definitions.{version_of}
use Rattle.segment_defs.specs.Version.{text_in, data_of}
use Rattle.idoc_tree.specs.Forest.{Segment}

-- the fields of the definition of a segment
abbrev pub fields_of : Definitions → Segment → List Field
fields_of definitions segment = option_map_or (λ version. version.fields) (version_of definitions segment.type segment.version) []

-- the text of a field of a segment, by its place among those of the definition
abbrev pub text_at : Definitions → Segment → ℕ → List ℕ
text_at definitions segment field = text_in (fields_of definitions segment) segment.sdata field

-- the segment in which each field of the definition, by its place, has this text
abbrev pub with_texts : Definitions → (ℕ → List ℕ) → Segment → Segment
with_texts definitions texts segment = record segment { sdata = data_of (fields_of definitions segment) texts }
