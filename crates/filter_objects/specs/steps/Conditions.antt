-- The conditions of a group with their values in tables: one step on the way to `passes` of `FromLeaves`.
use Rattle.std.specs.Prelude.{◌≡◌, ℕ, ◌==◌, ◌||◌, Bool, not, List, is_some, position}
use Rattle.std.specs.List.{list_all, list_any}
use Rattle.ale_base.specs.Text.{is_text}
use Rattle.segment_defs.specs.declared.definitions.Definitions.{Definitions}
use Rattle.segment_defs.specs.Definitions.{HasVersion, text_of}
use Rattle.idoc_tree.specs.Forest.{Segment}
use Rattle.filter_objects.specs.declared.condition.Condition.{Condition}

-- whether a text is one of the values in a table
abbrev pub is_one_of : List ℕ → List (List ℕ) → Bool
is_one_of text values = is_some (position (is_text text) values)

-- whether a segment is of another type than a condition is on, or has one of its values
abbrev pub suits : Definitions → Segment → Condition → Bool
suits definitions segment condition =
    not (condition.segment == segment.type)
    || is_one_of (text_of definitions segment.type segment.version condition.field segment.sdata) condition.values

-- whether it does so at each of some conditions
abbrev pub suits_all : Definitions → List Condition → Segment → Bool
suits_all definitions conditions segment = list_all (suits definitions segment) conditions

-- a table has the same texts as a list
abbrev pub HasSame : List (List ℕ) → List (List ℕ) → Type 0
HasSame table values = (text : List ℕ) → list_any (is_text text) table ≡ list_any (is_text text) values

-- there is the definition of a segment
abbrev pub HasDefinition : Definitions → Segment → Type 0
HasDefinition definitions segment = HasVersion definitions segment.type segment.version
