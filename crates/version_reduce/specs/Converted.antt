-- Conversion: values of fields that others replace. This project's own.
use Rattle.std.specs.Prelude.{◌≡◌, ℕ, ◌<◌, ◌==◌, ◌&&◌, Bool, List, ◌∷◌, ◌++◌, length}
use Rattle.std.specs.List.{AllByRecursion, find}
use Rattle.std.specs.Option.{option_map_or}
use Rattle.ale_base.specs.Text.{is_text}
use Rattle.segment_defs.specs.declared.definitions.Definitions.{Definitions}
use Rattle.dist_model.specs.declared.lists.Lists.{Lists}
use Rattle.dist_model.specs.declared.outbound.Convert.{Convert}
use Rattle.dist_model.specs.declared.outbound.Outbound.{Outbound}
use Rattle.idoc_tree.specs.Forest.{Segment, Forest, map_nodes}
use Rattle.version_reduce.specs.Left.{IsChangedFrom}
use Rattle.version_reduce.specs.Texts.{fields_of, text_at, with_texts}

-- whether a row replaces this value of this field of this segment type
abbrev pub replaces : ℕ → ℕ → List ℕ → Convert → Bool
replaces type field value row = row.segment == type && (row.field == field && is_text row.from value)

-- the value in the place of a value: that of the first row that replaces it, or itself where no row does
abbrev pub converted_text : List Convert → ℕ → ℕ → List ℕ → List ℕ
converted_text rows type field value = option_map_or (λ row. row.to) (find (replaces type field value) rows) value

-- a segment with each field of its definition converted
abbrev pub converted_segment : Definitions → List Convert → Segment → Segment
converted_segment definitions rows segment =
    with_texts definitions (λ field. converted_text rows segment.type field (text_at definitions segment field)) segment

-- the forest with each segment converted by the profile's rows
abbrev pub converted : Lists → Outbound → Forest → Forest
converted model profile forest = map_nodes (converted_segment model.definitions profile.convert) forest

-- a row is for this value of this field of this segment type
pub record IsRowFor (type field : ℕ) (value : List ℕ) (row : Convert) : Type 0 where
  pub segment : row.segment ≡ type
  pub place : row.field ≡ field
  pub from : row.from ≡ value

-- a row is the first of some that is for a value of a field
pub record IsFirstFor (rows : List Convert) (type field : ℕ) (value : List ℕ) (row : Convert) : Type 0 where
  pub before : List Convert
  pub behind : List Convert
  pub parts : rows ≡ before ++ row ∷ behind
  pub own : IsRowFor type field value row
  pub first : AllByRecursion (λ other. IsRowFor type field value other → ⊥) before

-- What a segment becomes by some rows: each field of its definition has the value of the first row that is for the text that it had,
-- and that text where no row is for it.
pub record IsConvertedTo (definitions : Definitions) (rows : List Convert) (old new : Segment) : Type 0 where
  pub type : new.type ≡ old.type
  pub version : new.version ≡ old.version
  pub replaced : (field : ℕ) (row : Convert) → field < length (fields_of definitions old)
      → IsFirstFor rows old.type field (text_at definitions old field) row → text_at definitions new field ≡ row.to
  pub others : (field : ℕ) → AllByRecursion (λ row. IsRowFor old.type field (text_at definitions old field) row → ⊥) rows
      → text_at definitions new field ≡ text_at definitions old field

-- no segment goes, and each is sent with its values converted by the profile's rows
abbrev pub IsConvertedFrom : Lists → Outbound → Forest → Forest → Type 0
IsConvertedFrom model profile old new = IsChangedFrom (IsConvertedTo model.definitions profile.convert) old new
