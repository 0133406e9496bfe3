-- What families lack, as it is looked for: one step on the way to `IsMissing` of `Builds`.
use Rattle.std.specs.Prelude.{ℕ, suc, ◌==◌, ◌&&◌, Bool, true, false, nat_lt, List, [], ◌∷◌, Option, Some, None, if◌then◌else◌}
use Rattle.std.specs.Option.{option_map}
use Rattle.segment_defs.specs.declared.idoc_type.TypePlace.{TypePlace}
use Rattle.segment_defs.specs.IdocType.{type_above}
use Rattle.idoc_tree.specs.Forest.{count_of}
use Rattle.idoc_tree.specs.Valid.{Family}

-- the two are one type, or both none
abbrev pub is_same : Option ℕ → Option ℕ → Bool
is_same None None = true
is_same None (Some other) = false
is_same (Some type) None = false
is_same (Some type) (Some other) = type == other

-- an entry is mandatory in a family and has too few segments there
abbrev pub is_lacking : List TypePlace → Family → TypePlace → Bool
is_lacking entries family entry =
    entry.mandatory
    && (is_same (type_above entries entry) family.above && nat_lt (count_of entry.segment family.children) entry.min)

-- the first of some entries that a family lacks
abbrev pub lack_among : List TypePlace → Family → List TypePlace → Option ℕ
lack_among entries family [] = None
lack_among entries family (entry ∷ others) =
    if is_lacking entries family entry then Some entry.segment else lack_among entries family others

-- the first mandatory type, in the order of the entries, that a family lacks
abbrev pub lack_of : List TypePlace → Family → Option ℕ
lack_of entries family = lack_among entries family entries

-- what the first family lacks, or else a later one
abbrev pub lack_or_later : Option ℕ → Option (ℕ × ℕ) → Option (ℕ × ℕ)
lack_or_later None later = option_map (λ lack. (lack.0, suc lack.1)) later
lack_or_later (Some type) later = Some (type, 0)

-- the first family that lacks a type: that type, and the place of the family
abbrev pub first_lack : List TypePlace → List Family → Option (ℕ × ℕ)
first_lack entries [] = None
first_lack entries (family ∷ others) = lack_or_later (lack_of entries family) (first_lack entries others)
