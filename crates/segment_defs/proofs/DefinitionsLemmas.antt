-- What a name stands for among segment types, and what is known of the definitions that it stands for.
use Rattle.std.specs.Prelude.{slice_get, IsSome, Contains, ◌↔◌}
use Rattle.std.specs.List.{AllByRecursion, AllPairs, IsDistinct, flat_map}
use Rattle.std.specs.Option.{option_map, option_map_or}
use Rattle.std.specs.Cmp.Lexicographic.{bytes_decides}
use Rattle.std.proofs.Common.{◌≡◌, ℕ, zero, suc, ◌+◌, ◌-◌, ◌<◌, ◌≤◌, ◌⊎◌, false, Option, Some, None, List, [], ◌∷◌, ◌++◌, length, length-append, map, take, inl}
use Rattle.std.proofs.Common.{inr, refl, sym, ap, subst, ◌∙◌, arith}
use Rattle.std.proofs.lemmas.Bool.{cases_Bool, cond-true, cond-false}
use Rattle.std.proofs.lemmas.Option.{same_Some, some_pair_parts, slice_get-map, slice_get_within}
use Rattle.std.proofs.lemmas.List.{take_all, length-take, get_or_append_left, get_or-append-add}
use Rattle.std.proofs.lemmas.Map.Made.{AllPairs-from_IsDistinct}
use Rattle.std.proofs.lemmas.List.Elements.{Contains-append_cases, Contains-append_left, Contains-append_right}
use Rattle.ale_base.specs.Blanks.{trimmed}
use Rattle.ale_base.specs.TrimmedLemmas.{trimmed-trimmed, length-trimmed}
use Rattle.segment_defs.specs.declared.version.Version.{Version}
use Rattle.segment_defs.specs.declared.segment_type.SegmentType.{SegmentType}
use Rattle.segment_defs.specs.declared.definitions.Definitions.{Definitions}
use Rattle.ale_base.specs.Text.{is_text}
use Rattle.segment_defs.specs.Version.{IsVersion, width_of, fitted}
use Rattle.segment_defs.specs.SegmentType.{Continues, IsSegmentType}
use Rattle.segment_defs.specs.Definitions.{AreDefinitions, StandsFor, names_of, versions_of, version_of, version_named, named_in, first_found, found_in}
use Rattle.segment_defs.specs.Definitions.{HasVersion}
use Rattle.ale_base.proofs.OptionLemmas.{option_map-Some, none_or_some}
use Rattle.ale_base.proofs.ListLemmas.{AllByRecursion-at, IsDistinct-parts, Contains-at, slice_get-within}
use Rattle.ale_base.proofs.MemberLemmas.{Contains-cons}

-- of names that stand once, none is in the front and behind it
pub not_in_both : (xs ys : List (List ℕ)) (name : List ℕ) → IsDistinct is_text (xs ++ ys) → Contains xs name → Contains ys name → ⊥
not_in_both xs ys name apart front behind =
    let i = front.0 in
    let j = length xs + behind.0 in
    let within : j < length (xs ++ ys) = omega (arith, length-append xs ys, behind.1) in
    let before : i < j = omega (arith, front.1) in
    AllPairs-from_IsDistinct bytes_decides (xs ++ ys) apart i j name before within
    (get_or_append_left xs ys name i front.1 ∙ front.2 ∙ sym (get_or-append-add xs ys behind.0 name ∙ behind.2))

-- the definition has the name, or its type has it and the definition is the newest one
abbrev IsNamed : List ℕ → SegmentType → ℕ → Version → Type 0
IsNamed name type version definition =
    (slice_get type.versions version ≡ Some definition) × ((definition.name ≡ name) ⊎ ((type.name ≡ name) × (suc version ≡ length type.versions)))

-- a definition that is found by a name has it
version_named-name : (name : List ℕ) (versions : List Version) (place : ℕ) → version_named name versions ≡ Some place
    → (definition : Version) × (slice_get versions place ≡ Some definition) × (definition.name ≡ name)
version_named-name name [] place found = cc
version_named-name name (version ∷ versions) place found =
    let P = λ (p : ℕ). (definition : Version) × (slice_get (version ∷ versions) p ≡ Some definition) × (definition.name ≡ name) in
    let rest = option_map suc (version_named name versions) in
    elim (cases_Bool (is_text version.name name)) [
      | inl same ↦
          let first : 0 ≡ place = same_Some 0 place (sym (cond-true (is_text version.name name) (Some 0) rest same) ∙ found) in
          subst P first (version, refl, (bytes_decides version.name name).0 same)
      | inr other ↦
          let behind = option_map-Some suc (version_named name versions) place (sym (cond-false (is_text version.name name) (Some 0) rest other) ∙ found) in
          subst P behind.2 (version_named-name name versions behind.0 behind.1)
    ]

-- what a name stands for in one segment type has it
named_in-IsNamed : (name : List ℕ) (type : SegmentType) (version : ℕ) → 1 ≤ length type.versions → named_in name type ≡ Some version →
    (definition : Version) × IsNamed name type version definition
named_in-IsNamed name type version some found =
    elim (cases_Bool (is_text type.name name)) [
      | inl same ↦
          let last : length type.versions - 1 ≡ version = same_Some (length type.versions - 1) version
          (sym (cond-true (is_text type.name name) (Some (length type.versions - 1)) (version_named name type.versions) same) ∙ found) in
          let there = slice_get-within type.versions version (omega arith) in
          (there.0, (there.1, inr ((bytes_decides type.name name).0 same, omega arith)))
      | inr other ↦
          let there = version_named-name name type.versions version
          (sym (cond-false (is_text type.name name) (Some (length type.versions - 1)) (version_named name type.versions) other) ∙ found) in
          (there.0, (there.1, inl there.2))
    ]

-- the name of a definition stands at its place among the names
name-at : (versions : List Version) (place : ℕ) (definition : Version) → slice_get versions place ≡ Some definition →
    slice_get (map (λ version. version.name) versions) place ≡ Some definition.name
name-at versions place definition here =
    slice_get-map (λ (version : Version). version.name) versions place ∙ ap (option_map (λ (version : Version). version.name)) here

-- where no name stands twice, a definition is found by its name
version_named-place : (versions : List Version) (place : ℕ) (definition : Version) → IsDistinct is_text (map (λ version. version.name) versions)
    → slice_get versions place ≡ Some definition → version_named definition.name versions ≡ Some place
unfolding IsDistinct
version_named-place [] place definition apart here = cc
version_named-place (version ∷ versions) zero definition apart here =
    let same : version.name ≡ definition.name = ap (λ v. v.name) (same_Some version definition here) in
    cond-true (is_text version.name definition.name) (Some 0) (option_map suc (version_named definition.name versions))
    ((bytes_decides version.name definition.name).1 same)
version_named-place (version ∷ versions) (suc place) definition apart here =
    let other = AllByRecursion-at (λ name. is_text version.name name ≡ false) (map (λ v. v.name) versions) place definition.name apart.0
    (name-at versions place definition here) in
    cond-false (is_text version.name definition.name) (Some 0) (option_map suc (version_named definition.name versions)) other
    ∙ ap (option_map suc) (version_named-place versions place definition apart.1 here)

-- where no name stands twice, the definition that has a name is the one that is found in its type
named_in-place : (name : List ℕ) (type : SegmentType) (version : ℕ) (definition : Version) → IsDistinct is_text (names_of type) →
    IsNamed name type version definition → named_in name type ≡ Some version
unfolding IsDistinct
named_in-place name type version definition apart named =
    elim named.1 [
      | inl same ↦
          let other = AllByRecursion-at (λ n. is_text type.name n ≡ false) (map (λ v. v.name) type.versions) version definition.name apart.0
          (name-at type.versions version definition named.0) in
          subst (λ n. named_in n type ≡ Some version) same
          (cond-false (is_text type.name definition.name) (Some (length type.versions - 1)) (version_named definition.name type.versions) other
          ∙ version_named-place type.versions version definition apart.1 named.0)
      | inr newest ↦
          let last : length type.versions - 1 ≡ version = omega (arith, newest.1) in
          cond-true (is_text type.name name) (Some (length type.versions - 1)) (version_named name type.versions) ((bytes_decides type.name name).1 newest.0)
          ∙ ap Some last
    ]

-- such a name is among those of the type
IsNamed-among : (name : List ℕ) (type : SegmentType) (version : ℕ) (definition : Version) → IsNamed name type version definition → Contains (names_of type) name
IsNamed-among name type version definition named =
    elim named.1 [
      | inl same ↦ subst (Contains (names_of type)) same
          (Contains-at (names_of type) (suc version) definition.name (name-at type.versions version definition named.0))
      | inr newest ↦ subst (Contains (names_of type)) newest.0 (Contains-at (names_of type) 0 type.name refl)
    ]

-- a name of one type is among the names of all
among_all : (types : List SegmentType) (segment : ℕ) (type : SegmentType) (name : List ℕ) → slice_get types segment ≡ Some type →
    Contains (names_of type) name → Contains (flat_map names_of types) name
among_all [] segment type name here among = cc
among_all (other ∷ types) zero type name here among =
    Contains-append_left (names_of other) (flat_map names_of types) name (subst (λ t. Contains (names_of t) name) (sym (same_Some other type here)) among)
among_all (other ∷ types) (suc segment) type name here among =
    Contains-append_right (names_of other) (flat_map names_of types) name (among_all types segment type name here among)

-- what is found first is of the first type, or it is found among the others
first_found-cases : (own : Option ℕ) (others : Option (ℕ × ℕ)) (segment version : ℕ) → first_found own others ≡ Some (segment, version)
    → ((0 ≡ segment) × (own ≡ Some version)) ⊎ ((rest : ℕ) × (suc rest ≡ segment) × (others ≡ Some (rest, version)))
first_found-cases None others segment version found =
    let behind = option_map-Some (λ (f : ℕ × ℕ). (suc f.0, f.1)) others (segment, version) found in
    inr (behind.0.0, ap (λ f. f.0) behind.2, behind.1 ∙ ap (λ v. Some (behind.0.0, v)) (ap (λ f. f.1) behind.2))
first_found-cases (Some own) others segment version found =
    let same = some_pair_parts 0 segment own version found in
    inl (same.0, ap Some same.1)

-- what is found in all is found in the segment type of this number
found_in-type : (name : List ℕ) (types : List SegmentType) (segment version : ℕ) → found_in name types ≡ Some (segment, version)
    → (type : SegmentType) × (slice_get types segment ≡ Some type) × (named_in name type ≡ Some version)
found_in-type name [] segment version found = cc
found_in-type name (type ∷ types) segment version found =
    let P = λ (s : ℕ). (t : SegmentType) × (slice_get (type ∷ types) s ≡ Some t) × (named_in name t ≡ Some version) in
    elim (first_found-cases (named_in name type) (found_in name types) segment version found) [
      | inl here ↦ subst P here.0 (type, refl, here.1)
      | inr there ↦ subst P there.1 (found_in-type name types there.0 version there.2)
    ]

-- where no name stands twice, the definition that has a name is the one that is found in all
found_in-place : (name : List ℕ) (types : List SegmentType) (segment version : ℕ) (type : SegmentType) (definition : Version) →
    AllByRecursion IsSegmentType types
    → IsDistinct is_text (flat_map names_of types) → slice_get types segment ≡ Some type → IsNamed name type version definition →
    found_in name types ≡ Some (segment, version)
found_in-place name [] segment version type definition each apart here named = cc
found_in-place name (other ∷ types) zero version type definition each apart here named =
    let own = (IsDistinct-parts is_text (names_of other) (flat_map names_of types) apart).0 in
    let same : other ≡ type = same_Some other type here in
    ap (λ found. first_found found (found_in name types))
    (named_in-place name other version definition own (subst (λ t. IsNamed name t version definition) (sym same) named))
found_in-place name (other ∷ types) (suc segment) version type definition each apart here named =
    let found = found_in-place name types segment version type definition each.1 (IsDistinct-parts is_text (names_of other) (flat_map names_of types) apart).2
    here named in
    elim (none_or_some (named_in name other)) [
      | inl none ↦ ap (λ own. first_found own (found_in name types)) none ∙ ap (option_map (λ (f : ℕ × ℕ). (suc f.0, f.1))) found
      | inr twice ↦
          let is = named_in-IsNamed name other twice.0 each.0.some twice.1 in
          absurd (not_in_both (names_of other) (flat_map names_of types) name apart
          (IsNamed-among name other twice.0 is.0 is.1)
          (among_all types segment type name here (IsNamed-among name type version definition named)))
    ]

-- what is found by a name is what it stands for
pub StandsFor-found : (definitions : Definitions) (name : List ℕ) (segment version : ℕ) → AreDefinitions definitions
    → found_in name definitions.types ≡ Some (segment, version) → StandsFor definitions name segment version
StandsFor-found definitions name segment version are found =
    let there = found_in-type name definitions.types segment version found in
    let is = AllByRecursion-at IsSegmentType definitions.types segment there.0 are.each there.1 in
    let named = named_in-IsNamed name there.0 version is.some there.2 in
    record { type = there.0; type_at = there.1; definition = named.0; definition_at = named.1.0; named = named.1.1 }

-- what a name stands for is found by it
pub found-StandsFor : (definitions : Definitions) (name : List ℕ) (segment version : ℕ) → AreDefinitions definitions
    → StandsFor definitions name segment version → found_in name definitions.types ≡ Some (segment, version)
found-StandsFor definitions name segment version are stands =
    found_in-place name definitions.types segment version stands.type stands.definition are.each are.apart stands.type_at (stands.definition_at, stands.named)

-- a name stands for what is found by it, and for nothing else
pub stands_for-found : (definitions : Definitions) (name : List ℕ) (segment version : ℕ) → AreDefinitions definitions
    → (found_in name definitions.types ≡ Some (segment, version)) ↔ StandsFor definitions name segment version
stands_for-found definitions name segment version are =
    (StandsFor-found definitions name segment version are, found-StandsFor definitions name segment version are)

-- a name among those of all types is one of a type's names
type_among : (types : List SegmentType) (name : List ℕ) → Contains (flat_map names_of types) name →
    (segment : ℕ) × (type : SegmentType) × (slice_get types segment ≡ Some type) × Contains (names_of type) name
type_among [] name has = absurd (omega (arith, has.1))
type_among (type ∷ types) name has =
    elim (Contains-append_cases (names_of type) (flat_map names_of types) name has) [
      | inl own ↦ (0, type, refl, own)
      | inr other ↦ let rest = type_among types name other in (suc rest.0, rest.1, rest.2, rest.3)
    ]

-- a name among those of definitions is the name of one
definition_among : (versions : List Version) (name : List ℕ) → Contains (map (λ version. version.name) versions) name
    → (place : ℕ) × (definition : Version) × (slice_get versions place ≡ Some definition) × (definition.name ≡ name)
definition_among [] name has = absurd (omega (arith, has.1))
definition_among (version ∷ versions) name has =
    elim (Contains-cons version.name (map (λ v. v.name) versions) name has) [
      | inl same ↦ (0, version, refl, same)
      | inr other ↦ let rest = definition_among versions name other in (suc rest.0, rest.1, rest.2, rest.3)
    ]

-- a name of a type that has a definition stands for one of them
among-IsNamed : (name : List ℕ) (type : SegmentType) → 1 ≤ length type.versions → Contains (names_of type) name →
    (version : ℕ) × (definition : Version) × IsNamed name type version definition
among-IsNamed name type some has =
    elim (Contains-cons type.name (map (λ version. version.name) type.versions) name has) [
      | inl same ↦
          let last = length type.versions - 1 in
          let newest = slice_get-within type.versions last (omega arith) in
          (last, newest.0, (newest.1, inr (same, omega arith)))
      | inr other ↦
          let there = definition_among type.versions name other in
          (there.0, there.1, (there.2, inl there.3))
    ]

-- a name of a type or of a definition stands for a definition
pub named-StandsFor : (definitions : Definitions) (name : List ℕ) → AreDefinitions definitions
    → Contains (flat_map names_of definitions.types) name → (segment version : ℕ) × StandsFor definitions name segment version
named-StandsFor definitions name are has =
    let there = type_among definitions.types name has in
    let is = AllByRecursion-at IsSegmentType definitions.types there.0 there.1 are.each there.2 in
    let named = among-IsNamed name there.1 is.some there.3 in
    (there.0, named.0, record { type = there.1; type_at = there.2; definition = named.1; definition_at = named.2.0; named = named.2.1 })

-- what stands for a definition is a name of a type or of a definition
pub StandsFor-named : (definitions : Definitions) (name : List ℕ) (segment version : ℕ) → StandsFor definitions name segment version →
    Contains (flat_map names_of definitions.types) name
StandsFor-named definitions name segment version stands =
    among_all definitions.types segment stands.type name stands.type_at
    (IsNamed-among name stands.type version stands.definition (stands.definition_at, stands.named))

-- nothing is found exactly where neither a type nor a definition has the name
pub none-found : (definitions : Definitions) (name : List ℕ) → AreDefinitions definitions →
    (found_in name definitions.types ≡ None) ↔ (Contains (flat_map names_of definitions.types) name → ⊥)
none-found definitions name are = (
  λ none has. let there = named-StandsFor definitions name are has in let found = found-StandsFor definitions name there.0 there.1 are there.2 in cc,
  λ never. elim (none_or_some (found_in name definitions.types)) [
    | inl none ↦ none
    | inr some ↦ absurd (never (StandsFor-named definitions name some.0.0 some.0.1 (StandsFor-found definitions name some.0.0 some.0.1 are some.1)))
  ],
)

-- the definitions of a type that keeps its rules continue each other; where there is no type there are none
versions_found-continued : (found : Option SegmentType) → ((type : SegmentType) → found ≡ Some type → IsSegmentType type) →
    AllPairs Continues (option_map_or (λ type. type.versions) found [])
versions_found-continued None is = λ i j d less within. absurd (omega arith)
versions_found-continued (Some type) is = (is type refl).continued

-- the definitions of a segment type continue each other
pub versions_of-continued : (definitions : Definitions) (segment : ℕ) → AreDefinitions definitions → AllPairs Continues (versions_of definitions segment)
versions_of-continued definitions segment are =
    versions_found-continued (slice_get definitions.types segment) (λ type here. AllByRecursion-at IsSegmentType definitions.types segment type are.each here)

-- what is found by a name is a definition
pub found-exists : (definitions : Definitions) (name : List ℕ) (segment version : ℕ) → AreDefinitions definitions
    → found_in name definitions.types ≡ Some (segment, version) → (definition : Version) × (version_of definitions segment version ≡ Some definition)
found-exists definitions name segment version are found =
    let stands = StandsFor-found definitions name segment version are found in
    (stands.definition, ap (λ type. slice_get (option_map_or (λ t. t.versions) type []) version) stands.type_at ∙ stands.definition_at)

-- so it has a segment type and a place in it
pub found-within : (definitions : Definitions) (name : List ℕ) (segment version : ℕ) → AreDefinitions definitions
    → found_in name definitions.types ≡ Some (segment, version) → segment < length definitions.types
found-within definitions name segment version are found =
    let stands = StandsFor-found definitions name segment version are found in
    slice_get_within definitions.types segment stands.type stands.type_at

-- and there is such a definition
pub found-HasVersion : (definitions : Definitions) (name : List ℕ) (segment version : ℕ) → AreDefinitions definitions
    → found_in name definitions.types ≡ Some (segment, version) → HasVersion definitions segment version
found-HasVersion definitions name segment version are found =
    let there = found-exists definitions name segment version are found in
    subst IsSome (sym there.1) refl

-- a definition is one of a segment type
versions_found-type : (found : Option SegmentType) (version : ℕ) (definition : Version) → slice_get (option_map_or (λ type. type.versions) found []) version
    ≡ Some definition
    → (type : SegmentType) × (found ≡ Some type) × (slice_get type.versions version ≡ Some definition)
versions_found-type None version definition here = cc
versions_found-type (Some type) version definition here = (type, refl, here)

-- a definition is found by its name
pub found-definition : (definitions : Definitions) (segment version : ℕ) (definition : Version) → AreDefinitions definitions
    → version_of definitions segment version ≡ Some definition → found_in definition.name definitions.types ≡ Some (segment, version)
found-definition definitions segment version definition are here =
    let there = versions_found-type (slice_get definitions.types segment) version definition here in
    found_in-place definition.name definitions.types segment version there.0 definition are.each are.apart there.1 (there.2, inl refl)

-- each definition keeps the rules of one
pub version-IsVersion : (definitions : Definitions) (segment version : ℕ) (definition : Version) → AreDefinitions definitions
    → version_of definitions segment version ≡ Some definition → IsVersion definition
version-IsVersion definitions segment version definition are here =
    let there = versions_found-type (slice_get definitions.types segment) version definition here in
    let is = AllByRecursion-at IsSegmentType definitions.types segment there.0 are.each there.1 in
    AllByRecursion-at IsVersion there.0.versions version definition is.each there.2

-- data that a definition cut is as it has them
pub fitted-fitted : (definition : Version) (sdata : List ℕ) → fitted definition (fitted definition sdata) ≡ fitted definition sdata
fitted-fitted definition sdata =
    let width = width_of definition.fields in
    let cut = take width sdata in
    let short : length (trimmed cut) ≤ width = omega (arith, length-trimmed cut, length-take width sdata) in
    ap trimmed (take_all width (trimmed cut) short) ∙ trimmed-trimmed cut
