-- Documents that are read by IDoc types of two models, in which one segment type may have two numbers: what is read by the one is read
-- by the other, in the same form.
use Rattle.std.specs.Prelude.{⊤, map, option_and_then, slice_get, ◌==◌, if◌then◌else◌}
use Rattle.std.specs.List.{AllByRecursion}
use Rattle.std.specs.Option.{option_map}
use Rattle.std.proofs.Common.{◌≡◌, ℕ, suc, ◌≤◌, inl, inr, Bool, Option, Some, None, List, [], ◌∷◌, ◌++◌, refl, sym, ap, subst, ◌∙◌, arith}
use Rattle.std.proofs.lemmas.Bool.Decides.{eqb_tells}
use Rattle.std.proofs.lemmas.Option.{slice_get-map}
use Rattle.ale_base.proofs.ListLemmas.{AllByRecursion-map, AllByRecursion-weaker}
use Rattle.idoc_record.specs.Data.{DataRecord}
use Rattle.segment_defs.specs.declared.definitions.Definitions.{Definitions}
use Rattle.segment_defs.specs.declared.idoc_type.TypePlace.{TypePlace}
use Rattle.segment_defs.specs.IdocType.{parent_of, place_in, type_above}
use Rattle.idoc_tree.specs.Forest.{Forest, Segment, count_of, no_trees, preorder, roots, tree}
use Rattle.idoc_tree.specs.Spells.{Hangs, Spells, segment_of}
use Rattle.idoc_tree.specs.Valid.{Family, Fits, HasEnough, IsOrdered, IsValid, Suffices, families, families_below}

-- two forests of one shape, the second with each type renamed
module _ (rename : ℕ → ℕ) where
  abbrev pub entry_renamed : TypePlace → TypePlace
  entry_renamed entry = record entry { segment = rename entry.segment }

  abbrev pub IsRenamed : Segment → Segment → Type 0
  IsRenamed segment other = other.type ≡ rename segment.type

  abbrev pub AreRenamed : List Segment → List Segment → Type 0
  AreRenamed [] [] = ⊤
  AreRenamed [] (other ∷ others) = ⊥
  AreRenamed (segment ∷ segments) [] = ⊥
  AreRenamed (segment ∷ segments) (other ∷ others) = IsRenamed segment other × AreRenamed segments others

  abbrev pub IsForestRenamed : Forest → Forest → Type 0
  IsForestRenamed no_trees no_trees = ⊤
  IsForestRenamed no_trees (tree root below after) = ⊥
  IsForestRenamed (tree root below after) no_trees = ⊥
  IsForestRenamed (tree root below after) (tree other under behind) =
      IsRenamed root other × IsForestRenamed below under × IsForestRenamed after behind

  renamed-parts : (ones others segments : List Segment) → AreRenamed (ones ++ others) segments
      → (first : List Segment) × (second : List Segment) × (segments ≡ first ++ second) × AreRenamed ones first × AreRenamed others second
  renamed-parts [] others segments are = ([], segments, refl, tt, are)
  renamed-parts (one ∷ ones) others [] are = absurd are
  renamed-parts (one ∷ ones) others (segment ∷ segments) are =
      let rest = renamed-parts ones others segments are.1 in
      (segment ∷ rest.0, rest.1, ap (λ (ss : List Segment). segment ∷ ss) rest.2, (are.0, rest.3), rest.4)

  -- renamed segments hang together as those before
  filled : (forest : Forest) (segments : List Segment) → AreRenamed (preorder forest) segments
      → (other : Forest) × (preorder other ≡ segments) × IsForestRenamed forest other
  filled no_trees [] are = (no_trees, refl, tt)
  filled no_trees (segment ∷ segments) are = absurd are
  filled (tree root below after) [] are = absurd are
  filled (tree root below after) (segment ∷ segments) are =
      let parts = renamed-parts (preorder below) (preorder after) segments are.1 in
      let under = filled below parts.0 parts.3 in
      let behind = filled after parts.1 parts.4 in (
        tree segment under.0 behind.0,
        ap (λ (ss : List Segment). segment ∷ (ss ++ preorder behind.0)) under.1 ∙ ap (λ (ss : List Segment). segment ∷ (parts.0 ++ ss)) behind.1
            ∙ ap (λ (ss : List Segment). segment ∷ ss) (sym parts.2),
        (are.0, under.2, behind.2),
      )

  roots-renamed : (forest other : Forest) → IsForestRenamed forest other → AreRenamed (roots forest) (roots other)
  roots-renamed no_trees no_trees is = tt
  roots-renamed no_trees (tree root below after) is = absurd is
  roots-renamed (tree root below after) no_trees is = absurd is
  roots-renamed (tree root below after) (tree other under behind) is = (is.0, roots-renamed after behind is.2)

module _ (rename : ℕ → ℕ) (apart : (a b : ℕ) → rename a ≡ rename b → a ≡ b) (entries : List TypePlace) where
  eq-renamed : (a b : ℕ) → (rename a == rename b) ≡ (a == b)
  eq-renamed a b = elim (eqb_tells a b) [
    | inl (is, same) ↦ (elim (eqb_tells (rename a) (rename b)) [
      | inl (also, alike) ↦ also ∙ sym is
      | inr (is_not, differ) ↦ absurd (differ (ap rename same))
    ])
    | inr (is, differ) ↦ (elim (eqb_tells (rename a) (rename b)) [
      | inl (also, alike) ↦ absurd (differ (apart a b alike))
      | inr (is_not, unlike) ↦ is_not ∙ sym is
    ])
  ]

  abbrev others : List TypePlace
  others = map (entry_renamed rename) entries

  place-renamed : (some : List TypePlace) (type : ℕ) → place_in (map (entry_renamed rename) some) (rename type) ≡ place_in some type
  place-renamed [] type = refl
  place-renamed (entry ∷ some) type =
      ap (λ (b : Bool). if b then 0 else suc (place_in (map (entry_renamed rename) some) (rename type))) (eq-renamed entry.segment type)
      ∙ ap (λ (n : ℕ). if entry.segment == type then 0 else suc n) (place-renamed some type)

  above-renamed : (entry : TypePlace) → type_above others (entry_renamed rename entry) ≡ option_map rename (type_above entries entry)
  above-renamed entry = by_parent entry.parent
    where
      by_entry : (o : Option TypePlace)
          → option_map (λ above. above.segment) (option_map (entry_renamed rename) o) ≡ option_map rename (option_map (λ above. above.segment) o)
      by_entry None = refl
      by_entry (Some above) = refl

      by_parent : (o : Option ℕ)
          → option_and_then (λ place. option_map (λ above. above.segment) (slice_get others place)) o
          ≡ option_map rename (option_and_then (λ place. option_map (λ above. above.segment) (slice_get entries place)) o)
      by_parent None = refl
      by_parent (Some place) =
          ap (option_map (λ (above : TypePlace). above.segment)) (slice_get-map (entry_renamed rename) entries place) ∙ by_entry (slice_get entries place)

  parent-renamed : (type : ℕ) → parent_of others (rename type) ≡ option_map (option_map rename) (parent_of entries type)
  parent-renamed type =
      ap (λ (place : ℕ). option_map (type_above others) (slice_get others place)) (place-renamed entries type)
      ∙ ap (option_map (type_above others)) (slice_get-map (entry_renamed rename) entries (place_in entries type))
      ∙ by_entry (slice_get entries (place_in entries type))
    where
      by_entry : (o : Option TypePlace)
          → option_map (type_above others) (option_map (entry_renamed rename) o) ≡ option_map (option_map rename) (option_map (type_above entries) o)
      by_entry None = refl
      by_entry (Some entry) = ap Some (above-renamed entry)

  hangs-renamed : (above : Option ℕ) (forest other : Forest) → IsForestRenamed rename forest other → Hangs entries above forest
      → Hangs others (option_map rename above) other
  hangs-renamed above no_trees no_trees is hangs = tt
  hangs-renamed above no_trees (tree root below after) is hangs = absurd is
  hangs-renamed above (tree root below after) no_trees is hangs = absurd is
  hangs-renamed above (tree root below after) (tree other under behind) is hangs = (
    ap (parent_of others) is.0 ∙ parent-renamed root.type ∙ ap (option_map (option_map rename)) hangs.0,
    subst (λ (type : ℕ). Hangs others (Some type) under) (sym is.0) (hangs-renamed (Some root.type) below under is.1 hangs.1),
    hangs-renamed above after behind is.2 hangs.2,
  )

  count-renamed : (type : ℕ) (segments renamed : List Segment) → AreRenamed rename segments renamed → count_of (rename type) renamed ≡ count_of type segments
  count-renamed type [] [] are = refl
  count-renamed type [] (other ∷ renamed) are = absurd are
  count-renamed type (segment ∷ segments) [] are = absurd are
  count-renamed type (segment ∷ segments) (other ∷ renamed) are =
      ap (λ (t : ℕ). if t == rename type then suc (count_of (rename type) renamed) else count_of (rename type) renamed) are.0
      ∙ ap (λ (b : Bool). if b then suc (count_of (rename type) renamed) else count_of (rename type) renamed) (eq-renamed segment.type type)
      ∙ ap (λ (n : ℕ). if segment.type == type then suc n else n) (count-renamed type segments renamed are.1)

  -- a family of one form with another one
  record IsFamilyRenamed (family other : Family) : Type 0 where
    pub above : other.above ≡ option_map rename family.above
    pub children : AreRenamed rename family.children other.children

  abbrev AreFamiliesRenamed : List Family → List Family → Type 0
  AreFamiliesRenamed [] [] = ⊤
  AreFamiliesRenamed [] (other ∷ renamed) = ⊥
  AreFamiliesRenamed (family ∷ some) [] = ⊥
  AreFamiliesRenamed (family ∷ some) (other ∷ renamed) = IsFamilyRenamed family other × AreFamiliesRenamed some renamed

  families-append : (ones firsts twos seconds : List Family) → AreFamiliesRenamed ones firsts → AreFamiliesRenamed twos seconds
      → AreFamiliesRenamed (ones ++ twos) (firsts ++ seconds)
  families-append [] [] twos seconds one two = two
  families-append [] (other ∷ firsts) twos seconds one two = absurd one
  families-append (family ∷ ones) [] twos seconds one two = absurd one
  families-append (family ∷ ones) (other ∷ firsts) twos seconds one two = (one.0, families-append ones firsts twos seconds one.1 two)

  below-renamed : (forest other : Forest) → IsForestRenamed rename forest other → AreFamiliesRenamed (families_below forest) (families_below other)
  below-renamed no_trees no_trees is = tt
  below-renamed no_trees (tree root below after) is = absurd is
  below-renamed (tree root below after) no_trees is = absurd is
  below-renamed (tree root below after) (tree other under behind) is = (
    record { above = ap Some is.0; children = roots-renamed rename below under is.1 },
    families-append (families_below below) (families_below under) (families_below after) (families_below behind) (below-renamed below under is.1)
        (below-renamed after behind is.2),
  )

  all-renamed : (P Q : Family → Type 0) → ((family other : Family) → IsFamilyRenamed family other → P family → Q other)
      → (some renamed : List Family) → AreFamiliesRenamed some renamed → AllByRecursion P some → AllByRecursion Q renamed
  all-renamed P Q told [] [] are all = tt
  all-renamed P Q told [] (other ∷ renamed) are all = absurd are
  all-renamed P Q told (family ∷ some) [] are all = absurd are
  all-renamed P Q told (family ∷ some) (other ∷ renamed) are all = (told family other are.0 all.0, all-renamed P Q told some renamed are.1 all.1)

  later-renamed : (segment other : Segment) → IsRenamed rename segment other → (some renamed : List Segment) → AreRenamed rename some renamed
      → AllByRecursion (λ one. place_in entries segment.type ≤ place_in entries one.type) some
      → AllByRecursion (λ one. place_in others other.type ≤ place_in others one.type) renamed
  later-renamed segment other is [] [] are all = tt
  later-renamed segment other is [] (next ∷ renamed) are all = absurd are
  later-renamed segment other is (one ∷ some) [] are all = absurd are
  later-renamed segment other is (one ∷ some) (next ∷ renamed) are all =
      let own : place_in others other.type ≡ place_in entries segment.type = ap (place_in others) is ∙ place-renamed entries segment.type in
      let next_at : place_in others next.type ≡ place_in entries one.type = ap (place_in others) are.0 ∙ place-renamed entries one.type in
      (omega (arith, all.0, own, next_at), later-renamed segment other is some renamed are.1 all.1)

  ordered-renamed : (some renamed : List Segment) → AreRenamed rename some renamed → IsOrdered entries some → IsOrdered others renamed
  ordered-renamed [] [] are is = tt
  ordered-renamed [] (other ∷ renamed) are is = absurd are
  ordered-renamed (one ∷ some) [] are is = absurd are
  ordered-renamed (one ∷ some) (other ∷ renamed) are is =
      (later-renamed one other are.0 some renamed are.1 is.0, ordered-renamed some renamed are.1 is.1)

  fits-renamed : (family other : Family) → IsFamilyRenamed family other → Fits entries family → Fits others other
  fits-renamed family other is fits = record {
    ordered = ordered-renamed family.children other.children is.children fits.ordered;
    at_most = AllByRecursion-map (λ entry. count_of entry.segment other.children ≤ entry.max) (entry_renamed rename) entries
        (AllByRecursion-weaker (λ (entry : TypePlace). count_of entry.segment family.children ≤ entry.max)
        (λ (entry : TypePlace). count_of (rename entry.segment) other.children ≤ entry.max) entries
        (λ entry most. let same = count-renamed entry.segment family.children other.children is.children in omega (arith, most, same)) fits.at_most);
  }

  option-apart : (one other : Option ℕ) → option_map rename one ≡ option_map rename other → one ≡ other
  option-apart None None same = refl
  option-apart None (Some b) same = absurd (cc)
  option-apart (Some a) None same = absurd (cc)
  option-apart (Some a) (Some b) same = let alike : rename a ≡ rename b = cc in ap Some (apart a b alike)

  enough-renamed : (family other : Family) → IsFamilyRenamed family other → HasEnough entries family → HasEnough others other
  enough-renamed family other is enough =
      AllByRecursion-map (Suffices others other) (entry_renamed rename) entries
      (AllByRecursion-weaker (Suffices entries family) (λ entry. Suffices others other (entry_renamed rename entry)) entries
      (λ entry suffices mandatory own.
      let above = option-apart (type_above entries entry) family.above (sym (above-renamed entry) ∙ own ∙ is.above) in
      let least = suffices mandatory above in
      let same = count-renamed entry.segment family.children other.children is.children in
      omega (arith, least, same)) enough)

  families-renamed : (forest other : Forest) → IsForestRenamed rename forest other → AreFamiliesRenamed (families None forest) (families None other)
  families-renamed forest other is = (record { above = refl; children = roots-renamed rename forest other is }, below-renamed forest other is)

  -- a valid forest is valid in the other model
  pub valid-renamed : (forest other : Forest) → IsForestRenamed rename forest other → IsValid entries forest → IsValid others other
  valid-renamed forest other is valid = record {
    fits = all-renamed (Fits entries) (Fits others) fits-renamed (families None forest) (families None other) (families-renamed forest other is) valid.fits;
    enough = all-renamed (HasEnough entries) (HasEnough others) enough-renamed (families None forest) (families None other)
        (families-renamed forest other is) valid.enough;
  }

  module _ (old new : Definitions)
      (found : (line : DataRecord) (segment : Segment) → segment_of old line ≡ Some segment
      → (other : Segment) × (segment_of new line ≡ Some other) × IsRenamed rename segment other) where
    lines-renamed : (lines : List DataRecord) (segments : List Segment) → map (segment_of old) lines ≡ map Some segments
        → (renamed : List Segment) × (map (segment_of new) lines ≡ map Some renamed) × AreRenamed rename segments renamed
    lines-renamed [] [] same = ([], refl, tt)
    lines-renamed [] (segment ∷ segments) same = absurd (cc)
    lines-renamed (line ∷ lines) [] same = absurd (cc)
    lines-renamed (line ∷ lines) (segment ∷ segments) same =
        let head : segment_of old line ≡ Some segment = cc in
        let tail : map (segment_of old) lines ≡ map Some segments = cc in
        let one = found line segment head in
        let rest = lines-renamed lines segments tail in (
          one.0 ∷ rest.0,
          ap (λ (o : Option Segment). o ∷ map (segment_of new) lines) one.1 ∙ ap (λ (os : List (Option Segment)). Some one.0 ∷ os) rest.1,
          (one.2, rest.2),
        )

    -- what the lines of a document spell in one model, they spell in the other, in the same form
    pub spells-renamed : (lines : List DataRecord) (forest : Forest) → Spells old entries lines forest
        → (other : Forest) × Spells new others lines other × IsForestRenamed rename forest other
    spells-renamed lines forest spells =
        let read = lines-renamed lines (preorder forest) spells.segments in
        let made = filled rename forest read.0 read.2 in (
          made.0,
          record {
            segments = read.1 ∙ ap (map Some) (sym made.1);
            hangs = hangs-renamed None forest made.0 made.2 spells.hangs;
          },
          made.2,
        )
