-- What a family lacks.
use Rattle.std.proofs.lemmas.Bool.{and_parts, eq-eqb, eqb-true, le-ltb, lt-ltb, ltb-false, ltb-true}
use Rattle.std.specs.Prelude.{nat_lt, slice_get, take, zero}
use Rattle.std.specs.Option.{option_map}
use Rattle.std.specs.List.{AllByRecursion}
use Rattle.std.proofs.Common.{◌≡◌, ℕ, suc, ◌+◌, ◌==◌, ◌&&◌, length, length-append, ◌++◌, Bool, true, false, cond, Option, Some, None, List, [], ◌∷◌, refl, ap}
use Rattle.std.proofs.Common.{subst, inl, inr, ◌∙◌, arith}
use Rattle.std.proofs.lemmas.Option.{same_Some, some_pair_parts}
use Rattle.segment_defs.specs.declared.idoc_type.TypePlace.{TypePlace}
use Rattle.segment_defs.specs.IdocType.{type_above}
use Rattle.idoc_tree.specs.Forest.{Segment, Forest, no_trees, tree, preorder, count_of}
use Rattle.idoc_tree.specs.Valid.{Family, families_below, families, Suffices, HasEnough, Lacks}
use Rattle.idoc_tree.specs.steps.Lacking.{is_same, is_lacking, lack_among, lack_of, lack_or_later, first_lack}
use Rattle.idoc_tree.proofs.MayHangLemmas.{chosen}

-- the test says yes of what is the same
pub same-is_same : (a b : Option ℕ) → a ≡ b → is_same a b ≡ true
same-is_same None None same = refl
same-is_same None (Some b) same = cc
same-is_same (Some a) None same = cc
same-is_same (Some a) (Some b) same = let is : b ≡ a = cc in ap (λ n. a == n) is ∙ eq-eqb a a refl

-- one of three tests fails
some_fails : (a b c : Bool) → (a && (b && c)) ≡ false → a ≡ true → b ≡ true → c ≡ false
some_fails true true c none first second = none
some_fails true false c none first second = cc
some_fails false b c none first second = cc

one_fails : (a b c : Bool) → (a ≡ true → b ≡ true → c ≡ false) → (a && (b && c)) ≡ false
one_fails true true c fails = fails refl refl
one_fails true false c fails = refl
one_fails false b c fails = refl

-- and of nothing else
pub is_same-same : (a b : Option ℕ) → is_same a b ≡ true → a ≡ b
is_same-same None None same = refl
is_same-same None (Some b) same = cc
is_same-same (Some a) None same = cc
is_same-same (Some a) (Some b) same = ap Some (eqb-true a b same)

module _ (entries : List TypePlace) (family : Family) where
  lacking-Lacks : (entry : TypePlace) → is_lacking entries family entry ≡ true → Lacks entries family entry
  lacking-Lacks entry lacking =
      let parts = and_parts entry.mandatory _ lacking in
      let rest = and_parts (is_same (type_above entries entry) family.above) _ parts.1 in
      record { mandatory = parts.0; own = is_same-same _ _ rest.0; few = ltb-true _ _ rest.1 }

  Lacks-lacking : (entry : TypePlace) → Lacks entries family entry → is_lacking entries family entry ≡ true
  Lacks-lacking entry lacks =
      ap (λ b. b && (is_same (type_above entries entry) family.above && nat_lt (count_of entry.segment family.children) entry.min)) lacks.mandatory
      ∙ ap (λ b. b && nat_lt (count_of entry.segment family.children) entry.min) (same-is_same _ _ lacks.own)
      ∙ lt-ltb _ _ lacks.few

  not_lacking-Suffices : (entry : TypePlace) → is_lacking entries family entry ≡ false → Suffices entries family entry
  not_lacking-Suffices entry has = λ mandatory own.
      ltb-false (count_of entry.segment family.children) entry.min
      (some_fails entry.mandatory (is_same (type_above entries entry) family.above) (nat_lt (count_of entry.segment family.children) entry.min) has mandatory
      (same-is_same _ _ own))

  Suffices-not_lacking : (entry : TypePlace) → Suffices entries family entry → is_lacking entries family entry ≡ false
  Suffices-not_lacking entry suffices =
      one_fails entry.mandatory (is_same (type_above entries entry) family.above) (nat_lt (count_of entry.segment family.children) entry.min)
      (λ mandatory own. le-ltb (count_of entry.segment family.children) entry.min (suffices mandatory (is_same-same _ _ own)))

  -- where no entry is found that a family lacks, it has enough of each
  pub no_lack-suffices : (some : List TypePlace) → lack_among entries family some ≡ None → AllByRecursion (Suffices entries family) some
  no_lack-suffices [] none = tt
  no_lack-suffices (entry ∷ others) none =
      elim (chosen (is_lacking entries family entry) (Some entry.segment) (lack_among entries family others) None none) [
        | inl lacking ↦ cc
        | inr has ↦ (not_lacking-Suffices entry has.0, no_lack-suffices others has.1)
      ]

  -- and where it has enough of each, none is found
  pub suffices-no_lack : (some : List TypePlace) → AllByRecursion (Suffices entries family) some → lack_among entries family some ≡ None
  suffices-no_lack [] all = refl
  suffices-no_lack (entry ∷ others) all =
      ap (λ b. cond b (Some entry.segment) (lack_among entries family others)) (Suffices-not_lacking entry all.0) ∙ suffices-no_lack others all.1

  -- the first of some entries that a family lacks
  pub record FirstLack (some : List TypePlace) (type : ℕ) : Type 0 where
    pub at : ℕ
    pub entry : TypePlace
    pub entry_at : slice_get some at ≡ Some entry
    pub lacks : Lacks entries family entry
    pub before : AllByRecursion (Suffices entries family) (take at some)
    pub is : entry.segment ≡ type

  -- what is found is the first entry that a family lacks
  pub lack_among-first : (some : List TypePlace) (type : ℕ) → lack_among entries family some ≡ Some type → FirstLack some type
  lack_among-first [] type lack = cc
  lack_among-first (entry ∷ others) type lack =
      elim (chosen (is_lacking entries family entry) (Some entry.segment) (lack_among entries family others) (Some type) lack) [
        | inl lacking ↦ record {
          at = 0;
          entry = entry;
          entry_at = refl;
          lacks = lacking-Lacks entry lacking.0;
          before = tt;
          is = same_Some entry.segment type
              lacking.1;
        }
        | inr has ↦
            let rest = lack_among-first others type has.1 in
            record {
              at = suc rest.at;
              entry = rest.entry;
              entry_at = rest.entry_at;
              lacks = rest.lacks;
              before = (not_lacking-Suffices entry has.0, rest.before);
              is = rest.is;
            }
      ]

  -- and the first entry that a family lacks is found
  pub lack_among-at : (some : List TypePlace) (at : ℕ) (entry : TypePlace) → slice_get some at ≡ Some entry → Lacks entries family entry →
      AllByRecursion (Suffices entries family) (take at some) → lack_among entries family some ≡ Some entry.segment
  lack_among-at [] at entry here lacks before = cc
  lack_among-at (first ∷ others) zero entry here lacks before =
      let is = same_Some first entry here in
      ap (λ b. cond b (Some first.segment) (lack_among entries family others)) (ap (is_lacking entries family) is ∙ Lacks-lacking entry lacks)
      ∙ ap (λ (e : TypePlace). Some e.segment) is
  lack_among-at (first ∷ others) (suc at) entry here lacks before =
      ap (λ b. cond b (Some first.segment) (lack_among entries family others)) (Suffices-not_lacking first before.0)
      ∙ lack_among-at others at entry here lacks before.1

lack_first : (lack : Option ℕ) (later : Option (ℕ × ℕ)) → lack_or_later lack later ≡ None → (lack ≡ None) × (later ≡ None)
lack_first None None none = (refl, refl)
lack_first None (Some later) none = cc
lack_first (Some type) later none = cc

-- no family lacks a type exactly where each has enough
pub no_lack-enough : (entries : List TypePlace) (families : List Family) → first_lack entries families ≡ None → AllByRecursion (HasEnough entries) families
no_lack-enough entries [] none = tt
no_lack-enough entries (family ∷ others) none =
    let parts = lack_first (lack_of entries family) (first_lack entries others) none in
    (no_lack-suffices entries family entries parts.0, no_lack-enough entries others parts.1)

-- where all families have enough, no lack is found
pub enough-no_lack : (entries : List TypePlace) (families : List Family) → AllByRecursion (HasEnough entries) families → first_lack entries families ≡ None
enough-no_lack entries [] all = refl
enough-no_lack entries (family ∷ others) all =
    ap (λ lack. lack_or_later lack (first_lack entries others)) (suffices-no_lack entries family entries all.0)
    ∙ ap (option_map (λ (lack : ℕ × ℕ). (lack.0, suc lack.1))) (enough-no_lack entries others all.1)

-- the first family that lacks a type, and this type
pub record FirstFamily (entries : List TypePlace) (families : List Family) (type place : ℕ) : Type 0 where
  pub family : Family
  pub family_at : slice_get families place ≡ Some family
  pub before : AllByRecursion (HasEnough entries) (take place families)
  pub lack : lack_of entries family ≡ Some type

first_family_by : (entries : List TypePlace) (family : Family) (others : List Family) (type place : ℕ) (lack : Option ℕ) (later : Option (ℕ × ℕ)) →
    lack_of entries family ≡ lack → ((s p : ℕ) → later ≡ Some (s, p) → FirstFamily entries others s p) → lack_or_later lack later ≡ Some (type, place) →
    FirstFamily entries (family ∷ others) type place
first_family_by entries family others type place (Some s) later is rest found =
    let parts = some_pair_parts s type 0 place found in
    subst (λ (p : ℕ). FirstFamily entries (family ∷ others) type p) parts.1
    (record { family = family; family_at = refl; before = tt; lack = is ∙ ap Some parts.0 })
first_family_by entries family others type place None None is rest found = cc
first_family_by entries family others type place None (Some l) is rest found =
    let parts = some_pair_parts l.0 type (suc l.1) place found in
    let first = rest l.0 l.1 refl in
    subst (λ (p : ℕ). FirstFamily entries (family ∷ others) type p) parts.1
    (record {
      family = first.family;
      family_at = first.family_at;
      before = (no_lack-suffices entries family entries is, first.before);
      lack = first.lack
          ∙ ap Some parts.0;
    })

-- what is found is the first family that lacks a type, and the first type that it lacks
pub first_lack-first : (entries : List TypePlace) (families : List Family) (type place : ℕ) → first_lack entries families ≡ Some (type, place) →
    FirstFamily entries families type place
first_lack-first entries [] type place found = cc
first_lack-first entries (family ∷ others) type place found =
    first_family_by entries family others type place (lack_of entries family) (first_lack entries others) refl (λ s p. first_lack-first entries others s p)
    found

-- and the first family that lacks a type is found, with the first type that it lacks
pub first_lack-at : (entries : List TypePlace) (families : List Family) (place : ℕ) (family : Family) (type : ℕ) → slice_get families place ≡ Some family →
    AllByRecursion (HasEnough entries) (take place families) → lack_of entries family ≡ Some type → first_lack entries families ≡ Some (type, place)
first_lack-at entries [] place family type here before lack = cc
first_lack-at entries (first ∷ others) zero family type here before lack =
    let is = same_Some first family here in
    ap (λ l. lack_or_later l (first_lack entries others)) (ap (lack_of entries) is ∙ lack)
first_lack-at entries (first ∷ others) (suc place) family type here before lack =
    ap (λ l. lack_or_later l (first_lack entries others)) (suffices-no_lack entries first entries before.0)
    ∙ ap (option_map (λ (found : ℕ × ℕ). (found.0, suc found.1))) (first_lack-at entries others place family type here before.1 lack)

-- a lack that is found some families further
abbrev pub shifted : ℕ → Option (ℕ × ℕ) → Option (ℕ × ℕ)
shifted count lack = option_map (λ found. (found.0, count + found.1)) lack

shifted-suc : (count : ℕ) (lack : Option (ℕ × ℕ)) → option_map (λ (found : ℕ × ℕ). (found.0, suc found.1)) (shifted count lack) ≡ shifted (suc count) lack
shifted-suc count None = refl
shifted-suc count (Some found) = let same : suc (count + found.1) ≡ suc count + found.1 = omega arith in ap (λ n. Some (found.0, n)) same

shifted-zero : (lack : Option (ℕ × ℕ)) → lack ≡ shifted 0 lack
shifted-zero None = refl
shifted-zero (Some found) = let same : found.1 ≡ 0 + found.1 = omega arith in ap (λ n. Some (found.0, n)) same

-- a place that is counted on twice is counted on by the sum
pub shifted-shifted : (first second : ℕ) (lack : Option (ℕ × ℕ)) → shifted first (shifted second lack) ≡ shifted (first + second) lack
shifted-shifted first second None = refl
shifted-shifted first second (Some found) = let same : first + (second + found.1) ≡ first + second + found.1 = omega arith in ap (λ n. Some (found.0, n)) same

module _ (entries : List TypePlace) where
  -- families behind those that lack nothing
  pub first_lack-behind : (before after : List Family) → first_lack entries before ≡ None →
      first_lack entries (before ++ after) ≡ shifted (length before) (first_lack entries after)
  first_lack-behind [] after none = shifted-zero (first_lack entries after)
  first_lack-behind (family ∷ before) after none =
      let parts = lack_first (lack_of entries family) (first_lack entries before) none in
      ap (λ lack. lack_or_later lack (first_lack entries (before ++ after))) parts.0
      ∙ ap (option_map (λ (lack : ℕ × ℕ). (lack.0, suc lack.1))) (first_lack-behind before after parts.1)
      ∙ shifted-suc (length before) (first_lack entries after)

  here_or_later : (lack : Option ℕ) (later found : Option (ℕ × ℕ)) (is : ℕ × ℕ) → ((l : ℕ × ℕ) → later ≡ Some l → found ≡ Some l) →
      lack_or_later lack later ≡ Some is → lack_or_later lack found ≡ Some is
  here_or_later (Some type) later found is same there = there
  here_or_later None None found is same there = cc
  here_or_later None (Some l) found is same there = ap (option_map (λ (lack : ℕ × ℕ). (lack.0, suc lack.1))) (same l refl) ∙ there

  -- and those that do lack something tell what
  pub first_lack-front : (before after : List Family) (is : ℕ × ℕ) → first_lack entries before ≡ Some is → first_lack entries (before ++ after) ≡ Some is
  first_lack-front [] after is found = cc
  first_lack-front (family ∷ before) after is found =
      here_or_later (lack_of entries family) (first_lack entries before) (first_lack entries (before ++ after)) is
      (λ l there. first_lack-front before after l there) found

-- there are as many families below the segments of a forest as segments
pub length-families_below : (forest : Forest) → length (families_below forest) ≡ length (preorder forest)
length-families_below no_trees = refl
length-families_below (tree root below after) =
    omega (
      arith,
      length-append (families_below below) (families_below after),
      length-append (preorder below) (preorder after),
      length-families_below below,
      length-families_below after,
    )

module _ (entries : List TypePlace) (root : Segment) (under after : Forest) where
  length-own : length (families (Some root.type) under) ≡ 1 + length (preorder under)
  length-own = omega (arith, length-families_below under)

  -- a tree that lacks nothing, with others behind it
  pub first_lack-tree : first_lack entries (families (Some root.type) under) ≡ None → first_lack entries (families_below (tree root under after))
      ≡ shifted (1 + length (preorder under)) (first_lack entries (families_below after))
  first_lack-tree none =
      first_lack-behind entries (families (Some root.type) under) (families_below after) none
      ∙ ap (λ n. shifted n (first_lack entries (families_below after))) length-own

  -- and one that does
  pub first_lack-own : (is : ℕ × ℕ) → first_lack entries (families (Some root.type) under) ≡ Some is →
      first_lack entries (families_below (tree root under after)) ≡ Some is
  first_lack-own is found = first_lack-front entries (families (Some root.type) under) (families_below after) is found

  -- a tree has its root, the segments below it and those after it
  pub length-tree : length (preorder (tree root under after)) ≡ 1 + length (preorder under) + length (preorder after)
  length-tree = omega (arith, length-append (preorder under) (preorder after))

-- a family that lacks nothing before those below it
pub lack-later : (lack : Option ℕ) (later : Option (ℕ × ℕ)) → lack ≡ None →
    lack_or_later lack later ≡ option_map (λ (found : ℕ × ℕ). (found.0, suc found.1)) later
lack-later lack later none = ap (λ l. lack_or_later l later) none

-- what a family lacks is of an entry
lack_among-known : (P : ℕ → Type 0) (entries : List TypePlace) (family : Family) (some : List TypePlace) (type : ℕ) →
    AllByRecursion (λ entry. P entry.segment) some → lack_among entries family some ≡ Some type → P type
lack_among-known P entries family [] type all lacks = cc
lack_among-known P entries family (entry ∷ others) type all lacks =
    elim (chosen (is_lacking entries family entry) (Some entry.segment) (lack_among entries family others) (Some type) lacks) [
      | inl lacking ↦ subst P (same_Some entry.segment type lacking.1) all.0
      | inr has ↦ lack_among-known P entries family others type all.1 has.1
    ]

lack_here : (P : ℕ → Type 0) (lack : Option ℕ) (later : Option (ℕ × ℕ)) (type place : ℕ) → ((s : ℕ) → lack ≡ Some s → P s) →
    ((s p : ℕ) → later ≡ Some (s, p) → P s) → lack_or_later lack later ≡ Some (type, place) → P type
lack_here P (Some s) later type place first others found = subst P (some_pair_parts s type 0 place found).0 (first s refl)
lack_here P None None type place first others found = cc
lack_here P None (Some l) type place first others found = subst P (some_pair_parts l.0 type (suc l.1) place found).0 (others l.0 l.1 refl)

-- what holds of the type of each entry holds of the type that is lacking
pub first_lack-known : (P : ℕ → Type 0) (entries : List TypePlace) (some : List Family) (type place : ℕ) → AllByRecursion (λ entry. P entry.segment) entries →
    first_lack entries some ≡ Some (type, place) → P type
first_lack-known P entries [] type place all found = cc
first_lack-known P entries (family ∷ others) type place all found =
    lack_here P (lack_of entries family) (first_lack entries others) type place (λ s. lack_among-known P entries family entries s all)
    (λ s p. first_lack-known P entries others s p all) found
