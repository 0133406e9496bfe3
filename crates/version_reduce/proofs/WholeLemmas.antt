-- Where the segments of types that a profile leaves out go, nothing mandatory is missing.
use Rattle.std.specs.Prelude.{nat_eq, slice_get, option_and_then}
use Rattle.std.specs.List.{AllByRecursion, IsDistinct}
use Rattle.std.specs.Option.{option_map, option_map_or}
use Rattle.std.proofs.Common.{◌≡◌, ℕ, zero, suc, ◌+◌, ◌≤◌, ◌==◌, ◌||◌, ◌&&◌, Bool, true, false, not, cond, Option, Some, None, List, [], ◌∷◌, ◌++◌, length, map}
use Rattle.std.proofs.Common.{refl, sym, ap, subst, ◌∙◌, arith, append_assoc, append-nil, length-append}
use Rattle.std.specs.List.{AllZip}
use Rattle.std.proofs.lemmas.Bool.{eq-eqb, cond-true, cond-false}
use Rattle.std.proofs.lemmas.Option.{same_Some, slice_get_past, slice_get-map}
use Rattle.ale_base.proofs.ListLemmas.{AllByRecursion-at, AllByRecursion-weaker, AllByRecursion-both}
use Rattle.ale_base.proofs.OptionLemmas.{option_map-Some}
use Rattle.ale_base.proofs.SnocLemmas.{AllZip-snoc}
use Rattle.segment_defs.specs.declared.idoc_type.TypePlace.{TypePlace}
use Rattle.segment_defs.specs.IdocType.{place_in, entry_of, type_above, parent_of}
use Rattle.dist_model.specs.Outbound.{goes_below, gone_behind, gone, is_missed}
use Rattle.idoc_tree.specs.Forest.{Segment, Forest, no_trees, tree, AllNodes, without}
use Rattle.idoc_tree.proofs.FamilyLemmas.{entry-segment}
use Rattle.idoc_tree.proofs.WithoutLemmas.{StaysWhole}

-- what is told of the entries before is told first
gone_behind-front : (goes : ℕ → Bool) (before : List Bool) (entries : List TypePlace) → (rest : List Bool) × (gone_behind goes before entries ≡ before ++ rest)
gone_behind-front goes before [] = ([], sym (append-nil before))
gone_behind-front goes before (entry ∷ entries) =
    let own = goes entry.segment || goes_below before entry.parent in
    let behind = gone_behind-front goes (before ++ own ∷ []) entries in
    (own ∷ behind.0, behind.1 ∙ append_assoc before (own ∷ []) behind.0)

-- what is told of the entry at a place: it goes by itself, or with one before it
record ToldAt (goes : ℕ → Bool) (all : List Bool) (place : ℕ) (entry : TypePlace) : Type 0 where
  front : List Bool
  rest : List Bool
  parts : all ≡ front ++ (goes entry.segment || goes_below front entry.parent) ∷ rest
  counted : length front ≡ place

told_at : (goes : ℕ → Bool) (before : List Bool) (entries : List TypePlace) (place : ℕ) (entry : TypePlace) → slice_get entries place ≡ Some entry
    → ToldAt goes (gone_behind goes before entries) (length before + place) entry
told_at goes before [] place entry here = absurd (cc)
told_at goes before (first ∷ entries) zero entry here =
    let own = goes first.segment || goes_below before first.parent in
    let behind = gone_behind-front goes (before ++ own ∷ []) entries in
    let same : first ≡ entry = same_Some first entry here in
    record {
      front = before;
      rest = behind.0;
      parts = behind.1 ∙ append_assoc before (own ∷ []) behind.0
          ∙ ap (λ (e : TypePlace). before ++ (goes e.segment || goes_below before e.parent) ∷ behind.0) same;
      counted = omega arith;
    }
told_at goes before (first ∷ entries) (suc place) entry here =
    let own = goes first.segment || goes_below before first.parent in
    let told = told_at goes (before ++ own ∷ []) entries place entry here in
    record { front = told.front; rest = told.rest; parts = told.parts; counted = omega (arith, told.counted, length-append before (own ∷ [])) }

length-gone : (goes : ℕ → Bool) (before : List Bool) (entries : List TypePlace) → length (gone_behind goes before entries) ≡ length before + length entries
length-gone goes before [] = omega arith
length-gone goes before (entry ∷ entries) =
    let own = goes entry.segment || goes_below before entry.parent in
    omega (arith, length-gone goes (before ++ own ∷ []) entries, length-append before (own ∷ []))

at_front : (front rest : List Bool) (place : ℕ) → option_map_or (λ b. b) (slice_get (front ++ rest) place) false ≡ false →
    option_map_or (λ b. b) (slice_get front place) false ≡ false
at_front [] rest place none = refl
at_front (b ∷ front) rest zero none = none
at_front (b ∷ front) rest (suc place) none = at_front front rest place none

below_front : (front rest : List Bool) (parent : Option ℕ) → goes_below (front ++ rest) parent ≡ false → goes_below front parent ≡ false
below_front front rest None none = refl
below_front front rest (Some place) none = at_front front rest place none

at_middle : (front rest : List Bool) (b : Bool) → slice_get (front ++ b ∷ rest) (length front) ≡ Some b
at_middle [] rest b = refl
at_middle (x ∷ front) rest b = at_middle front rest b

-- where no type has two entries, the place of a type is that of its entry
place_in-own : (entries : List TypePlace) (place : ℕ) (entry : TypePlace) → IsDistinct nat_eq (map (λ entry. entry.segment) entries) →
    slice_get entries place ≡ Some entry
    → place_in entries entry.segment ≡ place
unfolding IsDistinct
place_in-own [] place entry apart here = absurd (cc)
place_in-own (first ∷ entries) zero entry apart here =
    cond-true (first.segment == entry.segment) 0 (suc (place_in entries entry.segment))
    (eq-eqb first.segment entry.segment (ap (λ e. e.segment) (same_Some first entry here)))
place_in-own (first ∷ entries) (suc place) entry apart here =
    let named : slice_get (map (λ (e : TypePlace). e.segment) entries) place ≡ Some entry.segment
    = slice_get-map (λ (e : TypePlace). e.segment) entries place ∙ ap (option_map (λ (e : TypePlace). e.segment)) here in
    cond-false (first.segment == entry.segment) 0 (suc (place_in entries entry.segment))
    (AllByRecursion-at (λ other. nat_eq first.segment other ≡ false) (map (λ e. e.segment) entries) place entry.segment apart.0 named)
    ∙ ap suc (place_in-own entries place entry apart.1 here)

-- a type below which segments may stay: its entry does not go; the document is one
abbrev pub may_stay : List Bool → List TypePlace → Option ℕ → Bool
may_stay gone entries None = true
may_stay gone entries (Some type) = not (option_map_or (λ goes. goes) (slice_get gone (place_in entries type)) false)

not_true : (b : Bool) → not b ≡ true → b ≡ false
not_true true is = absurd (cc)
not_true false is = refl

missed-parts : (mandatory goes below : Bool) → (mandatory && (goes && not below)) ≡ false → mandatory ≡ true → below ≡ false → goes ≡ false
missed-parts true true false is one two = absurd (cc)
missed-parts true true true is one two = absurd (cc)
missed-parts true false below is one two = refl
missed-parts false goes below is one two = absurd (cc)

module _ (goes : ℕ → Bool) (entries : List TypePlace) (apart : IsDistinct nat_eq (map (λ entry. entry.segment) entries)) where
  abbrev stays : Option ℕ → Bool
  stays above = may_stay (gone goes entries) entries above

  stays-above : (parent : Option ℕ) (above : Option TypePlace) → option_and_then (slice_get entries) parent ≡ above →
      stays (option_map (λ e. e.segment) above) ≡ true
      → goes_below (gone goes entries) parent ≡ false
  stays-above None above found is = refl
  stays-above (Some place) None found is =
      ap (λ o. option_map_or (λ b. b) o false) (slice_get_past (gone goes entries) place (omega (arith, length-gone goes [] entries, past entries place found)))
    where
      past : (es : List TypePlace) (at : ℕ) → slice_get es at ≡ None → length es ≤ at
      past [] at none = omega arith
      past (e ∷ es) zero none = absurd (cc)
      past (e ∷ es) (suc at) none = omega (arith, past es at none)
  stays-above (Some place) (Some above) found is =
      ap (λ n. option_map_or (λ b. b) (slice_get (gone goes entries) n) false) (sym (place_in-own entries place above apart found))
      ∙ not_true (option_map_or (λ b. b) (slice_get (gone goes entries) (place_in entries above.segment)) false) is

  -- where what is above an entry stays, the entry does not go with it
  stays-below : (entry : TypePlace) → stays (type_above entries entry) ≡ true → goes_below (gone goes entries) entry.parent ≡ false
  stays-below entry is = stays-above entry.parent (option_and_then (slice_get entries) entry.parent) refl
      (subst (λ o. stays o ≡ true) (by_entry entry.parent) is)
    where
      by_entry : (parent : Option ℕ) → option_and_then (λ place. option_map (λ (above : TypePlace). above.segment) (slice_get entries place)) parent
          ≡ option_map (λ (above : TypePlace). above.segment) (option_and_then (slice_get entries) parent)
      by_entry None = refl
      by_entry (Some place) = refl

  own_stays : (type : ℕ) (above : Option ℕ) → parent_of entries type ≡ Some above → stays above ≡ true → goes type ≡ false → stays (Some type) ≡ true
  own_stays type above here is not_own =
      let found = option_map-Some (type_above entries) (entry_of entries type) above here in
      let entry = found.0 in
      let own : entry.segment ≡ type = entry-segment entries type entry found.1 in
      let below = stays-below entry (subst (λ o. stays o ≡ true) (sym found.2) is) in
      let told = told_at goes [] entries (place_in entries type) entry found.1 in
      let parts : gone goes entries ≡ told.front ++ (goes entry.segment || goes_below told.front entry.parent) ∷ told.rest = told.parts in
      let at : length told.front ≡ place_in entries type = omega (arith, told.counted) in
      let front : goes_below told.front entry.parent ≡ false
      = below_front told.front ((goes entry.segment || goes_below told.front entry.parent) ∷ told.rest) entry.parent
      (ap (λ g. goes_below g entry.parent) (sym parts) ∙ below) in
      let none : (goes entry.segment || goes_below told.front entry.parent) ≡ false
      = ap (λ b. b || goes_below told.front entry.parent) (ap goes own ∙ not_own) ∙ front in
      ap (λ o. not (option_map_or (λ b. b) o false))
      (ap (slice_get (gone goes entries)) (sym at) ∙ ap (λ g. slice_get g (length told.front)) parts
      ∙ at_middle told.front told.rest (goes entry.segment || goes_below told.front entry.parent))
      ∙ ap not none

  -- so a part that is left lacks nothing, if no mandatory entry is missed
  pub stays_whole : AllByRecursion (λ entry. is_missed goes (gone goes entries) entry ≡ false) entries → StaysWhole entries goes stays
  stays_whole none = record {
    top = refl;
    below = own_stays;
    mandatory = AllByRecursion-weaker _ _ entries (λ entry missed. λ mandatory above.
        missed-parts entry.mandatory (goes entry.segment) (goes_below (gone goes entries) entry.parent) missed mandatory (stays-below entry above)) none;
  }

either : (a b c d : Bool) → (a ≡ true → c ≡ true) → (b ≡ true → d ≡ true) → (a || b) ≡ true → (c || d) ≡ true
either true b c d one two is = ap (λ x. x || d) (one refl)
either false b true d one two is = refl
either false b false d one two is = two is

at_wider : (few more : List Bool) (place : ℕ) → AllZip (λ a b. a ≡ true → b ≡ true) few more → option_map_or (λ b. b) (slice_get few place) false ≡ true
    → option_map_or (λ b. b) (slice_get more place) false ≡ true
at_wider [] more place zip is = absurd (cc)
at_wider (a ∷ few) [] place zip is = absurd zip
at_wider (a ∷ few) (b ∷ more) zero zip is = zip.0 is
at_wider (a ∷ few) (b ∷ more) (suc place) zip is = at_wider few more place zip.1 is

below_wider : (few more : List Bool) (parent : Option ℕ) → AllZip (λ a b. a ≡ true → b ≡ true) few more → goes_below few parent ≡ true →
    goes_below more parent ≡ true
below_wider few more None zip is = absurd (cc)
below_wider few more (Some place) zip is = at_wider few more place zip is

gone-wider : (goes wider : ℕ → Bool) → ((type : ℕ) → goes type ≡ true → wider type ≡ true) → (few more : List Bool) (entries : List TypePlace)
    → AllZip (λ a b. a ≡ true → b ≡ true) few more → AllZip (λ a b. a ≡ true → b ≡ true) (gone_behind goes few entries) (gone_behind wider more entries)
gone-wider goes wider each few more [] zip = zip
gone-wider goes wider each few more (entry ∷ entries) zip =
    let one = goes entry.segment || goes_below few entry.parent in
    let two = wider entry.segment || goes_below more entry.parent in
    gone-wider goes wider each (few ++ one ∷ []) (more ++ two ∷ []) entries
    (AllZip-snoc (λ a b. a ≡ true → b ≡ true) few more one two zip
    (either (goes entry.segment) (goes_below few entry.parent) (wider entry.segment) (goes_below more entry.parent) (each entry.segment)
    (below_wider few more entry.parent zip)))

missed-either : (mandatory one two below wider : Bool) → (mandatory && (one && not below)) ≡ false → (mandatory && (two && not wider)) ≡ false →
    (below ≡ true → wider ≡ true)
    → (mandatory && ((one || two) && not wider)) ≡ false
missed-either false one two below wider a b c = refl
missed-either true false two below wider a b c = b
missed-either true true two true true a b c = refl
missed-either true true two true false a b c = absurd (let never = c refl in cc)
missed-either true true two false wider a b c = absurd (cc)

-- where neither of two tests misses an entry, both together miss none
pub none_missed : (one two : ℕ → Bool) (entries : List TypePlace) → AllByRecursion (λ entry. is_missed one (gone one entries) entry ≡ false) entries
    → AllByRecursion (λ entry. is_missed two (gone (λ type. one type || two type) entries) entry ≡ false) entries
    → AllByRecursion (λ entry. is_missed (λ type. one type || two type) (gone (λ type. one type || two type) entries) entry ≡ false) entries
none_missed one two entries first second =
    let both = λ (type : ℕ). one type || two type in
    let wider = gone-wider one both (λ type is. ap (λ b. b || two type) is) [] [] entries tt in
    AllByRecursion-weaker _ _ entries
    (λ entry missed. missed-either entry.mandatory (one entry.segment) (two entry.segment) (goes_below (gone one entries) entry.parent)
    (goes_below (gone both entries) entry.parent)
    missed.0 missed.1 (below_wider (gone one entries) (gone both entries) entry.parent wider))
    (AllByRecursion-both (λ entry. is_missed one (gone one entries) entry ≡ false) (λ entry. is_missed two (gone both entries) entry ≡ false) entries first
    second)

-- two tests that agree on each segment leave the same
pub without-agree : (goes other : Segment → Bool) (forest : Forest) → AllNodes (λ segment. goes segment ≡ other segment) forest →
    without goes forest ≡ without other forest
without-agree goes other no_trees agree = refl
without-agree goes other (tree root below after) agree =
    ap (λ b. cond b (without goes after) (tree root (without goes below) (without goes after))) agree.0
    ∙ ap (λ f. cond (other root) (without goes after) (tree root f (without goes after))) (without-agree goes other below agree.1)
    ∙ ap (λ f. cond (other root) f (tree root (without other below) f)) (without-agree goes other after agree.2)
