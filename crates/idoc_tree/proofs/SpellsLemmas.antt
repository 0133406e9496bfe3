-- Lines that spell a forest, and the last of them.
use Rattle.std.specs.Prelude.{nat_eq}
use Rattle.std.specs.Option.{option_map}
use Rattle.std.specs.List.{AllByRecursion, IsDistinct}
use Rattle.std.proofs.Common.{◌≡◌, ℕ, zero, suc, ◌≤◌, false, Option, Some, None, List, [], ◌∷◌, ◌++◌, map, length, refl, ap, sym, subst, ◌∙◌, arith}
use Rattle.std.proofs.Common.{length-append}
use Rattle.std.proofs.lemmas.Option.{same_Some}
use Rattle.std.proofs.lemmas.List.{map-append}
use Rattle.ale_base.proofs.SnocLemmas.{Snoc, none, some, snoc, last-injective}
use Rattle.idoc_record.specs.Data.{DataRecord}
use Rattle.segment_defs.specs.declared.definitions.Definitions.{Definitions}
use Rattle.segment_defs.specs.declared.idoc_type.TypePlace.{TypePlace}
use Rattle.segment_defs.specs.IdocType.{entry_of, type_above, parent_of, IsPreorder}
use Rattle.ale_base.proofs.OptionLemmas.{option_map-Some}
use Rattle.idoc_tree.specs.Forest.{Segment, Forest, no_trees, tree, preorder, is_bare, leaf, joined, roots}
use Rattle.idoc_tree.specs.Spells.{segment_of, Hangs, Spells}
use Rattle.idoc_tree.specs.Valid.{Family, families, families_below, Fits}
use Rattle.idoc_tree.specs.Siblings.{siblings}
use Rattle.idoc_tree.specs.steps.Growing.{hung}
use Rattle.idoc_tree.specs.Builds.{SpellsInOrder}
use Rattle.idoc_tree.proofs.ForestLemmas.{preorder-joined, roots-joined}
use Rattle.ale_base.proofs.ListLemmas.{AllByRecursion-append, AllByRecursion-parts, AllByRecursion-of}
use Rattle.idoc_tree.proofs.HangingLemmas.{hangs_below, HangsBelow-open, HangsBelow-preorder, HangsBelow-roots, Hangs-joined, Hangs-parts, HangsBelow-hangs}
use Rattle.idoc_tree.proofs.HangingLemmas.{HangsBelow-hung, families_below-joined, HangsBelow-families, HangsBelow-fewer, HangsBelow-family, more_in, none_in}
use Rattle.idoc_tree.proofs.FamilyLemmas.{Fits-more, Fits-fewer, Fits-in_time, Fits-room}
use Rattle.idoc_tree.proofs.MayHangLemmas.{Grows}
use Rattle.idoc_tree.proofs.LastSegmentLemmas.{EndsWith, a_root, below, has_last}

-- a segment that is hung among its siblings
module _ (segment : Segment) (forest : Forest) (among : List Segment) where
  -- a segment that is hung comes last in preorder
  pub hung-preorder : (above : Option ℕ) → siblings above forest ≡ Some among → preorder (hung above segment forest) ≡ preorder forest ++ segment ∷ []
  hung-preorder None found = preorder-joined forest (leaf segment)
  hung-preorder (Some type) found = HangsBelow-preorder type segment forest among (hung (Some type) segment forest)
      (hangs_below type segment forest among found)

  -- a forest with a segment hung below its parent hangs together
  pub hung-hangs : (entries : List TypePlace) (above : Option ℕ) → parent_of entries segment.type ≡ Some above → siblings above forest ≡ Some among →
      Hangs entries None forest → Hangs entries None (hung above segment forest)
  hung-hangs entries None parent found hangs = Hangs-joined entries None forest (leaf segment) hangs (parent, tt, tt)
  hung-hangs entries (Some type) parent found hangs =
      HangsBelow-hangs entries type segment None forest among (hung (Some type) segment forest) parent (hangs_below type segment forest among found) hangs

  -- what holds of the families before and of the family with one more holds after a segment is hung
  pub hung-families : (P : Family → Type 0) (above : Option ℕ) → siblings above forest ≡ Some among → P (more_in above among segment) → P (none_in segment) →
      AllByRecursion P (families None forest) → AllByRecursion P (families None (hung above segment forest))
  hung-families P None found more bare all =
      let own : P (more_in None (roots forest) segment) = subst (λ segments. P (more_in None segments segment))
      (sym (same_Some (roots forest) among found)) more in (
        subst (λ segments. P (record { above = None; children = segments })) (sym (roots-joined forest (leaf segment))) own,
        subst (AllByRecursion P) (sym (families_below-joined forest (leaf segment)))
            (AllByRecursion-append P (families_below forest) (none_in segment ∷ []) all.1 (bare, tt)),
      )
  hung-families P (Some type) found more bare all =
      let hangs = hangs_below type segment forest among found in
      let grown = hung (Some type) segment forest in (
        subst (λ segments. P (record { above = None; children = segments })) (sym (HangsBelow-roots type segment forest among grown hangs)) all.0,
        HangsBelow-families P type segment forest among grown more bare hangs all.1,
      )

  -- and what holds of the families after holds before, where it holds of the family without the last one
  pub hung-fewer : (P : Family → Type 0) (above : Option ℕ) → siblings above forest ≡ Some among →
      (P (more_in above among segment) → P (record { above = above; children = among })) → AllByRecursion P (families None (hung above segment forest)) →
      AllByRecursion P (families None forest) × P (more_in above among segment)
  hung-fewer P None found less all =
      let is = same_Some (roots forest) among found in
      let own : P (more_in None among segment) = subst (λ segments. P (more_in None segments segment)) is
      (subst (λ segments. P (record { above = None; children = segments })) (roots-joined forest (leaf segment)) all.0) in
      let parts = AllByRecursion-parts P (families_below forest) (none_in segment ∷ [])
      (subst (AllByRecursion P) (families_below-joined forest (leaf segment)) all.1) in
      ((subst (λ segments. P (record { above = None; children = segments })) (sym is) (less own), parts.0), own)
  hung-fewer P (Some type) found less all =
      let hangs = hangs_below type segment forest among found in
      let grown = hung (Some type) segment forest in
      let parts = HangsBelow-fewer P type segment forest among grown less hangs all.1 in
      ((subst (λ segments. P (record { above = None; children = segments })) (HangsBelow-roots type segment forest among grown hangs) all.0, parts.0), parts.1)

  -- what holds of all families holds of the one that a segment joins
  pub hung-family : (P : Family → Type 0) (above : Option ℕ) → siblings above forest ≡ Some among → AllByRecursion P (families None forest) →
      P (record { above = above; children = among })
  hung-family P None found all = subst (λ segments. P (record { above = None; children = segments })) (same_Some (roots forest) among found) all.0
  hung-family P (Some type) found all =
      HangsBelow-family P type segment forest among (hung (Some type) segment forest) (hangs_below type segment forest among found) all.1

-- the same, of no segment
pub sibling_family : (P : Family → Type 0) (above : Option ℕ) (forest : Forest) (among : List Segment) → siblings above forest ≡ Some among →
    AllByRecursion P (families None forest) → P (record { above = above; children = among })
sibling_family P above forest among = hung-family (record { type = 0; version = 0; sdata = [] }) forest among P above

module _ (definitions : Definitions) (entries : List TypePlace) where
  -- lines and one more, if that one's segment hangs right
  pub Grows-spells : (lines : List DataRecord) (line : DataRecord) (forest grown : Forest) → Grows definitions entries line forest grown →
      Spells definitions entries lines forest → Spells definitions entries (lines ++ line ∷ []) grown
  Grows-spells lines line forest grown grows spells =
      let may = grows.may in
      let segment = grows.segment in
      let above = type_above entries may.entry in
      record {
        segments =
            map-append (segment_of definitions) lines (line ∷ [])
            ∙ ap (λ segments. segments ++ segment_of definitions line ∷ []) spells.segments
            ∙ ap (λ i. map Some (preorder forest) ++ i ∷ []) grows.known
            ∙ sym (map-append Some (preorder forest) (segment ∷ []))
            ∙ ap (map Some) (sym (hung-preorder segment forest may.among above may.siblings_are))
            ∙ ap (λ f. map Some (preorder f)) (sym grows.is);
        hangs = subst (Hangs entries None) (sym grows.is)
            (hung-hangs segment forest may.among entries above (ap (option_map (type_above entries)) may.entry_at) may.siblings_are spells.hangs);
      }

  bare_fits : (segment : Segment) → Fits entries (none_in segment)
  bare_fits segment = record { ordered = tt; at_most = AllByRecursion-of (λ (entry : TypePlace). 0 ≤ entry.max) (λ entry. omega arith) entries }

  -- a record that makes the forest grow leaves the records spelling a forest in order
  pub Grows-stands : (lines : List DataRecord) (line : DataRecord) (forest grown : Forest) → IsDistinct nat_eq (map (λ entry. entry.segment) entries) →
      Grows definitions entries line forest grown → SpellsInOrder definitions entries lines forest →
      SpellsInOrder definitions entries (lines ++ line ∷ []) grown
  Grows-stands lines line forest grown apart grows stands =
      let may = grows.may in
      let segment = grows.segment in
      let above = type_above entries may.entry in
      let family = hung-family segment forest may.among (Fits entries) above may.siblings_are stands.fits in
      record {
        spells = Grows-spells lines line forest grown grows stands.spells;
        fits = subst (λ f. AllByRecursion (Fits entries) (families None f)) (sym grows.is)
            (hung-families segment forest may.among (Fits entries) above may.siblings_are
            (Fits-more entries above may.among segment may.entry apart may.entry_at family may.in_time may.room) (bare_fits segment) stands.fits);
      }

  -- the last segment of a forest, where it hangs, and the forest without it
  pub record Ended (lines : List DataRecord) (line : DataRecord) (forest : Forest) : Type 0 where
    pub segment : Segment
    pub known : segment_of definitions line ≡ Some segment
    pub front : Forest
    pub spells : Spells definitions entries lines front
    pub above : Option ℕ
    pub parent : parent_of entries segment.type ≡ Some above
    pub among : List Segment
    pub siblings_are : siblings above front ≡ Some among
    pub is : forest ≡ hung above segment front

  not_bare : (lines : List DataRecord) (line : DataRecord) (forest : Forest) → map (segment_of definitions) (lines ++ line ∷ []) ≡ map Some (preorder forest) →
      is_bare forest ≡ false
  not_bare [] line no_trees same = cc
  not_bare (first ∷ lines) line no_trees same = cc
  not_bare lines line (tree r b a) same = refl

  ended_by : (lines : List DataRecord) (line : DataRecord) (forest front : Forest) (segment : Segment) (above : Option ℕ) (among : List Segment) →
      map (segment_of definitions) (lines ++ line ∷ []) ≡ map Some (preorder forest) → Hangs entries None front → parent_of entries segment.type ≡ Some above →
      siblings above front ≡ Some among → forest ≡ hung above segment front → Ended lines line forest
  ended_by lines line forest front segment above among same hangs parent siblings_are is =
      let parts = last-injective (map (segment_of definitions) lines) (map Some (preorder front)) (segment_of definitions line) (Some segment)
      (sym (map-append (segment_of definitions) lines (line ∷ [])) ∙ same ∙ ap (λ f. map Some (preorder f)) is
      ∙ ap (map Some) (hung-preorder segment front among above siblings_are) ∙ map-append Some (preorder front) (segment ∷ [])) in
      record {
        segment = segment;
        known = parts.1;
        front = front;
        spells = record { segments = parts.0; hangs = hangs };
        above = above;
        parent = parent;
        among = among;
        siblings_are = siblings_are;
        is = is;
      }

  ended_at : (lines : List DataRecord) (line : DataRecord) (front forest : Forest) (segment : Segment) → map (segment_of definitions) (lines ++ line ∷ [])
      ≡ map Some (preorder forest) → Hangs entries None forest → EndsWith entries None segment front forest → Ended lines line forest
  ended_at lines line front _ segment same hangs (a_root _ parent) =
      ended_by lines line (joined front (leaf segment)) front segment None (roots front) same (Hangs-parts entries None front (leaf segment) hangs).0 parent
      refl refl
  ended_at lines line front forest segment same hangs (below _ _ type among parent stands hung_there) =
      let computed = HangsBelow-open type segment front among forest hung_there in
      ended_by lines line forest front segment (Some type) among same (HangsBelow-hung entries type segment None front among forest hung_there hangs) parent
      computed.0 (sym computed.1)

  -- records that spell a forest are those before the last one, and a segment that it hung
  pub Spells-last : IsPreorder 0 [] entries → (lines : List DataRecord) (line : DataRecord) (forest : Forest) →
      Spells definitions entries (lines ++ line ∷ []) forest → Ended lines line forest
  Spells-last preorder_kept lines line forest spells =
      let last = has_last entries preorder_kept None forest (not_bare lines line forest spells.segments) spells.hangs in
      ended_at lines line last.front forest last.segment spells.segments spells.hangs last.ends

  -- the lines before the last one stand, and it makes their forest grow
  pub record Stood (lines : List DataRecord) (line : DataRecord) (forest : Forest) : Type 0 where
    pub front : Forest
    pub stands : SpellsInOrder definitions entries lines front
    pub grows : Grows definitions entries line front forest

  -- the same of records that spell a forest in order
  pub SpellsInOrder-last : IsPreorder 0 [] entries → (lines : List DataRecord) (line : DataRecord) (forest : Forest) →
      SpellsInOrder definitions entries (lines ++ line ∷ []) forest → Stood lines line forest
  SpellsInOrder-last preorder_kept lines line forest stands =
      let ended = Spells-last preorder_kept lines line forest stands.spells in
      let segment = ended.segment in
      let among = ended.among in
      let kept = hung-fewer segment ended.front among (Fits entries) ended.above ended.siblings_are (Fits-fewer entries ended.above among segment)
      (subst (λ f. AllByRecursion (Fits entries) (families None f)) ended.is stands.fits) in
      let entry = option_map-Some (type_above entries) (entry_of entries segment.type) ended.above ended.parent in
      record {
        front = ended.front;
        stands = record { spells = ended.spells; fits = kept.0 };
        grows = record {
          segment = segment;
          known = ended.known;
          may = record {
            entry = entry.0;
            entry_at = entry.1;
            among = among;
            siblings_are = ap (λ above. siblings above ended.front) entry.2 ∙ ended.siblings_are;
            in_time = Fits-in_time entries ended.above among segment kept.1;
            room = Fits-room entries ended.above among segment entry.0 entry.1 kept.1;
          };
          is = ended.is ∙ ap (λ above. hung above segment ended.front) (sym entry.2);
        };
      }

  bare_forest : (forest : Forest) → map Some (preorder forest) ≡ [] → forest ≡ no_trees
  bare_forest no_trees same = refl
  bare_forest (tree r b a) same = cc

  -- no lines spell no trees
  pub Spells-none : (forest : Forest) → Spells definitions entries [] forest → forest ≡ no_trees
  Spells-none forest spells = bare_forest forest (sym spells.segments)

  -- no records spell the bare forest
  pub none-stands : SpellsInOrder definitions entries [] no_trees
  none-stands = record {
    spells = record { segments = refl; hangs = tt };
    fits = (record { ordered = tt; at_most = AllByRecursion-of (λ (entry : TypePlace). 0 ≤ entry.max) (λ entry. omega arith) entries }, tt);
  }

  -- lines spell one forest at most
  one_forest_of : IsPreorder 0 [] entries → (count : ℕ) (lines : List DataRecord) (first second : Forest) → length lines ≡ count → Snoc lines →
      Spells definitions entries lines first → Spells definitions entries lines second → first ≡ second
  one_forest_of kept count _ first second long none one other = Spells-none first one ∙ sym (Spells-none second other)
  one_forest_of kept zero _ first second long (some front line) one other = absurd (omega (arith, length-append front (line ∷ [])))
  one_forest_of kept (suc count) _ first second long (some front line) one other =
      let a = Spells-last kept front line first one in
      let b = Spells-last kept front line second other in
      let same_segment : a.segment ≡ b.segment = same_Some a.segment b.segment (sym a.known ∙ b.known) in
      let same_above : a.above ≡ b.above = same_Some a.above b.above (sym a.parent ∙ ap (λ (i : Segment). parent_of entries i.type) same_segment ∙ b.parent) in
      let shorter : length front ≡ count = omega (arith, length-append front (line ∷ [])) in
      let same_front : a.front ≡ b.front = one_forest_of kept count front a.front b.front shorter (snoc front) a.spells b.spells in
      a.is ∙ ap (λ above. hung above a.segment a.front) same_above ∙ ap (λ i. hung b.above i a.front) same_segment ∙ ap (hung b.above b.segment) same_front
      ∙ sym b.is

  -- records spell one forest at most
  pub one_forest : IsPreorder 0 [] entries → (lines : List DataRecord) (first second : Forest) → Spells definitions entries lines first →
      Spells definitions entries lines second → first ≡ second
  one_forest kept lines first second = one_forest_of kept (length lines) lines first second refl (snoc lines)
