-- Tables of what is mandatory below each segment type.
use Rattle.std.specs.Prelude.{filter, replicate, slice_get, slice_set, IsSome}
use Rattle.std.specs.Option.{option_map, option_map_or}
use Rattle.std.proofs.Common.{◌≡◌, ◌≢◌, ℕ, zero, suc, ◌+◌, ◌<◌, ◌≤◌, ◌==◌, ◌&&◌, Bool, true, false, cond, Option, Some, None, List, [], ◌∷◌, ◌++◌, length, take}
use Rattle.std.proofs.Common.{get_or, refl, ap, sym, ◌∙◌, inl, inr, arith}
use Rattle.std.proofs.lemmas.Bool.{cases_Bool}
use Rattle.std.proofs.lemmas.Bool.Decides.{eqb_tells}
use Rattle.std.proofs.lemmas.List.{get_or-replicate, length-replicate, length-set, take_more}
use Rattle.std.proofs.lemmas.Option.{same_Some, slice_get-get_or, slice_get_past, slice_get_within}
use Rattle.ale_base.proofs.MemberLemmas.{filter-kept, filter-left_out}
use Rattle.ale_base.proofs.ListLemmas.{slice_get-set, slice_get-set_other}
use Rattle.ale_base.proofs.OptionLemmas.{none_or_some}
use Rattle.segment_defs.specs.declared.definitions.Definitions.{Definitions}
use Rattle.segment_defs.specs.declared.idoc_type.TypePlace.{TypePlace}
use Rattle.segment_defs.specs.declared.segment_type.SegmentType.{SegmentType}
use Rattle.segment_defs.specs.declared.version.Version.{Version}
use Rattle.dist_model.specs.declared.lists.Lists.{Lists}
use Rattle.idoc_tree.specs.Forest.{Segment, Forest, AllNodes}
use Rattle.idoc_tree.proofs.ForestLemmas.{AllNodes-weaker}
use Rattle.segment_defs.specs.Definitions.{version_of}
use Rattle.segment_defs.specs.IdocType.{type_above}
use Rattle.idoc_tree.specs.steps.Lacking.{is_same}
use Rattle.filter_objects.specs.declared.needs.Needs.{Needs}
use Rattle.filter_objects.specs.FromLeaves.{is_needed, needs, united}
use Rattle.filter_objects.specs.steps.Conditions.{HasDefinition}
use Rattle.filter_objects.specs.steps.Needs.{needs_at, needed_below, AreBelow, IsAdded, AreNeeds}
use Rattle.filter_objects.proofs.SameLemmas.{united-same}

module _ (place : ℕ) (entry : TypePlace) where
  abbrev with_entry : ℕ → List TypePlace → List TypePlace
  with_entry type list = cond (place == type) (list ++ entry ∷ []) list

  left : (type : ℕ) (o : Option (List TypePlace)) → (place == type) ≡ false → option_map (with_entry type) o ≡ o
  left type None is = refl
  left type (Some list) is = ap (λ (b : Bool). Some (cond b (list ++ entry ∷ []) list)) is

  -- one more in the list at a place
  pub is_added : (lists : List (List TypePlace)) (old new : List TypePlace) → slice_get lists place ≡ Some old → new ≡ old ++ entry ∷ [] →
      IsAdded place entry lists (slice_set lists place new)
  is_added lists old new here written = record {
    long = length-set lists place new;
    each = λ type. elim (eqb_tells place type) [
      | inl same ↦
          ap (slice_get (slice_set lists place new)) (sym same.1)
          ∙ slice_get-set lists place old new here
          ∙ ap Some written
          ∙ sym (ap (λ (b : Bool). Some (cond b (old ++ entry ∷ []) old)) same.0)
          ∙ sym (ap (option_map (with_entry type)) (ap (slice_get lists) (sym same.1) ∙ here))
      | inr other ↦
          slice_get-set_other lists place type new (λ is. other.1 (sym is))
          ∙ sym (left type (slice_get lists type) other.0)
    ];
  }

  -- no list has more, where there is none at the place
  pub none_added : (lists : List (List TypePlace)) → length lists ≤ place → IsAdded place entry lists lists
  none_added lists past = record {
    long = refl;
    each = λ type. elim (eqb_tells place type) [
      | inl same ↦
          let none : slice_get lists type ≡ None = ap (slice_get lists) (sym same.1) ∙ slice_get_past lists place past in
          none ∙ sym (ap (option_map (with_entry type)) none)
      | inr other ↦ sym (left type (slice_get lists type) other.0)
    ];
  }

filter-snoc : (p : TypePlace → Bool) (some : List TypePlace) (entry : TypePlace) →
    filter p (some ++ entry ∷ []) ≡ cond (p entry) (filter p some ++ entry ∷ []) (filter p some)
filter-snoc p some entry = elim (cases_Bool (p entry)) [
  | inl passes ↦ filter-kept p some entry passes ∙ sym (ap (λ (b : Bool). cond b (filter p some ++ entry ∷ []) (filter p some)) passes)
  | inr fails ↦ filter-left_out p some entry fails ∙ sym (ap (λ (b : Bool). cond b (filter p some ++ entry ∷ []) (filter p some)) fails)
]

needed_there : (above type : ℕ) (m : Bool) (o : Option ℕ) → cond m o None ≡ Some above → (m && is_same o (Some type)) ≡ (above == type)
needed_there above type true None is = cc
needed_there above type true (Some a) is = ap (λ n. n == type) (same_Some a above is)
needed_there above type false o is = cc

needed_nowhere : (type : ℕ) (m : Bool) (o : Option ℕ) → cond m o None ≡ None → (m && is_same o (Some type)) ≡ false
needed_nowhere type true None is = refl
needed_nowhere type true (Some a) is = cc
needed_nowhere type false o is = refl

module _ (entries : List TypePlace) (types : ℕ) where
  next : (some : List TypePlace) (at : ℕ) (entry : TypePlace) → at < length some → entry ≡ get_or some at entry →
      take (at + 1) some ≡ take at some ++ entry ∷ []
  next some at entry within here = take_more some at entry within ∙ ap (λ e. take at some ++ e ∷ []) (sym here)

  -- one more entry, which is mandatory below a type
  pub below_more : (some : List TypePlace) (at : ℕ) (entry : TypePlace) (above : ℕ) (lists more : List (List TypePlace)) → at < length some →
      entry ≡ get_or some at entry
      → needed_below entries entry ≡ Some above → AreBelow entries types (take at some) lists → IsAdded above entry lists more →
      AreBelow entries types (take (at + 1) some) more
  below_more some at entry above lists more within here needed are added = record {
    long = added.long ∙ are.long;
    each = λ type less.
        let p = is_needed entries (Some type) in
        added.each type
        ∙ ap (option_map (with_entry above entry type)) (are.each type less)
        ∙ ap Some (sym (ap (filter p) (next some at entry within here) ∙ filter-snoc p (take at some) entry
        ∙ ap (λ (b : Bool). cond b (filter p (take at some) ++ entry ∷ []) (filter p (take at some)))
        (needed_there above type entry.mandatory (type_above entries entry) needed)));
  }

  -- one more entry, which is mandatory below no type
  pub below_same : (some : List TypePlace) (at : ℕ) (entry : TypePlace) (lists : List (List TypePlace)) → at < length some → entry ≡ get_or some at entry
      → needed_below entries entry ≡ None → AreBelow entries types (take at some) lists → AreBelow entries types (take (at + 1) some) lists
  below_same some at entry lists within here needed are = record {
    long = are.long;
    each = λ type less.
        let p = is_needed entries (Some type) in
        are.each type less
        ∙ ap Some (sym (ap (filter p) (next some at entry within here) ∙ filter-snoc p (take at some) entry
        ∙ ap (λ (b : Bool). cond b (filter p (take at some) ++ entry ∷ []) (filter p (take at some)))
        (needed_nowhere type entry.mandatory (type_above entries entry) needed)));
  }

  -- empty lists, before the first entry
  pub below_none : (lists : List (List TypePlace)) → lists ≡ replicate types [] → AreBelow entries types [] lists
  below_none lists are = record {
    long = ap length are ∙ length-replicate types [];
    each = λ type less.
        let none : List (List TypePlace) = replicate types [] in
        let within : type < length none = omega (arith, less, length-replicate {A = List TypePlace} types []) in
        ap (λ ls. slice_get ls type) are ∙ slice_get-get_or none type [] within ∙ ap Some (get_or-replicate types type [] [] less);
  }

  -- the tables have what is needed
  pub needs_at-is : (tables : Needs) → AreNeeds entries types tables → (type : ℕ) → type < types → needs_at tables (Some type) ≡ needs entries (Some type)
  needs_at-is tables are type less = ap (λ o. option_map_or (λ (list : List TypePlace). list) o []) (are.below.each type less)

is_value : (o : Option Version) → o ≡ None → IsSome o → ⊥
is_value None none some = cc
is_value (Some version) none some = cc

-- a definition is that of a known type
known_type : (definitions : Definitions) (segment : Segment) → HasDefinition definitions segment → segment.type < length definitions.types
known_type definitions segment there = elim (none_or_some (slice_get definitions.types segment.type)) [
  | inl none ↦ absurd (no_version none)
  | inr some ↦ slice_get_within definitions.types segment.type some.0 some.1
]
  where
    no_version : slice_get definitions.types segment.type ≡ None → ⊥
    no_version none =
        let there_is : IsSome (version_of definitions segment.type segment.version) = there in
        let found : version_of definitions segment.type segment.version ≡ None =
        ap (λ o. slice_get (option_map_or (λ (type : SegmentType). type.versions) o []) segment.version) none in
        is_value (version_of definitions segment.type segment.version) found there_is

-- the tables of an IDoc type give what it needs, at each forest of known types
pub tables-united : (model : Lists) (entries : List TypePlace) (tables : Needs) (tests : List (Segment → Bool)) (forest : Forest) →
    AreNeeds entries (length model.definitions.types) tables
    → AllNodes (HasDefinition model.definitions) forest → united (needs_at tables) tests forest ≡ united (needs entries) tests forest
tables-united model entries tables tests forest are all =
    united-same (needs_at tables) (needs entries) tests forest are.roots
    (AllNodes-weaker (HasDefinition model.definitions) (λ segment. needs_at tables (Some segment.type) ≡ needs entries (Some segment.type)) forest
    (λ segment there. needs_at-is entries (length model.definitions.types) tables are segment.type (known_type model.definitions segment there)) all)
