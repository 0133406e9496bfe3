-- The tests of values and conditions say what they stand for.
use Rattle.std.specs.Prelude.{not, slice_get, Contains, is_some, position}
use Rattle.std.specs.List.{AllByRecursion, list_all, list_any}
use Rattle.std.specs.Option.{option_map, option_map_or}
use Rattle.std.specs.Cmp.Lexicographic.{bytes_decides}
use Rattle.std.proofs.Common.{◌≡◌, ℕ, ◌==◌, ◌&&◌, ◌||◌, Bool, true, false, suc, Option, Some, None, List, [], ◌∷◌, ◌++◌, refl, ap, sym, subst, ◌∙◌, inl, inr}
use Rattle.std.proofs.lemmas.Bool.{and_parts, cases_Bool, eq-eqb, eqb-true}
use Rattle.std.proofs.lemmas.List.Folds.{list_all-append, list_any-append}
use Rattle.ale_base.specs.Text.{is_text}
use Rattle.ale_base.proofs.MemberLemmas.{list_any-Contains, list_any-found}
use Rattle.ale_base.proofs.OptionLemmas.{none_or_some}
use Rattle.segment_defs.proofs.NameLemmas.{position-here, position-behind}
use Rattle.segment_defs.specs.Definitions.{text_of}
use Rattle.dist_model.specs.declared.filter.Filter.{Filter}
use Rattle.dist_model.specs.declared.lists.Lists.{Lists}
use Rattle.dist_model.specs.declared.row.Choice.{Choice}
use Rattle.dist_model.specs.declared.row.Group.{Group}
use Rattle.idoc_tree.specs.Forest.{Segment}
use Rattle.filter_objects.specs.declared.condition.Condition.{Condition}
use Rattle.filter_objects.specs.Passing.{Meets, Passes}
use Rattle.filter_objects.specs.FromLeaves.{has_value, meets, passes}
use Rattle.filter_objects.specs.steps.Conditions.{HasSame, suits, suits_all}

if_then : (a b : Bool) → (not a || b) ≡ true → a ≡ true → b ≡ true
if_then true b is holds = is
if_then false b is holds = cc

then_if : (a b : Bool) → (a ≡ true → b ≡ true) → (not a || b) ≡ true
then_if true b follows = follows refl
then_if false b follows = refl

-- two tests that hold do together
pub both_hold : (a b : Bool) → a ≡ true → b ≡ true → (a && b) ≡ true
both_hold true true first second = refl
both_hold true false first second = cc
both_hold false b first second = cc

-- a text is found among values exactly where it is one
found-Contains : (text : List ℕ) (values : List (List ℕ)) → list_any (is_text text) values ≡ true → Contains values text
found-Contains text values is =
    let found = list_any-found (is_text text) values is in
    subst (Contains values) (sym ((bytes_decides text found.0).0 found.2)) found.1

Contains-found : (text : List ℕ) (values : List (List ℕ)) → Contains values text → list_any (is_text text) values ≡ true
Contains-found text values there = list_any-Contains (is_text text) values text there ((bytes_decides text text).1 refl)

module _ (model : Lists) (segment : Segment) where
  abbrev text : Filter → List ℕ
  text filter = text_of model.definitions segment.type segment.version filter.field segment.sdata

  meets-Meets : (choice : Choice) → meets model segment choice ≡ true → Meets model segment choice
  meets-Meets choice is = λ filter here same.
      let held : has_value model segment choice.values filter ≡ true =
      sym (ap (λ o. option_map_or (has_value model segment choice.values) o true) here) ∙ is in
      found-Contains (text filter) choice.values
      (if_then (filter.segment == segment.type) (list_any (is_text (text filter)) choice.values) held (eq-eqb filter.segment segment.type same))

  Meets-meets : (choice : Choice) → Meets model segment choice → meets model segment choice ≡ true
  Meets-meets choice holds = elim (none_or_some (slice_get model.filters choice.filter)) [
    | inl none ↦ ap (λ o. option_map_or (has_value model segment choice.values) o true) none
    | inr some ↦
        let filter = some.0 in
        ap (λ o. option_map_or (has_value model segment choice.values) o true) some.1
        ∙ then_if (filter.segment == segment.type) (list_any (is_text (text filter)) choice.values)
        (λ same. Contains-found (text filter) choice.values (holds filter some.1 (eqb-true filter.segment segment.type same)))
  ]

  all-meet : (choices : List Choice) → list_all (meets model segment) choices ≡ true → AllByRecursion (Meets model segment) choices
  all-meet [] is = tt
  all-meet (choice ∷ choices) is =
      let parts = and_parts (meets model segment choice) (list_all (meets model segment) choices) is in
      (meets-Meets choice parts.0, all-meet choices parts.1)

  meet-all : (choices : List Choice) → AllByRecursion (Meets model segment) choices → list_all (meets model segment) choices ≡ true
  meet-all [] all = refl
  meet-all (choice ∷ choices) all =
      both_hold (meets model segment choice) (list_all (meets model segment) choices) (Meets-meets choice all.0) (meet-all choices all.1)

-- a segment that passes by the test passes
pub passes-Passes : (model : Lists) (group : Group) (segment : Segment) → passes model group segment ≡ true → Passes model group segment
passes-Passes model group segment is = all-meet model segment group.choices is

-- and the other way round
pub Passes-passes : (model : Lists) (group : Group) (segment : Segment) → Passes model group segment → passes model group segment ≡ true
Passes-passes model group segment all = meet-all model segment group.choices all

-- a place is found exactly where some element passes
pub found-any : {A : Type 0} (test : A → Bool) (xs : List A) → is_some (position test xs) ≡ list_any test xs
found-any test [] = refl
found-any test (x ∷ xs) = elim (cases_Bool (test x)) [
  | inl passes ↦ ap is_some (position-here test x xs passes) ∙ sym (rw passes refl)
  | inr fails ↦ ap is_some (position-behind test x xs fails) ∙ mapped (position test xs) ∙ found-any test xs ∙ sym (rw fails refl)
]
  where
    mapped : (o : Option ℕ) → is_some (option_map suc o) ≡ is_some o
    mapped None = refl
    mapped (Some n) = refl

and_assoc : (a b c : Bool) → ((a && b) && c) ≡ (a && (b && c))
and_assoc true b c = refl
and_assoc false b c = refl

and_true : (a : Bool) → (a && true) ≡ a
and_true true = refl
and_true false = refl

or_assoc : (a b c : Bool) → ((a || b) || c) ≡ (a || (b || c))
or_assoc true b c = refl
or_assoc false b c = refl

or_false : (a : Bool) → (a || false) ≡ a
or_false true = refl
or_false false = refl

-- one more value in a table, or one that was there, and those to come
pub one_more_value : (table new : List (List ℕ)) (value : List ℕ) (rest : List (List ℕ)) (is_new : Bool) → is_new ≡ not (list_any (is_text value) table)
    → (is_new ≡ true → new ≡ table ++ value ∷ []) → (is_new ≡ false → new ≡ table)
    → (text : List ℕ) → (list_any (is_text text) new || list_any (is_text text) rest)
    ≡ (list_any (is_text text) table || (is_text text value || list_any (is_text text) rest))
one_more_value table new value rest true is added known text =
    ap (λ ts. list_any (is_text text) ts || list_any (is_text text) rest) (added refl)
    ∙ ap (λ b. b || list_any (is_text text) rest) (list_any-append (is_text text) table (value ∷ []))
    ∙ ap (λ b. (list_any (is_text text) table || b) || list_any (is_text text) rest) (or_false (is_text text value))
    ∙ or_assoc (list_any (is_text text) table) (is_text text value) (list_any (is_text text) rest)
one_more_value table new value rest false is added known text =
    ap (λ ts. list_any (is_text text) ts || list_any (is_text text) rest) (known refl)
    ∙ elim (cases_Bool (is_text text value)) [
      | inl same ↦
          let is_same : text ≡ value = (bytes_decides text value).0 same in
          let there : list_any (is_text text) table ≡ true = ap (λ t. list_any (is_text t) table) is_same ∙ was (list_any (is_text value) table) is in
          ap (λ b. b || list_any (is_text text) rest) there ∙ sym (ap (λ b. b || (is_text text value || list_any (is_text text) rest)) there)
      | inr other ↦ sym (ap (λ b. list_any (is_text text) table || (b || list_any (is_text text) rest)) other)
    ]
  where
    was : (b : Bool) → false ≡ not b → b ≡ true
    was true is = refl
    was false is = cc

-- one more condition, with the same values as a choice
pub suits-push : (model : Lists) (segment : Segment) (conditions : List Condition) (condition : Condition) (choice : Choice) (filter : Filter)
    (rest : List Choice)
    → slice_get model.filters choice.filter ≡ Some filter → condition.segment ≡ filter.segment → condition.field ≡ filter.field →
    HasSame condition.values choice.values
    → (suits_all model.definitions (conditions ++ condition ∷ []) segment && list_all (meets model segment) rest)
    ≡ (suits_all model.definitions conditions segment && list_all (meets model segment) (choice ∷ rest))
suits-push model segment conditions condition choice filter rest here type_is field_is same =
    ap (λ b. b && list_all (meets model segment) rest) (list_all-append (suits model.definitions segment) conditions (condition ∷ []))
    ∙ ap (λ b. (suits_all model.definitions conditions segment && b) && list_all (meets model segment) rest)
    (and_true (suits model.definitions segment condition))
    ∙ and_assoc (suits_all model.definitions conditions segment) (suits model.definitions segment condition) (list_all (meets model segment) rest)
    ∙ ap (λ b. suits_all model.definitions conditions segment && (b && list_all (meets model segment) rest)) suits_is
  where
    suits_is : suits model.definitions segment condition ≡ meets model segment choice
    suits_is =
        ap (λ t. not (t == segment.type) || is_some
        (position (is_text (text_of model.definitions segment.type segment.version condition.field segment.sdata)) condition.values)) type_is
        ∙ ap (λ f. not (filter.segment == segment.type)
        || is_some (position (is_text (text_of model.definitions segment.type segment.version f segment.sdata)) condition.values)) field_is
        ∙ ap (λ b. not (filter.segment == segment.type) || b)
        (found-any (is_text (text_of model.definitions segment.type segment.version filter.field segment.sdata)) condition.values
        ∙ same (text_of model.definitions segment.type segment.version filter.field segment.sdata))
        ∙ sym (ap (λ o. option_map_or (has_value model segment choice.values) o true) here)

-- a choice of no filter is met
pub meets-none : (model : Lists) (segment : Segment) (conditions : List Condition) (choice : Choice) (rest : List Choice) →
    slice_get model.filters choice.filter ≡ None
    → (suits_all model.definitions conditions segment && list_all (meets model segment) rest)
    ≡ (suits_all model.definitions conditions segment && list_all (meets model segment) (choice ∷ rest))
meets-none model segment conditions choice rest none =
    sym (ap (λ o. suits_all model.definitions conditions segment
    && (option_map_or (has_value model segment choice.values) o true && list_all (meets model segment) rest)) none)
