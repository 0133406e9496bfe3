-- Whether there are enough of each mandatory type: the test by lists of what is needed, and its tables.
use Rattle.std.specs.Prelude.{filter}
use Rattle.std.specs.List.{AllByRecursion, list_all}
use Rattle.std.proofs.Common.{◌≡◌, ℕ, Bool, true, false, cond, Option, List, [], ◌∷◌, refl, sym, ◌∙◌}
use Rattle.std.proofs.lemmas.Bool.{and_parts, false≢true, leb-true, le-leb}
use Rattle.segment_defs.specs.declared.idoc_type.TypePlace.{TypePlace}
use Rattle.segment_defs.specs.IdocType.{type_above}
use Rattle.idoc_tree.specs.Forest.{Forest, roots, count_of}
use Rattle.idoc_tree.specs.steps.Lacking.{is_same}
use Rattle.idoc_tree.specs.Valid.{Family, Suffices, HasEnough}
use Rattle.idoc_tree.proofs.LackLemmas.{is_same-same, same-is_same}
use Rattle.filter_objects.specs.FromLeaves.{is_needed, needs, is_enough}
use Rattle.filter_objects.proofs.PassingLemmas.{both_hold}

module _ (entries : List TypePlace) (above : Option ℕ) (forest : Forest) where
  abbrev own : Family
  own = record { above = above; children = roots forest }

  here_enough : (entry : TypePlace) (b : Bool) (rest : List TypePlace) → is_needed entries above entry ≡ b →
      list_all (is_enough forest) (cond b (entry ∷ rest) rest) ≡ true → Suffices entries own entry × (list_all (is_enough forest) rest ≡ true)
  here_enough entry true rest is all =
      let parts = and_parts (is_enough forest entry) (list_all (is_enough forest) rest) all in
      ((λ mandatory same. leb-true entry.min (count_of entry.segment (roots forest)) parts.0), parts.1)
  here_enough entry false rest is all = (
    (λ mandatory same. absurd (false≢true (sym is
        ∙ both_hold entry.mandatory (is_same (type_above entries entry) above) mandatory (same-is_same _ _ same)))),
    all,
  )

  needed-enough : (some : List TypePlace) → list_all (is_enough forest) (filter (is_needed entries above) some) ≡ true →
      AllByRecursion (Suffices entries own) some
  needed-enough [] all = tt
  needed-enough (entry ∷ some) all =
      let parts = here_enough entry (is_needed entries above entry) (filter (is_needed entries above) some) refl all in
      (parts.0, needed-enough some parts.1)

  enough_here : (entry : TypePlace) (b : Bool) (rest : List TypePlace) → is_needed entries above entry ≡ b → Suffices entries own entry →
      list_all (is_enough forest) rest ≡ true → list_all (is_enough forest) (cond b (entry ∷ rest) rest) ≡ true
  enough_here entry true rest is suffices all =
      let parts = and_parts entry.mandatory (is_same (type_above entries entry) above) is in
      both_hold (is_enough forest entry) (list_all (is_enough forest) rest)
      (le-leb entry.min (count_of entry.segment (roots forest)) (suffices parts.0 (is_same-same _ _ parts.1))) all
  enough_here entry false rest is suffices all = all

  enough-needed : (some : List TypePlace) → AllByRecursion (Suffices entries own) some → list_all (is_enough forest) (filter (is_needed entries above) some)
      ≡ true
  enough-needed [] all = refl
  enough-needed (entry ∷ some) all =
      enough_here entry (is_needed entries above entry) (filter (is_needed entries above) some) refl all.0 (enough-needed some all.1)

-- where the test says so, a family has enough
pub needs-HasEnough : (entries : List TypePlace) (above : Option ℕ) (forest : Forest) → list_all (is_enough forest) (needs entries above) ≡ true →
    HasEnough entries (record { above = above; children = roots forest })
needs-HasEnough entries above forest is = needed-enough entries above forest entries is

-- and the other way round
pub HasEnough-needs : (entries : List TypePlace) (above : Option ℕ) (forest : Forest) → HasEnough entries (record { above = above; children = roots forest }) →
    list_all (is_enough forest) (needs entries above) ≡ true
HasEnough-needs entries above forest enough = enough-needed entries above forest entries enough
