-- What the segments of a forest become for a release.
use Rattle.std.specs.Prelude.{slice_get, is_none, AllPairs, IfSome}
use Rattle.std.specs.List.{AllByRecursion}
use Rattle.std.specs.Option.{option_map_or}
use Rattle.std.proofs.Common.{◌≡◌, ℕ, ◌<◌, ◌≤◌, Bool, true, false, min, Option, Some, None, List, [], ◌∷◌, get_or, inl, inr, refl, sym, ap, subst, ◌∙◌, arith}
use Rattle.std.proofs.lemmas.Bool.{cases_order, leb-false}
use Rattle.std.proofs.lemmas.Option.{same_Some, slice_get_within, get_or_from_slice_get}
use Rattle.ale_base.proofs.ListLemmas.{AllByRecursion-at}
use Rattle.ale_base.proofs.OptionLemmas.{none_or_some}
use Rattle.segment_defs.specs.declared.definitions.Definitions.{Definitions}
use Rattle.segment_defs.specs.declared.segment_type.SegmentType.{SegmentType}
use Rattle.segment_defs.specs.declared.version.Version.{Version}
use Rattle.segment_defs.specs.Definitions.{AreDefinitions, versions_of, version_of}
use Rattle.segment_defs.specs.SegmentType.{Continues, IsSegmentType, last_place, newest_by}
use Rattle.segment_defs.proofs.NewestLemmas.{found-newest}
use Rattle.dist_model.specs.declared.lists.Lists.{Lists}
use Rattle.dist_model.specs.declared.outbound.Outbound.{Outbound}
use Rattle.dist_model.specs.Outbound.{drops}
use Rattle.idoc_tree.specs.Forest.{Segment, Forest, AllNodes, without}
use Rattle.idoc_tree.specs.Spells.{fitted_by}
use Rattle.idoc_tree.proofs.ForestLemmas.{AllNodes-map_nodes, AllNodes-weaker, AllNodes-without}
use Rattle.version_reduce.specs.Released.{IsByRelease, IsGiven, IsReleasedFrom, given_version, own_release, released, released_segment, with_version}
use Rattle.version_reduce.proofs.LeftLemmas.{left-of}

none-counts : (b : Bool) (o : Option ℕ) → last_place b o ≡ None → (b ≡ false) × (o ≡ None)
none-counts true None none = absurd (cc)
none-counts false None none = (refl, refl)
none-counts b (Some place) none = absurd (cc)

-- where no definition is found, each one is after the release
all_after : (release : ℕ) (versions : List Version) → newest_by release versions ≡ None → AllByRecursion (λ version. release < version.release) versions
all_after release [] none = tt
all_after release (version ∷ versions) none =
    let parts = none-counts _ (newest_by release versions) none in
    (leb-false version.release release parts.0, all_after release versions parts.1)

-- the definitions of a segment type continue each other
continued : (definitions : Definitions) (type : ℕ) → AreDefinitions definitions → AllPairs Continues (versions_of definitions type)
continued definitions type are = of_type (slice_get definitions.types type) refl
  where
    of_type : (o : Option SegmentType) → slice_get definitions.types type ≡ o
        → AllPairs Continues (option_map_or (λ (type : SegmentType). type.versions) o [])
    of_type None here = λ i j d less within. absurd (omega arith)
    of_type (Some one) here = (AllByRecursion-at IsSegmentType definitions.types type one are.each here).continued

-- an earlier definition has an earlier release
earlier : (versions : List Version) (i j : ℕ) (one other : Version) → AllPairs Continues versions → i < j → slice_get versions i ≡ Some one
    → slice_get versions j ≡ Some other → one.release < other.release
earlier versions i j one other pairs less here there =
    let pair = pairs i j one less (slice_get_within versions j other there) in
    let from : get_or versions i one ≡ one = get_or_from_slice_get versions i one one here in
    let to : get_or versions j one ≡ other = get_or_from_slice_get versions j other one there in
    omega (arith, pair.later, ap (λ (v : Version). v.release) from, ap (λ (v : Version). v.release) to)

module _ (definitions : Definitions) (are : AreDefinitions definitions) (release : ℕ) (segment : Segment)
    (stays : is_none (newest_by release (versions_of definitions segment.type)) ≡ false) where
  versions : List Version
  versions = versions_of definitions segment.type

  -- a segment of a definition is given one
  never-none : (own : Version) → version_of definitions segment.type segment.version ≡ Some own → given_version definitions release segment ≡ None → ⊥
  unfolding versions
  never-none own here none =
      let own_is : own_release definitions segment ≡ own.release = ap (λ o. option_map_or (λ (v : Version). v.release) o 0) here in
      let all = all_after (min release (own_release definitions segment)) versions none in
      let own_after = AllByRecursion-at (λ v. min release (own_release definitions segment) < v.release) versions segment.version own all here in
      elim (none_or_some (newest_by release versions)) [
        | inl nothing ↦ (let gone : is_none {T = ℕ} None ≡ false = subst (λ o. is_none o ≡ false) nothing stays in absurd (cc))
        | inr some ↦
            let newest = (found-newest release versions some.0).0 some.1 in
            let after = AllByRecursion-at (λ v. min release (own_release definitions segment) < v.release) versions some.0 newest.version all newest.here in
            omega (arith, own_is, own_after, after, newest.not_after)
      ]

  given : (own : Version) → version_of definitions segment.type segment.version ≡ Some own → (o : Option ℕ) → given_version definitions release segment ≡ o
      → IsGiven definitions release segment own (option_map_or (with_version definitions segment) o segment)
  unfolding versions
  given own here None is = absurd (never-none own here is)
  given own here (Some version) is =
      let newest = (found-newest (min release (own_release definitions segment)) versions version).0 is in
      let own_is : own_release definitions segment ≡ own.release = ap (λ o. option_map_or (λ (v : Version). v.release) o 0) here in
      record {
        type = refl;
        definition = newest.version;
        here = newest.here;
        by_release = omega (arith, newest.not_after);
        by_own = omega (arith, newest.not_after, own_is);
        newest = λ place other there one two. elim (cases_order place version) [
          | inr (inl less) ↦ (let before = earlier versions place version other newest.version (continued definitions segment.type are) less there
              newest.here in omega arith)
          | inl same ↦ (
              let one_is : other ≡ newest.version = same_Some other newest.version (sym there ∙ ap (slice_get versions) same ∙ newest.here) in
              omega (arith, ap (λ (v : Version). v.release) one_is)
              )
          | inr (inr more) ↦ (let after = newest.newest place other more there in absurd (omega (arith, after, own_is)))
        ];
        cut = ap (λ o. fitted_by o segment.sdata) newest.here;
      }

  -- what it becomes has no definition after the release
  by_release : (o : Option ℕ) → given_version definitions release segment ≡ o
      → IsByRelease definitions release (option_map_or (with_version definitions segment) o segment)
  unfolding versions
  by_release None is = own_by (version_of definitions segment.type segment.version) refl
    where
      own_by : (o : Option Version) → version_of definitions segment.type segment.version ≡ o → IfSome o (λ (v : Version). v.release ≤ release)
      own_by None here = tt
      own_by (Some own) here = absurd (never-none own here is)
  by_release (Some version) is =
      let newest = (found-newest (min release (own_release definitions segment)) versions version).0 is in
      let bound : newest.version.release ≤ release = omega (arith, newest.not_after) in
      subst (λ o. IfSome o (λ (v : Version). v.release ≤ release)) (sym newest.here) bound

  becomes : (o : Option Version) → version_of definitions segment.type segment.version ≡ o
      → IfSome o (λ own. IsGiven definitions release segment own (released_segment definitions release segment))
  becomes None here = tt
  becomes (Some own) here = given own here (given_version definitions release segment) refl

-- no segment that is left has a definition after the release
pub released-by_release : (model : Lists) (profile : Outbound) (forest : Forest) → AreDefinitions model.definitions
    → AllNodes (IsByRelease model.definitions profile.release) (released model profile forest)
released-by_release model profile forest are =
    let definitions = model.definitions in
    AllNodes-map_nodes (IsByRelease definitions profile.release) (released_segment definitions profile.release)
    (without (λ segment. drops definitions profile segment.type) forest)
    (AllNodes-weaker (λ segment. drops definitions profile segment.type ≡ false) _ (without (λ segment. drops definitions profile segment.type) forest)
    (λ segment stays. by_release definitions are profile.release segment stays (given_version definitions profile.release segment) refl)
    (AllNodes-without (λ segment. drops definitions profile segment.type) forest))

no_newest : (o : Option ℕ) → is_none o ≡ true → o ≡ None
no_newest None is = refl
no_newest (Some n) is = absurd (cc)

-- and each is given the one that it should have
pub released-from : (model : Lists) (profile : Outbound) (forest : Forest) → AreDefinitions model.definitions
    → IsReleasedFrom model profile forest (released model profile forest)
released-from model profile forest are =
    let definitions = model.definitions in
    left-of _ _ (λ segment. drops definitions profile segment.type) (released_segment definitions profile.release)
    (λ segment gone. all_after profile.release (versions_of definitions segment.type)
    (no_newest (newest_by profile.release (versions_of definitions segment.type)) gone))
    (λ segment stays. becomes definitions are profile.release segment stays (version_of definitions segment.type segment.version) refl) forest
