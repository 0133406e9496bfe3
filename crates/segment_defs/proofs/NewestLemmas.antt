-- The newest definition that is not after a release.
use Rattle.std.specs.Prelude.{slice_get, ◌↔◌}
use Rattle.std.specs.List.{AllByRecursion, AllPairs}
use Rattle.std.proofs.Common.{◌≡◌, ℕ, zero, suc, ◌+◌, ◌<◌, ◌≤◌, nat_le, Bool, true, false, ◌⊎◌, Option, Some, None, List, [], ◌∷◌, get_or, inl, inr, refl, sym}
use Rattle.std.proofs.Common.{ap, subst, ◌∙◌, arith}
use Rattle.std.proofs.lemmas.Bool.{leb-true, leb-false, le-leb, lt-leb}
use Rattle.std.proofs.lemmas.Option.{same_Some, slice_get_within, get_or_from_slice_get}
use Rattle.segment_defs.specs.declared.version.Version.{Version}
use Rattle.segment_defs.specs.SegmentType.{Continues, last_place, newest_by, IsNewestBy}
use Rattle.ale_base.proofs.ListLemmas.{AllByRecursion-at, AllByRecursion-from_places}

-- the place of the newest among those from a place on, or else of the newest before it
abbrev pub newest_or : Option ℕ → ℕ → Option ℕ → Option ℕ
newest_or before place None = before
newest_or before place (Some further) = Some (place + further)

-- no place counts: neither the first nor a later one
last_place-None : (counts : Bool) (later : Option ℕ) → last_place counts later ≡ None → (counts ≡ false) × (later ≡ None)
last_place-None true None none = cc
last_place-None false None none = (refl, refl)
last_place-None counts (Some place) none = cc

-- the last place that counts is the first, where no later one counts, or it is a later one
last_place-Some : (counts : Bool) (later : Option ℕ) (place : ℕ) → last_place counts later ≡ Some place
    → ((counts ≡ true) × (later ≡ None) × (0 ≡ place)) ⊎ ((rest : ℕ) × (later ≡ Some rest) × (suc rest ≡ place))
last_place-Some true None place is = inl (refl, refl, same_Some 0 place is)
last_place-Some false None place is = cc
last_place-Some counts (Some rest) place is = inr (rest, refl, same_Some (suc rest) place is)

-- where none counts, each one is after the release
all_later : (release : ℕ) (versions : List Version) → newest_by release versions ≡ None → AllByRecursion (λ version. release < version.release) versions
all_later release [] none = tt
all_later release (version ∷ versions) none =
    let parts = last_place-None (nat_le version.release release) (newest_by release versions) none in
    (leb-false version.release release parts.0, all_later release versions parts.1)

-- and the other way round
none_counts : (release : ℕ) (versions : List Version) → AllByRecursion (λ version. release < version.release) versions → newest_by release versions ≡ None
none_counts release [] later = refl
none_counts release (version ∷ versions) later =
    let after : release < version.release = later.0 in
    ap (λ counts. last_place counts (newest_by release versions)) (lt-leb version.release release after)
    ∙ ap (last_place false) (none_counts release versions later.1)

-- behind a first definition, each one of these is later
later-first : (release : ℕ) (version : Version) (versions : List Version) → AllByRecursion (λ v. release < v.release) versions
    → (later : ℕ) (other : Version) → 0 < later → slice_get (version ∷ versions) later ≡ Some other → release < other.release
later-first release version versions all zero other less here = absurd (omega arith)
later-first release version versions all (suc later) other less here = AllByRecursion-at (λ v. release < v.release) versions later other all here

-- behind the newest, one place further on, each one is later
later-behind : (release : ℕ) (version : Version) (versions : List Version) (place : ℕ) → IsNewestBy release versions place
    → (later : ℕ) (other : Version) → suc place < later → slice_get (version ∷ versions) later ≡ Some other → release < other.release
later-behind release version versions place is zero other less here = absurd (omega arith)
later-behind release version versions place is (suc later) other less here = is.newest later other (omega arith) here

-- what is found is the newest
IsNewestBy-found : (release : ℕ) (versions : List Version) (place : ℕ) → newest_by release versions ≡ Some place → IsNewestBy release versions place
IsNewestBy-found release [] place found = cc
IsNewestBy-found release (version ∷ versions) place found =
    elim (last_place-Some (nat_le version.release release) (newest_by release versions) place found) [
      | inl first ↦
          subst (IsNewestBy release (version ∷ versions)) first.2
          (record {
            version = version;
            here = refl;
            not_after = leb-true version.release release first.0;
            newest = later-first release version versions
                (all_later release versions first.1);
          })
      | inr behind ↦
          let is = IsNewestBy-found release versions behind.0 behind.1 in
          subst (IsNewestBy release (version ∷ versions)) behind.2
          (record { version = is.version; here = is.here; not_after = is.not_after; newest = later-behind release version versions behind.0 is })
    ]

-- the newest is found
found-IsNewestBy : (release : ℕ) (versions : List Version) (place : ℕ) → IsNewestBy release versions place → newest_by release versions ≡ Some place
found-IsNewestBy release [] place is = let none : None ≡ Some is.version = is.here in cc
found-IsNewestBy release (version ∷ versions) zero is =
    let counts : version.release ≤ release = subst (λ v. v.release ≤ release) (sym (same_Some version is.version is.here)) is.not_after in
    let later = AllByRecursion-from_places (λ v. release < v.release) versions (λ i other here. is.newest (suc i) other (omega arith) here) in
    ap (λ b. last_place b (newest_by release versions)) (le-leb version.release release counts) ∙ ap (last_place true) (none_counts release versions later)
found-IsNewestBy release (version ∷ versions) (suc place) is =
    ap (last_place (nat_le version.release release)) (found-IsNewestBy release versions place
    (record {
      version = is.version;
      here = is.here;
      not_after = is.not_after;
      newest = λ later other less here.
          is.newest (suc later) other (omega arith) here;
    }))

-- a definition is found exactly where it is the newest
pub found-newest : (release : ℕ) (versions : List Version) (place : ℕ) → (newest_by release versions ≡ Some place) ↔ IsNewestBy release versions place
found-newest release versions place = (IsNewestBy-found release versions place, found-IsNewestBy release versions place)

-- where the first definition is after a release, each one is
after-first : (release : ℕ) (versions : List Version) (first : Version) → AllPairs Continues versions → slice_get versions 0 ≡ Some first →
    release < first.release
    → (place : ℕ) (other : Version) → slice_get versions place ≡ Some other → release < other.release
after-first release versions first pairs at_first after zero other here = subst (λ v. release < v.release) (same_Some first other (sym at_first ∙ here)) after
after-first release versions first pairs at_first after (suc place) other here =
    let pair = pairs 0 (suc place) first (omega arith) (slice_get_within versions (suc place) other here) in
    let from : get_or versions 0 first ≡ first = get_or_from_slice_get versions 0 first first at_first in
    let to : get_or versions (suc place) first ≡ other = get_or_from_slice_get versions (suc place) other first here in
    let later : first.release < other.release = subst (λ v. v.release < other.release) from
    (subst (λ v. (get_or versions 0 first).release < v.release) to pair.later) in
    omega arith

-- none is found exactly where the first is after the release
pub none-newest : (release : ℕ) (versions : List Version) (first : Version) → AllPairs Continues versions → slice_get versions 0 ≡ Some first
    → (newest_by release versions ≡ None) ↔ (release < first.release)
none-newest release versions first pairs at_first = (
  λ none. AllByRecursion-at (λ v. release < v.release) versions 0 first (all_later release versions none) at_first,
  λ after. none_counts release versions (AllByRecursion-from_places (λ v. release < v.release) versions
      (after-first release versions first pairs at_first after)),
)
