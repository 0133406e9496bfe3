-- Profiles that leave all that is mandatory.
use Rattle.std.specs.Prelude.{filter, is_some, Contains}
use Rattle.std.specs.List.{AllByRecursion, list_any}
use Rattle.std.proofs.Common.{◌≡◌, ℕ, suc, ◌==◌, ◌&&◌, not, nat_eq, Bool, true, false, List, [], ◌∷◌, length, position, Option, Some, None, Ok, refl, sym, ap}
use Rattle.std.proofs.Common.{subst, ◌∙◌, inl, inr, arith}
use Rattle.std.proofs.lemmas.Bool.{and_parts, cases_Bool, false≢true}
use Rattle.std.proofs.lemmas.Bool.Decides.{nat_tests}
use Rattle.ale_base.proofs.ListLemmas.{AllByRecursion-weaker}
use Rattle.ale_base.proofs.MemberLemmas.{Contains-filter, Contains-here, Contains-map, Contains-nil, Contains-there, list_any-Contains, list_any-found}
use Rattle.segment_defs.specs.declared.definitions.Definitions.{Definitions}
use Rattle.segment_defs.specs.declared.idoc_type.IdocType.{IdocType}
use Rattle.segment_defs.specs.declared.idoc_type.TypePlace.{TypePlace}
use Rattle.dist_model.specs.declared.message.Message.{Message}
use Rattle.dist_model.specs.declared.outbound.Outbound.{Outbound}
use Rattle.dist_model.specs.Message.{message_entries}
use Rattle.dist_model.specs.Outbound.{drops, goes_below, gone, is_missed, leaves_out, LeavesWhole, removes}
use Rattle.model_keys.specs.declared.finding.Cause.TheVariants.{NoVersion}
use Rattle.model_keys.proofs.KeepsLemmas.{check-ok, from_bind}
use Rattle.model_text.specs.declared.keys.TheConstants.{OUTBOUND, RELEASE}
use Rattle.model_text.specs.Whole.{all_whole, drops_none, missed, missed_with, no_fault, removes_none, whole}
use Rattle.model_text.proofs.CheckedLemmas.{checked-keeps}
use Rattle.model_text.proofs.TableLemmas.{nat_eq-decides, position-any}

-- what holds of each member
all_members : {A : Type 0} (P : A → Type 0) (xs : List A) → ((x : A) → Contains xs x → P x) → AllByRecursion P xs
all_members P [] each = tt
all_members P (x ∷ xs) each = (each x (Contains-here x xs), all_members P xs (λ y among. each y (Contains-there x xs y among)))

-- the segment type of an entry that is missed is among those that are
missed-Contains : (goes : ℕ → Bool) (which : List Bool) (entries : List TypePlace) (entry : TypePlace) → Contains entries entry →
    is_missed goes which entry ≡ true
    → Contains (missed_with goes which entries) entry.segment
missed-Contains goes which entries entry among is =
    Contains-map (λ (e : TypePlace). e.segment) (filter (is_missed goes which) entries) entry (Contains-filter (is_missed goes which) entries entry among is)

-- no place is at fault
no_fault-keeps : (found : Option ℕ) (y : Bool) → no_fault found ≡ Ok y → found ≡ None
no_fault-keeps None y h = refl
no_fault-keeps (Some place) y h = absurd (cc)

same_reflexive : (a : ℕ) → nat_eq a a ≡ true
same_reflexive a = grind (arith, nat_tests)

removes_none-keeps : (entries : List TypePlace) (profile : Outbound) (y : Bool) → removes_none entries profile ≡ Ok y
    → AllByRecursion (λ entry. is_missed (removes profile) (gone (removes profile) entries) entry ≡ false) entries
unfolding removes_none
removes_none-keeps entries profile y h = all_members (λ entry. is_missed (removes profile) which entry ≡ false) entries
    (λ entry among. elim (cases_Bool (is_missed (removes profile) which entry)) [
      | inl is ↦ absurd (at_fault entry among is)
      | inr other ↦ other
    ])
  where
    which : List Bool
    which = gone (removes profile) entries

    test : ℕ → Bool
    test segment = list_any (nat_eq segment) (missed (removes profile) (removes profile) entries)

    none : position test profile.remove ≡ None
    none = no_fault-keeps (position test profile.remove) y h

    at_fault : (entry : TypePlace) → Contains entries entry → is_missed (removes profile) which entry ≡ true → ⊥
    at_fault entry among is =
        let first = and_parts entry.mandatory (removes profile entry.segment && not (goes_below which entry.parent)) is in
        let goes = (and_parts (removes profile entry.segment) (not (goes_below which entry.parent)) first.1).0 in
        let (segment, listed, same) = list_any-found (nat_eq entry.segment) profile.remove goes in
        let e = nat_eq-decides entry.segment segment same in
        let missed_here = missed-Contains (removes profile) which entries entry among is in
        let passes : test segment ≡ true = subst (λ s. test s ≡ true) e
        (list_any-Contains (nat_eq entry.segment) (missed (removes profile) (removes profile) entries) entry.segment missed_here
        (same_reflexive entry.segment)) in
        let found : list_any test profile.remove ≡ true = list_any-Contains test profile.remove segment listed passes in
        false≢true (ap is_some (sym none) ∙ position-any test profile.remove ∙ found)

no_members : {A : Type 0} (xs : List A) (x : A) → length xs == 0 ≡ true → Contains xs x → ⊥
no_members [] x none among = Contains-nil x among
no_members (y ∷ xs) x none among = absurd (some (length xs) none)
  where
    some : (n : ℕ) → suc n == 0 ≡ true → ⊥
    some n is = grind (arith, nat_tests)

drops_none-keeps : (definitions : Definitions) (entries : List TypePlace) (profile : Outbound) (y : Bool) → drops_none definitions entries profile ≡ Ok y
    → AllByRecursion (λ entry. is_missed (drops definitions profile) (gone (leaves_out definitions profile) entries) entry ≡ false) entries
unfolding drops_none
drops_none-keeps definitions entries profile y h =
    let which = gone (leaves_out definitions profile) entries in
    let segments = missed (drops definitions profile) (leaves_out definitions profile) entries in
    let none = check-ok NoVersion RELEASE.now (length segments == 0) y h in
    all_members (λ entry. is_missed (drops definitions profile) which entry ≡ false) entries
    (λ entry among. elim (cases_Bool (is_missed (drops definitions profile) which entry)) [
      | inl is ↦ absurd (no_members segments entry.segment none (missed-Contains (drops definitions profile) which entries entry among is))
      | inr other ↦ other
    ])

whole-keeps : (definitions : Definitions) (entries : List TypePlace) (profile : Outbound) → (y : Bool) × (whole definitions entries profile ≡ Ok y) →
    LeavesWhole definitions profile entries
unfolding whole
whole-keeps definitions entries profile (y, h) =
    let (removed, r, g) = from_bind (removes_none entries profile) (λ removed. drops_none definitions entries profile) y h in
    record { removed = removes_none-keeps entries profile removed r; dropped = drops_none-keeps definitions entries profile y g }

-- where the check passes each profile leaves all that is mandatory
pub all_whole-keeps : (definitions : Definitions) (types : List IdocType) (messages : List Message) (profiles : List Outbound) (y : Bool) →
    all_whole definitions types messages profiles ≡ Ok y
    → AllByRecursion (λ profile. LeavesWhole definitions profile (message_entries types messages profile.message)) profiles
all_whole-keeps definitions types messages profiles y h =
    let test = λ (profile : Outbound). whole definitions (message_entries types messages profile.message) profile in
    AllByRecursion-weaker (λ profile. (b : Bool) × (test profile ≡ Ok b))
    (λ profile. LeavesWhole definitions profile (message_entries types messages profile.message)) profiles
    (λ profile. whole-keeps definitions (message_entries types messages profile.message) profile)
    (checked-keeps OUTBOUND.now test 0 profiles y h)
