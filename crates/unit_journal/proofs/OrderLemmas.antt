-- The moments of a log stay in order as it grows, for who builds on it.
use Rattle.std.specs.List.{AllByRecursion, slice_get}
use Rattle.std.specs.Option.{unwrap_or}
use Rattle.std.proofs.Common.{◌≡◌, ◌-◌, ◌≤◌, ℕ, suc, Option, Some, None, List, [], ◌∷◌, ◌++◌, length, refl, sym, ap, ◌∙◌, subst, arith}
use Rattle.std.proofs.lemmas.Option.{slice_get_past}
use Rattle.std.proofs.Math.Nat.{le-max_right}
use Rattle.ale_base.proofs.ListLemmas.{AllByRecursion-at, AllByRecursion-append}
use Rattle.unit_core.specs.declared.records.Record.{Record}
use Rattle.unit_journal.specs.declared.journals.SystemJournals.{SystemJournals}
use Rattle.unit_journal.specs.OnDisk.{count_of, HaveMoments, moment_of, moments_at, last_moment, later, next_moment, MayFollow, AreInOrder}
use Rattle.unit_journal.specs.OnDisk.{moments_of, entries_of, entries_at}
use Rattle.unit_journal.proofs.PlaceLemmas.{got-within}

MayFollow-joined : (first second third : Option ℕ) → MayFollow first second → MayFollow second third → MayFollow first third
MayFollow-joined None second third before after = tt
MayFollow-joined (Some a) None third before after = absurd before
MayFollow-joined (Some a) (Some b) None before after = absurd after
MayFollow-joined (Some a) (Some b) (Some c) before after = omega (arith, before, after)

MayFollow-later : (set last : Option ℕ) → MayFollow last (later set last)
MayFollow-later set None = tt
MayFollow-later None (Some b) = omega arith
MayFollow-later (Some a) (Some b) = le-max_right a b

-- what holds of all moments holds of the last
of-last : (P : Option ℕ → Type 0) (moment : Option ℕ) (moments : List (Option ℕ)) → AllByRecursion P (moment ∷ moments)
    → P (last_moment (moment ∷ moments))
of-last P moment moments all =
    let last = length (moment ∷ moments) - 1 in
    AllByRecursion-at P (moment ∷ moments) last (last_moment (moment ∷ moments)) all (got-within (moment ∷ moments) last None (omega arith))

-- one moment before them changes nothing of the last
last-behind : (first second : Option ℕ) (moments : List (Option ℕ)) → last_moment (first ∷ second ∷ moments) ≡ last_moment (second ∷ moments)
last-behind first second moments =
    let long : length (first ∷ second ∷ moments) - 1 ≡ suc (length moments) = omega arith in
    let short : length moments ≡ length (second ∷ moments) - 1 = omega arith in
    ap (λ (k : ℕ). unwrap_or (slice_get (first ∷ second ∷ moments) k) None) long
    ∙ ap (λ (k : ℕ). unwrap_or (slice_get (second ∷ moments) k) None) short

-- Moments in order stay so with one more that may follow the last.
pub AreInOrder-more : (moments : List (Option ℕ)) (moment : Option ℕ) → AreInOrder moments → MayFollow (last_moment moments) moment
    → AreInOrder (moments ++ moment ∷ [])
AreInOrder-more [] moment order follows = (tt, tt)
AreInOrder-more (m ∷ []) moment order follows = ((follows, tt), (tt, tt))
AreInOrder-more (m ∷ n ∷ moments) moment order follows =
    let behind : MayFollow (last_moment (n ∷ moments)) moment = subst (λ (last : Option ℕ). MayFollow last moment) (last-behind m n moments) follows in (
      AllByRecursion-append (MayFollow m) (n ∷ moments) (moment ∷ []) order.0
          (MayFollow-joined m (last_moment (n ∷ moments)) moment (of-last (MayFollow m) n moments order.0) behind, tt),
      AreInOrder-more (n ∷ moments) moment order.1 behind,
    )

-- the moments of the entries of a log are its moments
pub moments-entries : (moments : List (Option ℕ)) (log : List Record) → length moments ≡ length log → moments_of (entries_of moments log) ≡ moments
moments-entries [] log each = refl
moments-entries (moment ∷ moments) [] each = absurd (omega arith)
moments-entries (moment ∷ moments) (what ∷ log) each = ap (λ (l : List (Option ℕ)). moment ∷ l) (moments-entries moments log (omega arith))

-- The next moment of a log may follow the last of its entries.
pub next-follows : (place : ℕ) (all : SystemJournals) (log : List Record) → length (moments_at all place) ≡ length log
    → MayFollow (last_moment (moments_of (entries_at all place log))) (next_moment all place)
next-follows place all log each = subst (λ (l : List (Option ℕ)). MayFollow (last_moment l) (next_moment all place))
    (sym (moments-entries (moments_at all place) log each))
    (MayFollow-later (moment_of all) (last_moment (moments_at all place)))

-- A log whose moments are in order has them in order with one record more: what its write says as `grown` is what is asked.
pub AreInOrder-grown : (place : ℕ) (before after : SystemJournals)
    → moments_at after place ≡ moments_at before place ++ next_moment before place ∷ []
    → AreInOrder (moments_at before place) → AreInOrder (moments_at after place)
AreInOrder-grown place before after grown order = subst (λ (l : List (Option ℕ)). AreInOrder l) (sym grown)
    (AreInOrder-more (moments_at before place) (next_moment before place) order
    (MayFollow-later (moment_of before) (last_moment (moments_at before place))))

-- Where the moments at a place are as before, they are in order as before.
pub AreInOrder-same : (place : ℕ) (before after : SystemJournals) → slice_get after.moments place ≡ slice_get before.moments place
    → AreInOrder (moments_at before place) → AreInOrder (moments_at after place)
AreInOrder-same place before after same = subst (λ (found : Option (List (Option ℕ))). AreInOrder (unwrap_or found [])) (sym same)

-- The moments of a log without records are in order.
pub AreInOrder-none : (moments : List (Option ℕ)) → length moments ≡ 0 → AreInOrder moments
AreInOrder-none [] none = tt
AreInOrder-none (moment ∷ moments) none = absurd (omega arith)

-- At a place that has no journal there are no moments, and so they are in order.
pub AreInOrder-past : (place : ℕ) (all : SystemJournals) → HaveMoments all → count_of all ≤ place → AreInOrder (moments_at all place)
AreInOrder-past place all have past = subst (λ (found : Option (List (Option ℕ))). AreInOrder (unwrap_or found []))
    (sym (slice_get_past all.moments place (omega (arith, have, past)))) tt
