-- A table of statuses with one place or one status more.
use Rattle.std.specs.Prelude.{◌==◌, slice_get, slice_set, if◌then◌else◌}
use Rattle.std.specs.Option.{unwrap_or}
use Rattle.std.proofs.Common.{◌≡◌, ℕ, zero, suc, Some, List, [], ◌∷◌, ◌++◌, refl, sym, ap, ◌∙◌}
use Rattle.std.proofs.Common.{Option, inl, inr}
use Rattle.std.proofs.lemmas.Bool.Decides.{eqb_tells}
use Rattle.ale_base.proofs.ListLemmas.{slice_get-set, slice_get-set_other}
use Rattle.status_log.specs.declared.status_at.StatusAt.{StatusAt}
use Rattle.status_log.specs.Statuses.{statuses_of, Adds, Keeps}

-- a place more has no statuses
pub statuses_of-room : (table : List (List StatusAt)) (doc : ℕ) → statuses_of doc (table ++ [] ∷ []) ≡ statuses_of doc table
statuses_of-room [] zero = refl
statuses_of-room [] (suc doc) = refl
statuses_of-room (statuses ∷ table) zero = refl
statuses_of-room (statuses ∷ table) (suc doc) = statuses_of-room table doc

-- what is written at a place that is there
pub statuses_of-written : (table : List (List StatusAt)) (place : ℕ) (old new : List StatusAt) → slice_get table place ≡ Some old
    → (doc : ℕ) → statuses_of doc (slice_set table place new) ≡ (if doc == place then new else statuses_of doc table)
statuses_of-written table place old new here doc =
    elim (eqb_tells doc place) [
      | inl same ↦ rw (same.0, same.1) (ap (λ (found : Option (List StatusAt)). unwrap_or found []) (slice_get-set table place old new here))
      | inr other ↦ rw other.0 (ap (λ (found : Option (List StatusAt)). unwrap_or found []) (slice_get-set_other table place doc new other.1))
    ]

-- a status more behind those at a place
pub Adds-written : (table : List (List StatusAt)) (place : ℕ) (old : List StatusAt) (one : StatusAt) → slice_get table place ≡ Some old
    → Adds place one table (slice_set table place (old ++ one ∷ []))
Adds-written table place old one here = record {
  added = λ doc.
      statuses_of-written table place old (old ++ one ∷ []) here doc
      ∙ elim (eqb_tells doc place) as (λ _. (if doc == place then old ++ one ∷ [] else statuses_of doc table)
      ≡ (if doc == place then statuses_of doc table ++ one ∷ [] else statuses_of doc table)) [
        | inl same ↦ rw (same.0, same.1) (ap (λ (found : Option (List StatusAt)). unwrap_or found [] ++ one ∷ []) (sym here))
        | inr other ↦ rw other.0 refl
      ];
}

-- what was at a place, written there again
pub Keeps-written : (table : List (List StatusAt)) (place : ℕ) (old : List StatusAt) → slice_get table place ≡ Some old
    → Keeps table (slice_set table place old)
Keeps-written table place old here = record {
  kept = λ doc.
      statuses_of-written table place old old here doc
      ∙ elim (eqb_tells doc place) as (λ _. (if doc == place then old else statuses_of doc table) ≡ statuses_of doc table) [
        | inl same ↦ rw (same.0, same.1) (ap (λ (found : Option (List StatusAt)). unwrap_or found []) (sym here))
        | inr other ↦ rw other.0 refl
      ];
}

-- places more, and then a status
pub Adds-later : (doc : ℕ) (one : StatusAt) (before between after : List (List StatusAt)) → Keeps before between → Adds doc one between after →
    Adds doc one before after
Adds-later doc one before between after keeps adds = record {
  added = λ other. adds.added other ∙ ap (λ (statuses : List StatusAt). if other == doc then statuses ++ one ∷ [] else statuses) (keeps.kept other);
}

pub Keeps-later : (before between after : List (List StatusAt)) → Keeps before between → Keeps between after → Keeps before after
Keeps-later before between after keeps more = record { kept = λ other. more.kept other ∙ keeps.kept other }

-- a place more
pub Keeps-room : (before table : List (List StatusAt)) → Keeps before table → Keeps before (table ++ [] ∷ [])
Keeps-room before table keeps = record { kept = λ doc. statuses_of-room table doc ∙ keeps.kept doc }
