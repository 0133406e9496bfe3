-- The entries of an IDoc type: a preorder, entry by entry.
use Rattle.std.proofs.Common.{◌≡◌, ℕ, ◌-◌, ◌≤◌, ◌==◌, nat_le, Bool, true, false, cond, Option, Some, None, Result, Ok, Err, List, [], ◌∷◌, ◌++◌, length, map}
use Rattle.std.proofs.Common.{refl, sym, ap, subst, ◌∙◌, arith}
use Rattle.std.proofs.lemmas.Bool.Decides.{nat_tests}
use Rattle.std.proofs.lemmas.List.{map_push}
use Rattle.toml.specs.Data.{Data, get_member, as_str}
use Rattle.segment_defs.specs.declared.limits.TheConstants.{MOST_LEVELS}
use Rattle.segment_defs.specs.declared.idoc_type.TypePlace.{TypePlace}
use Rattle.segment_defs.specs.IdocType.{open_level, path_behind, IsPreorder}
use Rattle.segment_defs.proofs.TypeRuleLemmas.{CanFollow, can_follow-decided, IsPreorder-join}
use Rattle.model_keys.specs.declared.finding.Finding.{Finding}
use Rattle.model_keys.specs.declared.finding.Cause.TheVariants.{Limit, Wrong}
use Rattle.model_keys.specs.Finding.{at, required}
use Rattle.model_keys.specs.Keys.{entry_of, or_else}
use Rattle.model_keys.proofs.KeepsLemmas.{from_bind, untested}
use Rattle.model_text.specs.declared.keys.TheConstants.{ENTRY_KEYS, PARENT}
use Rattle.model_text.specs.Entries.{entry_types, new_type_at, open_place, parent_at, parent_of, parent_place, root_of, some_parent, times_at, type_place_of}

-- a test that lets another one go on
goes_on : (b : Bool) (next : Result ℕ Finding) (f : Finding) (y : ℕ) → cond b (Err f) next ≡ Ok y → (b ≡ false) × (next ≡ Ok y)
goes_on false next f y h = (refl, h)
goes_on true next f y h = absurd (cc)

-- a place behind which an entry may hang
open_place-keeps : (entries : List TypePlace) (place at : ℕ) → open_place entries place ≡ Ok at →
    (place ≡ at) × (1 ≤ open_level place entries) × (open_level place entries ≤ MOST_LEVELS - 1)
open_place-keeps entries place here h =
    let level = open_level place entries in
    let (opened, h1) = goes_on (level == 0) (cond (nat_le MOST_LEVELS level) (Err (at Limit PARENT.now)) (Ok place)) (at Wrong PARENT.now) here h in
    let (shallow, e) = untested (nat_le MOST_LEVELS level) place here (at Limit PARENT.now) h1 in
    (e, some level opened, few level shallow)
  where
    some : (n : ℕ) → n == 0 ≡ false → 1 ≤ n
    some n is = grind (arith, nat_tests)

    few : (n : ℕ) → nat_le MOST_LEVELS n ≡ false → n ≤ MOST_LEVELS - 1
    few n is = grind (arith, nat_tests)

parent_of-keeps : (types : List (List ℕ)) (segments : List ℕ) (entries : List TypePlace) (d : Data) (place : ℕ) → parent_of types segments entries d ≡ Ok place
    → CanFollow (length entries) (path_behind 0 [] entries) (Some place)
unfolding parent_of
parent_of-keeps types segments entries d place h =
    let (text, t, h1) = from_bind (required Wrong PARENT.now (as_str d)) _ place h in
    let (found, f, h2) = from_bind (required Wrong PARENT.now (parent_place types segments text)) _ place h1 in
    let (e, some, few) = open_place-keeps entries found place h2 in
    subst (λ (p : ℕ). CanFollow (length entries) (path_behind 0 [] entries) (Some p)) e
    ((can_follow-decided (length entries) found (path_behind 0 [] entries) true (λ is. (some, few), λ is. refl)).0 refl)

-- at the root level any entry may stand
root_follows : (place : ℕ) (before : List ℕ) → CanFollow place before None
root_follows place before = (λ parent is. absurd (cc), omega arith)

parent_in-keeps : (types : List (List ℕ)) (segments : List ℕ) (entries : List TypePlace) (found : Option Data) (parent : Option ℕ)
    → or_else None (some_parent types segments entries) found ≡ Ok parent → CanFollow (length entries) (path_behind 0 [] entries) parent
parent_in-keeps types segments entries None parent h =
    let e : ◌≡◌ {A = Option ℕ} None parent = cc in
    subst (CanFollow (length entries) (path_behind 0 [] entries)) e (root_follows (length entries) (path_behind 0 [] entries))
parent_in-keeps types segments entries (Some d) parent h =
    let (place, p, h1) = from_bind (parent_of types segments entries d) _ parent h in
    let e : Some place ≡ parent = cc in
    subst (CanFollow (length entries) (path_behind 0 [] entries)) e (parent_of-keeps types segments entries d place p)

-- an entry that was read can follow those before it
pub type_place_of-follows : (types : List (List ℕ)) (entries : List TypePlace) (d : Data) (entry : TypePlace) → type_place_of types entries d ≡ Ok entry
    → CanFollow (length entries) (path_behind 0 [] entries) entry.parent
unfolding type_place_of parent_at
type_place_of-follows types entries d entry h =
    let (table, t, h1) = from_bind (entry_of (map (λ key. key.now) ENTRY_KEYS) d) _ entry h in
    let (segment, s, h2) = from_bind (new_type_at types (entry_types entries) table) _ entry h1 in
    let (parent, p, h3) = from_bind (or_else None (some_parent types (entry_types entries ++ segment ∷ []) entries) (get_member PARENT.now table)) _ entry h2 in
    let (times, n, h4) = from_bind (times_at table) _ entry h3 in
    let (root, r, h5) = from_bind (root_of entries times.0 times.1 times.2) _ entry h4 in
    let e : ◌≡◌ {A = TypePlace} (record { segment = segment; parent = parent; mandatory = times.0; min = times.1; max = times.2 }) entry = cc in
    subst (λ (entry : TypePlace). CanFollow (length entries) (path_behind 0 [] entries) entry.parent) e
    (parent_in-keeps types (entry_types entries ++ segment ∷ []) entries (get_member PARENT.now table) parent p)

-- so the entries stay in preorder
pub type_place_of-preorder : (types : List (List ℕ)) (entries : List TypePlace) (d : Data) (entry : TypePlace) → IsPreorder 0 [] entries
    → type_place_of types entries d ≡ Ok entry → IsPreorder 0 [] (entries ++ entry ∷ [])
type_place_of-preorder types entries d entry ordered is =
    IsPreorder-join 0 [] entries entry (length entries) (omega arith) ordered (type_place_of-follows types entries d entry is)

pub entry_types-push : (segments : List ℕ) (entries : List TypePlace) (entry : TypePlace) → segments ≡ entry_types entries →
    segments ++ entry.segment ∷ [] ≡ entry_types (entries ++ entry ∷ [])
entry_types-push segments entries entry is =
    ap (λ (s : List ℕ). s ++ entry.segment ∷ []) is ∙ sym (map_push (λ (e : TypePlace). e.segment) entries entry)
