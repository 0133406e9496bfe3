-- The system of a name.
use Rattle.std.specs.Prelude.{Contains, IfSome, IsNone, position, ◌↔◌, ◌⊎◌}
use Rattle.std.specs.Option.{option_map}
use Rattle.std.proofs.Common.{◌≡◌, ℕ, suc, ◌+◌, ◌<◌, List, Option, Some, None, refl, sym, ap, subst, ◌∙◌, inl, inr, arith}
use Rattle.ale_base.specs.Text.{is_text}
use Rattle.ale_base.proofs.OptionLemmas.{option_map-Some}
use Rattle.segment_defs.proofs.NameLemmas.{position-map, position-name, position-none, position-only}
use Rattle.dist_model.specs.declared.lists.Lists.{Lists}
use Rattle.dist_model.specs.Model.{IsModel, HasSystem, system_names, system_named}

-- the number that is found is that of a system of the name, and there is no other
system_named-HasSystem : (model : Lists) (name : List ℕ) (number : ℕ) → IsModel model → (system_named name model ≡ Some number) ↔ HasSystem model name number
system_named-HasSystem model name number is = let names = system_names model.systems in (
  λ found. let at = option_map-Some suc (position (is_text name) names) number found in record {
    place = at.0;
    counted = at.2;
    named = position-name name names at.0 at.1;
  },
  λ has. ap (option_map suc) (position-only name names has.place is.systems.apart has.named) ∙ ap Some has.counted,
)

map-none : (found : Option ℕ) → (option_map suc found ≡ None) ↔ (found ≡ None)
map-none None = (λ none. refl, λ none. refl)
map-none (Some place) = (λ none. cc, λ none. cc)

-- no number is found exactly where no system has the name
system_named-none : (model : Lists) (name : List ℕ) → (system_named name model ≡ None) ↔ (Contains (system_names model.systems) name → ⊥)
system_named-none model name =
    let names = system_names model.systems in
    let map = map-none (position (is_text name) names) in
    let none = position-none name names in
    (λ is. none.0 (map.0 is), λ absent. map.1 (none.1 absent))

module _ (model : Lists) (name : List ℕ) (found : Option ℕ) (sought : found ≡ position (λ system. is_text name system.name) model.systems) where
  seen : found ≡ position (is_text name) (system_names model.systems)
  seen = sought ∙ position-map (λ system. system.name) (is_text name) model.systems

  -- the number of the system at a place
  pub number-found : (r : Option ℕ) (place : ℕ) → found ≡ Some place → place < 16 → IfSome r (λ number. number ≡ place + 1) →
      IsNone r ↔ ((place + 1 ≡ 0) ⊎ (16 < place + 1)) → r ≡ system_named name model
  number-found None place there few is none = absurd (elim (none.0 refl) [ inl zero ↦ omega arith | inr many ↦ omega arith ])
  number-found (Some number) place there few is none = ap Some (is ∙ omega arith) ∙ ap (option_map suc) (sym there ∙ seen)

  -- none where there is none
  pub number-none : found ≡ None → None ≡ system_named name model
  number-none absent = ap (option_map suc) (sym absent ∙ seen)

-- the same of a number that was found
pub found-named : (model : Lists) (name : List ℕ) (r : Option ℕ) → r ≡ system_named name model → IsModel model → (number : ℕ) →
    (r ≡ Some number) ↔ HasSystem model name number
found-named model name r found is number =
    subst (λ r. (r ≡ Some number) ↔ HasSystem model name number) (sym found) (system_named-HasSystem model name number is)

pub found-none : (model : Lists) (name : List ℕ) (r : Option ℕ) → r ≡ system_named name model → (r ≡ None) ↔ (Contains (system_names model.systems) name → ⊥)
found-none model name r found =
    subst (λ r. (r ≡ None) ↔ (Contains (system_names model.systems) name → ⊥)) (sym found) (system_named-none model name)
