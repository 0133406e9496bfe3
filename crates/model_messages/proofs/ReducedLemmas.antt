-- The names of message types and of reduced ones, and the segment types that may be kept.
use Rattle.std.specs.Prelude.{nat_eq, slice_get, is_some, position}
use Rattle.std.specs.List.{IsDistinct, list_any}
use Rattle.std.specs.Option.{option_map, option_map_or}
use Rattle.std.proofs.Common.{◌≡◌, ℕ, suc, Bool, Option, Some, None, List, [], ◌∷◌, ◌++◌, map, refl, sym, ap, ◌∙◌, inl, inr, append_assoc}
use Rattle.std.proofs.lemmas.Bool.{cases_Bool}
use Rattle.std.proofs.lemmas.List.{map_push}
use Rattle.ale_base.proofs.ListLemmas.{AllByRecursion-at}
use Rattle.segment_defs.specs.declared.definitions.Definitions.{Definitions}
use Rattle.segment_defs.specs.declared.idoc_type.IdocType.{IdocType}
use Rattle.segment_defs.specs.declared.idoc_type.TypePlace.{TypePlace}
use Rattle.segment_defs.specs.IdocType.{IsIdocType}
use Rattle.segment_defs.proofs.NameLemmas.{position-behind, position-here}
use Rattle.dist_model.specs.declared.message.Message.{Message}
use Rattle.dist_model.specs.declared.message.Reduced.{Reduced}
use Rattle.dist_model.specs.Message.{entries_at, message_names, reduced_names}
use Rattle.dist_model.specs.Model.{AreIdocTypes}
use Rattle.model_messages.specs.Reduced.{names_with}

-- a first element that passes is there where one passes
pub position-is_some : {A : Type 0} (test : A → Bool) (xs : List A) → is_some (position test xs) ≡ list_any test xs
position-is_some test [] = refl
position-is_some test (x ∷ xs) = elim (cases_Bool (test x)) [
  | inl passes ↦ ap is_some (position-here test x xs passes) ∙ rw passes refl
  | inr fails ↦ ap is_some (position-behind test x xs fails) ∙ further (position test xs) ∙ position-is_some test xs ∙ rw fails refl
]
  where
    further : (o : Option ℕ) → is_some (option_map suc o) ≡ is_some o
    further None = refl
    further (Some place) = refl

-- one more name behind the others
pub names_with-push : (messages : List Message) (reduced : List Reduced) (one : Reduced) →
    names_with messages (reduced ++ one ∷ []) ≡ names_with messages reduced ++ one.name ∷ []
names_with-push messages reduced one =
    ap (λ names. message_names messages ++ names) (map_push (λ (r : Reduced). r.name) reduced one)
    ∙ sym (append_assoc (message_names messages) (reduced_names reduced) (one.name ∷ []))

-- the entries of an IDoc type have different segment types
pub entries-apart : (definitions : Definitions) (types : List IdocType) (place : ℕ) → AreIdocTypes definitions types →
    IsDistinct nat_eq (map (λ (entry : TypePlace). entry.segment) (entries_at types place))
unfolding IsDistinct
entries-apart definitions types place are = found (slice_get types place) refl
  where
    found : (o : Option IdocType) → slice_get types place ≡ o →
        IsDistinct nat_eq (map (λ (entry : TypePlace). entry.segment) (option_map_or (λ (type : IdocType). type.segments) o []))
    found None here = tt
    found (Some type) here = (AllByRecursion-at (IsIdocType definitions) types place type are.each here).apart
