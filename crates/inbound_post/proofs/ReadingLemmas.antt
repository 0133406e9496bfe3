-- The fields that are posted, one more of them; and the types of a model's kinds.
use Rattle.std.specs.Prelude.{slice_get, ◌||◌}
use Rattle.std.proofs.Common.{◌≡◌, ℕ, suc, ◌<◌, ◌==◌, Bool, true, false, Some, List, ◌∷◌, length, drop, drop-cons, get_or, sym, ap, ◌∙◌}
use Rattle.std.proofs.lemmas.Bool.{cond-true, cond-false}
use Rattle.ale_base.proofs.ListLemmas.{AllByRecursion-at}
use Rattle.segment_defs.specs.declared.field.Field.{Field}
use Rattle.segment_defs.specs.Version.{field_text}
use Rattle.dist_model.specs.declared.kind.Kind.{Kind}
use Rattle.dist_model.specs.declared.lists.Lists.{Lists}
use Rattle.dist_model.specs.Kind.{IsKind}
use Rattle.dist_model.specs.Model.{IsModel}
use Rattle.inbound_post.specs.Reading.{is_no_data, posted_fields}

module _ (key place : ℕ) (sdata : List ℕ) (fields : List Field) (field : Field) (within : place < length fields)
    (here : field ≡ get_or fields place field) where
  behind : drop place fields ≡ field ∷ drop (suc place) fields
  behind = drop-cons fields place field within ∙ ap (λ f. f ∷ drop (suc place) fields) (sym here)

  abbrev pub its : Bool
  its = (place == key) || is_no_data (field_text sdata field)

  -- a field that is posted, before those behind it
  pub posted-more : its ≡ false
      → posted_fields key place sdata (drop place fields) ≡ record { field = field.name; value = field_text sdata field }
      ∷ posted_fields key (suc place) sdata (drop (suc place) fields)
  posted-more is =
      ap (posted_fields key place sdata) behind
      ∙ cond-false its (posted_fields key (suc place) sdata (drop (suc place) fields))
      (record { field = field.name; value = field_text sdata field } ∷ posted_fields key (suc place) sdata (drop (suc place) fields)) is

  -- one that is not
  pub posted-less : its ≡ true → posted_fields key place sdata (drop place fields) ≡ posted_fields key (suc place) sdata (drop (suc place) fields)
  posted-less is =
      ap (posted_fields key place sdata) behind
      ∙ cond-true its (posted_fields key (suc place) sdata (drop (suc place) fields))
      (record { field = field.name; value = field_text sdata field } ∷ posted_fields key (suc place) sdata (drop (suc place) fields)) is

-- the segment type of a kind of a model is there
pub kind-known : (model : Lists) (place : ℕ) (kind : Kind) → IsModel model → slice_get model.kinds place ≡ Some kind →
    kind.segment < length model.definitions.types
kind-known model place kind is here = (AllByRecursion-at (IsKind model.definitions) model.kinds place kind is.kinds.each here).known
