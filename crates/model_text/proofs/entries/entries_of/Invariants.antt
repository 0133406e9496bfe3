use Rattle.std.proofs.Common.{◌≡◌, ℕ, List, [], drop, length}
use Rattle.toml.specs.Data.{Data}
use Rattle.toml.specs.View.{items_view}
use Rattle.segment_defs.specs.declared.idoc_type.TypePlace.{TypePlace}
use Rattle.segment_defs.specs.IdocType.{IsPreorder}
use Rattle.model_keys.specs.Each.{each}
use Rattle.model_text.specs.declared.keys.TheConstants.{SEGMENT}
use Rattle.model_text.specs.Entries.{entry_types, type_place_of}
use Rattle.model_text.proofs.entries.entries_of.Given as goal

-- what the entries so far are
pub record IsSoFar (segments : List ℕ) (entries : List TypePlace) (place : ℕ) : Type 0 where
  pub listed : segments ≡ entry_types entries
  pub counted : length entries ≡ place
  pub preorder : IsPreorder 0 [] entries

abbrev pub invariant-loop-place : goal.invariant-loop-place
invariant-loop-place l =
    let read = λ (done : List TypePlace) (d : Data). type_place_of l.types done d in
    IsSoFar l.segments l.entries l.place
    × (each SEGMENT.now read l.place l.entries (items_view (drop l.place l.values)) ≡ each SEGMENT.now read 0 [] (items_view l.values))
