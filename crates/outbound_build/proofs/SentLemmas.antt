-- What is sent, by the steps that make it.
use Rattle.std.specs.Prelude.{◌↔◌, IfSome, option_and_then}
use Rattle.std.specs.Option.{option_map}
use Rattle.std.proofs.Common.{◌≡◌, ◌⊎◌, inl, inr, ℕ, Option, Some, None, List, [], ◌∷◌, length, refl, ap, sym, ◌∙◌, subst, ◌≢◌, arith}
use Rattle.idoc_record.specs.Control.{control_with}
use Rattle.segment_defs.specs.declared.definitions.Definitions.{Definitions}
use Rattle.segment_defs.specs.declared.idoc_type.TypePlace.{TypePlace}
use Rattle.dist_model.specs.declared.lists.Lists.{Lists}
use Rattle.dist_model.specs.declared.outbound.Outbound.{Outbound}
use Rattle.dist_model.specs.Model.{outbound_of}
use Rattle.idoc_tree.specs.declared.node.Doc.{Doc}
use Rattle.idoc_tree.specs.declared.node.Node.{Node}
use Rattle.idoc_tree.specs.Forest.{Forest, no_trees, tree}
use Rattle.idoc_tree.specs.Nodes.{forest_of}
use Rattle.idoc_tree.specs.Lines.{IsNode, IsFitted}
use Rattle.idoc_tree.specs.Valid.{IsValid}
use Rattle.idoc_reading.specs.Document.{IsOfEntries}
use Rattle.dist_model.specs.declared.row.Group.{Group}
use Rattle.filter_objects.specs.Passing.{groups_of}
use Rattle.filter_objects.specs.Kept.{IsKeptPart}
use Rattle.filter_objects.proofs.KeptLemmas.{law-kept, law-valid, law-hangs, law-nodes}
use Rattle.filter_objects.proofs.OneLemmas.{one_part}
use Rattle.outbound_build.specs.ControlRecord.{control_text}
use Rattle.outbound_build.specs.Document.{Document, document_of}
use Rattle.outbound_build.specs.Sent.{IsAdaptedPart, adapted, entries_of, kept_by, made_of, sent, sent_by}

-- what is sent by a row is sent by its profile
pub sent-by : (model : Lists) (row number : ℕ) (master : Document) (profile : Outbound) → outbound_of model row ≡ Some profile
    → sent model row number master ≡ sent_by model row number master profile
sent-by model row number master profile found = ap (option_and_then (sent_by model row number master)) found

-- what is made of what is kept is what is sent
pub sent-kept : (model : Lists) (row number : ℕ) (master : Document) (profile : Outbound) (made : Option Doc) (kept : Forest)
    → outbound_of model row ≡ Some profile
    → kept ≡ kept_by model row master → option_map document_of made ≡ made_of model profile number master.control kept
    → option_map document_of made ≡ sent model row number master
sent-kept model row number master profile made kept found part is =
    is ∙ ap (made_of model profile number master.control) part ∙ sym (sent-by model row number master profile found)

-- where no nodes are kept, nothing is made
pub none-made : (model : Lists) (profile : Outbound) (number : ℕ) (control : List ℕ) (nodes : List Node) → length nodes ≡ 0
    → made_of model profile number control (forest_of nodes) ≡ None
none-made model profile number control [] bare = refl
none-made model profile number control (node ∷ nodes) bare = absurd (omega arith)

-- where some are kept, a document is made
pub one-made : (model : Lists) (profile : Outbound) (number : ℕ) (control : List ℕ) (nodes : List Node) → length nodes ≢ 0
    → made_of model profile number control (forest_of nodes)
    ≡ Some (record { control = control_with (control_text model profile number control); forest = adapted model profile (forest_of nodes) })
one-made model profile number control [] some = absurd (some refl)
one-made model profile number control (node ∷ nodes) some = refl

-- the document that is made
pub one-written : (model : Lists) (profile : Outbound) (number : ℕ) (master : List ℕ) (nodes : List Node) → length nodes ≢ 0
    → (control : List ℕ) (left : Forest) → control ≡ control_with (control_text model profile number master) → left ≡ adapted model profile (forest_of nodes)
    → Some (record { control = control; forest = left }) ≡ made_of model profile number master (forest_of nodes)
one-written model profile number master nodes some control left written adapts = sym
    (one-made model profile number master nodes some
    ∙ ap (λ (c : List ℕ). Some (record { control = c; forest = adapted model profile (forest_of nodes) })) (sym written)
    ∙ ap (λ (f : Forest). Some (record { control = control; forest = f })) (sym adapts))

-- what is kept of a document by some entries is one by them, or nothing
pub kept-of_entries : (model : Lists) (entries : List TypePlace) (groups : List Group) (forest kept : Forest) → IsKeptPart model entries groups forest kept
    → IsOfEntries model.definitions entries forest → (kept ≡ no_trees) ⊎ IsOfEntries model.definitions entries kept
kept-of_entries model entries groups forest kept part is = whole (law-valid model entries groups forest kept part is.valid)
  where
    whole : (kept ≡ no_trees) ⊎ IsValid entries kept → (kept ≡ no_trees) ⊎ IsOfEntries model.definitions entries kept
    whole (inl bare) = inl bare
    whole (inr valid) = inr (record {
      nodes = law-nodes (IsNode model.definitions) model entries groups forest kept part is.nodes;
      fitted = law-nodes (IsFitted model.definitions) model entries groups forest kept part is.fitted;
      hangs = law-hangs model entries None groups forest kept part is.hangs;
      valid = valid;
    })

-- nodes are no trees only where there are none
pub some-kept : (definitions : Definitions) (entries : List TypePlace) (nodes : List Node) → length nodes ≢ 0
    → (forest_of nodes ≡ no_trees) ⊎ IsOfEntries definitions entries (forest_of nodes) → IsOfEntries definitions entries (forest_of nodes)
some-kept definitions entries [] some either = absurd (some refl)
some-kept definitions entries (node ∷ nodes) some (inl bare) = cc
some-kept definitions entries (node ∷ nodes) some (inr is) = is

made-bare : (model : Lists) (profile : Outbound) (number : ℕ) (control : List ℕ) (kept : Forest) → made_of model profile number control kept ≡ None
    → kept ≡ no_trees
made-bare model profile number control no_trees none = refl
made-bare model profile number control (tree root below after) none = cc

map-none : {A B : Type 0} (f : A → B) (o : Option A) → option_map f o ≡ None → o ≡ None
map-none f None none = refl
map-none f (Some x) none = cc

-- nothing is sent exactly where the largest kept part is nothing
pub none-kept : (model : Lists) (row number : ℕ) (master : Document) (profile : Outbound) (made : Option Doc) → outbound_of model row ≡ Some profile
    → option_map document_of made ≡ sent model row number master
    → (made ≡ None) ↔ IsKeptPart model (entries_of model row master.control) (groups_of model row) master.forest no_trees
none-kept model row number master profile made found is = (forth, back)
  where
    entries : List TypePlace
    entries = entries_of model row master.control

    made_is : option_map document_of made ≡ made_of model profile number master.control (kept_by model row master)
    made_is = is ∙ sent-by model row number master profile found

    law : IsKeptPart model entries (groups_of model row) master.forest (kept_by model row master)
    law = law-kept model entries (groups_of model row) master.forest

    forth : made ≡ None → IsKeptPart model entries (groups_of model row) master.forest no_trees
    forth none =
        let bare = made-bare model profile number master.control (kept_by model row master) (sym made_is ∙ ap (option_map document_of) none) in
        subst (IsKeptPart model entries (groups_of model row) master.forest) bare law

    back : IsKeptPart model entries (groups_of model row) master.forest no_trees → made ≡ None
    back nothing =
        let one = one_part model entries (groups_of model row) master.forest (kept_by model row master) no_trees law nothing in
        map-none document_of made (made_is ∙ ap (made_of model profile number master.control) one)

some-same : (one other : Document) → Some one ≡ Some other → (other.control ≡ one.control) × (other.forest ≡ one.forest)
some-same one other same =
    let is : one ≡ other = cc in
    (ap (λ (its : Document). its.control) (sym is), ap (λ (its : Document). its.forest) (sym is))

made-forest : (model : Lists) (profile : Outbound) (number : ℕ) (control : List ℕ) (kept : Forest) (document : Document)
    → Some document ≡ made_of model profile number control kept → document.forest ≡ adapted model profile kept
made-forest model profile number control no_trees document made = cc
made-forest model profile number control (tree root below after) document made =
    (some-same (record { control = control_with (control_text model profile number control); forest = adapted model profile (tree root below after) })
    document (sym made)).1

-- what is sent is what the row's profile makes of a part that the row's groups keep
pub adapted-part : (model : Lists) (row number : ℕ) (master : Document) (profile : Outbound) (made : Option Doc) → outbound_of model row ≡ Some profile
    → option_map document_of made ≡ sent model row number master
    → IfSome made (λ doc. IsAdaptedPart model row master (forest_of doc.forest.items))
adapted-part model row number master profile None found is = tt
adapted-part model row number master profile (Some doc) found is = record {
  kept = kept_by model row master;
  profile = profile;
  part = law-kept model (entries_of model row master.control) (groups_of model row) master.forest;
  of_row = found;
  makes = made-forest model profile number master.control (kept_by model row master) (document_of doc)
      (is ∙ sent-by model row number master profile found);
}
