-- The segment of an object is one of the definitions; a gathering, object by object.
use Rattle.std.specs.Prelude.{◌==◌, if◌then◌else◌, map, option_and_then, slice_get}
use Rattle.std.specs.List.{cons_option, filter_map}
use Rattle.std.specs.Option.{option_map, option_map_or}
use Rattle.std.proofs.Common.{◌≡◌, ℕ, ◌-◌, ◌≤◌, Option, Some, None, List, [], ◌∷◌, length, refl, sym, ap, subst, ◌∙◌, arith}
use Rattle.std.proofs.lemmas.List.{length-take}
use Rattle.ale_base.proofs.ListLemmas.{AllByRecursion-at, slice_get-within}
use Rattle.segment_defs.specs.declared.definitions.Definitions.{Definitions}
use Rattle.segment_defs.specs.declared.field.Field.{Field}
use Rattle.segment_defs.specs.declared.segment_type.SegmentType.{SegmentType}
use Rattle.segment_defs.specs.declared.version.Version.{Version}
use Rattle.segment_defs.specs.Definitions.{AreDefinitions, version_of, versions_of}
use Rattle.segment_defs.specs.SegmentType.{IsSegmentType}
use Rattle.segment_defs.specs.Version.{HaveRoom, width_of}
use Rattle.segment_defs.proofs.DefinitionsLemmas.{version-IsVersion}
use Rattle.segment_defs.proofs.FieldLemmas.{length-data_of, trimmed-data_of}
use Rattle.idoc_tree.specs.Forest.{AllNodes, Forest, leaf}
use Rattle.idoc_tree.specs.Lines.{IsNode}
use Rattle.dist_model.specs.declared.kind.Kind.{Kind}
use Rattle.dist_model.specs.declared.lists.Lists.{Lists}
use Rattle.dist_model.specs.declared.message.Message.{Message}
use Rattle.dist_model.specs.Field.{all_fields}
use Rattle.dist_model.specs.Kind.{IsKind}
use Rattle.dist_model.specs.Model.{IsModel}
use Rattle.object_store.specs.Objects.{Fields, value_in}
use Rattle.change_pointers.specs.Master.{length_at, master_segment, object_segment, object_text}
use Rattle.change_pointers.specs.Noted.{name_at}

-- the segment of an object is one of the definitions
module _ (definitions : Definitions) (are : AreDefinitions definitions) (kind : Kind) (is_kind : IsKind definitions kind)
    (key : List ℕ) (values : Fields) where
  newest : (v : Version) × (version_of definitions kind.segment (length (versions_of definitions kind.segment) - 1) ≡ Some v)
  newest =
      let (type, at) = slice_get-within definitions.types kind.segment is_kind.known in
      let is = AllByRecursion-at IsSegmentType definitions.types kind.segment type are.each at in
      let (v, here) = slice_get-within type.versions (length type.versions - 1) (omega (arith, is.some)) in
      let last : List Version → Option Version = λ versions. slice_get versions (length versions - 1) in
      (v, ap (λ (found : Option SegmentType). last (option_map_or (λ t. t.versions) found [])) at ∙ here)

  room : HaveRoom (all_fields definitions kind.segment) (object_text (all_fields definitions kind.segment) kind.key key values)
  room place field here =
      let fields = all_fields definitions kind.segment in
      let long : length_at fields place ≡ field.length = ap (λ (found : Option Field). option_map_or (λ f. f.length) found 0) here in
      omega (arith, long, length-take (length_at fields place) (if place == kind.key then key else value_in (name_at fields place) values))

  object-is_node : IsNode definitions (object_segment definitions key values kind)
  object-is_node =
      let (v, here) = newest in
      let fields = all_fields definitions kind.segment in
      let same : fields ≡ v.fields = ap (λ (found : Option Version). option_map_or (λ last. last.fields) found []) here in
      let of = version-IsVersion definitions kind.segment (length (versions_of definitions kind.segment) - 1) v are here in
      let fits : width_of fields ≤ 1000 = subst (λ (fs : List Field). width_of fs ≤ 1000) (sym same) of.fields.fits in
      record {
        definition = v;
        here = here;
        short = omega (arith, fits, length-data_of fields (object_text fields kind.key key values) room);
        ends = trimmed-data_of fields (object_text fields kind.key key values);
      }

-- the segment of a master is one of the model's definitions
pub master-nodes : (model : Lists) (message : ℕ) (key : List ℕ) (values : Fields) (forest : Forest) → IsModel model
    → Some forest ≡ option_map leaf (master_segment model message key values) → AllNodes (IsNode model.definitions) forest
master-nodes model message key values forest kept made = of_message (slice_get model.messages message) made
  where
    nodes : (o : Option Kind) → ((kind : Kind) → o ≡ Some kind → IsKind model.definitions kind)
        → Some forest ≡ option_map leaf (option_map (object_segment model.definitions key values) o) → AllNodes (IsNode model.definitions) forest
    nodes None are is = absurd (cc)
    nodes (Some kind) are is =
        let same : leaf (object_segment model.definitions key values kind) ≡ forest = cc is in
        subst (AllNodes (IsNode model.definitions)) same (object-is_node model.definitions kept.definitions kind (are kind refl) key values, tt, tt)

    of_message : (o : Option Message)
        → Some forest
        ≡ option_map leaf (option_map (object_segment model.definitions key values) (option_and_then (λ (m : Message). slice_get model.kinds m.kind) o))
        → AllNodes (IsNode model.definitions) forest
    of_message None is = absurd (cc)
    of_message (Some m) is =
        nodes (slice_get model.kinds m.kind) (λ kind here. AllByRecursion-at (IsKind model.definitions) model.kinds m.kind kind kept.kinds.each here) is

map-cons_option : {B C : Type 0} (f : B → C) (o : Option B) (ys : List B) (zs : List C) → map f ys ≡ zs
    → map f (cons_option o ys) ≡ cons_option (option_map f o) zs
map-cons_option f None ys zs rest = rest
map-cons_option f (Some y) ys zs rest = ap (λ zs. f y ∷ zs) rest

-- what is made of each element of a filter_map, element by element
pub map-filter_map : {A B C : Type 0} (f : B → C) (g : A → Option B) (xs : List A) → map f (filter_map g xs) ≡ filter_map (λ x. option_map f (g x)) xs
map-filter_map f g [] = refl
map-filter_map f g (x ∷ xs) = map-cons_option f (g x) (filter_map g xs) (filter_map (λ x. option_map f (g x)) xs) (map-filter_map f g xs)
