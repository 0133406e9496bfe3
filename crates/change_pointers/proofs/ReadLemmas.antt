-- A segment alone that is a document: it stands where the IDoc type has its root, and nothing else is mandatory near the root.
use Rattle.std.specs.Prelude.{◌==◌, ◌&&◌, not, nat_eq, if◌then◌else◌, slice_get, option_and_then}
use Rattle.std.specs.List.{AllByRecursion, IsDistinct, list_all}
use Rattle.std.specs.Option.{option_map, option_map_or}
use Rattle.std.proofs.Common.{◌≡◌, ℕ, zero, suc, ◌+◌, ◌-◌, ◌<◌, ◌≤◌, Bool, true, false, Option, Some, None, List, [], ◌∷◌, length, map, refl, ap, sym, subst}
use Rattle.std.proofs.Common.{◌∙◌, arith}
use Rattle.std.proofs.lemmas.Bool.{and_parts, both_ways}
use Rattle.std.proofs.lemmas.Bool.Decides.{nat_tests}
use Rattle.std.proofs.lemmas.Option.{none-some, same_Some, slice_get_within}
use Rattle.ale_base.proofs.ListLemmas.{AllByRecursion-at, AllByRecursion-from_places, AllByRecursion-from_map, AllByRecursion-of, AllByRecursion-weaker}
use Rattle.ale_base.proofs.ListLemmas.{slice_get-within}
use Rattle.segment_defs.specs.declared.definitions.Definitions.{Definitions}
use Rattle.segment_defs.specs.declared.idoc_type.IdocType.{IdocType}
use Rattle.segment_defs.specs.declared.idoc_type.TypePlace.{TypePlace}
use Rattle.segment_defs.specs.IdocType.{IsEntry, IsIdocType, IsPreorder, IsRootEntry, place_in, type_above}
use Rattle.segment_defs.proofs.IdocTypeLemmas.{parent-before}
use Rattle.idoc_tree.specs.Forest.{Segment, Forest, count_of, leaf}
use Rattle.idoc_tree.specs.Spells.{Hangs}
use Rattle.idoc_tree.specs.Valid.{HasEnough, IsValid, Suffices}
use Rattle.std.proofs.lemmas.List.{length-take}
use Rattle.segment_defs.specs.declared.field.Field.{Field}
use Rattle.segment_defs.specs.declared.segment_type.SegmentType.{SegmentType}
use Rattle.segment_defs.specs.declared.version.Version.{Version}
use Rattle.segment_defs.specs.Definitions.{AreDefinitions, version_of, versions_of}
use Rattle.segment_defs.specs.SegmentType.{IsSegmentType}
use Rattle.segment_defs.specs.Version.{HaveRoom, data_of, fitted, width_of}
use Rattle.segment_defs.proofs.DefinitionsLemmas.{version-IsVersion}
use Rattle.segment_defs.proofs.FieldLemmas.{fitted-data_of, length-data_of, trimmed-data_of}
use Rattle.idoc_tree.specs.Lines.{IsFitted, IsNode}
use Rattle.idoc_tree.specs.Spells.{fitted_by}
use Rattle.dist_model.specs.declared.kind.Kind.{Kind}
use Rattle.dist_model.specs.declared.lists.Lists.{Lists}
use Rattle.dist_model.specs.declared.message.Message.{Message}
use Rattle.dist_model.specs.Field.{all_fields}
use Rattle.dist_model.specs.Kind.{IsKind}
use Rattle.dist_model.specs.Message.{IsMessage, entries_at, is_near_root, is_root_enough, root_segment}
use Rattle.dist_model.specs.Model.{IsModel, entries_for}
use Rattle.object_store.specs.Objects.{Fields, value_in}
use Rattle.idoc_reading.specs.Document.{IsOfEntries}
use Rattle.change_pointers.specs.Master.{MakesDocuments, kind_of, length_at, master_control, master_segment, object_segment, object_text}
use Rattle.change_pointers.specs.Noted.{name_at}

is_eqb : (a b : ℕ) → a ≡ b → a == b ≡ true
is_eqb a b same = grind (arith, nat_tests, same)

all_at : {A : Type 0} (p : A → Bool) (xs : List A) (k : ℕ) (x : A) → list_all p xs ≡ true → slice_get xs k ≡ Some x → p x ≡ true
all_at p [] k x all here = absurd (cc)
all_at p (y ∷ xs) zero x all here = let same : y ≡ x = cc here in subst (λ z. p z ≡ true) same (and_parts (p y) (list_all p xs) all).0
all_at p (y ∷ xs) (suc k) x all here = all_at p xs k x (and_parts (p y) (list_all p xs) all).1 here

not_both : (a b : Bool) → not (a && b) ≡ true → a ≡ true → b ≡ true → ⊥
not_both a b is first second =
    let both : a && b ≡ true = ap (λ x. x && b) first ∙ second in
    let other : not true ≡ true = ap not (sym both) ∙ is in
    cc

none_above : (entries : List TypePlace) (entry : TypePlace) → entry.parent ≡ None → type_above entries entry ≡ None
none_above entries entry is = ap (option_and_then (λ place. option_map (λ (above : TypePlace). above.segment) (slice_get entries place))) is

some_above : (entries : List TypePlace) (entry : TypePlace) (place : ℕ) (above : TypePlace) → entry.parent ≡ Some place → slice_get entries place ≡ Some above
    → type_above entries entry ≡ Some above.segment
some_above entries entry place above is here =
    ap (option_and_then (λ place. option_map (λ (above : TypePlace). above.segment) (slice_get entries place))) is
    ∙ ap (option_map (λ (above : TypePlace). above.segment)) here

module _ (definitions : Definitions) (root : TypePlace) (rest : List TypePlace) (segment : Segment)
    (root-first : root.parent ≡ None) (root-once : root.min ≡ 1) (each : AllByRecursion (IsEntry definitions) (root ∷ rest))
    (apart : IsDistinct nat_eq (map (λ entry. entry.segment) (root ∷ rest))) (preorder : IsPreorder 0 [] (root ∷ rest))
    (rooted : root.segment ≡ segment.type) (enough : list_all (λ entry. not (entry.mandatory && is_near_root entry.parent)) rest ≡ true) where
  one : count_of root.segment (segment ∷ []) ≡ 1
  one = ap (λ b. if b then 1 else 0) (is_eqb segment.type root.segment (sym rooted))

  at_most_one : (type : ℕ) → count_of type (segment ∷ []) ≤ 1
  at_most_one type = of (segment.type == type)
    where
      of : (b : Bool) → (if b then 1 else 0) ≤ 1
      of true = omega arith
      of false = omega arith

  hangs : Hangs (root ∷ rest) None (leaf segment)
  hangs =
      let first : place_in (root ∷ rest) segment.type ≡ 0 = ap (λ b. if b then 0 else suc (place_in rest segment.type))
      (is_eqb root.segment segment.type rooted) in
      (ap (λ place. option_map (type_above (root ∷ rest)) (slice_get (root ∷ rest) place)) first ∙ ap Some (none_above (root ∷ rest) root root-first), tt, tt)

  differ : AllByRecursion (λ (e : TypePlace). nat_eq root.segment e.segment ≡ false) rest
  unfolding IsDistinct
  differ = AllByRecursion-from_map (λ (type : ℕ). nat_eq root.segment type ≡ false) (λ (e : TypePlace). e.segment) rest apart.0

  -- a mandatory entry that is not the root stands below another entry, which is not the root
  far : (k : ℕ) (entry : TypePlace) → slice_get rest k ≡ Some entry → entry.mandatory ≡ true →
      (above : TypePlace) × (type_above (root ∷ rest) entry ≡ Some above.segment) × (nat_eq root.segment above.segment ≡ false)
  far k entry here must = at entry.parent refl
    where
      near : is_near_root entry.parent ≡ true → ⊥
      near = not_both entry.mandatory (is_near_root entry.parent) (all_at (λ e. not (e.mandatory && is_near_root e.parent)) rest k entry enough here) must

      at : (o : Option ℕ) → entry.parent ≡ o → (above : TypePlace) × (type_above (root ∷ rest) entry ≡ Some above.segment) × (nat_eq root.segment above.segment
          ≡ false)
      at None is = absurd (near (ap is_near_root is))
      at (Some zero) is = absurd (near (ap is_near_root is))
      at (Some (suc q)) is =
          let here2 : slice_get (root ∷ rest) (suc k) ≡ Some entry = here in
          let less : suc q < 0 + suc k = parent-before (root ∷ rest) 0 [] (suc k) entry (suc q) preorder tt here2 is in
          let within : k < length rest = slice_get_within rest k entry here in
          let (above, found) = slice_get-within rest q (omega (arith, less, within)) in (
            above,
            some_above (root ∷ rest) entry (suc q) above is found,
            AllByRecursion-at (λ (e : TypePlace). nat_eq root.segment e.segment ≡ false) rest q
                above differ found,
          )

  enough_roots : HasEnough (root ∷ rest) (record { above = None; children = segment ∷ [] })
  enough_roots = AllByRecursion-from_places (Suffices (root ∷ rest) (record { above = None; children = segment ∷ [] })) (root ∷ rest) each_of
    where
      each_of : (i : ℕ) (entry : TypePlace) → slice_get (root ∷ rest) i ≡ Some entry →
          Suffices (root ∷ rest) (record { above = None; children = segment ∷ [] }) entry
      each_of zero entry here must own =
          let same : root ≡ entry = cc here in
          subst (λ (e : TypePlace). e.min ≤ count_of e.segment (segment ∷ [])) same (omega (arith, root-once, one))
      each_of (suc k) entry here must own =
          let (above, is, other) = far k entry here must in
          absurd (none-some above.segment (sym own ∙ is))

  enough_below : HasEnough (root ∷ rest) (record { above = Some segment.type; children = [] })
  enough_below = AllByRecursion-from_places (Suffices (root ∷ rest) (record { above = Some segment.type; children = [] })) (root ∷ rest) each_of
    where
      each_of : (i : ℕ) (entry : TypePlace) → slice_get (root ∷ rest) i ≡ Some entry →
          Suffices (root ∷ rest) (record { above = Some segment.type; children = [] }) entry
      each_of zero entry here must own =
          let same : root ≡ entry = cc here in
          let bare : type_above (root ∷ rest) entry ≡ None = ap (type_above (root ∷ rest)) (sym same) ∙ none_above (root ∷ rest) root root-first in
          absurd (none-some segment.type (sym bare ∙ own))
      each_of (suc k) entry here must own =
          let (above, is, other) = far k entry here must in
          let equal : segment.type ≡ above.segment = same_Some segment.type above.segment (sym own ∙ is) in
          let yes : nat_eq root.segment above.segment ≡ true = is_eqb root.segment above.segment (rooted ∙ equal) in
          absurd (both_ways (nat_eq root.segment above.segment) other yes)

  valid : IsValid (root ∷ rest) (leaf segment)
  valid = record {
    fits = (
      record {
        ordered = (tt, tt);
        at_most = AllByRecursion-weaker (IsEntry definitions) (λ (e : TypePlace). count_of e.segment (segment ∷ []) ≤ e.max) (root ∷ rest)
            (λ e is. omega (arith, is.least, is.ordered, at_most_one e.segment)) each;
      },
      (
        record { ordered = tt; at_most = AllByRecursion-of (λ (e : TypePlace). count_of e.segment [] ≤ e.max) (λ e. omega arith) (root ∷ rest) },
        tt,
      ),
    );
    enough = (enough_roots, (enough_below, tt));
  }

-- the segment of an object is one of the definitions, and has its data as its definition does
module _ (definitions : Definitions) (are : AreDefinitions definitions) (kind : Kind) (is_kind : IsKind definitions kind) (key : List ℕ) (values : Fields) where
  texts : ℕ → List ℕ
  texts = object_text (all_fields definitions kind.segment) kind.key key values

  newest : (v : Version) × (version_of definitions kind.segment (length (versions_of definitions kind.segment) - 1) ≡ Some v)
  newest =
      let (type, at) = slice_get-within definitions.types kind.segment is_kind.known in
      let is = AllByRecursion-at IsSegmentType definitions.types kind.segment type are.each at in
      let (v, here) = slice_get-within type.versions (length type.versions - 1) (omega (arith, is.some)) in (
        v,
        ap (λ (found : Option SegmentType). slice_get (option_map_or (λ t. t.versions) found []) (length (option_map_or (λ t. t.versions) found []) - 1)) at
            ∙ here,
      )

  fields_are : (v : Version) → version_of definitions kind.segment (length (versions_of definitions kind.segment) - 1) ≡ Some v →
      all_fields definitions kind.segment ≡ v.fields
  fields_are v here = ap (λ (found : Option Version). option_map_or (λ last. last.fields) found []) here

  room : HaveRoom (all_fields definitions kind.segment) texts
  unfolding texts
  room place field here =
      let fields = all_fields definitions kind.segment in
      let long : length_at fields place ≡ field.length = ap (λ (found : Option Field). option_map_or (λ f. f.length) found 0) here in
      omega (arith, long, length-take (length_at fields place) (if place == kind.key then key else value_in (name_at fields place) values))

  object_is : IsNode definitions (object_segment definitions key values kind) × IsFitted definitions (object_segment definitions key values kind)
  unfolding texts
  object_is =
      let (v, here) = newest in
      let same = fields_are v here in
      let sdata = data_of (all_fields definitions kind.segment) texts in
      let of = version-IsVersion definitions kind.segment (length (versions_of definitions kind.segment) - 1) v are here in
      let fits : width_of (all_fields definitions kind.segment) ≤ 1000 = subst (λ (fields : List Field). width_of fields ≤ 1000) (sym same) of.fields.fits in
      let cut : fitted v sdata ≡ sdata =
      subst (λ (fields : List Field). HaveRoom fields texts → fitted v (data_of fields texts) ≡ data_of fields texts) (sym same)
      (fitted-data_of v texts) room in (
        record {
          definition = v;
          here = here;
          short = omega (arith, fits, length-data_of (all_fields definitions kind.segment) texts room);
          ends = trimmed-data_of (all_fields definitions kind.segment) texts;
        },
        ap (λ (found : Option Version). fitted_by found sdata) here ∙ cut,
      )

root_is : (type : IdocType) (entries : List TypePlace) → IsRootEntry (slice_get entries 0) →
    (root : TypePlace) × (rest : List TypePlace) × (entries ≡ root ∷ rest) × (root.parent ≡ None) × (root.min ≡ 1)
root_is type [] is = absurd is
root_is type (root ∷ rest) is = (root, rest, refl, is.0, is.2)

-- the segment of an object of a message type whose objects make documents is a document by the entries for it
pub master-of_entries : (model : Lists) (message : ℕ) (m : Message) (kind : Kind) (key : List ℕ) (values : Fields) → IsModel model
    → slice_get model.messages message ≡ Some m → 1 ≤ length m.pointers → slice_get model.kinds m.kind ≡ Some kind
    → IsOfEntries model.definitions (entries_for model message (master_control model message)) (leaf (object_segment model.definitions key values kind))
master-of_entries model message m kind key values kept at listed of_kind =
    let is = AllByRecursion-at (IsMessage model.definitions model.types model.kinds) model.messages message m kept.messages.each at in
    let its : is.kind ≡ kind = same_Some is.kind kind (sym is.of_kind ∙ of_kind) in
    let is_kind = AllByRecursion-at (IsKind model.definitions) model.kinds m.kind kind kept.kinds.each of_kind in
    let type = is.type in
    let is_type = AllByRecursion-at (IsIdocType model.definitions) model.types m.idoctype type kept.types.each is.typed in
    let segment = object_segment model.definitions key values kind in
    let (root, rest, whole, first, once) = root_is type type.segments is_type.root in
    let entries : entries_for model message (master_control model message) ≡ root ∷ rest =
    ap (λ (found : Option Message). option_map_or (λ m. entries_at model.types m.idoctype) found []) at
    ∙ ap (λ (found : Option IdocType). option_map_or (λ t. t.segments) found []) is.typed ∙ whole in
    let each = subst (AllByRecursion (IsEntry model.definitions)) whole is_type.each in
    let apart = subst (λ (es : List TypePlace). IsDistinct nat_eq (map (λ (e : TypePlace). e.segment) es)) whole is_type.apart in
    let preorder = subst (IsPreorder 0 []) whole is_type.preorder in
    let rooted : root.segment ≡ segment.type = same_Some root.segment kind.segment
    (sym (ap root_segment whole) ∙ is.root ∙ ap (λ (k : Kind). Some k.segment) its) in
    let enough : list_all (λ (e : TypePlace). not (e.mandatory && is_near_root e.parent)) rest ≡ true = sym (ap is_root_enough whole) ∙ is.gathered listed in
    let node = object_is model.definitions kept.definitions kind is_kind key values in
    record {
      nodes = (node.0, tt, tt);
      fitted = (node.1, tt, tt);
      hangs = subst (λ (es : List TypePlace). Hangs es None (leaf segment)) (sym entries)
          (hangs model.definitions root rest segment first once each apart preorder rooted enough);
      valid = subst (λ (es : List TypePlace). IsValid es (leaf segment)) (sym entries)
          (valid model.definitions root rest segment first once each apart preorder rooted enough);
    }

-- so is the master of an object
pub master-is : (model : Lists) (message : ℕ) (key : List ℕ) (values : Fields) (forest : Forest) → IsModel model → MakesDocuments model message
    → Some forest ≡ option_map leaf (master_segment model message key values)
    → IsOfEntries model.definitions (entries_for model message (master_control model message)) forest
master-is model message key values forest kept makes made =
    let m = makes.type in
    let is = AllByRecursion-at (IsMessage model.definitions model.types model.kinds) model.messages message m kept.messages.each makes.here in
    let of_kind : kind_of model message ≡ Some is.kind =
    ap (option_and_then (λ (m : Message). slice_get model.kinds m.kind)) makes.here ∙ is.of_kind in
    let forest_is : forest ≡ leaf (object_segment model.definitions key values is.kind) =
    same_Some forest (leaf (object_segment model.definitions key values is.kind))
    (made ∙ ap (λ (k : Option Kind). option_map leaf (option_map (object_segment model.definitions key values) k)) of_kind) in
    subst (IsOfEntries model.definitions (entries_for model message (master_control model message))) (sym forest_is)
    (master-of_entries model message m is.kind key values kept makes.here makes.listed is.of_kind)
