-- The fields of a segment, and texts in them.
use Rattle.std.specs.Prelude.{slice_get}
use Rattle.std.specs.List.{AllPairs, IsDistinct}
use Rattle.std.specs.Option.{option_map_or}
use Rattle.std.proofs.Common.{◌≡◌, ℕ, ◌+◌, ◌-◌, ◌<◌, ◌≤◌, ◌⊎◌, inl, inr, Option, Some, None, List, [], ◌∷◌, ◌++◌, length, take, get_or, length-append, true}
use Rattle.std.proofs.Common.{false, eqb, ◌≢◌, refl, sym, ap, subst, ◌∙◌, arith}
use Rattle.std.proofs.lemmas.Bool.Decides.{eqb_tells}
use Rattle.std.proofs.lemmas.List.{take_more, length-take-le, get_or_append_left}
use Rattle.std.proofs.lemmas.Option.{slice_get-get_or, slice_get_within, get_or_from_slice_get}
use Rattle.ale_base.specs.Blanks.{padded}
use Rattle.ale_base.proofs.ListLemmas.{AllByRecursion-at}
use Rattle.segment_defs.specs.declared.field.Field.{Field}
use Rattle.segment_defs.specs.declared.version.Version.{Version}
use Rattle.segment_defs.specs.declared.segment_type.SegmentType.{SegmentType}
use Rattle.segment_defs.specs.declared.definitions.Definitions.{Definitions}
use Rattle.segment_defs.specs.Version.{AreFields, IsField, texts_joined, data_of, HaveRoom, fitted}
use Rattle.segment_defs.specs.SegmentType.{Continues, IsSegmentType}
use Rattle.segment_defs.specs.Definitions.{AreDefinitions, version_of}
use Rattle.segment_defs.proofs.DefinitionsLemmas.{version-IsVersion}
use Rattle.segment_defs.proofs.FieldLemmas.{texts_joined-push, length-data_of, trimmed-data_of, fitted-data_of}
use Rattle.dist_model.specs.Field.{all_fields, last_fields}
use Rattle.idoc_tree.specs.Forest.{Segment}
use Rattle.idoc_tree.specs.Lines.{IsNode, IsFitted}
use Rattle.idoc_tree.specs.Spells.{fitted_by}
use Rattle.version_reduce.specs.Texts.{fields_of, with_texts}

-- the field at a place that was read
pub field-at : (fields : List Field) (place : ℕ) (field : Field) → place < length fields → field ≡ get_or fields place field →
    slice_get fields place ≡ Some field
field-at fields place field within here = slice_get-get_or fields place field within ∙ ap Some (sym here)

-- each field is as a definition may have it
pub field-is : (fields : List Field) (place : ℕ) (field : Field) → AreFields fields → slice_get fields place ≡ Some field → IsField field
field-is fields place field are here = AllByRecursion-at IsField fields place field are.each here

-- one more text is joined
pub joined-more : (fields : List Field) (texts : ℕ → List ℕ) (place : ℕ) (field : Field) (before after text : List ℕ) → place < length fields →
    field ≡ get_or fields place field
    → before ≡ texts_joined (take place fields) texts → after ≡ before ++ padded field.length text → text ≡ texts place
    → after ≡ texts_joined (take (place + 1) fields) texts
joined-more fields texts place field before after text within here so_far written is =
    let more : take (place + 1) fields ≡ take place fields ++ field ∷ [] = take_more fields place field within
    ∙ ap (λ f. take place fields ++ f ∷ []) (sym here) in
    let long : length (take place fields) ≡ place = length-take-le place fields (omega (arith, within)) in
    written ∙ ap (λ b. b ++ padded field.length text) so_far
    ∙ ap (λ t. texts_joined (take place fields) texts ++ padded field.length t) (is ∙ ap texts (sym long))
    ∙ sym (texts_joined-push (take place fields) field texts) ∙ ap (λ fs. texts_joined fs texts) (sym more)

-- no fields keep the rules
pub no_fields : AreFields []
unfolding IsDistinct
no_fields = record { each = tt; laid_out = tt; apart = tt; few = omega arith; fits = omega arith }

-- the fields of any segment keep the rules
pub fields_of-AreFields : (definitions : Definitions) (segment : Segment) → AreDefinitions definitions → AreFields (fields_of definitions segment)
fields_of-AreFields definitions segment are = at (version_of definitions segment.type segment.version) refl
  where
    at : (o : Option Version) → version_of definitions segment.type segment.version ≡ o → AreFields (option_map_or (λ (version : Version). version.fields) o [])
    at None here = no_fields
    at (Some version) here = (version-IsVersion definitions segment.type segment.version version are here).fields

-- a segment with texts that have room is a segment
pub with_texts-IsNode : (definitions : Definitions) (texts : ℕ → List ℕ) (segment : Segment) → AreDefinitions definitions →
    HaveRoom (fields_of definitions segment) texts
    → IsNode definitions segment → IsNode definitions (with_texts definitions texts segment)
with_texts-IsNode definitions texts segment are room is = record {
  definition = is.definition;
  here = is.here;
  short = omega (arith, length-data_of (fields_of definitions segment) texts room, (fields_of-AreFields definitions segment are).fits);
  ends = trimmed-data_of (fields_of definitions segment) texts;
}

-- its data are as its definition has them
pub with_texts-IsFitted : (definitions : Definitions) (texts : ℕ → List ℕ) (segment : Segment) → HaveRoom (fields_of definitions segment) texts
    → IsNode definitions segment → IsFitted definitions (with_texts definitions texts segment)
with_texts-IsFitted definitions texts segment room is =
    let fields_are : fields_of definitions segment ≡ is.definition.fields = ap (λ o. option_map_or (λ (version : Version). version.fields) o []) is.here in
    ap (λ o. fitted_by o (data_of (fields_of definitions segment) texts)) is.here
    ∙ ap (λ fs. fitted is.definition (data_of fs texts)) fields_are
    ∙ fitted-data_of is.definition texts (subst (λ fs. HaveRoom fs texts) fields_are room)
    ∙ ap (λ fs. data_of fs texts) (sym fields_are)

-- a field of an earlier definition is the field at its place of the newest one
continued-at : (earlier newest : Version) (place : ℕ) (field : Field) → Continues earlier newest → slice_get earlier.fields place ≡ Some field →
    slice_get newest.fields place ≡ Some field
continued-at earlier newest place field continues here =
    let within : place < length earlier.fields = slice_get_within earlier.fields place field here in
    let longer : length newest.fields ≡ length earlier.fields + length continues.added = ap length continues.fields
    ∙ length-append earlier.fields continues.added in
    slice_get-get_or newest.fields place field (omega arith)
    ∙ ap Some (ap (λ fs. get_or fs place field) continues.fields ∙ get_or_append_left earlier.fields continues.added field place within
    ∙ get_or_from_slice_get earlier.fields place field field here)

last_fields-at : (versions : List Version) (version place : ℕ) (one : Version) (field : Field) → AllPairs Continues versions →
    slice_get versions version ≡ Some one
    → slice_get one.fields place ≡ Some field → slice_get (last_fields versions) place ≡ Some field
last_fields-at versions version place one field pairs here at =
    let within : version < length versions = slice_get_within versions version one here in
    let last = length versions - 1 in
    let newest = get_or versions last one in
    let last_is : slice_get versions last ≡ Some newest = slice_get-get_or versions last one (omega arith) in
    let own : get_or versions version one ≡ one = get_or_from_slice_get versions version one one here in
    let fields_are : last_fields versions ≡ newest.fields = ap (λ o. option_map_or (λ (v : Version). v.fields) o []) last_is in
    ap (λ fs. slice_get fs place) fields_are
    ∙ elim (last_or_before version last (omega arith)) [
      | inl same ↦ ap (λ n. slice_get (get_or versions n one).fields place) (sym same) ∙ ap (λ v. slice_get v.fields place) own ∙ at
      | inr before ↦ continued-at one newest place field (subst (λ v. Continues v newest) own (pairs version last one before (omega arith))) at
    ]
  where
    last_or_before : (m n : ℕ) → m ≤ n → (m ≡ n) ⊎ (m < n)
    last_or_before m n less = m_or_n (eqb_tells m n)
      where
        m_or_n : ((eqb m n ≡ true) × (m ≡ n)) ⊎ ((eqb m n ≡ false) × (m ≢ n)) → (m ≡ n) ⊎ (m < n)
        m_or_n (inl same) = inl same.1
        m_or_n (inr other) = inr (omega (arith, other.1))

-- a field of a segment is the field at its place among all of its type
pub fields_of-all : (definitions : Definitions) (segment : Segment) (place : ℕ) (field : Field) → AreDefinitions definitions →
    slice_get (fields_of definitions segment) place ≡ Some field
    → slice_get (all_fields definitions segment.type) place ≡ Some field
fields_of-all definitions segment place field are here = in_type (slice_get definitions.types segment.type) refl here
  where
    in_version : (type : SegmentType) (o : Option Version) → IsSegmentType type → slice_get type.versions segment.version ≡ o
        → slice_get (option_map_or (λ (v : Version). v.fields) o []) place ≡ Some field → slice_get (last_fields type.versions) place ≡ Some field
    in_version type None is at here = absurd (cc)
    in_version type (Some one) is at here = last_fields-at type.versions segment.version place one field is.continued at here

    in_type : (o : Option SegmentType) → slice_get definitions.types segment.type ≡ o
        → slice_get (option_map_or (λ (v : Version). v.fields) (slice_get (option_map_or (λ (type : SegmentType). type.versions) o []) segment.version) [])
        place ≡ Some field
        → slice_get (last_fields (option_map_or (λ (type : SegmentType). type.versions) o [])) place ≡ Some field
    in_type None at here = absurd (cc)
    in_type (Some type) at here = in_version type (slice_get type.versions segment.version)
        (AllByRecursion-at IsSegmentType definitions.types segment.type type are.each at) refl here
