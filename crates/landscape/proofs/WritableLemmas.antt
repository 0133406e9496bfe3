-- What a command appends can be written.
use Rattle.std.specs.Prelude.{if◌then◌else◌, nat_le, nat_lt, slice_get, Ok, Err}
use Rattle.std.specs.Cmp.Lexicographic.{bytes_decides}
use Rattle.std.specs.List.{AllByRecursion, list_all}
use Rattle.std.specs.Option.{option_map_or}
use Rattle.std.proofs.Common.{◌≡◌, ℕ, ◌-◌, ◌≤◌, ◌<◌, ◌^◌, ◌&&◌, not, true, false, Option, Some, None, List, [], ◌∷◌, length, refl, sym, ap, subst, ◌∙◌, arith}
use Rattle.std.proofs.lemmas.Bool.{and_parts}
use Rattle.std.proofs.lemmas.Bool.Decides.{nat_tests}
use Rattle.ale_base.specs.Text.{is_text}
use Rattle.ale_base.specs.declared.change.Change.{Change}
use Rattle.ale_base.specs.declared.change.FieldValue.{FieldValue}
use Rattle.ale_base.proofs.ListLemmas.{AllByRecursion-at}
use Rattle.ale_base.proofs.MemberLemmas.{find-Some}
use Rattle.segment_defs.specs.declared.definitions.Definitions.{Definitions}
use Rattle.segment_defs.specs.declared.field.Field.{Field}
use Rattle.segment_defs.specs.declared.segment_type.SegmentType.{SegmentType}
use Rattle.segment_defs.specs.declared.version.Version.{Version}
use Rattle.segment_defs.specs.declared.limits.TheConstants.{MOST_BYTES}
use Rattle.segment_defs.specs.Definitions.{AreDefinitions}
use Rattle.segment_defs.specs.SegmentType.{IsSegmentType}
use Rattle.segment_defs.specs.Version.{IsField, IsVersion}
use Rattle.dist_model.specs.declared.kind.Kind.{Kind}
use Rattle.dist_model.specs.declared.lists.Lists.{Lists}
use Rattle.dist_model.specs.Field.{all_fields, last_fields}
use Rattle.dist_model.specs.Kind.{IsKind}
use Rattle.dist_model.specs.Model.{IsModel}
use Rattle.unit_core.specs.Queues.{are_different}
use Rattle.unit_core.specs.declared.raw_unit_doc.RawUnitDoc.{RawUnitDoc}
use Rattle.unit_core.specs.declared.records.Record.{Record}
use Rattle.unit_core.specs.declared.records.Record.TheVariants.{Put}
use Rattle.said_models.specs.OfLog.{model_of}
use Rattle.status_log.specs.declared.refusal.Refusal.TheVariants.{N12}
use Rattle.document_state.specs.declared.made.Made.TheVariants.{Nothing}
use Rattle.unit_codec.specs.Condition.{IsDocument, IsFieldValue, IsWritable}
use Rattle.object_store.specs.Objects.{ObjectsOf}
use Rattle.change_pointers.specs.declared.pointer.Pointer.{Pointer}
use Rattle.change_pointers.specs.Master.{MakesDocuments, length_at}
use Rattle.change_pointers.specs.Noted.{name_at}
use Rattle.application_rules.specs.Gathered.{gathered}
use Rattle.application_rules.specs.Puts.{are_settable, field_names, field_of_name, is_key, kind_named, may_change, may_get, may_put}
use Rattle.application_rules.proofs.CommitLemmas.{commit-short}
use Rattle.application_rules.proofs.FollowLemmas.{gathered-may}
use Rattle.application_rules.proofs.PutLemmas.{find-keeps}
use Rattle.landscape.specs.Asked.{asked_put}
use Rattle.landscape.specs.steps.Judged.{IsWanted, WantsChanges, is_applications}
use Rattle.landscape.proofs.JudgedLemmas.{model-kept, under-model}

at_most : (n most : ℕ) → nat_le n most ≡ true → n ≤ most
at_most n most is = grind (arith, nat_tests, is)

at_least_one : (n : ℕ) → nat_lt 0 n ≡ true → 1 ≤ n
at_least_one n is = grind (arith, nat_tests, is)

same_text : (text other : List ℕ) → is_text text other ≡ true → length text ≡ length other
same_text text other is = ap length ((bytes_decides text other).0 is)

-- ---- fields of a segment type

of-version : (found : Option Version) → ((version : Version) → found ≡ Some version → IsVersion version)
    → AllByRecursion IsField (option_map_or (λ (last : Version). last.fields) found [])
of-version None is = tt
of-version (Some version) is = (is version refl).fields.each

of-type : (found : Option SegmentType) → ((type : SegmentType) → found ≡ Some type → IsSegmentType type)
    → AllByRecursion IsField (last_fields (option_map_or (λ (type : SegmentType). type.versions) found []))
of-type None is = tt
of-type (Some type) is =
    of-version (slice_get type.versions (length type.versions - 1))
    (λ version here. AllByRecursion-at IsVersion type.versions (length type.versions - 1) version (is type refl).each here)

fields-are : (definitions : Definitions) → AreDefinitions definitions → (segment : ℕ) → AllByRecursion IsField (all_fields definitions segment)
fields-are definitions are segment =
    of-type (slice_get definitions.types segment) (λ type here. AllByRecursion-at IsSegmentType definitions.types segment type are.each here)

-- ---- a Put

module _ (fields : List Field) (are : AllByRecursion IsField fields) (key_place : ℕ) where
  length-most : (place : ℕ) → length_at fields place ≤ MOST_BYTES
  length-most place = of (slice_get fields place) refl
    where
      of : (found : Option Field) → slice_get fields place ≡ found → option_map_or (λ (field : Field). field.length) found 0 ≤ MOST_BYTES
      of None here = omega arith
      of (Some field) here = (AllByRecursion-at IsField fields place field are here).most

  value-writable : (given : FieldValue) → may_get fields key_place given ≡ true → IsFieldValue given
  value-writable given may = of (field_of_name given.field fields) refl may
    where
      of : (found : Option Field) → field_of_name given.field fields ≡ found
          → option_map_or (λ (field : Field). not (is_text given.field (name_at fields key_place)) && nat_le (length given.value) field.length) found false
          ≡ true
          → IsFieldValue given
      of None here lies = absurd (cc)
      of (Some field) here is =
          let fits = at_most (length given.value) field.length
          (and_parts (not (is_text given.field (name_at fields key_place))) (nat_le (length given.value) field.length) is).1 in
          let its = find-keeps IsField (λ (one : Field). is_text given.field one.name) fields field are here in
          let same = same_text given.field field.name (find-Some (λ (one : Field). is_text given.field one.name) fields field here).1 in
          let least = its.named.least in
          let most = its.named.most in
          let bytes = its.most in
          ((omega (arith, same, least), omega (arith, same, most)), omega (arith, fits, bytes))

  values-writable : (given : List FieldValue) → are_settable fields key_place given ≡ true → AllByRecursion IsFieldValue given
  values-writable [] may = tt
  values-writable (one ∷ given) may =
      let parts = and_parts (may_get fields key_place one) (list_all (may_get fields key_place) given) may in
      (value-writable one parts.0, values-writable given parts.1)

-- what may be put can be written
pub put-writable : (model : Lists) (kind key : List ℕ) (given : List FieldValue) → IsModel model → may_put model kind key given ≡ true → length given < 2 ^ 32
    → IsWritable (Put kind key given)
put-writable model kind key given kept may few = of (kind_named kind model) refl may
  where
    of : (found : Option Kind) → kind_named kind model ≡ found → option_map_or (may_change model.definitions key given) found false ≡ true →
        IsWritable (Put kind key given)
    of None here lies = absurd (cc)
    of (Some one) here is =
        let fields = all_fields model.definitions one.segment in
        let are = fields-are model.definitions kept.definitions one.segment in
        let keyed = is_key fields one.key key in
        let some = nat_lt 0 (length given) in
        let settable = are_settable fields one.key given in
        let first = and_parts (keyed && some && settable) (are_different (field_names given)) is in
        let second = and_parts (keyed && some) settable first.0 in
        let third = and_parts keyed some second.0 in
        let fits = at_most (length key) (length_at fields one.key)
        (and_parts (nat_lt 0 (length key)) (nat_le (length key) (length_at fields one.key)) third.0).1 in
        let bytes = length-most fields are one.key one.key in
        let its = find-keeps (IsKind model.definitions) (λ (other : Kind). is_text kind other.name) model.kinds one kept.kinds.each here in
        let same = same_text kind one.name (find-Some (λ (other : Kind). is_text kind other.name) model.kinds one here).1 in
        let least = its.named.least in
        let most = its.named.most in (
          (omega (arith, same, least), omega (arith, same, most)),
          omega (arith, fits, bytes),
          (at_least_one (length given) third.1, few),
          values-writable fields are one.key given second.1,
        )

-- ---- what is gathered

-- the documents of a gathering are short
pub gathered-short : (model : Lists) (message : ℕ) → IsModel model → MakesDocuments model message → (objects : ObjectsOf) (pointers : List Pointer)
    → AllByRecursion IsDocument (gathered model objects pointers message)
gathered-short model message kept makes objects pointers = of (gathered model objects pointers message) refl
  where
    of : (docs : List RawUnitDoc) → gathered model objects pointers message ≡ docs → AllByRecursion IsDocument (gathered model objects pointers message)
    of [] are = subst (AllByRecursion IsDocument) (sym are) tt
    of (doc ∷ docs) are =
        let some : 1 ≤ length (gathered model objects pointers message) = let count = ap length are in omega (arith, count) in
        commit-short model objects pointers (Some makes.type.name) (gathered model objects pointers message)
        (gathered-may model message kept makes objects pointers some)

-- the record by which an object gets values is asked for, and can be written
pub put-wanted : (log : List Record) (model : Lists) (change : Change) (next : Record) → model_of log ≡ Some model →
    next ≡ Put change.kind change.key change.fields
    → may_put model change.kind change.key change.fields ≡ true → length change.fields < 2 ^ 32
    → WantsChanges log (asked_put log change) (record { next = next })
put-wanted log model change next is same may few =
    let one = Put change.kind change.key change.fields in
    subst (λ (r : Record). IsWanted log (asked_put log change) is_applications r Nothing) (sym same) (record {
      record_asked = under-model log model is (λ m. if may_put m change.kind change.key change.fields then Ok (Some one) else Err N12)
          ∙ ap (λ b. if b then Ok (Some one) else Err N12) may;
      its_kind = refl;
      goes = refl;
      writable = put-writable model change.kind change.key change.fields (model-kept log model is) may few;
    })
