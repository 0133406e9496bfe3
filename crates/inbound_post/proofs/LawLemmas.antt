-- What a posting says, and what a Commit does to change pointers, in other words.
use Rattle.std.specs.Prelude.{Contains, IfSome, codes, option_and_then, slice_get, Result, Ok, Err, ◌↔◌}
use Rattle.std.specs.Cmp.Lexicographic.{bytes_decides}
use Rattle.std.specs.Option.{option_map, option_map_or}
use Rattle.std.proofs.Common.{◌≡◌, ℕ, zero, suc, ◌+◌, ◌==◌, ◌||◌, Bool, true, false, cond, Option, Some, None, List, [], ◌∷◌, inl, inr, refl, sym, ap, subst}
use Rattle.std.proofs.Common.{◌∙◌, arith}
use Rattle.std.proofs.lemmas.Bool.{cases_Bool, cond-false, cond-true, eq-eqb, eqb-true}
use Rattle.std.proofs.lemmas.Option.{same_Some}
use Rattle.ale_base.specs.declared.change.FieldValue.{FieldValue}
use Rattle.ale_base.proofs.MemberLemmas.{Contains-cons, Contains-here, Contains-nil, Contains-there}
use Rattle.ale_base.proofs.OptionLemmas.{none_or_some}
use Rattle.idoc_record.specs.declared.control_field.ControlField.TheVariants.{Mestyp}
use Rattle.idoc_record.specs.Control.{field_of}
use Rattle.segment_defs.specs.declared.field.Field.{Field}
use Rattle.segment_defs.specs.declared.version.Version.{Version}
use Rattle.segment_defs.specs.Definitions.{version_of}
use Rattle.segment_defs.specs.Version.{field_text, text_in}
use Rattle.dist_model.specs.declared.lists.Lists.{Lists}
use Rattle.dist_model.specs.Model.{IsModel, StandsForMessage, entries_for, message_named}
use Rattle.dist_model.proofs.LookupLemmas.{message-named}
use Rattle.idoc_tree.specs.declared.fault.SyntaxFault.{SyntaxFault}
use Rattle.idoc_tree.specs.Forest.{Segment, Forest, no_trees, tree}
use Rattle.idoc_tree.specs.FromRecords.{built}
use Rattle.unit_core.specs.declared.raw_unit_doc.RawUnitDoc.{RawUnitDoc}
use Rattle.change_pointers.specs.declared.pointer.Pointer.{Pointer}
use Rattle.change_pointers.specs.Laws.{ClearsAlone}
use Rattle.change_pointers.specs.Pointers.{cleared}
use Rattle.change_pointers.proofs.LawLemmas.{clears-alone}
use Rattle.object_store.specs.declared.posting.Posting.{Posting}
use Rattle.inbound_post.specs.Application.{left_by}
use Rattle.inbound_post.specs.Laws.{IsFieldValue, IsKeyOf, IsSaidBy, TakesUp}
use Rattle.idoc_reading.specs.Reading.{read_as, read_by_type}
use Rattle.inbound_post.specs.Reading.{is_no_data, key_text, posted_fields, posting, posting_by, posting_made, posting_of, posting_read}
use Rattle.inbound_post.specs.Reading.{posting_with, root_built}

-- what is posted of the fields from a place on
record IsPosted (fields : List Field) (key from : ℕ) (sdata : List ℕ) (posted : FieldValue) : Type 0 where
  place : ℕ
  field : Field
  here : slice_get fields place ≡ Some field
  other : from + place ≡ key → ⊥
  is : posted ≡ record { field = field.name; value = field_text sdata field }
  said : field_text sdata field ≡ codes "/" → ⊥

further : (fields : List Field) (first : Field) (key from : ℕ) (sdata : List ℕ) (posted : FieldValue) → IsPosted fields key (suc from) sdata posted
    → IsPosted (first ∷ fields) key from sdata posted
further fields first key from sdata posted is = record {
  place = suc is.place;
  field = is.field;
  here = is.here;
  other = λ same. is.other (omega (arith, same));
  is = is.is;
  said = is.said;
}

left_out : (a b : Bool) → (a || b) ≡ false → (a ≡ false) × (b ≡ false)
left_out true b none = absurd (cc)
left_out false b none = (refl, none)

not_both : (b : Bool) → b ≡ true → b ≡ false → ⊥
not_both b one two = cc

posted-is : (key from : ℕ) (sdata : List ℕ) (fields : List Field) (posted : FieldValue) → Contains (posted_fields key from sdata fields) posted
    → IsPosted fields key from sdata posted
posted-is key from sdata [] posted among = absurd (Contains-nil posted among)
posted-is key from sdata (first ∷ fields) posted among =
    step ((from == key) || is_no_data (field_text sdata first)) refl (posted-is key (suc from) sdata fields posted) among
  where
    step : (b : Bool) → ((from == key) || is_no_data (field_text sdata first)) ≡ b
        → (Contains (posted_fields key (suc from) sdata fields) posted → IsPosted fields key (suc from) sdata posted)
        → Contains (cond b (posted_fields key (suc from) sdata fields)
        (record { field = first.name; value = field_text sdata first } ∷ posted_fields key (suc from) sdata fields)) posted
        → IsPosted (first ∷ fields) key from sdata posted
    step true is rest among = further fields first key from sdata posted (rest among)
    step false is rest among =
        elim (Contains-cons (record { field = first.name; value = field_text sdata first }) (posted_fields key (suc from) sdata fields) posted among) [
          | inl same ↦ (
              let parts = left_out (from == key) (is_no_data (field_text sdata first)) is in
              record {
                place = 0;
                field = first;
                here = refl;
                other = λ own. not_both (from == key) (eq-eqb from key (omega (arith, own))) parts.0;
                is = sym same;
                said = λ none. not_both (is_no_data (field_text sdata first)) ((bytes_decides (field_text sdata first) (codes "/")).1 none) parts.1;
              }
              )
          | inr behind ↦ further fields first key from sdata posted (rest behind)
        ]

is-posted : (key from : ℕ) (sdata : List ℕ) (fields : List Field) (place : ℕ) (field : Field) → slice_get fields place ≡ Some field
    → (from + place ≡ key → ⊥) → (field_text sdata field ≡ codes "/" → ⊥)
    → Contains (posted_fields key from sdata fields) (record { field = field.name; value = field_text sdata field })
is-posted key from sdata [] place field here other said = absurd (cc)
is-posted key from sdata (first ∷ fields) zero field here other said =
    let same : first ≡ field = same_Some first field here in
    let unlike : (from == key) ≡ false = differs in
    let some : is_no_data (field_text sdata first) ≡ false = subst (λ (f : Field). is_no_data (field_text sdata f) ≡ false) (sym same) has_data in
    subst (λ b. Contains (cond b (posted_fields key (suc from) sdata fields)
    (record { field = first.name; value = field_text sdata first } ∷ posted_fields key (suc from) sdata fields))
    (record { field = field.name; value = field_text sdata field }))
    (sym (ap (λ b. b || is_no_data (field_text sdata first)) unlike ∙ some))
    (subst (λ (f : Field). Contains (record { field = first.name; value = field_text sdata first } ∷ posted_fields key (suc from) sdata fields)
    (record { field = f.name; value = field_text sdata f })) same
    (Contains-here (record { field = first.name; value = field_text sdata first }) (posted_fields key (suc from) sdata fields)))
  where
    differs : (from == key) ≡ false
    differs = elim (cases_Bool (from == key)) [
      | inl own ↦ absurd (other (omega (arith, eqb-true from key own)))
      | inr unlike ↦ unlike
    ]

    has_data : is_no_data (field_text sdata field) ≡ false
    has_data = elim (cases_Bool (is_no_data (field_text sdata field))) [
      | inl none ↦ absurd (said ((bytes_decides (field_text sdata field) (codes "/")).0 none))
      | inr some ↦ some
    ]
is-posted key from sdata (first ∷ fields) (suc place) field here other said =
    step ((from == key) || is_no_data (field_text sdata first))
    (is-posted key (suc from) sdata fields place field here (λ same. other (omega (arith, same))) said)
  where
    step : (b : Bool) → Contains (posted_fields key (suc from) sdata fields) (record { field = field.name; value = field_text sdata field })
        → Contains (cond b (posted_fields key (suc from) sdata fields)
        (record { field = first.name; value = field_text sdata first } ∷ posted_fields key (suc from) sdata fields))
        (record { field = field.name; value = field_text sdata field })
    step true rest = rest
    step false rest =
        Contains-there (record { field = first.name; value = field_text sdata first }) (posted_fields key (suc from) sdata fields)
        (record { field = field.name; value = field_text sdata field }) rest

-- the values that the fields of an object get
fields-are : (definition : Version) (key : ℕ) (sdata name value : List ℕ)
    → Contains (posted_fields key 0 sdata definition.fields) (record { field = name; value = value }) ↔ IsFieldValue definition key sdata name value
fields-are definition key sdata name value = (
  λ among.
      let posted = posted-is key 0 sdata definition.fields (record { field = name; value = value }) among in
      let text : field_text sdata posted.field ≡ value = ap (λ (p : FieldValue). p.value) (sym posted.is) in
      record {
        place = posted.place;
        field = posted.field;
        here = posted.here;
        other = λ own. posted.other (omega (arith, own));
        named = ap (λ (p : FieldValue). p.field) (sym posted.is);
        text = text;
        said = λ none. posted.said (text ∙ none);
      },
  λ is.
      subst (λ n. Contains (posted_fields key 0 sdata definition.fields) (record { field = n; value = value })) is.named
      (subst (λ v. Contains (posted_fields key 0 sdata definition.fields) (record { field = is.field.name; value = v })) is.text
      (is-posted key 0 sdata definition.fields is.place is.field is.here (λ own. is.other (omega (arith, own))) (λ none. is.said (sym is.text ∙ none)))),
)

-- the key
key-is : (definition : Version) (key : ℕ) (sdata : List ℕ) → IsKeyOf definition key sdata (key_text (text_in definition.fields sdata key))
key-is definition key sdata = record {
  text = λ field here said. ap key_text (in_field field here) ∙ cond-false (is_no_data (field_text sdata field)) [] (field_text sdata field)
      (has_data (field_text sdata field) said);
  no_data = λ field here none. ap key_text (in_field field here) ∙ cond-true (is_no_data (field_text sdata field)) [] (field_text sdata field)
      ((bytes_decides (field_text sdata field) (codes "/")).1 none);
  no_field = λ none. ap (λ o. key_text (option_map_or (field_text sdata) o [])) none;
}
  where
    in_field : (field : Field) → slice_get definition.fields key ≡ Some field → text_in definition.fields sdata key ≡ field_text sdata field
    in_field field here = ap (λ o. option_map_or (field_text sdata) o []) here

    has_data : (text : List ℕ) → (text ≡ codes "/" → ⊥) → is_no_data text ≡ false
    has_data text said = elim (cases_Bool (is_no_data text)) [
      | inl none ↦ absurd (said ((bytes_decides text (codes "/")).0 none))
      | inr some ↦ some
    ]

and_then-Some : {A B : Type 0} (f : A → Option B) (o : Option A) (y : B) → option_and_then f o ≡ Some y → (x : A) × (o ≡ Some x) × (f x ≡ Some y)
and_then-Some f (Some x) y h = (x, refl, h)
and_then-Some f None y h = absurd (cc)

map-Some : {A B : Type 0} (f : A → B) (o : Option A) (y : B) → option_map f o ≡ Some y → (x : A) × (o ≡ Some x) × (f x ≡ y)
map-Some f (Some x) y h = (x, refl, same_Some (f x) y h)
map-Some f None y h = absurd (cc)

-- the first tree of what was built
first_tree : (made : Result Forest SyntaxFault) (root : Segment) → root_built made ≡ Some root →
    (below : Forest) × (after : Forest) × (made ≡ Ok (tree root below after))
first_tree (Ok no_trees) root is = absurd (cc)
first_tree (Ok (tree first below after)) root is =
    (below, after, ap (λ (r : Segment). Ok (tree r below after)) (same_Some first root is))
first_tree (Err fault) root is = absurd (cc)

module _ (model : Lists) (kept : IsModel model) where
  -- a posting that is made is what the root segment says
  posting-said : (doc : RawUnitDoc) (made : Posting) → posting model doc ≡ Some made → IsSaidBy model doc made
  posting-said doc made is =
      let name = field_of doc.control Mestyp in
      let by_read = and_then-Some (posting_read model) (read_by_type model doc.control doc.segments) made is in
      let by_message = map-Some (read_as model doc.control doc.segments) (message_named name model) by_read.0 by_read.1 in
      let posted : posting_read model (read_as model doc.control doc.segments by_message.0) ≡ Some made = ap (posting_read model) by_message.2 ∙ by_read.2 in
      let by_root = and_then-Some (posting_of model by_message.0) _ made posted in
      let by_type = and_then-Some (λ type. posting_made model type by_root.0) (slice_get model.messages by_message.0) made by_root.2 in
      let by_kind = and_then-Some (posting_by model by_root.0 by_type.0) (slice_get model.kinds by_type.0.kind) made by_type.2 in
      let by_definition = map-Some (posting_with model by_type.0 by_kind.0 by_root.0.sdata) (version_of model.definitions by_root.0.type by_root.0.version) made
      by_kind.2 in
      let first = first_tree (built model.definitions (entries_for model by_message.0 doc.control) doc.segments) by_root.0 by_root.1 in
      let definition = by_definition.0 in
      let made_is = by_definition.2 in
      record {
        message = by_message.0;
        named = (message-named model kept name (message_named name model) refl by_message.0).0 by_message.1;
        type = by_type.0;
        typed = by_type.1;
        kind = by_kind.0;
        of_kind = by_kind.1;
        root = by_root.0;
        below = first.0;
        after = first.1;
        read = first.2;
        definition = definition;
        of_root = by_definition.1;
        object = ap (λ (p : Posting). p.kind) (sym made_is);
        key = subst (λ (p : Posting). IsKeyOf definition by_kind.0.key by_root.0.sdata p.key) made_is (key-is definition by_kind.0.key by_root.0.sdata);
        fields = subst (λ (p : Posting). (n v : List ℕ) → Contains p.fields (record { field = n; value = v })
            ↔ IsFieldValue definition by_kind.0.key by_root.0.sdata n v) made_is
            (fields-are definition by_kind.0.key by_root.0.sdata);
      }

  pub posting-IsSaidBy : (doc : RawUnitDoc) (o : Option Posting) → posting model doc ≡ o → IfSome o (IsSaidBy model doc)
  posting-IsSaidBy doc None is = tt
  posting-IsSaidBy doc (Some made) is = posting-said doc made is

  -- what a Commit does to the pointers
  pub takes-up : (origin : Option (List ℕ)) (pointers : List Pointer) → TakesUp model origin pointers (left_by model origin pointers)
  takes-up origin pointers = record {
    nameless = λ none. ap (λ o. left_by model o pointers) none;
    named = λ name message is stands.
        let found : message_named name model ≡ Some message = (message-named model kept name (message_named name model) refl message).1 stands in
        let left : left_by model origin pointers ≡ cleared message pointers = ap (λ o. left_by model o pointers) is
        ∙ ap (λ o. option_map_or (λ m. cleared m pointers) o pointers) found in
        subst (ClearsAlone message pointers) (sym left) (clears-alone message pointers);
    unknown = λ name is none.
        let found : message_named name model ≡ None = nowhere name none in
        ap (λ o. left_by model o pointers) is ∙ ap (λ o. option_map_or (λ m. cleared m pointers) o pointers) found;
  }
    where
      nowhere : (name : List ℕ) → ((message : ℕ) → StandsForMessage model name message → ⊥) → message_named name model ≡ None
      nowhere name none = elim (none_or_some (message_named name model)) [
        | inl nothing ↦ nothing
        | inr some ↦ absurd (none some.0 ((message-named model kept name (message_named name model) refl some.0).0 some.1))
      ]
