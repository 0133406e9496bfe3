-- What is gathered for a message type may be committed.
use Rattle.std.specs.Prelude.{◌||◌, if◌then◌else◌, is_none, nat_le, nat_lt, option_and_then, slice_get}
use Rattle.std.specs.Cmp.Lexicographic.{bytes_decides, pointwise}
use Rattle.std.specs.List.{cons_option, filter_map, list_all}
use Rattle.std.specs.Option.{option_map, option_map_or}
use Rattle.std.proofs.Common.{◌≡◌, ℕ, ◌≤◌, Bool, true, false, Option, Some, None, Ok, List, [], ◌∷◌, length, refl, sym, ap, subst, ◌∙◌, arith, inl}
use Rattle.std.proofs.lemmas.Bool.{and_from}
use Rattle.std.proofs.lemmas.Bool.Decides.{nat_tests}
use Rattle.std.proofs.lemmas.List.Folds.{list_all-map}
use Rattle.std.proofs.lemmas.Option.{same_Some, slice_get-map}
use Rattle.ale_base.specs.Blanks.{trimmed}
use Rattle.ale_base.specs.Text.{is_text}
use Rattle.ale_base.proofs.ListLemmas.{AllByRecursion-at}
use Rattle.idoc_record.specs.Data.{DataRecord}
use Rattle.idoc_record.specs.declared.control_field.ControlField.TheVariants.{Idoctyp, Mestyp}
use Rattle.idoc_record.specs.Control.{HasRoom, blank_text, field_of, written_at}
use Rattle.idoc_record.proofs.FieldsLemmas.{HasRoom-written, field_of-control_with}
use Rattle.segment_defs.specs.declared.idoc_type.IdocType.{IdocType}
use Rattle.segment_defs.specs.declared.idoc_type.TypePlace.{TypePlace}
use Rattle.segment_defs.specs.IdocType.{IsIdocType}
use Rattle.segment_defs.proofs.NameLemmas.{name-trimmed, position-map, position-only}
use Rattle.idoc_tree.specs.Forest.{Forest, Segment, leaf}
use Rattle.idoc_tree.specs.FromRecords.{built}
use Rattle.idoc_tree.specs.Lines.{lines_of}
use Rattle.dist_model.specs.declared.kind.Kind.{Kind}
use Rattle.dist_model.specs.declared.lists.Lists.{Lists}
use Rattle.dist_model.specs.declared.message.Message.{Message}
use Rattle.dist_model.specs.Message.{IsMessage, message_names}
use Rattle.dist_model.specs.Model.{IsModel, entries_for, message_named}
use Rattle.dist_model.specs.Named.{idoc_type_name_of, message_name}
use Rattle.dist_model.proofs.LookupLemmas.{message-named}
use Rattle.idoc_reading.specs.Document.{IsOfEntries}
use Rattle.idoc_reading.specs.Reading.{read_as}
use Rattle.idoc_reading.proofs.EntryLemmas.{built-again, entries-are}
use Rattle.unit_core.specs.declared.raw_unit_doc.RawUnitDoc.{RawUnitDoc}
use Rattle.outbound_build.specs.Added.{may_be_of}
use Rattle.object_store.specs.Objects.{Fields, ObjectsOf, object_at}
use Rattle.change_pointers.specs.declared.pointer.ObjectKey.{ObjectKey}
use Rattle.change_pointers.specs.declared.pointer.Pointer.{Pointer}
use Rattle.change_pointers.specs.Master.{MakesDocuments, ObjectMaster, kind_of, object_master, object_segment}
use Rattle.change_pointers.specs.Master.{master_control, master_segment, master_text, master_with}
use Rattle.change_pointers.specs.Pointers.{pending_of}
use Rattle.change_pointers.proofs.MasterLemmas.{blank-room}
use Rattle.change_pointers.proofs.ReadLemmas.{master-of_entries}
use Rattle.unit_core.specs.SameUnit.{is_same_doc, is_same_segment}
use Rattle.application_rules.specs.declared.commits.TheConstants.{MOST_SEGMENTS}
use Rattle.application_rules.specs.declared.fault.MasterFault.TheVariants.{Unknown}
use Rattle.application_rules.specs.Masters.{master_fault, reading_fault, syntax_fault}
use Rattle.application_rules.specs.Gathered.{carried_master, gathered}
use Rattle.application_rules.specs.Commits.{are_gathered, are_of, may_be_committed, may_commit, own_named}

-- each list is the same as itself
pointwise-same : {A : Type 0} (test : A → A → Bool) → ((x : A) → test x x ≡ true) → (xs : List A) → pointwise test xs xs ≡ true
pointwise-same test same [] = refl
pointwise-same test same (x ∷ xs) = and_from (test x x) (pointwise test xs xs) (same x) (pointwise-same test same xs)

text-same : (text other : List ℕ) → text ≡ other → is_text text other ≡ true
text-same text other = (bytes_decides text other).1

segment-same : (segment : DataRecord) → is_same_segment segment segment ≡ true
segment-same segment =
    and_from (is_text segment.segnam segment.segnam) (is_text segment.sdata segment.sdata)
    (text-same segment.segnam segment.segnam refl) (text-same segment.sdata segment.sdata refl)

doc-same : (doc : RawUnitDoc) → is_same_doc doc doc ≡ true
doc-same doc =
    and_from (is_text doc.control doc.control) (pointwise is_same_segment doc.segments doc.segments)
    (text-same doc.control doc.control refl) (pointwise-same is_same_segment segment-same doc.segments)

or-right : (a b : Bool) → b ≡ true → a || b ≡ true
or-right true b is = refl
or-right false b is = is

passes-cons : {B : Type 0} (test : B → Bool) (o : Option B) (ys : List B) → ((y : B) → o ≡ Some y → test y ≡ true) → list_all test ys ≡ true
    → list_all test (cons_option o ys) ≡ true
passes-cons test None ys one rest = rest
passes-cons test (Some y) ys one rest = and_from (test y) (list_all test ys) (one y refl) rest

-- what passes of each that is made passes of all that are made
all-made : {A B : Type 0} (made : A → Option B) (test : B → Bool) → ((x : A) (y : B) → made x ≡ Some y → test y ≡ true) → (xs : List A)
    → list_all test (filter_map made xs) ≡ true
all-made made test passes [] = refl
all-made made test passes (x ∷ xs) = passes-cons test (made x) (filter_map made xs) (passes x) (all-made made test passes xs)

module _ (model : Lists) (message : ℕ) (kept : IsModel model) (makes : MakesDocuments model message) where
  is : IsMessage model.definitions model.types model.kinds makes.type
  is = AllByRecursion-at (IsMessage model.definitions model.types model.kinds) model.messages message makes.type kept.messages.each makes.here

  is_type : IsIdocType model.definitions is.type
  is_type = AllByRecursion-at (IsIdocType model.definitions) model.types makes.type.idoctype is.type kept.types.each is.typed

  named : message_name model message ≡ makes.type.name
  named = ap (λ (found : Option Message). option_map_or (λ m. m.name) found []) makes.here

  -- the name of its IDoc type
  typed : idoc_type_name_of model message ≡ is.type.name
  typed =
      ap (λ (found : Option Message). option_map_or (λ m. option_map_or (λ (t : IdocType). t.name) (slice_get model.types m.idoctype) []) found []) makes.here
      ∙ ap (λ (found : Option IdocType). option_map_or (λ t. t.name) found []) is.typed

  room : HasRoom (master_text model message)
  room =
      HasRoom-written Mestyp (message_name model message) (written_at Idoctyp (idoc_type_name_of model message) blank_text)
      (omega (arith, is.named.most, ap length named))
      (HasRoom-written Idoctyp (idoc_type_name_of model message) blank_text (omega (arith, is_type.named.most, ap length typed)) (λ f. blank-room f))

  mestyp : field_of (master_control model message) Mestyp ≡ makes.type.name
  mestyp = field_of-control_with (master_text model message) Mestyp room ∙ ap trimmed named ∙ name-trimmed makes.type.name is.named.bytes

  idoctyp : field_of (master_control model message) Idoctyp ≡ is.type.name
  idoctyp = field_of-control_with (master_text model message) Idoctyp room ∙ ap trimmed typed ∙ name-trimmed is.type.name is_type.named.bytes

  name-at : slice_get (message_names model.messages) message ≡ Some makes.type.name
  name-at = slice_get-map (λ (m : Message). m.name) model.messages message ∙ ap (option_map (λ (m : Message). m.name)) makes.here

  found : message_named (field_of (master_control model message) Mestyp) model ≡ Some message
  found =
      let name = field_of (master_control model message) Mestyp in
      (message-named model kept name (message_named name model) refl message).1 (inl (name-at ∙ ap Some (sym mestyp)))

  may_be : may_be_of (master_control model message) (idoc_type_name_of model message) ≡ true
  may_be =
      let control = master_control model message in
      or-right (is_text (field_of control Idoctyp) []) (is_text (field_of control Idoctyp) (idoc_type_name_of model message))
      (text-same (field_of control Idoctyp) (idoc_type_name_of model message) (idoctyp ∙ sym typed))

  -- the entries by which a master of an object is read
  abbrev listed : List TypePlace
  listed = entries_for model message (master_control model message)

  -- the data records of a document by these entries make it again
  read : (forest : Forest) → IsOfEntries model.definitions listed forest
      → built model.definitions listed (lines_of model.definitions forest) ≡ Ok forest
  read forest of =
      built-again model.definitions listed (entries-are model message (master_control model message) kept) forest kept.definitions of

  -- the master of an object has no fault
  no_fault : (segment : Segment) → IsOfEntries model.definitions listed (leaf segment)
      → master_fault model (carried_master model.definitions (master_with model message segment)) ≡ None
  no_fault segment of =
      let doc = carried_master model.definitions (master_with model message segment) in
      ap (λ (o : Option ℕ). reading_fault model doc.control (option_map (read_as model doc.control doc.segments) o)) found
      ∙ ap (λ (b : Bool). if b then syntax_fault (built model.definitions listed doc.segments) else Some Unknown) may_be
      ∙ ap syntax_fault (read (leaf segment) of)

  may_be-with : (segment : Segment) → IsOfEntries model.definitions listed (leaf segment)
      → may_be_committed model (carried_master model.definitions (master_with model message segment)) ≡ true
  may_be-with segment of =
      let doc = carried_master model.definitions (master_with model message segment) in
      and_from (nat_le (length doc.segments) MOST_SEGMENTS) (is_none (master_fault model doc)) refl (ap is_none (no_fault segment of))

  of_kind : kind_of model message ≡ Some is.kind
  of_kind = ap (option_and_then (λ (m : Message). slice_get model.kinds m.kind)) makes.here ∙ is.of_kind

  -- the master of an object, where it is there, may be one of a Commit
  may_be-made : (objects : ObjectsOf) (object : ObjectKey) (master : ObjectMaster) → object_master model message objects object ≡ Some master
      → may_be_committed model (carried_master model.definitions master) ≡ true
  may_be-made objects object master made = of_values (object_at object.kind object.key objects) made
    where
      of_segment : (values : Fields) (o : Option Segment) → o ≡ master_segment model message object.key values
          → option_map (master_with model message) o ≡ Some master → may_be_committed model (carried_master model.definitions master) ≡ true
      of_segment values None same is_made = absurd (cc)
      of_segment values (Some segment) same is_made =
          let made_of : Kind → Segment = object_segment model.definitions object.key values in
          let segment_is : segment ≡ made_of is.kind = same_Some segment (made_of is.kind) (same ∙ ap (option_map made_of) of_kind) in
          let of = master-of_entries model message makes.type is.kind object.key values kept makes.here makes.listed is.of_kind in
          subst (λ (m : ObjectMaster). may_be_committed model (carried_master model.definitions m) ≡ true)
          (same_Some (master_with model message segment) master is_made)
          (may_be-with segment (subst (λ (s : Segment). IsOfEntries model.definitions listed (leaf s)) (sym segment_is) of))

      of_values : (o : Option Fields)
          → option_and_then (λ (values : Fields). option_map (master_with model message) (master_segment model message object.key values)) o ≡ Some master
          → may_be_committed model (carried_master model.definitions master) ≡ true
      of_values None is_made = absurd (cc)
      of_values (Some values) is_made = of_segment values (master_segment model message object.key values) refl is_made

  own : own_named makes.type.name model ≡ Some message
  own =
      position-map (λ (m : Message). m.name) (is_text makes.type.name) model.messages
      ∙ position-only makes.type.name (message_names model.messages) message kept.messages.apart name-at

  some : (n : ℕ) → 1 ≤ n → nat_lt 0 n ≡ true
  some n least = grind (arith, nat_tests)

  -- what is gathered for a message type of the model may be committed, where there is something
  pub gathered-may : (objects : ObjectsOf) (pointers : List Pointer) → 1 ≤ length (gathered model objects pointers message)
      → may_commit model objects pointers (Some makes.type.name) (gathered model objects pointers message) ≡ true
  gathered-may objects pointers least =
      let docs = gathered model objects pointers message in
      let of : are_of model objects pointers (Some makes.type.name) docs ≡ true =
      ap (λ (o : Option ℕ). option_map_or (are_gathered model objects pointers docs) o false) own
      ∙ and_from (nat_lt 0 (length docs)) (pointwise is_same_doc docs docs) (some (length docs) least) (pointwise-same is_same_doc doc-same docs) in
      let made = object_master model message objects in
      let pending = pending_of message pointers in
      let masters : list_all (may_be_committed model) docs ≡ true =
      list_all-map (may_be_committed model) (carried_master model.definitions) (filter_map made pending)
      ∙ all-made made (λ (m : ObjectMaster). may_be_committed model (carried_master model.definitions m)) (may_be-made objects) pending in
      and_from (are_of model objects pointers (Some makes.type.name) docs) (list_all (may_be_committed model) docs) of masters
