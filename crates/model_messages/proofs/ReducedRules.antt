-- Reduced message types that were read keep their rules, and are what the text says.
use Rattle.std.specs.Prelude.{slice_get}
use Rattle.std.specs.List.{AllByRecursion, IsDistinct, list_any}
use Rattle.std.proofs.Common.{◌≡◌, ℕ, ◌+◌, ◌≤◌, ◌==◌, nat_eq, Bool, true, false, cond, Some, None, Ok, List, [], ◌∷◌, ◌++◌, map, take, drop, length, position}
use Rattle.std.proofs.Common.{refl, sym, ap, subst, ◌∙◌, append-nil, arith}
use Rattle.std.proofs.lemmas.Bool.Decides.{nat_tests}
use Rattle.std.proofs.lemmas.Option.{slice_get_within}
use Rattle.toml.specs.Data.{Data, Items, Members, get_member, as_str}
use Rattle.ale_base.specs.Text.{is_text}
use Rattle.ale_base.proofs.OptionLemmas.{option_map-Some}
use Rattle.ale_base.proofs.SnocLemmas.{AllByRecursion-snoc}
use Rattle.segment_defs.specs.declared.limits.TheConstants.{LONGEST_NAME}
use Rattle.segment_defs.specs.declared.definitions.Definitions.{Definitions}
use Rattle.segment_defs.specs.declared.idoc_type.IdocType.{IdocType}
use Rattle.segment_defs.specs.declared.idoc_type.TypePlace.{TypePlace}
use Rattle.segment_defs.proofs.NameLemmas.{IsName_decided, position-name}
use Rattle.dist_model.specs.declared.filter.FieldPlace.{FieldPlace}
use Rattle.dist_model.specs.declared.limits.TheConstants.{MOST_KEPT, MOST_REDUCED}
use Rattle.dist_model.specs.declared.message.Message.{Message}
use Rattle.dist_model.specs.declared.message.Reduced.{Reduced}
use Rattle.dist_model.specs.Field.{all_fields, HasEntry, IsFieldAmong}
use Rattle.dist_model.specs.Message.{entries_at, message_entries, message_names, AreReduced, IsReduced}
use Rattle.dist_model.specs.Model.{type_names}
use Rattle.dist_model.proofs.FieldLemmas.{entry_of_any}
use Rattle.dist_model.proofs.SeenLemmas.{list_any-map}
use Rattle.dist_model.proofs.DistinctLemmas.{is_text-symmetric, IsDistinct-push}
use Rattle.model_keys.specs.declared.finding.Cause.TheVariants.{Wrong}
use Rattle.model_keys.specs.Finding.{required}
use Rattle.model_keys.specs.Each.{each}
use Rattle.model_keys.specs.Keys.{entry_of, items_len, list_at, list_of, list_or_none_at, new_name_at, value_at}
use Rattle.model_keys.specs.Says.{HasList, OneForOne, SaysList, SaysListOrNone}
use Rattle.model_keys.proofs.KeepsLemmas.{each-invariant, each-length, from_bind, list_of-keeps, list_or_none_at-keeps, new_name_at-keeps, required-ok}
use Rattle.model_keys.proofs.KeepsLemmas.{value_at-keeps}
use Rattle.model_keys.proofs.SaysLemmas.{all-says, and_then-found, entry_of-table, list_or_none-says}
use Rattle.model_messages.specs.declared.keys.TheConstants.{KEEP, MESSAGE, NAME, REDUCED, REDUCED_KEYS}
use Rattle.model_keys.specs.Fields.{field_named, field_names}
use Rattle.model_messages.specs.Reduced.{among, field_in, keep_at, keep_of, kept_of, names_with, place_in_text, place_named, place_split, reduced_at}
use Rattle.model_messages.specs.Reduced.{reduced_of, type_among, all_reduced_of}
use Rattle.model_messages.specs.Says.{SaysKept, SaysReduced}
use Rattle.model_messages.specs.Things.{thing_at}
use Rattle.model_keys.proofs.FieldLemmas.{field_named-keeps, field_there}
use Rattle.model_messages.proofs.ReducedLemmas.{names_with-push}
use Rattle.model_messages.proofs.ThingLemmas.{read_same, split_at, thing_at-keeps}

list_any-agree : {A : Type 0} (p q : A → Bool) → ((a : A) → p a ≡ q a) → (xs : List A) → list_any p xs ≡ list_any q xs
list_any-agree p q same [] = refl
list_any-agree p q same (x ∷ xs) = rw (same x, list_any-agree p q same xs) refl

-- a segment type among some entries
among-keeps : (entries : List TypePlace) (segment found : ℕ) → among (map (λ (entry : TypePlace). entry.segment) entries) segment ≡ Some found →
    HasEntry entries segment × (segment ≡ found)
among-keeps entries segment found h =
    let (is, same) = tell (list_any (nat_eq segment) (map (λ (entry : TypePlace). entry.segment) entries)) h in (
      sym (entry_of_any entries segment) ∙ list_any-agree (λ (entry : TypePlace). entry.segment == segment)
          (λ (entry : TypePlace). nat_eq segment entry.segment) (λ entry. turned entry.segment segment) entries
          ∙ list_any-map (λ (entry : TypePlace). entry.segment) (nat_eq segment) entries ∙ is,
      same,
    )
  where
    turned : (a b : ℕ) → (a == b) ≡ nat_eq b a
    turned a b = grind (arith, nat_tests)

    tell : (b : Bool) → cond b (Some segment) None ≡ Some found → (b ≡ true) × (segment ≡ found)
    tell true h = (refl, cc)
    tell false h = absurd (cc)

-- a field that two names name
record IsNamedPlace (definitions : Definitions) (entries : List TypePlace) (type name : List ℕ) (kept : FieldPlace) : Type 0 where
  is : IsFieldAmong definitions entries kept.segment kept.field
  typed : slice_get (type_names definitions.types) kept.segment ≡ Some type
  named : slice_get (field_names (all_fields definitions kept.segment)) kept.field ≡ Some name

place_named-keeps : (definitions : Definitions) (entries : List TypePlace) (type name : List ℕ) (kept : FieldPlace) →
    place_named definitions (map (λ (entry : TypePlace). entry.segment) entries) type name ≡ Some kept
    → IsNamedPlace definitions entries type name kept
place_named-keeps definitions entries type name kept h =
    let (segment, s, f) = and_then-found (field_in definitions name) (type_among definitions (map (λ (entry : TypePlace). entry.segment) entries) type) kept
    h in
    let (number, p, a) = and_then-found (among (map (λ (entry : TypePlace). entry.segment) entries)) (position (is_text type) (type_names definitions.types))
    segment s in
    let (there, same) = among-keeps entries number segment a in
    let (field, g, e) = option_map-Some (λ (field : ℕ). record { segment = segment; field = field }) (field_named (all_fields definitions segment) name) kept
    f in
    let here = field_named-keeps (all_fields definitions segment) name field g in
    subst (IsNamedPlace definitions entries type name) e (record {
      is = record {
        entry = subst (HasEntry entries) same there;
        field = field_there (all_fields definitions segment) name field here;
      };
      typed = subst (λ k. slice_get (type_names definitions.types) k ≡ Some type) same (position-name type (type_names definitions.types) number p);
      named = here;
    })

-- a field that is kept is one of the message type
kept_of-keeps : (definitions : Definitions) (entries : List TypePlace) (before : List FieldPlace) (d : Data) (kept : FieldPlace) →
    kept_of definitions (map (λ (entry : TypePlace). entry.segment) entries) d ≡ Ok kept
    → IsFieldAmong definitions entries kept.segment kept.field × SaysKept definitions before d kept
unfolding kept_of
kept_of-keeps definitions entries before d kept h =
    let (text, t, g) = from_bind (required Wrong [] (as_str d)) _ kept h in
    let types = map (λ (entry : TypePlace). entry.segment) entries in
    let found = required-ok Wrong [] (place_in_text definitions types text) kept g in
    let (dot, p, s) = and_then-found (place_split definitions types text) (position (λ byte. byte == 46) text) kept found in
    let place = place_named-keeps definitions entries (take dot text) (drop (dot + 1) text) kept s in (
      place.is,
      record {
        type = take dot text;
        name = drop (dot + 1) text;
        text = required-ok Wrong [] (as_str d) text t ∙ ap Some (split_at 46 text dot p);
        typed = place.typed;
        named = place.named;
      },
    )

keep_of-keeps : (definitions : Definitions) (entries : List TypePlace) (ds : Items) (keep : List FieldPlace) →
    keep_of definitions (map (λ (entry : TypePlace). entry.segment) entries) ds ≡ Ok keep
    → AllByRecursion (λ (kept : FieldPlace). IsFieldAmong definitions entries kept.segment kept.field) keep × OneForOne (SaysKept definitions) [] ds keep
keep_of-keeps definitions entries ds keep h =
    let read = λ (done : List FieldPlace) (d : Data). kept_of definitions (map (λ (entry : TypePlace). entry.segment) entries) d in
    let Is = λ (kept : FieldPlace). IsFieldAmong definitions entries kept.segment kept.field in (
      each-invariant KEEP.now read (AllByRecursion Is)
          (λ done d kept so_far is. AllByRecursion-snoc Is done kept so_far (kept_of-keeps definitions entries done d kept is).0) 0 [] ds keep tt h,
      all-says KEEP.now read (SaysKept definitions) (λ done d kept is. (kept_of-keeps definitions entries done d kept is).1) ds keep h,
    )

-- the list at a key
list_at-keeps : (most : ℕ) (key : List ℕ) (table : Members) (ds : Items) → list_at most key table ≡ Ok ds → HasList key table ds × (items_len ds ≤ most)
unfolding list_at
list_at-keeps most key table ds h =
    let (d, t, g) = from_bind (value_at key table) (λ d. list_of most key d) ds h in
    let (is, few) = list_of-keeps most key d ds g in
    ((d, value_at-keeps key table d t, is), few)

-- the fields that are kept
record AreKept (definitions : Definitions) (entries : List TypePlace) (table : Members) (keep : List FieldPlace) : Type 0 where
  few : length keep ≤ MOST_KEPT
  are : AllByRecursion (λ (kept : FieldPlace). IsFieldAmong definitions entries kept.segment kept.field) keep
  says : SaysList (SaysKept definitions) KEEP.now table keep

keep_at-keeps : (definitions : Definitions) (entries : List TypePlace) (table : Members) (keep : List FieldPlace) →
    keep_at definitions entries table ≡ Ok keep → AreKept definitions entries table keep
unfolding keep_at
keep_at-keeps definitions entries table keep h =
    let types = map (λ (entry : TypePlace). entry.segment) entries in
    let (ds, l, g) = from_bind (list_at MOST_KEPT KEEP.now table) (λ ds. keep_of definitions types ds) keep h in
    let list = list_at-keeps MOST_KEPT KEEP.now table ds l in
    let long = each-length KEEP.now (λ (done : List FieldPlace) (d : Data). kept_of definitions types d) 0 [] ds keep g in
    let kept = keep_of-keeps definitions entries ds keep g in
    record { few = omega (arith, list.1, long); are = kept.0; says = (ds, list.0, kept.1) }

-- one more reduced message type behind others
record IsNextReduced (definitions : Definitions) (types : List IdocType) (messages : List Message) (before : List Reduced) (d : Data)
    (one : Reduced) : Type 0 where
  is : IsReduced definitions types messages one
  new : list_any (is_text one.name) (names_with messages before) ≡ false
  says : SaysReduced definitions messages before d one

reduced_of-keeps : (definitions : Definitions) (types : List IdocType) (messages : List Message) (before : List Reduced) (d : Data) (one : Reduced)
    → reduced_of definitions types messages (names_with messages before) d ≡ Ok one → IsNextReduced definitions types messages before d one
unfolding reduced_of
reduced_of-keeps definitions types messages before d one h =
    let (table, t, h1) = from_bind (entry_of (map (λ key. key.now) REDUCED_KEYS) d) _ one h in
    let (name, n, h2) = from_bind (new_name_at LONGEST_NAME NAME.now (names_with messages before) table) _ one h1 in
    let (message, m, h3) = from_bind (thing_at MESSAGE.now (message_names messages) messages table) _ one h2 in
    let (keep, k, h4) = from_bind (keep_at definitions (entries_at types message.1.idoctype) table) _ one h3 in
    let e : ◌≡◌ {A = Reduced} (record { name = name; message = message.0; keep = keep }) one = read_same _ one h4 in
    let new = new_name_at-keeps LONGEST_NAME NAME.now (names_with messages before) table name n in
    let (says, here) = thing_at-keeps MESSAGE.now (message_names messages) messages table message m in
    let kept = keep_at-keeps definitions (entries_at types message.1.idoctype) table keep k in
    let entries : message_entries types messages message.0 ≡ entries_at types message.1.idoctype = rw here refl in
    subst (IsNextReduced definitions types messages before d) e (record {
      is = record {
        named = (IsName_decided name).0 new.1;
        basic = slice_get_within messages message.0 message.1 here;
        few = kept.few;
        keep = subst (λ es. AllByRecursion (λ (place : FieldPlace). IsFieldAmong definitions es place.segment place.field) keep) (sym entries) kept.are;
      };
      new = new.0.new;
      says = record { table = table; is = entry_of-table (map (λ key. key.now) REDUCED_KEYS) d table t; name = new.0.text; message = says; keep = kept.says };
    })

-- what reduced message types are, so far
record AreReducedSoFar (definitions : Definitions) (types : List IdocType) (messages : List Message) (reduced : List Reduced) : Type 0 where
  each : AllByRecursion (IsReduced definitions types messages) reduced
  apart : IsDistinct is_text (names_with messages reduced)

reduced-push : (definitions : Definitions) (types : List IdocType) (messages : List Message) (before : List Reduced) (d : Data) (one : Reduced) →
    AreReducedSoFar definitions types messages before
    → IsNextReduced definitions types messages before d one → AreReducedSoFar definitions types messages (before ++ one ∷ [])
reduced-push definitions types messages before d one are next = record {
  each = AllByRecursion-snoc (IsReduced definitions types messages) before one are.each next.is;
  apart = subst (IsDistinct is_text) (sym (names_with-push messages before one))
      (IsDistinct-push is_text is_text-symmetric (names_with messages before) one.name are.apart next.new);
}

-- reduced message types that were read keep the rules of reduced message types
pub reduced_at-keeps : (definitions : Definitions) (types : List IdocType) (messages : List Message) (table : Members) (reduced : List Reduced) →
    IsDistinct is_text (message_names messages)
    → reduced_at definitions types messages table ≡ Ok reduced → AreReduced definitions types messages reduced
unfolding reduced_at
reduced_at-keeps definitions types messages table reduced apart h =
    let read = λ (done : List Reduced) (d : Data). reduced_of definitions types messages (names_with messages done) d in
    let (ds, l, g) = from_bind (list_or_none_at MOST_REDUCED REDUCED.now table) (λ ds. each REDUCED.now read 0 [] ds) reduced h in
    let long = each-length REDUCED.now read 0 [] ds reduced g in
    let few = list_or_none_at-keeps MOST_REDUCED REDUCED.now table ds l in
    let are = each-invariant REDUCED.now read (AreReducedSoFar definitions types messages)
    (λ done d one so_far is. reduced-push definitions types messages done d one so_far (reduced_of-keeps definitions types messages done d one is))
    0 [] ds reduced (record { each = tt; apart = subst (IsDistinct is_text) (sym (append-nil (message_names messages))) apart }) g in
    record { few = omega (arith, long, few); each = are.each; apart = are.apart }

-- and are what the text says
pub reduced_at-says : (definitions : Definitions) (types : List IdocType) (messages : List Message) (table : Members) (reduced : List Reduced) →
    reduced_at definitions types messages table ≡ Ok reduced
    → SaysListOrNone (SaysReduced definitions messages) REDUCED.now table reduced
unfolding reduced_at list_or_none_at
reduced_at-says definitions types messages table reduced h =
    let read = λ (done : List Reduced) (d : Data). reduced_of definitions types messages (names_with messages done) d in
    let (ds, l, g) = from_bind (list_or_none_at MOST_REDUCED REDUCED.now table) (λ ds. each REDUCED.now read 0 [] ds) reduced h in (
      ds,
      list_or_none-says MOST_REDUCED REDUCED.now (get_member REDUCED.now table) ds l,
      all-says REDUCED.now read (SaysReduced definitions messages) (λ done d one is. (reduced_of-keeps definitions types messages done d one is).says) ds
          reduced g,
    )

-- the list at the key is the one that is read
pub reduced_at-list : (definitions : Definitions) (types : List IdocType) (messages : List Message) (table : Members) (ds : Items) →
    list_or_none_at MOST_REDUCED REDUCED.now table ≡ Ok ds → reduced_at definitions types messages table ≡ all_reduced_of definitions types messages ds
unfolding reduced_at
reduced_at-list definitions types messages table ds is = rw is refl
