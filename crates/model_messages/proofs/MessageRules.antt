-- Message types that were read keep their rules, and are what the text says.
use Rattle.std.specs.Prelude.{IsTrue, MatchOption, slice_get}
use Rattle.std.specs.List.{AllByRecursion, IsDistinct, list_any}
use Rattle.std.specs.Option.{option_map_or}
use Rattle.std.proofs.Common.{◌≡◌, ℕ, ◌≤◌, ◌==◌, Bool, true, false, cond, Option, Some, None, Ok, Err, List, [], ◌∷◌, ◌++◌, map, length, refl, sym, ap, subst}
use Rattle.std.proofs.Common.{◌∙◌, arith}
use Rattle.std.proofs.lemmas.Bool.Decides.{nat_tests}
use Rattle.std.proofs.lemmas.List.{map_push}
use Rattle.std.specs.Cmp.Lexicographic.{bytes_decides}
use Rattle.toml.specs.Data.{Data, Items, no_items, Members, get_member, as_str, as_array}
use Rattle.ale_base.specs.Text.{is_text}
use Rattle.ale_base.proofs.SnocLemmas.{AllByRecursion-snoc}
use Rattle.segment_defs.specs.declared.limits.TheConstants.{LONGEST_NAME}
use Rattle.segment_defs.specs.declared.definitions.Definitions.{Definitions}
use Rattle.segment_defs.specs.declared.idoc_type.IdocType.{IdocType}
use Rattle.segment_defs.specs.declared.idoc_type.TypePlace.{TypePlace}
use Rattle.segment_defs.proofs.NameLemmas.{IsName_decided}
use Rattle.dist_model.specs.declared.kind.Kind.{Kind}
use Rattle.dist_model.specs.declared.limits.TheConstants.{MOST_MESSAGES}
use Rattle.dist_model.specs.declared.message.Message.{Message}
use Rattle.dist_model.specs.declared.message.PostingMode.{PostingMode}
use Rattle.dist_model.specs.declared.message.PostingMode.TheVariants.{Insert, Upsert}
use Rattle.dist_model.specs.Field.{all_fields}
use Rattle.dist_model.specs.Kind.{kind_names}
use Rattle.dist_model.specs.Message.{is_root_enough, message_names, root_segment, AreMessages, IsMessage, IsOwnField}
use Rattle.dist_model.specs.Model.{idoc_type_names}
use Rattle.dist_model.proofs.DistinctLemmas.{is_text-symmetric, IsDistinct-push}
use Rattle.model_keys.specs.declared.finding.Cause.TheVariants.{Wrong}
use Rattle.model_keys.specs.Finding.{at, check, required}
use Rattle.model_keys.specs.Each.{each}
use Rattle.model_keys.specs.Keys.{any_list_or_none_at, entry_of, list_or_none_at, name_of, new_name_at, or_else}
use Rattle.model_keys.specs.Says.{IsPlaceNamed, OneForOne, SaysListOrNone, SaysPlace}
use Rattle.model_keys.proofs.KeepsLemmas.{check-ok, each-invariant, each-length, from_bind, list_or_none_at-keeps, name_of-keeps, new_name_at-keeps}
use Rattle.model_keys.proofs.KeepsLemmas.{required-ok, tested}
use Rattle.model_keys.proofs.SaysLemmas.{all-says, any_list_or_none_at-says, and_then-found, entry_of-table, list_or_none-says}
use Rattle.model_messages.specs.declared.keys.TheConstants.{IDOCTYPE, INSERT, KIND, MESSAGE, MESSAGE_KEYS, NAME, POINTERS, POSTING, REQUIRED, UPSERT}
use Rattle.model_keys.specs.Fields.{field_named, field_names}
use Rattle.model_messages.specs.Messages.{beside, has_root, kind_at, message_of, messages_at, own_field, own_field_of, own_fields_of, pointers_at, pointers_of}
use Rattle.model_messages.specs.Messages.{posting_at, posting_named, posting_of, required_at, messages_of}
use Rattle.model_messages.specs.Says.{word_of, SaysField, SaysMessage}
use Rattle.model_messages.specs.Things.{thing_at}
use Rattle.model_keys.proofs.FieldLemmas.{field_named-keeps, field_there}
use Rattle.model_messages.proofs.ThingLemmas.{read_same, thing_at-keeps}

-- the root is of the segment type
has_root-keeps : (root : Option ℕ) (segment : ℕ) → option_map_or (λ (root : ℕ). root == segment) root false ≡ true → root ≡ Some segment
has_root-keeps None segment is = absurd (cc)
has_root-keeps (Some root) segment is = ap Some (same root segment is)
  where
    same : (a b : ℕ) → a == b ≡ true → a ≡ b
    same a b is = grind (arith, nat_tests)

-- the kind that was found is about the root
record IsKindFound (entries : List TypePlace) (kinds : List Kind) (table : Members) (found : ℕ × Kind) : Type 0 where
  says : SaysPlace (kind_names kinds) KIND.now table found.0
  here : slice_get kinds found.0 ≡ Some found.1
  root : root_segment entries ≡ Some found.1.segment

kind_at-keeps : (entries : List TypePlace) (kinds : List Kind) (table : Members) (found : ℕ × Kind) → kind_at entries kinds table ≡ Ok found →
    IsKindFound entries kinds table found
unfolding kind_at
kind_at-keeps entries kinds table found h =
    let (thing, t, g) = from_bind (thing_at KIND.now (kind_names kinds) kinds table)
    (λ (f : ℕ × Kind). cond (has_root entries f.1.segment) (Ok f) (Err (at Wrong KIND.now))) found h in
    let (is, e) = tested (has_root entries thing.1.segment) thing found (at Wrong KIND.now) g in
    let (says, here) = thing_at-keeps KIND.now (kind_names kinds) kinds table thing t in
    subst (IsKindFound entries kinds table) e (record { says = says; here = here; root = has_root-keeps (root_segment entries) thing.1.segment is })

-- what a posting does is said by its word
posting_named-word : (text : List ℕ) (posting : PostingMode) → posting_named text ≡ Some posting → text ≡ word_of posting
posting_named-word text posting h = first (is_text text UPSERT.now) (is_text text INSERT.now) refl refl h
  where
    first : (a b : Bool) → is_text text UPSERT.now ≡ a → is_text text INSERT.now ≡ b → cond a (Some Upsert) (cond b (Some Insert) None) ≡ Some posting →
        text ≡ word_of posting
    first true b upsert insert h = let e : Upsert ≡ posting = cc in (bytes_decides text UPSERT.now).0 upsert ∙ ap word_of e
    first false true upsert insert h = let e : Insert ≡ posting = cc in (bytes_decides text INSERT.now).0 insert ∙ ap word_of e
    first false false upsert insert h = absurd (cc)

posting_found-says : (found : Option Data) (posting : PostingMode) → or_else Upsert posting_of found ≡ Ok posting →
    MatchOption found (posting ≡ Upsert) (λ d. as_str d ≡ Some (word_of posting))
unfolding posting_of
posting_found-says None posting h = cc
posting_found-says (Some d) posting h =
    let (text, t, g) = from_bind (required Wrong POSTING.now (as_str d)) (λ text. required Wrong POSTING.now (posting_named text)) posting h in
    required-ok Wrong POSTING.now (as_str d) text t ∙ ap Some (posting_named-word text posting (required-ok Wrong POSTING.now (posting_named text) posting g))

-- a place beside the key
beside-keeps : (key place found : ℕ) → beside key place ≡ Some found → (place ≡ found) × (found ≡ key → ⊥)
beside-keeps key place found h = tell (place == key) refl h
  where
    differ : (a b : ℕ) → a == b ≡ false → a ≡ b → ⊥
    differ a b is same = grind (arith, nat_tests)

    tell : (b : Bool) → place == key ≡ b → cond b None (Some place) ≡ Some found → (place ≡ found) × (found ≡ key → ⊥)
    tell true is h = absurd (cc)
    tell false is h = let e : place ≡ found = cc in (e, subst (λ p. p ≡ key → ⊥) e (differ place key is))

-- a field of the objects of a kind
own_field_of-keeps : (definitions : Definitions) (kind : Kind) (d : Data) (field : ℕ) → own_field_of definitions kind d ≡ Ok field
    → IsOwnField definitions kind field × IsPlaceNamed (field_names (all_fields definitions kind.segment)) d field
unfolding own_field_of
own_field_of-keeps definitions kind d field h =
    let fields = all_fields definitions kind.segment in
    let (name, n, g) = from_bind (name_of LONGEST_NAME [] d) (λ name. required Wrong [] (own_field definitions kind name)) field h in
    let (place, p, b) = and_then-found (beside kind.key) (field_named fields name) field (required-ok Wrong [] (own_field definitions kind name) field g) in
    let (same, other) = beside-keeps kind.key place field b in
    let here : slice_get (field_names fields) field ≡ Some name = subst (λ k. slice_get (field_names fields) k ≡ Some name) same
    (field_named-keeps fields name place p) in
    (record { field = field_there fields name field here; other = other }, (name, (name_of-keeps LONGEST_NAME [] d name n).0, here))

-- the fields of a list at a key, which may be absent
abbrev SaysFound : Definitions → Kind → Option Data → List ℕ → Type 0
SaysFound definitions kind found fields = (ds : Items) × MatchOption found (ds ≡ no_items) (λ d. as_array d ≡ Some ds) × OneForOne
    (SaysField definitions kind) [] ds fields

own_fields_of-keeps : (definitions : Definitions) (kind : Kind) (key : List ℕ) (ds : Items) (fields : List ℕ) →
    own_fields_of definitions kind key ds ≡ Ok fields
    → AllByRecursion (IsOwnField definitions kind) fields × OneForOne (SaysField definitions kind) [] ds fields
own_fields_of-keeps definitions kind key ds fields h = let read = λ (done : List ℕ) (d : Data). own_field_of definitions kind d in (
  each-invariant key read (AllByRecursion (IsOwnField definitions kind))
      (λ done d field so_far is. AllByRecursion-snoc (IsOwnField definitions kind) done field so_far (own_field_of-keeps definitions kind d field is).0) 0 [] ds
      fields tt h,
  all-says key read (SaysField definitions kind) (λ done d field is. (own_field_of-keeps definitions kind d field is).1) ds fields h,
)

required_at-keeps : (definitions : Definitions) (kind : Kind) (table : Members) (fields : List ℕ) → required_at definitions kind table ≡ Ok fields
    → AllByRecursion (IsOwnField definitions kind) fields × SaysListOrNone (SaysField definitions kind) REQUIRED.now table fields
unfolding required_at
required_at-keeps definitions kind table fields h =
    let (ds, l, g) = from_bind (any_list_or_none_at REQUIRED.now table) (λ ds. own_fields_of definitions kind REQUIRED.now ds) fields h in
    let (are, says) = own_fields_of-keeps definitions kind REQUIRED.now ds fields g in
    (are, (ds, any_list_or_none_at-says REQUIRED.now table ds l, says))

-- the fields whose changes make documents, where there are some
record ArePointers (definitions : Definitions) (entries : List TypePlace) (kind : Kind) (found : Option Data) (fields : List ℕ) : Type 0 where
  are : AllByRecursion (IsOwnField definitions kind) fields
  alone : 1 ≤ length fields → IsTrue (is_root_enough entries)
  says : SaysFound definitions kind found fields

pointers_found-keeps : (definitions : Definitions) (entries : List TypePlace) (kind : Kind) (found : Option Data) (fields : List ℕ) →
    or_else [] (pointers_of definitions entries kind) found ≡ Ok fields
    → ArePointers definitions entries kind found fields
unfolding pointers_of
pointers_found-keeps definitions entries kind None fields h =
    let e : [] ≡ fields = cc in subst (ArePointers definitions entries kind None) e
    (record { are = tt; alone = λ some. absurd (omega (arith, some)); says = (no_items, refl, tt) })
pointers_found-keeps definitions entries kind (Some d) fields h =
    let (ds, l, h1) = from_bind (required Wrong POINTERS.now (as_array d)) _ fields h in
    let (alone, a, h2) = from_bind (check Wrong POINTERS.now (is_root_enough entries)) _ fields h1 in
    let (are, says) = own_fields_of-keeps definitions kind POINTERS.now ds fields h2 in
    record {
      are = are;
      alone = λ some. check-ok Wrong POINTERS.now
          (is_root_enough entries) alone a;
      says = (ds, required-ok Wrong POINTERS.now (as_array d) ds l, says);
    }

-- one more message type behind others
record IsNextMessage (definitions : Definitions) (types : List IdocType) (kinds : List Kind) (before : List Message) (d : Data)
    (message : Message) : Type 0 where
  is : IsMessage definitions types kinds message
  new : list_any (is_text message.name) (message_names before) ≡ false
  says : SaysMessage definitions types kinds before d message

message_of-keeps : (definitions : Definitions) (types : List IdocType) (kinds : List Kind) (before : List Message) (d : Data) (message : Message)
    → message_of definitions types kinds (message_names before) d ≡ Ok message → IsNextMessage definitions types kinds before d message
unfolding message_of posting_at pointers_at
message_of-keeps definitions types kinds before d message h =
    let (table, t, h1) = from_bind (entry_of (map (λ key. key.now) MESSAGE_KEYS) d) _ message h in
    let (name, n, h2) = from_bind (new_name_at LONGEST_NAME NAME.now (message_names before) table) _ message h1 in
    let (type, y, h3) = from_bind (thing_at IDOCTYPE.now (idoc_type_names types) types table) _ message h2 in
    let (kind, k, h4) = from_bind (kind_at type.1.segments kinds table) _ message h3 in
    let (posting, p, h5) = from_bind (or_else Upsert posting_of (get_member POSTING.now table)) _ message h4 in
    let (fields, f, h6) = from_bind (required_at definitions kind.1 table) _ message h5 in
    let (pointers, q, h7) = from_bind (or_else [] (pointers_of definitions type.1.segments kind.1) (get_member POINTERS.now table)) _ message h6 in
    let e : ◌≡◌ {A = Message} (record { name = name; idoctype = type.0; kind = kind.0; posting = posting; required = fields; pointers = pointers })
    message = read_same _ message h7 in
    let new = new_name_at-keeps LONGEST_NAME NAME.now (message_names before) table name n in
    let typed = thing_at-keeps IDOCTYPE.now (idoc_type_names types) types table type y in
    let found = kind_at-keeps type.1.segments kinds table kind k in
    let needed = required_at-keeps definitions kind.1 table fields f in
    let gathered = pointers_found-keeps definitions type.1.segments kind.1 (get_member POINTERS.now table) pointers q in
    subst (IsNextMessage definitions types kinds before d) e (record {
      is = record {
        named = (IsName_decided name).0 new.1;
        type = type.1;
        typed = typed.1;
        kind = kind.1;
        of_kind = found.here;
        root = found.root;
        required = needed.0;
        pointers = gathered.are;
        gathered = gathered.alone;
      };
      new = new.0.new;
      says = record {
        table = table;
        is = entry_of-table (map (λ key. key.now) MESSAGE_KEYS) d table t;
        name = new.0.text;
        type = typed.0;
        about = found.says;
        posting = posting_found-says (get_member POSTING.now table) posting p;
        kind = kind.1;
        of_kind = found.here;
        required = needed.1;
        pointers = gathered.says;
      };
    })

-- what message types are, so far
record AreMessagesSoFar (definitions : Definitions) (types : List IdocType) (kinds : List Kind) (messages : List Message) : Type 0 where
  each : AllByRecursion (IsMessage definitions types kinds) messages
  apart : IsDistinct is_text (message_names messages)

messages-push : (definitions : Definitions) (types : List IdocType) (kinds : List Kind) (before : List Message) (d : Data) (message : Message) →
    AreMessagesSoFar definitions types kinds before
    → IsNextMessage definitions types kinds before d message → AreMessagesSoFar definitions types kinds (before ++ message ∷ [])
messages-push definitions types kinds before d message are next = record {
  each = AllByRecursion-snoc (IsMessage definitions types kinds) before message are.each next.is;
  apart = subst (IsDistinct is_text) (sym (map_push (λ (m : Message). m.name) before message))
      (IsDistinct-push is_text is_text-symmetric (message_names before) message.name are.apart next.new);
}

-- message types that were read keep the rules of message types
pub messages_at-keeps : (definitions : Definitions) (types : List IdocType) (kinds : List Kind) (table : Members) (messages : List Message) →
    messages_at definitions types kinds table ≡ Ok messages
    → AreMessages definitions types kinds messages
unfolding messages_at IsDistinct
messages_at-keeps definitions types kinds table messages h =
    let read = λ (done : List Message) (d : Data). message_of definitions types kinds (message_names done) d in
    let (ds, l, g) = from_bind (list_or_none_at MOST_MESSAGES MESSAGE.now table) (λ ds. each MESSAGE.now read 0 [] ds) messages h in
    let long = each-length MESSAGE.now read 0 [] ds messages g in
    let few = list_or_none_at-keeps MOST_MESSAGES MESSAGE.now table ds l in
    let are = each-invariant MESSAGE.now read (AreMessagesSoFar definitions types kinds)
    (λ done d message so_far is. messages-push definitions types kinds done d message so_far (message_of-keeps definitions types kinds done d message is))
    0 [] ds messages (record { each = tt; apart = tt }) g in
    record { few = omega (arith, long, few); each = are.each; apart = are.apart }

-- and are what the text says
pub messages_at-says : (definitions : Definitions) (types : List IdocType) (kinds : List Kind) (table : Members) (messages : List Message) →
    messages_at definitions types kinds table ≡ Ok messages
    → SaysListOrNone (SaysMessage definitions types kinds) MESSAGE.now table messages
unfolding messages_at list_or_none_at
messages_at-says definitions types kinds table messages h =
    let read = λ (done : List Message) (d : Data). message_of definitions types kinds (message_names done) d in
    let (ds, l, g) = from_bind (list_or_none_at MOST_MESSAGES MESSAGE.now table) (λ ds. each MESSAGE.now read 0 [] ds) messages h in (
      ds,
      list_or_none-says MOST_MESSAGES MESSAGE.now (get_member MESSAGE.now table) ds l,
      all-says MESSAGE.now read (SaysMessage definitions types kinds) (λ done d message is. (message_of-keeps definitions types kinds done d message is).says)
          ds messages g,
    )

-- the list at the key is the one that is read
pub messages_at-list : (definitions : Definitions) (types : List IdocType) (kinds : List Kind) (table : Members) (ds : Items) →
    list_or_none_at MOST_MESSAGES MESSAGE.now table ≡ Ok ds → messages_at definitions types kinds table ≡ messages_of definitions types kinds ds
unfolding messages_at
messages_at-list definitions types kinds table ds is = rw is refl
