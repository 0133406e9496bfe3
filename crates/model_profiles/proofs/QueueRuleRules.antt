-- Rules that name queues keep their rules, and are what their text says.
use Rattle.std.specs.Prelude.{◌⊎◌, is_some, All, MatchOption}
use Rattle.std.specs.List.{AllByRecursion, list_all}
use Rattle.std.specs.Option.{ForSome}
use Rattle.std.proofs.Common.{◌≡◌, ℕ, ◌≤◌, nat_eq, nat_le, not, cond, true, List, [], ◌∷◌, length, map, position, get_or, Option, Some, None, Ok, Err, refl}
use Rattle.std.proofs.Common.{sym, ap, subst, ◌∙◌, inl, inr, arith}
use Rattle.std.proofs.lemmas.Bool.{and_parts}
use Rattle.std.proofs.lemmas.Bool.Decides.{nat_tests}
use Rattle.std.proofs.lemmas.Option.{slice_get_within, slice_get-get_or}
use Rattle.toml.specs.Data.{Data, no_items, Members, get_member, as_str}
use Rattle.ale_base.specs.QueueName.{IsNameByte, IsQueueName}
use Rattle.ale_base.specs.Text.{is_text}
use Rattle.ale_base.proofs.ListLemmas.{Contains-at}
use Rattle.ale_base.proofs.MemberLemmas.{list_all-Contains}
use Rattle.ale_base.proofs.SnocLemmas.{AllByRecursion-snoc}
use Rattle.segment_defs.specs.declared.definitions.Definitions.{Definitions}
use Rattle.segment_defs.specs.declared.idoc_type.IdocType.{IdocType}
use Rattle.segment_defs.specs.declared.idoc_type.TypePlace.{TypePlace}
use Rattle.segment_defs.specs.IdocType.{entry_of as entry_of_type}
use Rattle.segment_defs.proofs.NameLemmas.{position-name}
use Rattle.dist_model.specs.declared.filter.FieldPlace.{FieldPlace}
use Rattle.dist_model.specs.declared.limits.TheConstants.{MOST_RULES}
use Rattle.dist_model.specs.declared.message.Message.{Message}
use Rattle.dist_model.specs.declared.outbound.QueueRule.{QueueRule}
use Rattle.dist_model.specs.Field.{all_fields, HasEntry, IsFieldAmong}
use Rattle.dist_model.specs.Message.{message_entries}
use Rattle.dist_model.specs.Outbound.{AreQueueRules, IsQueueRule}
use Rattle.model_keys.specs.declared.finding.Cause.TheVariants.{Wrong}
use Rattle.model_keys.specs.Finding.{◌>>=◌, at, required}
use Rattle.model_keys.specs.Each.{each}
use Rattle.model_keys.specs.Keys.{entry_of, list_of, list_or_none_at, or_else}
use Rattle.model_keys.specs.Says.{SaysListOrNone, SaysPlace}
use Rattle.model_keys.proofs.KeepsLemmas.{each-invariant, each-length, from_bind, list_or_none_at-keeps, required-ok, tested}
use Rattle.model_keys.proofs.SaysLemmas.{all-says, and_then-found, entry_of-table, list_or_none-says}
use Rattle.model_profiles.specs.declared.keys.TheConstants.{FIELD, RULE_KEYS, SEGMENT, TEXT}
use Rattle.model_profiles.specs.QueueRules.{is_queue_byte, is_rule_text, may_name, place_at, rule_field_at, rule_field_of, rule_of, rule_segment_at}
use Rattle.model_profiles.specs.QueueRules.{rule_segment_of, rules_at, text_at, text_of, type_named}
use Rattle.model_profiles.specs.Says.{SaysRule, SaysRulePlace}
use Rattle.model_profiles.specs.Values.{field_place}
use Rattle.model_profiles.proofs.ValueRules.{field_place-keeps}

-- a text of a rule is empty, or a name of a queue
queue_bytes : (text : List ℕ) → list_all is_queue_byte text ≡ true → All IsNameByte text
queue_bytes text all k d within =
    is_byte (get_or text k d) (list_all-Contains is_queue_byte text (get_or text k d) all
    (Contains-at text k (get_or text k d) (slice_get-get_or text k d within)))
  where
    is_byte : (b : ℕ) → is_queue_byte b ≡ true → IsNameByte b
    is_byte b is = let parts = and_parts (nat_le 33 b)
        (nat_le b 126) is in let low = parts.0 in let high = parts.1 in (grind (arith, nat_tests, low), grind (arith, nat_tests, high))

IsRuleText : (text : List ℕ) → is_rule_text text ≡ true → (text ≡ []) ⊎ IsQueueName text
IsRuleText [] is = inl refl
IsRuleText (byte ∷ bytes) is =
    let parts = and_parts (nat_le (length (byte ∷ bytes)) 24) (list_all is_queue_byte (byte ∷ bytes)) is in
    inr (record { least = omega arith; most = short (length (byte ∷ bytes)) parts.0; graphic = queue_bytes (byte ∷ bytes) parts.1 })
  where
    short : (n : ℕ) → nat_le n 24 ≡ true → n ≤ 24
    short n is = grind (arith, nat_tests)

text_found-keeps : (found : Option Data) (text : List ℕ) → or_else [] text_of found ≡ Ok text →
    ((text ≡ []) ⊎ IsQueueName text) × MatchOption found (text ≡ []) (λ d. as_str d ≡ Some text)
unfolding text_of
text_found-keeps None text h = let e : [] ≡ text = cc in (inl (sym e), sym e)
text_found-keeps (Some d) text h =
    let (found, t, g) = from_bind (required Wrong TEXT.now (as_str d)) (λ found. cond (is_rule_text found) (Ok found) (Err (at Wrong TEXT.now))) text h in
    let (is, e) = tested (is_rule_text found) found text (at Wrong TEXT.now) g in
    (IsRuleText text (subst (λ t. is_rule_text t ≡ true) e is), required-ok Wrong TEXT.now (as_str d) found t ∙ ap Some e)

module _ (types : List (List ℕ)) (definitions : Definitions) (entries : List TypePlace) (outmod : ℕ) (table : Members) where
  -- the segment type of a rule
  record IsRuleSegment (segment : ℕ) : Type 0 where
    entry : HasEntry entries segment
    single : outmod ≡ 4 → ⊥
    says : SaysPlace types SEGMENT.now table segment

  rule_segment_of-keeps : (d : Data) (found : Option ℕ) → get_member SEGMENT.now table ≡ Some d → rule_segment_of types entries outmod d ≡ Ok found
      → (segment : ℕ) × (found ≡ Some segment) × IsRuleSegment segment
  unfolding rule_segment_of
  rule_segment_of-keeps d found here h =
      let (segment, s, g) = from_bind (required Wrong SEGMENT.now (type_named types d))
      (λ segment. cond (may_name entries outmod segment) (Ok (Some segment)) (Err (at Wrong SEGMENT.now))) found h in
      let (may, e) = tested (may_name entries outmod segment) (Some segment) found (at Wrong SEGMENT.now) g in
      let (name, text, place) = and_then-found (λ name. position (is_text name) types) (as_str d) segment
      (required-ok Wrong SEGMENT.now (type_named types d) segment s) in
      let parts = and_parts (not (nat_eq outmod 4)) (is_some (entry_of_type entries segment)) may in
      (segment, sym e, record { entry = parts.1; single = apart outmod parts.0; says = (name, (d, here, text), position-name name types segment place) })
    where
      apart : (a : ℕ) → not (nat_eq a 4) ≡ true → a ≡ 4 → ⊥
      apart a is same = grind (arith, nat_tests)

  -- what a rule speaks of
  record IsRulePlace (place : Option FieldPlace) : Type 0 where
    is : ForSome place (λ p. IsFieldAmong definitions entries p.segment p.field)
    collected : outmod ≡ 4 → place ≡ None
    says : SaysRulePlace types definitions table place

  rule_field_of-keeps : (segment : ℕ) (found : Option FieldPlace) → IsRuleSegment segment → rule_field_of definitions segment table ≡ Ok found →
      IsRulePlace found
  unfolding rule_field_of
  rule_field_of-keeps segment found is h =
      let (d, g, h1) = from_bind (required Wrong FIELD.now (get_member FIELD.now table)) _ found h in
      let (name, n, h2) = from_bind (required Wrong FIELD.now (as_str d)) _ found h1 in
      let (place, p, h3) = from_bind (required Wrong FIELD.now (field_place definitions segment name)) _ found h2 in
      let whole : FieldPlace = record { segment = segment; field = place } in
      let e : Some whole ≡ found = cc in
      let (field, here, named) = field_place-keeps definitions segment name place
      (required-ok Wrong FIELD.now (field_place definitions segment name) place p) in
      subst IsRulePlace e (record {
        is = λ other same. let e : whole ≡ other = cc in subst (λ (p : FieldPlace). IsFieldAmong definitions entries p.segment p.field) e
            (record { entry = is.entry; field = slice_get_within (all_fields definitions segment) place field here });
        collected = λ four. absurd (is.single four);
        says = (
          is.says,
          record {
            field = field;
            here = here;
            named = (
              d,
              required-ok Wrong FIELD.now (get_member FIELD.now table) d g,
              subst (λ text. as_str d ≡ Some text) (sym named)
                  (required-ok Wrong FIELD.now (as_str d) name n),
            );
          },
        );
      })

  place_found : (segment field : Option Data) (place : Option FieldPlace) → get_member SEGMENT.now table ≡ segment → get_member FIELD.now table ≡ field
      → (rule_segment_at types entries outmod segment field >>= (λ found. rule_field_at definitions found table)) ≡ Ok place → IsRulePlace place
  place_found (Some d) field place here there h =
      let (found, s, g) = from_bind (rule_segment_of types entries outmod d) (λ found. rule_field_at definitions found table) place h in
      let (segment, e, is) = rule_segment_of-keeps d found here s in
      rule_field_of-keeps segment place is (subst (λ o. rule_field_at definitions o table ≡ Ok place) e g)
  place_found None (Some d) place here there h = absurd (cc)
  place_found None None place here there h =
      let e : None ≡ place = cc in
      subst IsRulePlace e (record { is = λ other same. absurd (cc); collected = λ four. refl; says = (here, there) })

  place_at-keeps : (place : Option FieldPlace) → place_at types definitions entries outmod table ≡ Ok place → IsRulePlace place
  unfolding place_at
  place_at-keeps place h = place_found (get_member SEGMENT.now table) (get_member FIELD.now table) place refl refl h

module _ (types : List (List ℕ)) (definitions : Definitions) (idoc_types : List IdocType) (messages : List Message) (message outmod : ℕ) where
  rule_of-keeps : (before : List QueueRule) (d : Data) (rule : QueueRule) → rule_of types definitions (message_entries idoc_types messages message) outmod d
      ≡ Ok rule
      → IsQueueRule definitions idoc_types messages message outmod rule × SaysRule types definitions before d rule
  unfolding rule_of text_at
  rule_of-keeps before d rule h =
      let entries = message_entries idoc_types messages message in
      let (table, t, h1) = from_bind (entry_of (map (λ key. key.now) RULE_KEYS) d) _ rule h in
      let (text, x, h2) = from_bind (or_else [] text_of (get_member TEXT.now table)) _ rule h1 in
      let (place, p, h3) = from_bind (place_at types definitions entries outmod table) _ rule h2 in
      let e : ◌≡◌ {A = QueueRule} (record { text = text; place = place }) rule = cc in
      let (is_text_of, says_text) = text_found-keeps (get_member TEXT.now table) text x in
      let is = place_at-keeps types definitions entries outmod table place p in
      subst (λ (r : QueueRule). IsQueueRule definitions idoc_types messages message outmod r × SaysRule types definitions before d r) e (
        record { text = is_text_of; place = is.is; collected = is.collected },
        record { table = table; is = entry_of-table (map (λ key. key.now) RULE_KEYS) d table t; text = says_text; place = is.says },
      )

  pub rules_at-keeps : (key : List ℕ) (table : Members) (rules : List QueueRule) →
      rules_at types definitions (message_entries idoc_types messages message) outmod key table ≡ Ok rules
      → AreQueueRules definitions idoc_types messages message outmod rules × SaysListOrNone (SaysRule types definitions) key table rules
  unfolding rules_at list_or_none_at
  rules_at-keeps key table rules h =
      let read = λ (done : List QueueRule) (d : Data). rule_of types definitions (message_entries idoc_types messages message) outmod d in
      let (ds, l, g) = from_bind (or_else no_items (list_of MOST_RULES key) (get_member key table)) (λ ds. each key read 0 [] ds) rules h in
      let long = each-length key read 0 [] ds rules g in
      let most = list_or_none_at-keeps MOST_RULES key table ds l in (
        record {
          few = omega (arith, long, most);
          each = each-invariant key read (AllByRecursion (IsQueueRule definitions idoc_types messages message outmod))
              (λ done d rule so_far is. AllByRecursion-snoc (IsQueueRule definitions idoc_types messages message outmod) done rule so_far
              (rule_of-keeps done d rule is).0)
              0 [] ds rules tt g;
        },
        (
          ds,
          list_or_none-says MOST_RULES key (get_member key table) ds l,
          all-says key read (SaysRule types definitions)
              (λ done d rule is. (rule_of-keeps done d rule is).1) ds rules g,
        ),
      )
