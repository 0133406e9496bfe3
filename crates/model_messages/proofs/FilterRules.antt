-- Filters that were read keep their rules, and are what the text says.
use Rattle.std.specs.Prelude.{slice_get, is_some}
use Rattle.std.specs.List.{AllByRecursion, IsDistinct, list_any}
use Rattle.std.proofs.Common.{◌≡◌, ℕ, ◌&&◌, nat_eq, Bool, true, false, cond, Some, Ok, Err, List, [], ◌∷◌, ◌++◌, map, refl, sym, subst, arith}
use Rattle.std.proofs.lemmas.Option.{slice_get_within}
use Rattle.toml.specs.Data.{Data, Items, Members, get_member}
use Rattle.ale_base.specs.Text.{is_text}
use Rattle.ale_base.proofs.SnocLemmas.{AllByRecursion-snoc}
use Rattle.segment_defs.specs.declared.limits.TheConstants.{LONGEST_NAME}
use Rattle.segment_defs.specs.declared.definitions.Definitions.{Definitions}
use Rattle.segment_defs.specs.declared.idoc_type.IdocType.{IdocType}
use Rattle.segment_defs.specs.declared.idoc_type.TypePlace.{TypePlace}
use Rattle.segment_defs.specs.IdocType.{entry_of as entry_of_type}
use Rattle.segment_defs.specs.Name.{is_name_within}
use Rattle.segment_defs.proofs.NameLemmas.{IsName_decided}
use Rattle.dist_model.specs.declared.filter.Filter.{Filter}
use Rattle.dist_model.specs.declared.limits.TheConstants.{MOST_FILTERS}
use Rattle.dist_model.specs.declared.message.Message.{Message}
use Rattle.dist_model.specs.Field.{all_fields, HasEntry}
use Rattle.dist_model.specs.Filter.{is_filter, same_filter, AreFilters, IsFilter}
use Rattle.dist_model.specs.Message.{entries_at, message_entries, message_names}
use Rattle.dist_model.specs.Model.{type_names}
use Rattle.dist_model.proofs.DistinctLemmas.{is_text-symmetric, nat_eq-symmetric, IsDistinct-push, Symmetric}
use Rattle.model_keys.specs.declared.finding.Cause.TheVariants.{Twice, Wrong}
use Rattle.model_keys.specs.Finding.{at}
use Rattle.model_keys.specs.Each.{each}
use Rattle.model_keys.specs.Keys.{entry_of, list_or_none_at, name_at, segment_type_at}
use Rattle.model_keys.specs.Says.{HasText, SaysListOrNone, SaysPlace}
use Rattle.model_keys.proofs.KeepsLemmas.{each-invariant, each-length, from_bind, list_or_none_at-keeps, name_at-keeps, segment_type_at-keeps}
use Rattle.model_keys.proofs.KeepsLemmas.{tested, untested}
use Rattle.model_keys.proofs.SaysLemmas.{all-says, entry_of-table, list_or_none-says}
use Rattle.model_messages.specs.declared.keys.TheConstants.{FIELD, FILTER, FILTER_KEYS, MESSAGE, NAME, SEGMENT}
use Rattle.model_keys.specs.Fields.{field_at}
use Rattle.model_messages.specs.Filters.{filter_of, filters_at, head_at, type_among_at, filters_of}
use Rattle.model_messages.specs.Says.{SaysFilter}
use Rattle.model_messages.specs.Things.{thing_at}
use Rattle.model_keys.proofs.FieldLemmas.{field_at-keeps, field_there}
use Rattle.model_messages.proofs.ThingLemmas.{read_same, thing_at-keeps}

-- the name and the message type of a filter
record IsHead (messages : List Message) (filters : List Filter) (table : Members) (name : List ℕ) (place : ℕ) (message : Message) : Type 0 where
  text : HasText NAME.now table name
  named : is_name_within LONGEST_NAME name ≡ true
  says : SaysPlace (message_names messages) MESSAGE.now table place
  here : slice_get messages place ≡ Some message
  new : list_any (is_filter place name) filters ≡ false

head_at-keeps : (messages : List Message) (filters : List Filter) (table : Members) (head : List ℕ × (ℕ × Message)) → head_at messages filters table ≡ Ok head
    → IsHead messages filters table head.0 head.1.0 head.1.1
unfolding head_at
head_at-keeps messages filters table head h =
    let (name, n, h1) = from_bind (name_at LONGEST_NAME NAME.now table) _ head h in
    let (message, m, h2) = from_bind (thing_at MESSAGE.now (message_names messages) messages table) _ head h1 in
    let (new, e) = untested (list_any (is_filter message.0 name) filters) (name, message) head (at Twice NAME.now) h2 in
    let named = name_at-keeps LONGEST_NAME NAME.now table name n in
    let (says, here) = thing_at-keeps MESSAGE.now (message_names messages) messages table message m in
    subst (λ (head : List ℕ × (ℕ × Message)). IsHead messages filters table head.0 head.1.0 head.1.1) e
    (record { text = named.0; named = named.1; says = says; here = here; new = new })

type_among_at-keeps : (definitions : Definitions) (entries : List TypePlace) (table : Members) (segment : ℕ) →
    type_among_at definitions entries table ≡ Ok segment
    → SaysPlace (type_names definitions.types) SEGMENT.now table segment × HasEntry entries segment
unfolding type_among_at
type_among_at-keeps definitions entries table segment h =
    let names = type_names definitions.types in
    let (number, s, g) = from_bind (segment_type_at SEGMENT.now names table)
    (λ number. cond (is_some (entry_of_type entries number)) (Ok number) (Err (at Wrong SEGMENT.now))) segment h in
    let (is, e) = tested (is_some (entry_of_type entries number)) number segment (at Wrong SEGMENT.now) g in
    subst (λ k. SaysPlace names SEGMENT.now table k × HasEntry entries k) e (segment_type_at-keeps SEGMENT.now names table number s, is)

-- one more filter behind others
record IsNextFilter (definitions : Definitions) (types : List IdocType) (messages : List Message) (before : List Filter) (d : Data)
    (filter : Filter) : Type 0 where
  is : IsFilter definitions types messages filter
  new : list_any (same_filter filter) before ≡ false
  says : SaysFilter definitions messages before d filter

filter_of-keeps : (definitions : Definitions) (types : List IdocType) (messages : List Message) (before : List Filter) (d : Data) (filter : Filter)
    → filter_of definitions types messages before d ≡ Ok filter → IsNextFilter definitions types messages before d filter
unfolding filter_of
filter_of-keeps definitions types messages before d filter h =
    let (table, t, h1) = from_bind (entry_of (map (λ key. key.now) FILTER_KEYS) d) _ filter h in
    let (head, a, h2) = from_bind (head_at messages before table) _ filter h1 in
    let (segment, s, h3) = from_bind (type_among_at definitions (entries_at types head.1.1.idoctype) table) _ filter h2 in
    let (field, f, h4) = from_bind (field_at FIELD.now (all_fields definitions segment) table) _ filter h3 in
    let e : ◌≡◌ {A = Filter} (record { name = head.0; message = head.1.0; segment = segment; field = field }) filter = read_same _ filter h4 in
    let is = head_at-keeps messages before table head a in
    let typed = type_among_at-keeps definitions (entries_at types head.1.1.idoctype) table segment s in
    let named = field_at-keeps FIELD.now (all_fields definitions segment) table field f in
    let entries : message_entries types messages head.1.0 ≡ entries_at types head.1.1.idoctype = rw is.here refl in
    subst (IsNextFilter definitions types messages before d) e (record {
      is = record {
        named = (IsName_decided head.0).0 is.named;
        known = slice_get_within messages head.1.0 head.1.1 is.here;
        place = record {
          entry = subst (λ es. HasEntry es segment) (sym entries) typed.1;
          field = field_there (all_fields definitions segment) named.0 field named.2;
        };
      };
      new = is.new;
      says = record {
        table = table;
        is = entry_of-table (map (λ key. key.now) FILTER_KEYS) d table t;
        name = is.text;
        message = is.says;
        segment = typed.0;
        field = named;
      };
    })

both_false : (a b c d : Bool) → (a ≡ false → c ≡ false) → (b ≡ false → d ≡ false) → (a && b) ≡ false → (c && d) ≡ false
both_false true true c d first second h = absurd (cc)
both_false true false c d first second h = rw (second refl) (right c)
  where
    right : (c : Bool) → (c && false) ≡ false
    right true = refl
    right false = refl
both_false false b c d first second h = rw (first refl) refl

same_filter-symmetric : Symmetric same_filter
same_filter-symmetric a b differs =
    both_false (nat_eq a.message b.message) (is_text a.name b.name) (nat_eq b.message a.message) (is_text b.name a.name) (nat_eq-symmetric a.message b.message)
    (is_text-symmetric a.name b.name) differs

-- what filters are, so far
record AreFiltersSoFar (definitions : Definitions) (types : List IdocType) (messages : List Message) (filters : List Filter) : Type 0 where
  each : AllByRecursion (IsFilter definitions types messages) filters
  apart : IsDistinct same_filter filters

filters-push : (definitions : Definitions) (types : List IdocType) (messages : List Message) (before : List Filter) (d : Data) (filter : Filter) →
    AreFiltersSoFar definitions types messages before
    → IsNextFilter definitions types messages before d filter → AreFiltersSoFar definitions types messages (before ++ filter ∷ [])
filters-push definitions types messages before d filter are next = record {
  each = AllByRecursion-snoc (IsFilter definitions types messages) before filter are.each next.is;
  apart = IsDistinct-push same_filter same_filter-symmetric before filter are.apart next.new;
}

-- filters that were read keep the rules of filters
pub filters_at-keeps : (definitions : Definitions) (types : List IdocType) (messages : List Message) (table : Members) (filters : List Filter) →
    filters_at definitions types messages table ≡ Ok filters
    → AreFilters definitions types messages filters
unfolding filters_at IsDistinct
filters_at-keeps definitions types messages table filters h =
    let read = λ (done : List Filter) (d : Data). filter_of definitions types messages done d in
    let (ds, l, g) = from_bind (list_or_none_at MOST_FILTERS FILTER.now table) (λ ds. each FILTER.now read 0 [] ds) filters h in
    let long = each-length FILTER.now read 0 [] ds filters g in
    let few = list_or_none_at-keeps MOST_FILTERS FILTER.now table ds l in
    let are = each-invariant FILTER.now read (AreFiltersSoFar definitions types messages)
    (λ done d filter so_far is. filters-push definitions types messages done d filter so_far (filter_of-keeps definitions types messages done d filter is))
    0 [] ds filters (record { each = tt; apart = tt }) g in
    record { few = omega (arith, long, few); each = are.each; apart = are.apart }

-- and are what the text says
pub filters_at-says : (definitions : Definitions) (types : List IdocType) (messages : List Message) (table : Members) (filters : List Filter) →
    filters_at definitions types messages table ≡ Ok filters
    → SaysListOrNone (SaysFilter definitions messages) FILTER.now table filters
unfolding filters_at list_or_none_at
filters_at-says definitions types messages table filters h =
    let read = λ (done : List Filter) (d : Data). filter_of definitions types messages done d in
    let (ds, l, g) = from_bind (list_or_none_at MOST_FILTERS FILTER.now table) (λ ds. each FILTER.now read 0 [] ds) filters h in (
      ds,
      list_or_none-says MOST_FILTERS FILTER.now (get_member FILTER.now table) ds l,
      all-says FILTER.now read (SaysFilter definitions messages) (λ done d filter is. (filter_of-keeps definitions types messages done d filter is).says) ds
          filters g,
    )

-- the list at the key is the one that is read
pub filters_at-list : (definitions : Definitions) (types : List IdocType) (messages : List Message) (table : Members) (ds : Items) →
    list_or_none_at MOST_FILTERS FILTER.now table ≡ Ok ds → filters_at definitions types messages table ≡ filters_of definitions types messages ds
unfolding filters_at
filters_at-list definitions types messages table ds is = rw is refl
