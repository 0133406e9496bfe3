-- Rows that were read keep their rules, and are what their text says.
use Rattle.std.specs.Prelude.{codes, slice_get}
use Rattle.std.specs.List.{AllByRecursion, IsDistinct, list_any}
use Rattle.std.proofs.Common.{◌≡◌, ℕ, ◌≤◌, nat_eq, true, false, List, [], ◌∷◌, ◌++◌, length, map, position, Option, Some, Ok, sym, ap, subst, ◌∙◌, append_assoc}
use Rattle.std.proofs.Common.{append-nil, arith}
use Rattle.std.specs.Cmp.Lexicographic.{bytes_decides}
use Rattle.std.specs.Option.{option_map_or}
use Rattle.std.proofs.lemmas.Bool.{and_parts}
use Rattle.std.proofs.lemmas.Bool.Decides.{nat_tests}
use Rattle.std.proofs.lemmas.List.{map_push, length-map}
use Rattle.toml.specs.Data.{Data, Items, no_items, Members, no_members, member, get_member, as_table}
use Rattle.ale_base.specs.Text.{is_text}
use Rattle.ale_base.proofs.ListLemmas.{AllByRecursion-at}
use Rattle.ale_base.proofs.SnocLemmas.{AllByRecursion-snoc}
use Rattle.dist_model.proofs.DistinctLemmas.{IsDistinct-push, same_triple-symmetric}
use Rattle.segment_defs.specs.declared.definitions.Definitions.{Definitions}
use Rattle.segment_defs.specs.declared.idoc_type.IdocType.{IdocType}
use Rattle.dist_model.specs.declared.limits.TheConstants.{MOST_GROUPS, MOST_ROWS, MOST_VALUES}
use Rattle.dist_model.specs.declared.filter.Filter.{Filter}
use Rattle.dist_model.specs.declared.message.Message.{Message}
use Rattle.dist_model.specs.declared.row.Choice.{Choice}
use Rattle.dist_model.specs.declared.row.Group.{Group}
use Rattle.dist_model.specs.declared.row.Row.{Row}
use Rattle.dist_model.specs.declared.system.System.{System}
use Rattle.dist_model.specs.Field.{IsFilterValueOf}
use Rattle.dist_model.specs.Filter.{is_filter, AreFilters, IsFilter}
use Rattle.dist_model.specs.Message.{message_names}
use Rattle.dist_model.specs.Model.{system_names}
use Rattle.dist_model.specs.Row.{AreRows, IsChoice, IsGroup, IsRow}
use Rattle.dist_model.specs.Way.{row_way, same_way, Way}
use Rattle.model_keys.specs.declared.finding.Cause.TheVariants.{Unknown, Wrong}
use Rattle.model_keys.specs.Finding.{required}
use Rattle.model_keys.specs.Each.{each}
use Rattle.model_keys.specs.Keys.{entry_of, list_of, list_or_none_at, or_else, table_of}
use Rattle.model_keys.specs.Says.{OneForOne, SaysListOrNone}
use Rattle.model_keys.proofs.KeepsLemmas.{each-invariant, each-length, from_bind, list_of-keeps, list_or_none_at-keeps, required-ok}
use Rattle.model_keys.proofs.SaysLemmas.{all-says, entry_of-table, list_or_none-says}
use Rattle.model_profiles.specs.declared.keys.TheConstants.{GROUP, ROW, ROW_KEYS}
use Rattle.model_profiles.specs.Rows.{choice_of, choices_of, filter_named, filter_width, group_of, groups_at, row_of, row_ways, rows_at, values_of}
use Rattle.model_profiles.specs.Says.{SaysChoice, SaysChoices, SaysFilterValue, SaysGroup, SaysRow}
use Rattle.model_profiles.specs.Values.{field_length, filter_value_of}
use Rattle.model_profiles.specs.Ways.{new_way_at}
use Rattle.model_profiles.proofs.ValueRules.{filter_value_of-keeps, IsFilterValueOf-read, position-found}
use Rattle.model_profiles.proofs.WayRules.{new_way_at-keeps}

-- the filter that a key of a group names
record IsNamedFilter (filters : List Filter) (message : ℕ) (key : List ℕ) (place : ℕ) : Type 0 where
  filter : Filter
  here : slice_get filters place ≡ Some filter
  own : filter.message ≡ message
  named : filter.name ≡ key

filter_named-keeps : (filters : List Filter) (message : ℕ) (key : List ℕ) (place : ℕ) → filter_named filters message key ≡ Ok place →
    IsNamedFilter filters message key place
unfolding filter_named
filter_named-keeps filters message key place h =
    let (filter, here, is) = position-found (is_filter message key) filters place
    (required-ok Unknown (codes "." ++ key) (position (is_filter message key) filters) place h) in
    let parts = and_parts (nat_eq message filter.message) (is_text key filter.name) is in
    record { filter = filter; here = here; own = same message filter.message parts.0; named = sym ((bytes_decides key filter.name).0 parts.1) }
  where
    same : (a b : ℕ) → nat_eq a b ≡ true → b ≡ a
    same a b is = grind (arith, nat_tests)

-- values that were read, of a field
values_of-says : (width : ℕ) (key : List ℕ) (ds : Items) (values : List (List ℕ)) → values_of width key ds ≡ Ok values → OneForOne SaysFilterValue [] ds values
values_of-says width key ds values h =
    all-says key (λ (done : List (List ℕ)) (d : Data). filter_value_of width d) SaysFilterValue
    (λ done d value is. (filter_value_of-keeps done width d value is).0) ds values h

module _ (definitions : Definitions) (types : List IdocType) (messages : List Message) (filters : List Filter)
    (are : AllByRecursion (IsFilter definitions types messages) filters) (message : ℕ) where
  -- a condition that was read
  record IsReadChoice (key : List ℕ) (d : Data) (choice : Choice) : Type 0 where
    is : IsChoice definitions filters message choice
    says : SaysChoice filters message key d choice

  choice_of-keeps : (key : List ℕ) (d : Data) (choice : Choice) → choice_of definitions filters message key d ≡ Ok choice → IsReadChoice key d choice
  unfolding choice_of
  choice_of-keeps key d choice h =
      let (place, p, h1) = from_bind (filter_named filters message key) _ choice h in
      let (ds, l, h2) = from_bind (list_of MOST_VALUES key d) _ choice h1 in
      let (values, v, h3) = from_bind (values_of (filter_width definitions filters place) key ds) _ choice h2 in
      let e : ◌≡◌ {A = Choice} (record { filter = place; values = values }) choice = cc in
      let named = filter_named-keeps filters message key place p in
      let list = list_of-keeps MOST_VALUES key d ds l in
      let filter = named.filter in
      let place_is = (AllByRecursion-at (IsFilter definitions types messages) filters place filter are named.here).place in
      let read = λ (done : List (List ℕ)) (d : Data). filter_value_of (filter_width definitions filters place) d in
      let width : filter_width definitions filters place ≡ filter_length filter = ap (λ (o : Option Filter). option_map_or filter_length o 0) named.here in
      let long = each-length key read 0 [] ds values v in
      subst (IsReadChoice key d) e (record {
        is = record {
          filter = filter;
          known = named.here;
          own = named.own;
          few = omega (arith, long, list.1);
          values = each-invariant key read (AllByRecursion (IsFilterValueOf definitions filter.segment filter.field))
              (λ done d value so_far is. let (says, fits, blank) = filter_value_of-keeps done (filter_width definitions filters place) d value is in
              AllByRecursion-snoc (IsFilterValueOf definitions filter.segment filter.field) done value so_far
              (IsFilterValueOf-read definitions filter.segment filter.field value place_is.field (subst (λ n. length value ≤ n) width fits) blank))
              0 [] ds values tt v;
        };
        says = record {
          filter = filter;
          here = named.here;
          own = named.own;
          named = named.named;
          list = ds;
          is = list.0;
          values = values_of-says
              (filter_width definitions filters place) key ds values v;
        };
      })
    where
      filter_length : Filter → ℕ
      filter_length filter = field_length definitions filter.segment filter.field

  -- what the conditions so far are
  abbrev AreChoices : List Choice → Type 0
  AreChoices choices = AllByRecursion (IsChoice definitions filters message) choices

  choices_of-keeps : (done : List Choice) (table : Members) (all : List Choice) → AreChoices done → choices_of definitions filters message done table ≡ Ok all
      → AreChoices all × ((more : List Choice) × (all ≡ done ++ more) × SaysChoices filters message table more)
  unfolding choices_of
  choices_of-keeps done no_members all so_far h = let e : done ≡ all = cc in (subst AreChoices e so_far, ([], sym e ∙ sym (append-nil done), tt))
  choices_of-keeps done (member key d rest) all so_far h =
      let (choice, c, g) = from_bind (choice_of definitions filters message key d) _ all h in
      let next = choice_of-keeps key d choice c in
      let pushed : AreChoices (done ++ choice ∷ []) = AllByRecursion-snoc (IsChoice definitions filters message) done choice so_far next.is in
      let (are_all, (more, e, says)) = choices_of-keeps (done ++ choice ∷ []) rest all pushed g in
      (are_all, (choice ∷ more, e ∙ append_assoc done (choice ∷ []) more, (next.says, says)))

  group_of-keeps : (before : List Group) (d : Data) (group : Group) → group_of definitions filters message d ≡ Ok group →
      IsGroup definitions filters message group × SaysGroup filters message before d group
  unfolding group_of table_of
  group_of-keeps before d group h =
      let (table, t, h1) = from_bind (required Wrong [] (as_table d)) _ group h in
      let (choices, c, h2) = from_bind (choices_of definitions filters message [] table) _ group h1 in
      let e : ◌≡◌ {A = Group} (record { choices = choices }) group = cc in
      let (kept, (more, same, says)) = choices_of-keeps [] table choices tt c in
      subst (λ (g : Group). IsGroup definitions filters message g × SaysGroup filters message before d g) e (
        kept,
        record { table = table; is = required-ok Wrong [] (as_table d) table t; choices = subst (SaysChoices filters message table) (sym same) says },
      )

  -- the groups of a row
  record AreGroups (table : Members) (groups : List Group) : Type 0 where
    few : length groups ≤ MOST_GROUPS
    each_is : AllByRecursion (IsGroup definitions filters message) groups
    says : SaysListOrNone (SaysGroup filters message) GROUP.now table groups

  groups_at-keeps : (table : Members) (groups : List Group) → groups_at definitions filters message table ≡ Ok groups → AreGroups table groups
  unfolding groups_at list_or_none_at
  groups_at-keeps table groups h =
      let read = λ (done : List Group) (d : Data). group_of definitions filters message d in
      let (ds, l, g) = from_bind (or_else no_items (list_of MOST_GROUPS GROUP.now) (get_member GROUP.now table)) (λ ds. each GROUP.now read 0 [] ds) groups h in
      let long = each-length GROUP.now read 0 [] ds groups g in
      let most = list_or_none_at-keeps MOST_GROUPS GROUP.now table ds l in record {
        few = omega (arith, long, most);
        each_is = each-invariant GROUP.now read (AllByRecursion (IsGroup definitions filters message))
            (λ done d group so_far is. AllByRecursion-snoc (IsGroup definitions filters message) done group so_far (group_of-keeps done d group is).0)
            0 [] ds groups tt g;
        says = (
          ds,
          list_or_none-says MOST_GROUPS GROUP.now (get_member GROUP.now table) ds l,
          all-says GROUP.now read (SaysGroup filters message) (λ done d group is. (group_of-keeps done d group is).1) ds groups g,
        );
      }

module _ (systems messages_named : List (List ℕ)) (definitions : Definitions) (types : List IdocType) (messages : List Message) (filters : List Filter)
    (are : AllByRecursion (IsFilter definitions types messages) filters) where
  -- one more row
  record IsNextRow (before : List Row) (ways : List Way) (d : Data) (row : Row) : Type 0 where
    is : IsRow (length systems) (length messages_named) definitions filters row
    new : list_any (same_way (row_way row)) ways ≡ false
    says : SaysRow systems messages_named filters before d row

  row_of-keeps : (before : List Row) (ways : List Way) (d : Data) (row : Row) → row_of systems definitions messages_named filters ways d ≡ Ok row →
      IsNextRow before ways d row
  unfolding row_of
  row_of-keeps before ways d row h =
      let (table, t, h1) = from_bind (entry_of (map (λ key. key.now) ROW_KEYS) d) _ row h in
      let (way, w, h2) = from_bind (new_way_at systems messages_named ways table) _ row h1 in
      let (groups, g, h3) = from_bind (groups_at definitions filters way.2 table) _ row h2 in
      let e : ◌≡◌ {A = Row} (record { sender = way.0; receiver = way.1; message = way.2; group = groups }) row = cc in
      let (read, new) = new_way_at-keeps systems messages_named ways table way w in
      let kept = groups_at-keeps definitions types messages filters are way.2 table groups g in
      subst (IsNextRow before ways d) e (record {
        is = record { way = read.is; few = kept.few; groups = kept.each_is };
        new = new;
        says = record { table = table; is = entry_of-table (map (λ key. key.now) ROW_KEYS) d table t; way = read.says; groups = kept.says };
      })

  -- what the rows so far are
  abbrev AreRowsSoFar : List Row → Type 0
  AreRowsSoFar rows = AllByRecursion (IsRow (length systems) (length messages_named) definitions filters) rows × IsDistinct same_way (row_ways rows)

  rows_at-kept : (table : Members) (rows : List Row) → rows_at systems definitions messages_named filters table ≡ Ok rows
      → AreRows (length systems) (length messages_named) definitions filters rows × SaysListOrNone (SaysRow systems messages_named filters) ROW.now table rows
  unfolding rows_at list_or_none_at IsDistinct
  rows_at-kept table rows h =
      let read = λ (done : List Row) (d : Data). row_of systems definitions messages_named filters (row_ways done) d in
      let (ds, l, g) = from_bind (or_else no_items (list_of MOST_ROWS ROW.now) (get_member ROW.now table)) (λ ds. each ROW.now read 0 [] ds) rows h in
      let long = each-length ROW.now read 0 [] ds rows g in
      let most = list_or_none_at-keeps MOST_ROWS ROW.now table ds l in
      let kept = each-invariant ROW.now read AreRowsSoFar
      (λ done d row so_far is. let next = row_of-keeps done (row_ways done) d row is in (
        AllByRecursion-snoc (IsRow (length systems) (length messages_named) definitions filters) done row so_far.0 next.is,
        subst (IsDistinct same_way) (sym (map_push (λ (r : Row). row_way r) done row))
            (IsDistinct-push same_way same_triple-symmetric (row_ways done) (row_way row) so_far.1 next.new),
      ))
      0 [] ds rows (tt, tt) g in (
        record { few = omega (arith, long, most); each = kept.0; apart = kept.1 },
        (
          ds,
          list_or_none-says MOST_ROWS ROW.now (get_member ROW.now table) ds l,
          all-says ROW.now read (SaysRow systems messages_named filters) (λ done d row is. (row_of-keeps done (row_ways done) d row is).says) ds rows g,
        ),
      )

-- rows that were read keep their rules
pub rows_at-keeps : (systems : List System) (definitions : Definitions) (types : List IdocType) (messages : List Message) (filters : List Filter)
    (table : Members) (rows : List Row)
    → AreFilters definitions types messages filters → rows_at (system_names systems) definitions (message_names messages) filters table ≡ Ok rows
    → AreRows (length systems) (length messages) definitions filters rows
rows_at-keeps systems definitions types messages filters table rows are h =
    subst (λ n. AreRows n (length messages) definitions filters rows) (length-map systems (λ (s : System). s.name))
    (subst (λ n. AreRows (length (system_names systems)) n definitions filters rows) (length-map messages (λ (m : Message). m.name))
    (rows_at-kept (system_names systems) (message_names messages) definitions types messages filters are.each table rows h).0)

-- and are what the text says
pub rows_at-says : (systems messages_named : List (List ℕ)) (definitions : Definitions) (types : List IdocType) (messages : List Message)
    (filters : List Filter) (table : Members) (rows : List Row)
    → AreFilters definitions types messages filters → rows_at systems definitions messages_named filters table ≡ Ok rows
    → SaysListOrNone (SaysRow systems messages_named filters) ROW.now table rows
rows_at-says systems messages_named definitions types messages filters table rows are h =
    (rows_at-kept systems messages_named definitions types messages filters are.each table rows h).1
