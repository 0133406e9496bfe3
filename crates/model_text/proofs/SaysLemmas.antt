-- A model that was read is what its text says, section by section.
use Rattle.std.specs.Prelude.{slice_get, MatchOption}
use Rattle.std.specs.List.{flat_map, list_any}
use Rattle.std.specs.Cmp.Lexicographic.{bytes_decides}
use Rattle.std.proofs.Common.{◌≡◌, ℕ, pos, suc, ◌+◌, ◌-◌, ◌^◌, ◌==◌, ◌&&◌, nat_eq, nat_le, nat_lt, Bool, true, false, cond, Option, Some, None, Ok, Err, List}
use Rattle.std.proofs.Common.{[], ◌∷◌, ◌++◌, length, map, take, drop, get_or, position, decimal, sym, ap, subst, ◌∙◌, drop-cons, arith}
use Rattle.std.proofs.lemmas.Bool.{and_parts}
use Rattle.std.proofs.lemmas.Bool.Decides.{nat_tests}
use Rattle.std.proofs.lemmas.List.{take-append-drop}
use Rattle.std.proofs.lemmas.List.Quantifiers.{position-Some}
use Rattle.toml.specs.Data.{Data, Items, no_items, Members, get_member, as_str, as_integer, as_bool}
use Rattle.ale_base.specs.Text.{is_text}
use Rattle.segment_defs.specs.declared.limits.TheConstants.{LONGEST_NAME, MOST_BYTES, MOST_FIELDS, MOST_LEVELS, MOST_TIMES, MOST_TYPES, MOST_VERSIONS}
use Rattle.segment_defs.specs.declared.field.Field.{Field}
use Rattle.segment_defs.specs.declared.version.Version.{Version}
use Rattle.segment_defs.specs.declared.segment_type.SegmentType.{SegmentType}
use Rattle.segment_defs.specs.declared.idoc_type.TypePlace.{TypePlace}
use Rattle.segment_defs.specs.declared.idoc_type.IdocType.{IdocType}
use Rattle.segment_defs.specs.Definitions.{names_of}
use Rattle.segment_defs.specs.IdocType.{open_level}
use Rattle.segment_defs.specs.Version.{width_of}
use Rattle.segment_defs.proofs.NameLemmas.{position-name}
use Rattle.dist_model.specs.declared.limits.TheConstants.{LONGEST_RELEASE, LONGEST_SYSTEM, MOST_ENTRIES, MOST_FUNCTIONS, MOST_IDOC_TYPES, MOST_RELEASES}
use Rattle.dist_model.specs.declared.limits.TheConstants.{MOST_SYSTEMS}
use Rattle.dist_model.specs.declared.system.System.{System}
use Rattle.dist_model.specs.declared.lists.Lists.{Lists}
use Rattle.dist_model.specs.Message.{message_names}
use Rattle.dist_model.specs.Model.{idoc_type_names, system_names}
use Rattle.model_keys.specs.declared.finding.Cause.TheVariants.{Limit, Twice, Wrong}
use Rattle.model_keys.specs.Finding.{◌>>=◌, at, check, required}
use Rattle.model_keys.specs.Each.{each}
use Rattle.model_keys.specs.Keys.{any_list_at, bool_of, bool_or_at, entry_of, list_of, list_or_none_at, new_name, new_name_at, new_name_of, new_segment_name_at}
use Rattle.model_keys.specs.Keys.{number_of, only_known, or_else, reference_at, segment_type_at, some_list_at}
use Rattle.model_keys.proofs.KeepsLemmas.{from_bind, list_of-keeps, name_of-keeps, new_name-keeps, new_name_at-keeps, new_name_of-keeps}
use Rattle.model_keys.proofs.KeepsLemmas.{new_segment_name_at-keeps, number_of-keeps, reference_at-keeps, required-ok, segment_type_at-keeps}
use Rattle.model_keys.proofs.KeepsLemmas.{some_list_at-keeps, tested, untested}
use Rattle.model_text.specs.declared.keys.TheConstants.{ADDS, CLIENT, ENTRY_KEYS, FILTER, FUNCTIONS, IDOCTYPE, IDOCTYPE_KEYS, INBOUND, KIND, MANDATORY, MAX}
use Rattle.model_text.specs.declared.keys.TheConstants.{MESSAGE, MIN, NAME, OUTBOUND, PARENT, REDUCED, RELEASE, RELEASES, ROW, SEGMENT, SEGMENT_KEYS}
use Rattle.model_text.specs.declared.keys.TheConstants.{STANDARD_CLIENT, STANDARD_FUNCTION, SYSTEM, SYSTEM_KEYS, TOP_KEYS, TYPE, VERSION, VERSION_KEYS}
use Rattle.model_text.specs.Releases.{releases_at}
use Rattle.model_text.specs.Systems.{client_at, client_in, client_of, function_list, function_of, functions_at, system_of, systems_at}
use Rattle.model_text.specs.Fields.{field_names, field_of, fields_of, parts_of}
use Rattle.dist_model.specs.Field.{last_fields}
use Rattle.dist_model.specs.Model.{type_names}
use Rattle.model_text.specs.Segments.{is_later, release_at, segment_of, segments_at, version_names, version_of, versions_of}
use Rattle.model_text.specs.Entries.{entries_of, entry_types, greatest_at, max_at, min_at, min_of, new_type_at, open_place, parent_at, parent_of, parent_place}
use Rattle.model_text.specs.Entries.{root_of, some_parent, times_at, type_place_of}
use Rattle.model_text.specs.IdocTypes.{idoc_type_of, idoc_types_at}
use Rattle.model_messages.specs.Kinds.{kinds_at}
use Rattle.model_messages.specs.Messages.{messages_at}
use Rattle.model_messages.specs.Reduced.{reduced_at}
use Rattle.model_messages.specs.Filters.{filters_at}
use Rattle.model_messages.specs.Says.{SaysFilter, SaysKind, SaysMessage, SaysReduced}
use Rattle.model_messages.proofs.KindRules.{kinds_at-says}
use Rattle.model_messages.proofs.MessageRules.{messages_at-says}
use Rattle.model_messages.proofs.ReducedRules.{reduced_at-says}
use Rattle.model_messages.proofs.FilterRules.{filters_at-says}
use Rattle.model_profiles.specs.Rows.{rows_at}
use Rattle.model_profiles.specs.Outbound.{outbound_at}
use Rattle.model_profiles.specs.Inbound.{inbound_at}
use Rattle.model_profiles.specs.Says.{SaysInbound, SaysOutbound, SaysRow}
use Rattle.model_profiles.proofs.RowRules.{rows_at-says}
use Rattle.model_profiles.proofs.OutboundRules.{outbound_at-says}
use Rattle.model_profiles.proofs.InboundRules.{inbound_at-says}
use Rattle.model_text.specs.Profiled.{all_profiled}
use Rattle.model_text.specs.Whole.{all_whole}
use Rattle.model_text.specs.declared.basics.Basics.{Basics}
use Rattle.model_text.specs.declared.subjects.Subjects.{Subjects}
use Rattle.model_text.specs.declared.traffic.Traffic.{Traffic}
use Rattle.model_text.specs.Rules.{AreSubjects, IsBasics}
use Rattle.model_text.specs.Model.{basics, basics_of, lists, model_of, subjects, subjects_of, traffic_of}
use Rattle.model_text.proofs.ModelRules.{basics_of-keeps, subjects_of-keeps}
use Rattle.model_keys.specs.Says.{HasText, OneForOne, SaysList, SaysListOrNone, SaysName, SaysNames}
use Rattle.model_keys.proofs.SaysLemmas.{all-says, and_then-found, any_list_at-says, bool_found-says, each-says, entry_of-table, list_or_none-says}
use Rattle.model_keys.proofs.SaysLemmas.{position-number}
use Rattle.model_text.specs.Says.{SaysEntry, SaysField, SaysIdocType, SaysModel, SaysParent, SaysSegment, SaysSystem, SaysVersion}
use Rattle.model_text.proofs.FieldRules.{HaveParts, parts_of-keeps}

-- a client is its text
client_in-text : (text client : List ℕ) → client_in text ≡ Some client → text ≡ client
client_in-text [] client h = absurd (cc)
client_in-text (a ∷ []) client h = absurd (cc)
client_in-text (a ∷ b ∷ []) client h = absurd (cc)
client_in-text (a ∷ b ∷ c ∷ []) client h = passed_text _ (a ∷ b ∷ c ∷ []) client h
  where
    passed_text : (b : Bool) (x y : List ℕ) → cond b (Some x) None ≡ Some y → x ≡ y
    passed_text true x y h = cc
    passed_text false x y h = absurd (cc)
client_in-text (a ∷ b ∷ c ∷ d ∷ rest) client h = absurd (cc)

client_found-says : (found : Option Data) (client : List ℕ) → or_else STANDARD_CLIENT client_of found ≡ Ok client
    → MatchOption found (client ≡ STANDARD_CLIENT) (λ d. as_str d ≡ Some client)
unfolding client_of
client_found-says None client h = cc
client_found-says (Some d) client h =
    let (text, t, g) = from_bind (required Wrong CLIENT.now (as_str d)) (λ text. required Wrong CLIENT.now (client_in text)) client h in
    required-ok Wrong CLIENT.now (as_str d) text t ∙ ap Some (client_in-text text client (required-ok Wrong CLIENT.now (client_in text) client g))

functions_found-says : (found : Option Data) (functions : List (List ℕ)) → or_else (STANDARD_FUNCTION.now ∷ []) function_list found ≡ Ok functions
    → MatchOption found (functions ≡ STANDARD_FUNCTION.now ∷ []) (SaysNames functions)
functions_found-says None functions h = cc
functions_found-says (Some d) functions h =
    let (ds, l, g) = from_bind (list_of MOST_FUNCTIONS FUNCTIONS.now d) (λ ds. each FUNCTIONS.now (λ done d. function_of d) 0 [] ds) functions h in (
      ds,
      (list_of-keeps MOST_FUNCTIONS FUNCTIONS.now d ds l).0,
      all-says FUNCTIONS.now (λ (done : List (List ℕ)) (d : Data). function_of d) SaysName (λ done d name is. (name_of-keeps LONGEST_NAME [] d name is).0) ds
          functions g,
    )

system_of-says : (names : List (List ℕ)) (before : List System) (d : Data) (system : System) → system_of names d ≡ Ok system → SaysSystem before d system
unfolding system_of client_at functions_at
system_of-says names before d system h =
    let (table, t, h1) = from_bind (entry_of (map (λ key. key.now) SYSTEM_KEYS) d) _ system h in
    let (name, n, h2) = from_bind (new_name_at LONGEST_SYSTEM NAME.now names table) _ system h1 in
    let (client, k, h3) = from_bind (or_else STANDARD_CLIENT client_of (get_member CLIENT.now table)) _ system h2 in
    let (functions, f, h4) = from_bind (or_else (STANDARD_FUNCTION.now ∷ []) function_list (get_member FUNCTIONS.now table)) _ system h3 in
    let e : ◌≡◌ {A = System} (record { name = name; client = client; functions = functions }) system = cc in
    subst (SaysSystem before d) e (record {
      table = table;
      is = entry_of-table (map (λ key. key.now) SYSTEM_KEYS) d table t;
      name = (new_name_at-keeps LONGEST_SYSTEM NAME.now names table name n).0.text;
      client = client_found-says (get_member CLIENT.now table) client k;
      functions = functions_found-says (get_member FUNCTIONS.now table) functions f;
    })

-- a text by the place of its first blank
split_at_blank : (text : List ℕ) (place : ℕ) → position (λ byte. byte == 32) text ≡ Some place → text ≡ take place text ++ 32 ∷ drop (place + 1) text
split_at_blank text place found =
    let at = position-Some (λ byte. byte == 32) text place 0 found in
    let blank : get_or text place 0 ≡ 32 = is_blank (get_or text place 0) at.1 in
    let next : place + 1 ≡ suc place = omega arith in
    let rest : drop place text ≡ 32 ∷ drop (place + 1) text = drop-cons text place 0 at.0 ∙ ap (λ byte. byte ∷ drop (suc place) text) blank
    ∙ ap (λ k. 32 ∷ drop k text) (sym next) in
    sym (take-append-drop place text) ∙ ap (λ bytes. take place text ++ bytes) rest
  where
    is_blank : (byte : ℕ) → byte == 32 ≡ true → byte ≡ 32
    is_blank byte is = grind (arith, nat_tests)

HaveParts-text : (text name : List ℕ) (n : ℕ) → HaveParts text name n → text ≡ name ++ 32 ∷ decimal n
HaveParts-text text name n parts =
    let rest = drop (parts.place + 1) text in
    let long = and_parts (nat_le 1 n) (nat_le n MOST_BYTES && is_text (decimal n) rest) parts.long in
    let spelled = and_parts (nat_le n MOST_BYTES) (is_text (decimal n) rest) long.1 in
    split_at_blank text parts.place parts.blank ∙ ap (λ front. front ++ 32 ∷ rest) parts.front
    ∙ ap (λ (digits : List ℕ). name ++ 32 ∷ digits) (sym ((bytes_decides (decimal n) rest).0 spelled.1))

-- a field says its name and its length
field_of-says : (fields : List Field) (d : Data) (field : Field) → field_of fields d ≡ Ok field → SaysField fields d field
unfolding field_of
field_of-says fields d field h =
    let (p, q, h1) = from_bind (parts_of d) _ field h in
    let (fits, f, h2) = from_bind (check Limit [] (nat_lt (length fields) MOST_FIELDS && nat_le (width_of fields + p.1) MOST_BYTES)) _ field h1 in
    let (name, n, h3) = from_bind (new_name [] (field_names fields) p.0) _ field h2 in
    let e : ◌≡◌ {A = Field} (record { name = name; offset = width_of fields; length = p.1 }) field = cc in
    let (text, is, parts) = parts_of-keeps d p q in
    let same = (new_name-keeps [] (field_names fields) p.0 name n).0 in
    subst (SaysField fields d) e (is ∙ ap Some (HaveParts-text text p.0 p.1 parts ∙ ap (λ name. name ++ 32 ∷ decimal p.1) same))

fields_of-says : (earlier : List Field) (ds : Items) (all : List Field) → fields_of earlier ds ≡ Ok all →
    (added : List Field) × (all ≡ earlier ++ added) × OneForOne SaysField earlier ds added
fields_of-says earlier ds all h = each-says ADDS.now (λ (done : List Field) (d : Data). field_of done d) SaysField field_of-says 0 earlier ds all h

-- a release is that of its name
release_at-says : (releases : List (List ℕ)) (versions : List Version) (table : Members) (release : ℕ) → release_at releases versions table ≡ Ok release
    → (name : List ℕ) × HasText RELEASE.now table name × (slice_get releases release ≡ Some name)
unfolding release_at
release_at-says releases versions table release h =
    let (place, r, g) = from_bind (reference_at LONGEST_RELEASE RELEASE.now releases table)
    (λ place. cond (is_later place versions) (Ok place) (Err (at Wrong RELEASE.now))) release h in
    let (later, e) = tested (is_later place versions) place release (at Wrong RELEASE.now) g in
    let (name, text, here) = reference_at-keeps LONGEST_RELEASE RELEASE.now releases table place r in
    (name, text, subst (λ k. slice_get releases k ≡ Some name) e here)

version_of-says : (releases names : List (List ℕ)) (before : List Version) (d : Data) (version : Version) → version_of releases names before d ≡ Ok version →
    SaysVersion releases before d version
unfolding version_of
version_of-says releases names before d version h =
    let (table, t, h1) = from_bind (entry_of (map (λ key. key.now) VERSION_KEYS) d) _ version h in
    let (name, n, h2) = from_bind (new_segment_name_at NAME.now names table) _ version h1 in
    let (release, r, h3) = from_bind (release_at releases before table) _ version h2 in
    let (ds, l, h4) = from_bind (any_list_at ADDS.now table) _ version h3 in
    let (fields, f, h5) = from_bind (fields_of (last_fields before) ds) _ version h4 in
    let e : ◌≡◌ {A = Version} (record { name = name; release = release; fields = fields }) version = cc in
    let (release_name, text, here) = release_at-says releases before table release r in
    let (added, whole, one) = fields_of-says (last_fields before) ds fields f in
    subst (SaysVersion releases before d) e (record {
      table = table;
      is = entry_of-table (map (λ key. key.now) VERSION_KEYS) d table t;
      name = (new_segment_name_at-keeps NAME.now names table name n).0.text;
      release_name = release_name;
      release = text;
      released = here;
      list = ds;
      adds = any_list_at-says ADDS.now table ds l;
      added = added;
      each = one;
      fields = whole;
    })

segment_of-says : (releases names : List (List ℕ)) (before : List SegmentType) (d : Data) (type : SegmentType) → segment_of releases names d ≡ Ok type →
    SaysSegment releases before d type
unfolding segment_of
segment_of-says releases names before d type h =
    let (table, t, h1) = from_bind (entry_of (map (λ key. key.now) SEGMENT_KEYS) d) _ type h in
    let (name, n, h2) = from_bind (new_segment_name_at TYPE.now names table) _ type h1 in
    let (ds, l, h3) = from_bind (some_list_at MOST_VERSIONS VERSION.now table) _ type h2 in
    let (versions, v, h4) = from_bind (versions_of releases (names ++ name ∷ []) ds) _ type h3 in
    let e : ◌≡◌ {A = SegmentType} (record { name = name; versions = versions }) type = cc in
    subst (SaysSegment releases before d) e (record {
      table = table;
      is = entry_of-table (map (λ key. key.now) SEGMENT_KEYS) d table t;
      name = (new_segment_name_at-keeps TYPE.now names table name n).0.text;
      versions = (
        ds,
        (some_list_at-keeps MOST_VERSIONS VERSION.now table ds l).0,
        all-says VERSION.now (λ (done : List Version) (d : Data). version_of releases ((names ++ name ∷ []) ++ version_names done) done d)
            (SaysVersion releases)
            (λ done d version is. version_of-says releases ((names ++ name ∷ []) ++ version_names done) done d version is) ds versions v,
      );
    })

open_place-same : (entries : List TypePlace) (place at : ℕ) → open_place entries place ≡ Ok at → place ≡ at
open_place-same entries place here h = (let first = open_level place entries == 0 in let second = nat_le MOST_LEVELS
    (open_level place entries) in both first second place here h)
  where
    both : (a b : Bool) (x y : ℕ) → cond a (Err (at Wrong PARENT.now)) (cond b (Err (at Limit PARENT.now)) (Ok x)) ≡ Ok y → x ≡ y
    both true b x y h = absurd (cc)
    both false true x y h = absurd (cc)
    both false false x y h = cc

parent_found-says : (types : List (List ℕ)) (segments : List ℕ) (entries : List TypePlace) (found : Option Data) (parent : Option ℕ)
    → or_else None (some_parent types segments entries) found ≡ Ok parent → MatchOption found (parent ≡ None) (SaysParent types segments parent)
unfolding parent_of
parent_found-says types segments entries None parent h = cc
parent_found-says types segments entries (Some d) parent h =
    let (place, p, e) = from_bind (parent_of types segments entries d) (λ place. Ok (Some place)) parent h in
    let (text, t, h1) = from_bind (required Wrong PARENT.now (as_str d)) _ place p in
    let (found, f, h2) = from_bind (required Wrong PARENT.now (parent_place types segments text)) _ place h1 in
    let same : found ≡ place = open_place-same entries found place h2 in
    let (segment, s, k) = and_then-found (λ segment. position (nat_eq segment) segments) (position (is_text text) types) found
    (required-ok Wrong PARENT.now (parent_place types segments text) found f) in record {
      text = text;
      is = required-ok Wrong PARENT.now (as_str d) text t;
      place = place;
      parent_is = cc;
      segment = segment;
      here = subst (λ p. slice_get segments p ≡ Some segment) same (position-number segment segments found k);
      named = position-name text types segment s;
    }

min_found-says : (mandatory : Bool) (found : Option Data) (min : ℕ) → or_else 1 (min_of mandatory) found ≡ Ok min →
    MatchOption found (min ≡ 1) (λ d. as_integer d ≡ Some (pos min))
unfolding min_of
min_found-says mandatory None min h = let e : 1 ≡ min = cc in sym e
min_found-says mandatory (Some d) min h =
    let (n, k, g) = from_bind (number_of 1 (2 ^ 63 - 1) MIN.now d) (λ n. cond mandatory (Ok n) (Err (at Wrong MIN.now))) min h in
    let (is, e) = tested mandatory n min (at Wrong MIN.now) g in
    (number_of-keeps 1 (2 ^ 63 - 1) MIN.now d n k).0 ∙ ap (λ n. Some (pos n)) e

greatest_found-says : (found : Option Data) (max : ℕ) → or_else 1 (number_of 1 MOST_TIMES MAX.now) found ≡ Ok max →
    MatchOption found (max ≡ 1) (λ d. as_integer d ≡ Some (pos max))
greatest_found-says None max h = let e : 1 ≡ max = cc in sym e
greatest_found-says (Some d) max h = (number_of-keeps 1 MOST_TIMES MAX.now d max h).0

max_at-says : (min : ℕ) (table : Members) (max : ℕ) → max_at min table ≡ Ok max →
    MatchOption (get_member MAX.now table) (max ≡ 1) (λ d. as_integer d ≡ Some (pos max))
unfolding max_at
max_at-says min table max h =
    let (n, k, g) = from_bind (greatest_at table) (λ n. cond (nat_le min n) (Ok n) (Err (at Wrong MAX.now))) max h in
    let (is, e) = tested (nat_le min n) n max (at Wrong MAX.now) g in
    subst (λ m. MatchOption (get_member MAX.now table) (m ≡ 1) (λ d. as_integer d ≡ Some (pos m))) e (greatest_found-says (get_member MAX.now table) n k)

-- what an entry says of how often it occurs
record SaysTimes (table : Members) (mandatory : Bool) (min max : ℕ) : Type 0 where
  need : MatchOption (get_member MANDATORY.now table) (mandatory ≡ false) (λ d. as_bool d ≡ Some mandatory)
  least : MatchOption (get_member MIN.now table) (min ≡ 1) (λ d. as_integer d ≡ Some (pos min))
  most : MatchOption (get_member MAX.now table) (max ≡ 1) (λ d. as_integer d ≡ Some (pos max))

times_at-says : (table : Members) (times : Bool × ℕ × ℕ) → times_at table ≡ Ok times → SaysTimes table times.0 times.1 times.2
unfolding times_at min_at bool_or_at
times_at-says table times h =
    let (mandatory, b, h1) = from_bind (or_else false (bool_of MANDATORY.now) (get_member MANDATORY.now table)) _ times h in
    let (min, m, h2) = from_bind (or_else 1 (min_of mandatory) (get_member MIN.now table)) _ times h1 in
    let (max, n, h3) = from_bind (max_at min table) _ times h2 in
    let e : ◌≡◌ {A = Bool × ℕ × ℕ} (mandatory, min, max) times = cc in
    subst (λ (t : Bool × ℕ × ℕ). SaysTimes table t.0 t.1 t.2) e (record {
      need = bool_found-says MANDATORY.now (get_member MANDATORY.now table) mandatory b;
      least = min_found-says mandatory (get_member MIN.now table) min m;
      most = max_at-says min table max n;
    })

new_type_at-says : (types : List (List ℕ)) (segments : List ℕ) (table : Members) (segment : ℕ) → new_type_at types segments table ≡ Ok segment
    → (name : List ℕ) × HasText TYPE.now table name × (slice_get types segment ≡ Some name)
unfolding new_type_at
new_type_at-says types segments table segment h =
    let (place, p, g) = from_bind (segment_type_at TYPE.now types table) (λ place. cond (list_any (nat_eq place) segments) (Err (at Twice TYPE.now)) (Ok place))
    segment h in
    let (new, e) = untested (list_any (nat_eq place) segments) place segment (at Twice TYPE.now) g in
    let (name, text, here) = segment_type_at-keeps TYPE.now types table place p in
    (name, text, subst (λ k. slice_get types k ≡ Some name) e here)

type_place_of-says : (types : List (List ℕ)) (before : List TypePlace) (d : Data) (entry : TypePlace) → type_place_of types before d ≡ Ok entry →
    SaysEntry types before d entry
unfolding type_place_of parent_at
type_place_of-says types before d entry h =
    let (table, t, h1) = from_bind (entry_of (map (λ key. key.now) ENTRY_KEYS) d) _ entry h in
    let (segment, s, h2) = from_bind (new_type_at types (entry_types before) table) _ entry h1 in
    let (parent, p, h3) = from_bind (or_else None (some_parent types (entry_types before ++ segment ∷ []) before) (get_member PARENT.now table)) _ entry h2 in
    let (times, n, h4) = from_bind (times_at table) _ entry h3 in
    let (root, r, h5) = from_bind (root_of before times.0 times.1 times.2) _ entry h4 in
    let e : ◌≡◌ {A = TypePlace} (record { segment = segment; parent = parent; mandatory = times.0; min = times.1; max = times.2 }) entry = cc in
    let (type_name, text, here) = new_type_at-says types (entry_types before) table segment s in
    let often = times_at-says table times n in
    subst (SaysEntry types before d) e (record {
      table = table;
      is = entry_of-table (map (λ key. key.now) ENTRY_KEYS) d table t;
      type_name = type_name;
      type = text;
      typed = here;
      parent = parent_found-says types (entry_types before ++ segment ∷ []) before (get_member PARENT.now table) parent p;
      mandatory = often.need;
      min = often.least;
      max = often.most;
    })

idoc_type_of-says : (types names : List (List ℕ)) (before : List IdocType) (d : Data) (type : IdocType) → idoc_type_of types names d ≡ Ok type →
    SaysIdocType types before d type
unfolding idoc_type_of
idoc_type_of-says types names before d type h =
    let (table, t, h1) = from_bind (entry_of (map (λ key. key.now) IDOCTYPE_KEYS) d) _ type h in
    let (name, n, h2) = from_bind (new_name_at LONGEST_NAME NAME.now names table) _ type h1 in
    let (ds, l, h3) = from_bind (some_list_at MOST_ENTRIES SEGMENT.now table) _ type h2 in
    let (entries, s, h4) = from_bind (entries_of types ds) _ type h3 in
    let e : ◌≡◌ {A = IdocType} (record { name = name; segments = entries }) type = cc in
    subst (SaysIdocType types before d) e (record {
      table = table;
      is = entry_of-table (map (λ key. key.now) IDOCTYPE_KEYS) d table t;
      name = (new_name_at-keeps LONGEST_NAME NAME.now names table name n).0.text;
      entries = (
        ds,
        (some_list_at-keeps MOST_ENTRIES SEGMENT.now table ds l).0,
        all-says SEGMENT.now (λ (done : List TypePlace) (d : Data). type_place_of types done d) (SaysEntry types) (type_place_of-says types) ds entries s,
      );
    })

-- what is said of the parts that a model stands on
record SaysBasics (table : Members) (on : Basics) : Type 0 where
  releases : SaysList SaysName RELEASES.now table on.releases
  systems : SaysList SaysSystem SYSTEM.now table on.systems
  segments : SaysListOrNone (SaysSegment on.releases) SEGMENT.now table on.definitions.types
  types : SaysListOrNone (SaysIdocType (type_names on.definitions.types)) IDOCTYPE.now table on.types

basics_of-says : (table : Members) (on : Basics) → basics_of table ≡ Ok on → SaysBasics table on
unfolding basics_of releases_at systems_at segments_at idoc_types_at list_or_none_at
basics_of-says table on h =
    let (releases, r, h2) = from_bind (some_list_at MOST_RELEASES RELEASES.now table >>=
    (λ ds. each RELEASES.now (λ done d. new_name_of LONGEST_RELEASE [] done d) 0 [] ds)) _ on h in
    let (systems, s, h3) = from_bind (some_list_at MOST_SYSTEMS SYSTEM.now table >>=
    (λ ds. each SYSTEM.now (λ done d. system_of (system_names done) d) 0 [] ds)) _ on h2 in
    let (segments, g, h4) = from_bind (or_else no_items (list_of MOST_TYPES SEGMENT.now) (get_member SEGMENT.now table) >>=
    (λ ds. each SEGMENT.now (λ done d. segment_of releases (flat_map names_of done) d) 0 [] ds)) _ on h3 in
    let (types, t, h5) = from_bind (or_else no_items (list_of MOST_IDOC_TYPES IDOCTYPE.now) (get_member IDOCTYPE.now table) >>=
    (λ ds. each IDOCTYPE.now (λ done d. idoc_type_of (type_names segments) (idoc_type_names done) d) 0 [] ds)) _ on h4 in
    let e : basics releases systems segments types ≡ on = cc in
    let (rs, rl, rg) = from_bind (some_list_at MOST_RELEASES RELEASES.now table) _ releases r in
    let (ss, sl, sg) = from_bind (some_list_at MOST_SYSTEMS SYSTEM.now table) _ systems s in
    let (gs, gl, gg) = from_bind (or_else no_items (list_of MOST_TYPES SEGMENT.now) (get_member SEGMENT.now table)) _ segments g in
    let (ts, tl, tg) = from_bind (or_else no_items (list_of MOST_IDOC_TYPES IDOCTYPE.now) (get_member IDOCTYPE.now table)) _ types t in
    subst (SaysBasics table) e (record {
      releases = (
        rs,
        (some_list_at-keeps MOST_RELEASES RELEASES.now table rs rl).0,
        all-says RELEASES.now (λ (done : List (List ℕ)) (d : Data). new_name_of LONGEST_RELEASE [] done d) SaysName
            (λ done d name is. (new_name_of-keeps LONGEST_RELEASE [] done d name is).0) rs releases rg,
      );
      systems = (
        ss,
        (some_list_at-keeps MOST_SYSTEMS SYSTEM.now table ss sl).0,
        all-says SYSTEM.now (λ (done : List System) (d : Data). system_of (system_names done) d) SaysSystem
            (λ done d system is. system_of-says (system_names done) done d system is) ss systems sg,
      );
      segments = (
        gs,
        list_or_none-says MOST_TYPES SEGMENT.now (get_member SEGMENT.now table) gs gl,
        all-says SEGMENT.now (λ (done : List SegmentType) (d : Data). segment_of releases (flat_map names_of done) d) (SaysSegment releases)
            (λ done d type is. segment_of-says releases (flat_map names_of done) done d type is) gs segments gg,
      );
      types = (
        ts,
        list_or_none-says MOST_IDOC_TYPES IDOCTYPE.now (get_member IDOCTYPE.now table) ts tl,
        all-says IDOCTYPE.now (λ (done : List IdocType) (d : Data). idoc_type_of (type_names segments) (idoc_type_names done) d)
            (SaysIdocType (type_names segments))
            (λ done d type is. idoc_type_of-says (type_names segments) (idoc_type_names done) done d type is) ts types tg,
      );
    })

-- what is said of what is sent
record SaysSubjects (table : Members) (on : Basics) (of : Subjects) : Type 0 where
  kinds : SaysListOrNone (SaysKind on.definitions) KIND.now table of.kinds
  messages : SaysListOrNone (SaysMessage on.definitions on.types of.kinds) MESSAGE.now table of.messages
  reduced : SaysListOrNone (SaysReduced on.definitions of.messages) REDUCED.now table of.reduced
  filters : SaysListOrNone (SaysFilter on.definitions of.messages) FILTER.now table of.filters

subjects_of-says : (on : Basics) (table : Members) (of : Subjects) → subjects_of on table ≡ Ok of → SaysSubjects table on of
unfolding subjects_of
subjects_of-says on table of h =
    let (kinds, k, h1) = from_bind (kinds_at on.definitions table) _ of h in
    let (messages, m, h2) = from_bind (messages_at on.definitions on.types kinds table) _ of h1 in
    let (reduced, r, h3) = from_bind (reduced_at on.definitions on.types messages table) _ of h2 in
    let (filters, f, h4) = from_bind (filters_at on.definitions on.types messages table) _ of h3 in
    let e : subjects kinds messages reduced filters ≡ of = cc in
    subst (SaysSubjects table on) e (record {
      kinds = kinds_at-says on.definitions table kinds k;
      messages = messages_at-says on.definitions on.types kinds table messages m;
      reduced = reduced_at-says on.definitions on.types messages table reduced r;
      filters = filters_at-says on.definitions on.types messages table filters f;
    })

-- what is said of what goes where
record SaysTraffic (table : Members) (on : Basics) (of : Subjects) (by : Traffic) : Type 0 where
  rows : SaysListOrNone (SaysRow (system_names on.systems) (message_names of.messages) of.filters) ROW.now table by.rows
  outbound : SaysListOrNone (SaysOutbound on.releases (system_names on.systems) (type_names on.definitions.types) on.definitions of.messages of.reduced)
      OUTBOUND.now table by.outbound
  inbound : SaysListOrNone (SaysInbound (system_names on.systems)) INBOUND.now table by.inbound

traffic_of-says : (on : Basics) (of : Subjects) (table : Members) (by : Traffic) → IsBasics on → AreSubjects on of → traffic_of on of table ≡ Ok by →
    SaysTraffic table on of by
unfolding traffic_of
traffic_of-says on of table by is are h =
    let (rows, r, h1) = from_bind (rows_at on.system_names on.definitions of.message_names of.filters table) _ by h in
    let (outbound, o, h2) = from_bind (outbound_at on.release_names on.system_names on.segment_names on.definitions on.types of.messages of.reduced table) _ by
    h1 in
    let (inbound, i, h3) = from_bind (inbound_at on.system_names of.all_names table) _ by h2 in
    let (profiled, p, h4) = from_bind (all_profiled outbound rows) _ by h3 in
    let (whole, w, h5) = from_bind (all_whole on.definitions on.types of.messages outbound) _ by h4 in
    let e : ◌≡◌ {A = Traffic} (record { rows = rows; outbound = outbound; inbound = inbound }) by = cc in
    subst (SaysTraffic table on of) e (record {
      rows = rows_at-says (system_names on.systems) (message_names of.messages) on.definitions on.types of.messages of.filters table rows are.filters
          (ap (λ (m : List (List ℕ)). rows_at (system_names on.systems) on.definitions m of.filters table) (sym are.named)
          ∙ ap (λ (s : List (List ℕ)). rows_at s on.definitions of.message_names of.filters table) (sym is.system_names) ∙ r);
      outbound = outbound_at-says on.releases (system_names on.systems) on.definitions on.types of.messages of.reduced table outbound is.releases.some
          (ap (λ (t : List (List ℕ)). outbound_at on.releases (system_names on.systems) t on.definitions on.types of.messages of.reduced table)
          (sym is.segment_names)
          ∙ ap (λ (s : List (List ℕ)). outbound_at on.releases s on.segment_names on.definitions on.types of.messages of.reduced table) (sym is.system_names)
          ∙ ap (λ (l : List (List ℕ)). outbound_at l on.system_names on.segment_names on.definitions on.types of.messages of.reduced table)
          (sym is.release_names) ∙ o);
      inbound = inbound_at-says (system_names on.systems) of.all_names table inbound
          (ap (λ (s : List (List ℕ)). inbound_at s of.all_names table) (sym is.system_names) ∙ i);
    })

-- the sections
pub model_of-says : (table : Members) (model : Lists) → model_of table ≡ Ok model → SaysModel table model
unfolding model_of
model_of-says table model h =
    let (known, k, h1) = from_bind (only_known [] (map (λ key. key.now) TOP_KEYS) table) _ model h in
    let (on, g, h2) = from_bind (basics_of table) _ model h1 in
    let (of, s, h3) = from_bind (subjects_of on table) _ model h2 in
    let (by, t, h4) = from_bind (traffic_of on of table) _ model h3 in
    let e : lists on of by ≡ model = cc in
    let base = basics_of-says table on g in
    let sent = subjects_of-says on table of s in
    let goes = traffic_of-says on of table by (basics_of-keeps table on g) (subjects_of-keeps on table of s) t in
    subst (SaysModel table) e (record {
      releases = base.releases;
      systems = base.systems;
      segments = base.segments;
      types = base.types;
      kinds = sent.kinds;
      messages = sent.messages;
      reduced = sent.reduced;
      filters = sent.filters;
      rows = goes.rows;
      outbound = goes.outbound;
      inbound = goes.inbound;
    })
