-- A model that was read keeps all its rules, part by part.
use Rattle.std.specs.List.{AllByRecursion}
use Rattle.std.proofs.Common.{◌≡◌, ℕ, ◌≤◌, ◌++◌, Ok, List, [], length, map, subst, sym, ap, ◌∙◌, refl, arith}
use Rattle.std.proofs.lemmas.List.{length-map}
use Rattle.toml.specs.Data.{Members}
use Rattle.segment_defs.specs.declared.limits.TheConstants.{MOST_TYPES}
use Rattle.segment_defs.specs.declared.segment_type.SegmentType.{SegmentType}
use Rattle.dist_model.specs.declared.lists.Lists.{Lists}
use Rattle.dist_model.specs.Message.{message_names, reduced_names}
use Rattle.dist_model.specs.Inbound.{AreInbound}
use Rattle.dist_model.specs.Outbound.{AreOutbound, LeavesWhole}
use Rattle.dist_model.specs.Row.{AreRows}
use Rattle.dist_model.specs.Message.{message_entries}
use Rattle.dist_model.specs.Model.{HasProfile, IsModel, system_names, type_names}
use Rattle.model_keys.specs.Keys.{only_known}
use Rattle.model_keys.proofs.KeepsLemmas.{from_bind}
use Rattle.model_messages.specs.Kinds.{kinds_at}
use Rattle.model_messages.specs.Messages.{messages_at}
use Rattle.model_messages.specs.Reduced.{reduced_at}
use Rattle.model_messages.specs.Filters.{filters_at}
use Rattle.model_messages.proofs.KindRules.{kinds_at-keeps}
use Rattle.model_messages.proofs.MessageRules.{messages_at-keeps}
use Rattle.model_messages.proofs.ReducedRules.{reduced_at-keeps}
use Rattle.model_messages.proofs.FilterRules.{filters_at-keeps}
use Rattle.model_profiles.specs.Rows.{rows_at}
use Rattle.model_profiles.specs.Outbound.{outbound_at}
use Rattle.model_profiles.specs.Inbound.{inbound_at}
use Rattle.model_profiles.proofs.RowRules.{rows_at-keeps}
use Rattle.model_profiles.proofs.OutboundRules.{outbound_at-keeps}
use Rattle.model_profiles.proofs.InboundRules.{inbound_at-keeps}
use Rattle.model_text.specs.Profiled.{all_profiled}
use Rattle.model_text.specs.Whole.{all_whole}
use Rattle.model_text.proofs.ProfiledLemmas.{all_profiled-keeps}
use Rattle.model_text.proofs.WholeLemmas.{all_whole-keeps}
use Rattle.model_text.specs.declared.basics.Basics.{Basics}
use Rattle.model_text.specs.declared.subjects.Subjects.{Subjects}
use Rattle.model_text.specs.declared.traffic.Traffic.{Traffic}
use Rattle.model_text.specs.declared.keys.TheConstants.{TOP_KEYS}
use Rattle.model_text.specs.Releases.{releases_at}
use Rattle.model_text.specs.Systems.{systems_at}
use Rattle.model_text.specs.Segments.{segments_at}
use Rattle.model_text.specs.IdocTypes.{idoc_types_at}
use Rattle.model_text.specs.Model.{basics, basics_of, lists, model_of, subjects, subjects_of, traffic_of}
use Rattle.model_text.specs.Rules.{AreSubjects, IsBasics}
use Rattle.model_text.proofs.SystemRules.{releases_at-keeps, systems_at-keeps}
use Rattle.model_text.proofs.SegmentRules.{segments_at-keeps}
use Rattle.model_text.proofs.IdocTypeRules.{idoc_types_at-keeps}

-- there are not too many names of segment types
pub type_names-few : (releases : List (List ℕ)) (table : Members) (types : List SegmentType) → segments_at releases table ≡ Ok types →
    length (type_names types) ≤ MOST_TYPES
type_names-few releases table types h =
    omega (arith, length-map types (λ (type : SegmentType). type.name), (segments_at-keeps releases table types h).0.few)

pub basics_of-keeps : (table : Members) (on : Basics) → basics_of table ≡ Ok on → IsBasics on
unfolding basics_of
basics_of-keeps table on h =
    let (releases, r, h1) = from_bind (releases_at table) _ on h in
    let (systems, s, h2) = from_bind (systems_at table) _ on h1 in
    let (segments, g, h3) = from_bind (segments_at releases table) _ on h2 in
    let (types, t, h4) = from_bind (idoc_types_at (type_names segments) table) _ on h3 in
    let e : basics releases systems segments types ≡ on = cc in
    let are = segments_at-keeps releases table segments g in
    subst IsBasics e (record {
      releases = releases_at-keeps table releases r;
      release_names = refl;
      systems = systems_at-keeps table systems s;
      system_names = refl;
      definitions = are.0;
      segment_names = refl;
      released = are.1;
      types = idoc_types_at-keeps (type_names segments) (record { types = segments }) table types (length-map segments (λ (type : SegmentType). type.name)) t;
      type_names = refl;
    })

pub subjects_of-keeps : (on : Basics) (table : Members) (of : Subjects) → subjects_of on table ≡ Ok of → AreSubjects on of
unfolding subjects_of
subjects_of-keeps on table of h =
    let (kinds, k, h1) = from_bind (kinds_at on.definitions table) _ of h in
    let (messages, m, h2) = from_bind (messages_at on.definitions on.types kinds table) _ of h1 in
    let (reduced, r, h3) = from_bind (reduced_at on.definitions on.types messages table) _ of h2 in
    let (filters, f, h4) = from_bind (filters_at on.definitions on.types messages table) _ of h3 in
    let e : subjects kinds messages reduced filters ≡ of = cc in
    let are = messages_at-keeps on.definitions on.types kinds table messages m in
    subst (AreSubjects on) e (record {
      kinds = kinds_at-keeps on.definitions table kinds k;
      messages = are;
      named = refl;
      reduced = reduced_at-keeps on.definitions on.types messages table reduced are.apart r;
      all_named = refl;
      filters = filters_at-keeps on.definitions on.types messages table filters f;
    })

-- rows and profiles that keep their rules
pub record IsTraffic (on : Basics) (of : Subjects) (by : Traffic) : Type 0 where
  pub rows : AreRows (length on.systems) (length of.messages) on.definitions of.filters by.rows
  pub outbound : AreOutbound (length on.releases) (length on.systems) on.definitions on.types of.messages of.reduced by.outbound
  pub inbound : AreInbound (length on.systems) (message_names of.messages ++ reduced_names of.reduced) by.inbound
  pub profiled : AllByRecursion (HasProfile by.outbound) by.rows
  pub whole : AllByRecursion (λ profile. LeavesWhole on.definitions profile (message_entries on.types of.messages profile.message)) by.outbound

pub traffic_of-keeps : (on : Basics) (of : Subjects) (table : Members) (by : Traffic) → IsBasics on → AreSubjects on of → traffic_of on of table ≡ Ok by →
    IsTraffic on of by
unfolding traffic_of
traffic_of-keeps on of table by is are h =
    let (rows, r, h1) = from_bind (rows_at on.system_names on.definitions of.message_names of.filters table) _ by h in
    let (outbound, o, h2) = from_bind (outbound_at on.release_names on.system_names on.segment_names on.definitions on.types of.messages of.reduced table) _ by
    h1 in
    let (inbound, i, h3) = from_bind (inbound_at on.system_names of.all_names table) _ by h2 in
    let (profiled, p, h4) = from_bind (all_profiled outbound rows) _ by h3 in
    let (whole, w, h5) = from_bind (all_whole on.definitions on.types of.messages outbound) _ by h4 in
    let e : ◌≡◌ {A = Traffic} (record { rows = rows; outbound = outbound; inbound = inbound }) by = cc in
    subst (IsTraffic on of) e (record {
      rows = rows_at-keeps on.systems on.definitions on.types of.messages of.filters table rows are.filters
          (ap (λ (m : List (List ℕ)). rows_at (system_names on.systems) on.definitions m of.filters table) (sym are.named)
          ∙ ap (λ (s : List (List ℕ)). rows_at s on.definitions of.message_names of.filters table) (sym is.system_names) ∙ r);
      outbound = outbound_at-keeps on.releases on.systems on.definitions on.types of.messages of.reduced table outbound is.releases.some
          (ap (λ (t : List (List ℕ)). outbound_at on.releases (system_names on.systems) t on.definitions on.types of.messages of.reduced table)
          (sym is.segment_names)
          ∙ ap (λ (s : List (List ℕ)). outbound_at on.releases s on.segment_names on.definitions on.types of.messages of.reduced table) (sym is.system_names)
          ∙ ap (λ (l : List (List ℕ)). outbound_at l on.system_names on.segment_names on.definitions on.types of.messages of.reduced table)
          (sym is.release_names) ∙ o);
      inbound = inbound_at-keeps on.systems (message_names of.messages ++ reduced_names of.reduced) table inbound
          (ap (λ (n : List (List ℕ)). inbound_at (system_names on.systems) n table) (sym are.all_named)
          ∙ ap (λ (s : List (List ℕ)). inbound_at s of.all_names table) (sym is.system_names) ∙ i);
      profiled = all_profiled-keeps outbound rows profiled p;
      whole = all_whole-keeps on.definitions on.types of.messages outbound whole w;
    })

pub model_of-keeps : (table : Members) (model : Lists) → model_of table ≡ Ok model → IsModel model
unfolding model_of
model_of-keeps table model h =
    let (known, k, h1) = from_bind (only_known [] (map (λ key. key.now) TOP_KEYS) table) _ model h in
    let (on, g, h2) = from_bind (basics_of table) _ model h1 in
    let (of, s, h3) = from_bind (subjects_of on table) _ model h2 in
    let (by, t, h4) = from_bind (traffic_of on of table) _ model h3 in
    let e : lists on of by ≡ model = cc in
    let is = basics_of-keeps table on g in
    let are = subjects_of-keeps on table of s in
    let goes = traffic_of-keeps on of table by is are t in
    subst IsModel e (record {
      releases = is.releases;
      systems = is.systems;
      definitions = is.definitions;
      released = is.released;
      types = is.types;
      kinds = are.kinds;
      messages = are.messages;
      reduced = are.reduced;
      filters = are.filters;
      rows = goes.rows;
      outbound = goes.outbound;
      inbound = goes.inbound;
      profiled = goes.profiled;
      whole = goes.whole;
    })
