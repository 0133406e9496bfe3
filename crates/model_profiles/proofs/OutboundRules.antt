-- Profiles of what is sent that were read keep their rules, and are what their text says.
use Rattle.std.specs.List.{AllByRecursion, IsDistinct, list_any}
use Rattle.std.proofs.Common.{◌≡◌, ℕ, ◌<◌, ◌≤◌, false, List, [], length, map, Result, Ok, sym, subst, arith}
use Rattle.std.proofs.lemmas.List.{map_push, length-map}
use Rattle.toml.specs.Data.{Data, no_items, Members, get_member}
use Rattle.ale_base.proofs.SnocLemmas.{AllByRecursion-snoc}
use Rattle.dist_model.proofs.DistinctLemmas.{IsDistinct-push, same_triple-symmetric}
use Rattle.segment_defs.specs.declared.definitions.Definitions.{Definitions}
use Rattle.segment_defs.specs.declared.idoc_type.IdocType.{IdocType}
use Rattle.segment_defs.specs.declared.segment_type.SegmentType.{SegmentType}
use Rattle.dist_model.specs.declared.limits.TheConstants.{MOST_OUTBOUND}
use Rattle.dist_model.specs.declared.message.Message.{Message}
use Rattle.dist_model.specs.declared.message.Reduced.{Reduced}
use Rattle.dist_model.specs.declared.outbound.Convert.{Convert}
use Rattle.dist_model.specs.declared.outbound.Outbound.{Outbound}
use Rattle.dist_model.specs.declared.outbound.QueueRule.{QueueRule}
use Rattle.dist_model.specs.declared.system.System.{System}
use Rattle.dist_model.specs.Message.{message_entries, message_names}
use Rattle.dist_model.specs.Model.{system_names, type_names}
use Rattle.dist_model.specs.Outbound.{AreOutbound, AreQueueRules, IsOutbound}
use Rattle.dist_model.specs.Way.{IsWay, outbound_way, outbound_ways, same_way, Way}
use Rattle.model_keys.specs.declared.finding.Finding.{Finding}
use Rattle.model_keys.specs.Each.{each}
use Rattle.model_keys.specs.Keys.{entry_of, list_of, list_or_none_at, or_else}
use Rattle.model_keys.specs.Says.{SaysListOrNone}
use Rattle.model_keys.proofs.KeepsLemmas.{each-invariant, each-length, from_bind, list_or_none_at-keeps}
use Rattle.model_keys.proofs.SaysLemmas.{all-says, entry_of-table, list_or_none-says}
use Rattle.model_profiles.specs.declared.keys.TheConstants.{INQ, OUTBOUND, OUTBOUND_KEYS, OUTQ, REMOVE}
use Rattle.model_profiles.specs.Changes.{converts_at, removes_at}
use Rattle.model_profiles.specs.Outbound.{changes_at, outbound_at, outbound_of, queues_at, sending_at, target_at}
use Rattle.model_profiles.specs.QueueRules.{rules_at}
use Rattle.model_profiles.specs.Says.{SaysOutbound, SaysRule, SaysType}
use Rattle.model_profiles.specs.Ways.{new_way_at}
use Rattle.model_profiles.proofs.WayRules.{new_way_at-keeps}
use Rattle.model_profiles.proofs.ChangeRules.{AreReadConverts, converts_at-keeps, removes_at-keeps}
use Rattle.model_profiles.proofs.QueueRuleRules.{rules_at-keeps}
use Rattle.model_profiles.proofs.SendingRules.{sending_at-keeps, target_at-keeps}

-- segment types that are removed, and values that are replaced
record AreChanges (types : List (List ℕ)) (definitions : Definitions) (table : Members) (changes : List ℕ × List Convert) : Type 0 where
  remove : AllByRecursion (λ segment. segment < length types) changes.0
  says_remove : SaysListOrNone (SaysType types) REMOVE.now table changes.0
  converts : AreReadConverts types definitions table changes.1

changes_at-keeps : (types : List (List ℕ)) (definitions : Definitions) (table : Members) (changes : List ℕ × List Convert) →
    changes_at types definitions table ≡ Ok changes → AreChanges types definitions table changes
unfolding changes_at
changes_at-keeps types definitions table changes h =
    let (remove, r, h1) = from_bind (removes_at types table) _ changes h in
    let (convert, c, h2) = from_bind (converts_at types definitions table) _ changes h1 in
    let e : ◌≡◌ {A = List ℕ × List Convert} (remove, convert) changes = cc in
    let (known, says) = removes_at-keeps types table remove r in
    subst (AreChanges types definitions table) e (record { remove = known; says_remove = says; converts = converts_at-keeps types definitions table convert c })

same_value : {A : Type 0} (x y : A) → ◌≡◌ {A = Result A Finding} (Ok x) (Ok y) → x ≡ y
same_value x y h = cc

module _ (releases systems types : List (List ℕ)) (definitions : Definitions) (idoc_types : List IdocType) (messages : List Message)
    (reduced : List Reduced) where
  -- the rules of both sides
  record AreQueues (message outmod : ℕ) (table : Members) (queues : List QueueRule × List QueueRule) : Type 0 where
    outq : AreQueueRules definitions idoc_types messages message outmod queues.0
    inq : AreQueueRules definitions idoc_types messages message outmod queues.1
    says_outq : SaysListOrNone (SaysRule types definitions) OUTQ.now table queues.0
    says_inq : SaysListOrNone (SaysRule types definitions) INQ.now table queues.1

  queues_at-keeps : (message outmod : ℕ) (table : Members) (queues : List QueueRule × List QueueRule) →
      queues_at types definitions (message_entries idoc_types messages message) outmod table ≡ Ok queues
      → AreQueues message outmod table queues
  unfolding queues_at
  queues_at-keeps message outmod table queues h =
      let entries = message_entries idoc_types messages message in
      let (outq, o, h1) = from_bind (rules_at types definitions entries outmod OUTQ.now table) _ queues h in
      let (inq, i, h2) = from_bind (rules_at types definitions entries outmod INQ.now table) _ queues h1 in
      let e : ◌≡◌ {A = List QueueRule × List QueueRule} (outq, inq) queues = cc in
      let (is_outq, says_outq) = rules_at-keeps types definitions idoc_types messages message outmod OUTQ.now table outq o in
      let (is_inq, says_inq) = rules_at-keeps types definitions idoc_types messages message outmod INQ.now table inq i in
      subst (AreQueues message outmod table) e (record { outq = is_outq; inq = is_inq; says_outq = says_outq; says_inq = says_inq })

  -- one more profile
  record IsNextOutbound (before : List Outbound) (ways : List Way) (d : Data) (profile : Outbound) : Type 0 where
    is : IsOutbound (length releases) (length systems) definitions idoc_types messages reduced profile
    new : list_any (same_way (outbound_way profile)) ways ≡ false
    says : SaysOutbound releases systems types definitions messages reduced before d profile

  module _ (some : 1 ≤ length releases) (same : length types ≡ length definitions.types) where
    outbound_of-keeps : (before : List Outbound) (ways : List Way) (d : Data) (profile : Outbound) →
        outbound_of releases systems types definitions idoc_types messages reduced ways d ≡ Ok profile
        → IsNextOutbound before ways d profile
    unfolding outbound_of
    outbound_of-keeps before ways d profile h =
        let (table, t, h1) = from_bind (entry_of (map (λ key. key.now) OUTBOUND_KEYS) d) _ profile h in
        let (way, w, h2) = from_bind (new_way_at systems (message_names messages) ways table) _ profile h1 in
        let (sending, s, h3) = from_bind (sending_at releases messages reduced way.2 table) _ profile h2 in
        let (changes, c, h4) = from_bind (changes_at types definitions table) _ profile h3 in
        let (target, g, h5) = from_bind (target_at table) _ profile h4 in
        let (queues, q, h6) = from_bind (queues_at types definitions (message_entries idoc_types messages way.2) sending.0 table) _ profile h5 in
        let whole : Outbound = record {
          sender = way.0;
          receiver = way.1;
          message = way.2;
          outmod = sending.0;
          packet = sending.1;
          release = sending.2;
          reduced = sending.3;
          remove = changes.0;
          convert = changes.1;
          port = target.0;
          function = target.1;
          outq = queues.0;
          inq = queues.1;
        } in
        let e : whole ≡ profile = same_value whole profile h6 in
        let (read, new) = new_way_at-keeps systems (message_names messages) ways table way w in
        let sends = sending_at-keeps releases messages reduced way.2 table sending some s in
        let alters = changes_at-keeps types definitions table changes c in
        let goes = target_at-keeps table target g in
        let rules = queues_at-keeps way.2 sending.0 table queues q in
        subst (IsNextOutbound before ways d) e (record {
          is = record {
            way = subst (λ n. IsWay (length systems) n way) (length-map messages (λ (m : Message). m.name)) read.is;
            mode = sends.mode;
            some = sends.some;
            few = sends.few;
            single = sends.single;
            release = sends.release;
            reduction = sends.reduction;
            remove = subst (λ n. AllByRecursion (λ segment. segment < n) changes.0) same alters.remove;
            few_converts = alters.converts.few;
            convert = alters.converts.each_is;
            port = goes.port;
            function = goes.function;
            outq = rules.outq;
            inq = rules.inq;
          };
          new = new;
          says = record {
            table = table;
            is = entry_of-table (map (λ key. key.now) OUTBOUND_KEYS) d table t;
            way = read.says;
            outmod = sends.says_mode;
            packet = sends.says_packet;
            release = sends.says_release;
            reduction = sends.says_reduction;
            remove = alters.says_remove;
            convert = alters.converts.says;
            port = goes.says_port;
            function = goes.says_function;
            outq = rules.says_outq;
            inq = rules.says_inq;
          };
        })

    -- what the profiles so far are
    abbrev AreSoFar : List Outbound → Type 0
    AreSoFar profiles = AllByRecursion (IsOutbound (length releases) (length systems) definitions idoc_types messages reduced) profiles × IsDistinct same_way
        (outbound_ways profiles)

    outbound_at-kept : (table : Members) (profiles : List Outbound) → outbound_at releases systems types definitions idoc_types messages reduced table
        ≡ Ok profiles
        → AreOutbound (length releases) (length systems) definitions idoc_types messages reduced profiles
        × SaysListOrNone (SaysOutbound releases systems types definitions messages reduced) OUTBOUND.now table profiles
    unfolding outbound_at list_or_none_at IsDistinct
    outbound_at-kept table profiles h =
        let read = λ (done : List Outbound) (d : Data). outbound_of releases systems types definitions idoc_types messages reduced (outbound_ways done) d in
        let (ds, l, g) = from_bind (or_else no_items (list_of MOST_OUTBOUND OUTBOUND.now) (get_member OUTBOUND.now table))
        (λ ds. each OUTBOUND.now read 0 [] ds) profiles h in
        let long = each-length OUTBOUND.now read 0 [] ds profiles g in
        let most = list_or_none_at-keeps MOST_OUTBOUND OUTBOUND.now table ds l in
        let kept = each-invariant OUTBOUND.now read AreSoFar
        (λ done d profile so_far is. let next = outbound_of-keeps done (outbound_ways done) d profile is in (
          AllByRecursion-snoc (IsOutbound (length releases) (length systems) definitions idoc_types messages reduced) done profile so_far.0 next.is,
          subst (IsDistinct same_way) (sym (map_push (λ (p : Outbound). outbound_way p) done profile))
              (IsDistinct-push same_way same_triple-symmetric (outbound_ways done) (outbound_way profile) so_far.1 next.new),
        ))
        0 [] ds profiles (tt, tt) g in (
          record { few = omega (arith, long, most); each = kept.0; apart = kept.1 },
          (
            ds,
            list_or_none-says MOST_OUTBOUND OUTBOUND.now (get_member OUTBOUND.now table) ds l,
            all-says OUTBOUND.now read (SaysOutbound releases systems types definitions messages reduced)
                (λ done d profile is. (outbound_of-keeps done (outbound_ways done) d profile is).says) ds profiles g,
          ),
        )

-- profiles that were read keep their rules
pub outbound_at-keeps : (releases : List (List ℕ)) (systems : List System) (definitions : Definitions) (idoc_types : List IdocType) (messages : List Message)
    (reduced : List Reduced) (table : Members) (profiles : List Outbound)
    → 1 ≤ length releases → outbound_at releases (system_names systems) (type_names definitions.types) definitions idoc_types messages reduced table
    ≡ Ok profiles
    → AreOutbound (length releases) (length systems) definitions idoc_types messages reduced profiles
outbound_at-keeps releases systems definitions idoc_types messages reduced table profiles some h =
    subst (λ n. AreOutbound (length releases) n definitions idoc_types messages reduced profiles) (length-map systems (λ (s : System). s.name))
    (outbound_at-kept releases (system_names systems) (type_names definitions.types) definitions idoc_types messages reduced some
    (length-map definitions.types (λ (t : SegmentType). t.name)) table profiles h).0

-- and are what the text says
pub outbound_at-says : (releases systems : List (List ℕ)) (definitions : Definitions) (idoc_types : List IdocType) (messages : List Message)
    (reduced : List Reduced) (table : Members) (profiles : List Outbound)
    → 1 ≤ length releases → outbound_at releases systems (type_names definitions.types) definitions idoc_types messages reduced table ≡ Ok profiles
    → SaysListOrNone (SaysOutbound releases systems (type_names definitions.types) definitions messages reduced) OUTBOUND.now table profiles
outbound_at-says releases systems definitions idoc_types messages reduced table profiles some h =
    (outbound_at-kept releases systems (type_names definitions.types) definitions idoc_types messages reduced some
    (length-map definitions.types (λ (t : SegmentType). t.name)) table profiles h).1
