-- A document that has a posting under a model has one under another model that has the same types, with other numbers: so it is read
-- again where it was read before.
use Rattle.std.specs.Prelude.{Contains, nat_eq, map, option_and_then, slice_get}
use Rattle.std.specs.List.{AllByRecursion, IsDistinct}
use Rattle.std.specs.Option.{option_map, option_map_or}
use Rattle.std.proofs.Common.{◌≡◌, inl, inr, ℕ, ◌<◌, Option, Some, None, Result, Ok, Err, List, [], ◌∷◌, length, refl, sym, ap, subst, ◌∙◌, arith}
use Rattle.std.proofs.lemmas.List.{length-map}
use Rattle.std.proofs.lemmas.Option.{same_Some, slice_get_within}
use Rattle.ale_base.proofs.ListLemmas.{AllByRecursion-at, AllByRecursion-weaker, slice_get-within, place_of}
use Rattle.idoc_record.specs.declared.control_field.ControlField.TheVariants.{Mestyp}
use Rattle.idoc_record.specs.Data.{DataRecord}
use Rattle.idoc_record.specs.Control.{field_of}
use Rattle.segment_defs.specs.declared.idoc_type.IdocType.{IdocType}
use Rattle.segment_defs.specs.declared.idoc_type.TypePlace.{TypePlace}
use Rattle.segment_defs.specs.declared.version.Version.{Version}
use Rattle.segment_defs.specs.Definitions.{found_in, version_of}
use Rattle.segment_defs.specs.IdocType.{IsEntry, IsIdocType, IsPreorder}
use Rattle.segment_defs.proofs.DefinitionsLemmas.{found-exists}
use Rattle.dist_model.specs.declared.kind.Kind.{Kind}
use Rattle.dist_model.specs.declared.lists.Lists.{Lists}
use Rattle.dist_model.specs.declared.message.Message.{Message}
use Rattle.dist_model.specs.declared.message.Reduced.{Reduced}
use Rattle.dist_model.specs.Message.{IsMessage, IsReduced, entries_at, message_entries, message_names}
use Rattle.dist_model.specs.Model.{IsModel, StandsForMessage, message_named}
use Rattle.dist_model.proofs.LookupLemmas.{message-named}
use Rattle.idoc_tree.specs.Builds.{Builds}
use Rattle.idoc_tree.specs.Forest.{Forest, Segment, no_trees, tree}
use Rattle.idoc_tree.specs.FromRecords.{built}
use Rattle.idoc_tree.specs.Spells.{Spells, segment_found, segment_of}
use Rattle.idoc_tree.proofs.BuildsLemmas.{Builds-built, built-Builds}
use Rattle.idoc_reading.specs.Reading.{read_as, read_by_type}
use Rattle.unit_core.specs.declared.raw_unit_doc.RawUnitDoc.{RawUnitDoc}
use Rattle.object_store.specs.declared.posting.Posting.{Posting}
use Rattle.inbound_post.specs.Reading.{posting, posting_by, posting_made, posting_of, posting_read, posting_with, root_built}
use Rattle.inbound_post.proofs.RenamedLemmas.{IsForestRenamed, IsRenamed, entry_renamed, spells-renamed, valid-renamed}

and_then-Some : {A B : Type 0} (f : A → Option B) (o : Option A) (y : B) → option_and_then f o ≡ Some y → (x : A) × (o ≡ Some x) × (f x ≡ Some y)
and_then-Some f (Some x) y h = (x, refl, h)
and_then-Some f None y h = absurd (cc)

map-Some : {A B : Type 0} (f : A → B) (o : Option A) (y : B) → option_map f o ≡ Some y → (x : A) × (o ≡ Some x) × (f x ≡ y)
map-Some f (Some x) y h = (x, refl, same_Some (f x) y h)
map-Some f None y h = absurd (cc)

built-root : (made : Result Forest _) (root : Segment) → root_built made ≡ Some root
    → (below : Forest) × (after : Forest) × (made ≡ Ok (tree root below after))
built-root (Ok no_trees) root is = absurd (cc)
built-root (Ok (tree first below after)) root is = (below, after, ap (λ (r : Segment). Ok (tree r below after)) (same_Some first root is))
built-root (Err fault) root is = absurd (cc)

-- ---- the entries of a message type keep the rules of IDoc types

-- the entries are of segment types, and a preorder
record AreEntries (types : ℕ) (entries : List TypePlace) : Type 0 where
  pub apart : IsDistinct nat_eq (map (λ entry. entry.segment) entries)
  pub known : AllByRecursion (λ entry. entry.segment < types) entries
  pub preorder : IsPreorder 0 [] entries

no-entries : (types : ℕ) → AreEntries types []
unfolding IsDistinct
no-entries types = record { apart = tt; known = tt; preorder = tt }

type-entries : (model : Lists) → IsModel model → (found : Option IdocType) → ((type : IdocType) → found ≡ Some type → IsIdocType model.definitions type)
    → AreEntries (length model.definitions.types) (option_map_or (λ type. type.segments) found [])
type-entries model kept None is = no-entries (length model.definitions.types)
type-entries model kept (Some type) is =
    let rules = is type refl in
    record {
      apart = rules.apart;
      known =
          AllByRecursion-weaker (IsEntry model.definitions) (λ entry. entry.segment < length model.definitions.types) type.segments
          (λ entry keeps. keeps.known) rules.each;
      preorder = rules.preorder;
    }

entries-kept : (model : Lists) → IsModel model → (message : ℕ)
    → AreEntries (length model.definitions.types) (message_entries model.types model.messages message)
entries-kept model kept message = of_message (slice_get model.messages message)
  where
    of_message : (found : Option Message)
        → AreEntries (length model.definitions.types) (option_map_or (λ m. entries_at model.types m.idoctype) found [])
    of_message None = no-entries (length model.definitions.types)
    of_message (Some m) =
        type-entries model kept (slice_get model.types m.idoctype)
        (λ type here. AllByRecursion-at (IsIdocType model.definitions) model.types m.idoctype type kept.types.each here)

-- a name stands for a message type of the model
message-within : (model : Lists) → IsModel model → (name : List ℕ) (message : ℕ) → message_named name model ≡ Some message → message < length model.messages
message-within model kept name message found = of_stands ((message-named model kept name (message_named name model) refl message).0 found)
  where
    of_stands : StandsForMessage model name message → message < length model.messages
    of_stands (inl own) =
        let less = slice_get_within (message_names model.messages) message name own in
        let many = length-map model.messages (λ (m : Message). m.name) in
        omega (arith, less, many)
    of_stands (inr reduced) =
        let keeps = member-keeps model.reduced kept.reduced.each reduced.one reduced.among in
        let basic = reduced.basic in
        let less = keeps.basic in
        omega (arith, less, basic)
      where
        member-keeps : (all : List Reduced) → AllByRecursion (IsReduced model.definitions model.types model.messages) all → (one : Reduced)
            → Contains all one → IsReduced model.definitions model.types model.messages one
        member-keeps all each one among = let at = place_of all one among in AllByRecursion-at _ all at.0 one each at.1

-- the root segment of a document that is read by a message type
abbrev root_read : Lists → RawUnitDoc → ℕ → Option Segment
root_read model doc message = root_built (read_as model doc.control doc.segments message).made

-- what a document says that is read by a message type
posting-made : (model : Lists) (doc : RawUnitDoc) (message : ℕ) (type : Message) (kind : Kind) (root : Segment) (definition : Version)
    → message_named (field_of doc.control Mestyp) model ≡ Some message → root_read model doc message ≡ Some root
    → slice_get model.messages message ≡ Some type → slice_get model.kinds type.kind ≡ Some kind
    → version_of model.definitions root.type root.version ≡ Some definition
    → posting model doc ≡ Some (posting_with model type kind root.sdata definition)
posting-made model doc message type kind root definition named read typed of_kind defined =
    ap (λ (m : Option ℕ). option_and_then (posting_read model) (option_map (read_as model doc.control doc.segments) m)) named
    ∙ ap (option_and_then (posting_of model message)) read
    ∙ ap (option_and_then (λ t. posting_made model t root)) typed
    ∙ ap (option_and_then (posting_by model root type)) of_kind
    ∙ ap (option_map (posting_with model type kind root.sdata)) defined

-- the definition of a segment that was found
root-defined : (model : Lists) (sdata : List ℕ) (found : ℕ × ℕ) (root : Segment) (definition : Version)
    → segment_found model.definitions sdata found ≡ root
    → version_of model.definitions found.0 found.1 ≡ Some definition → version_of model.definitions root.type root.version ≡ Some definition
root-defined model sdata found root definition is defined =
    ap (λ (s : Segment). version_of model.definitions s.type s.version) (sym is) ∙ defined

module _ (old new : Lists) (old_kept : IsModel old) (new_kept : IsModel new) (rename : ℕ → ℕ) (apart : (a b : ℕ) → rename a ≡ rename b → a ≡ b)
    (found : (name : List ℕ) (segment version : ℕ) → found_in name old.definitions.types ≡ Some (segment, version)
    → (other : ℕ) × (found_in name new.definitions.types ≡ Some (rename segment, other)))
    (messages : (name : List ℕ) (message : ℕ) → message_named name old ≡ Some message
    → (other : ℕ) × (message_named name new ≡ Some other)
    × (message_entries new.types new.messages other ≡ map (entry_renamed rename) (message_entries old.types old.messages message))) where
  -- a record stands for a segment of the renamed type
  segment-renamed : (line : DataRecord) (segment : Segment) → segment_of old.definitions line ≡ Some segment
      → (other : Segment) × (segment_of new.definitions line ≡ Some other) × IsRenamed rename segment other
  segment-renamed line segment is =
      let was = map-Some (segment_found old.definitions line.sdata) (found_in line.segnam old.definitions.types) segment is in
      let now = found line.segnam was.0.0 was.0.1 was.1 in (
        segment_found new.definitions line.sdata (rename was.0.0, now.0),
        ap (option_map (segment_found new.definitions line.sdata)) now.1,
        ap (λ (s : Segment). rename s.type) was.2,
      )

  -- what is read by the old model is read by the new one
  read-renamed : (doc : RawUnitDoc) (message other : ℕ) (root : Segment)
      → message_entries new.types new.messages other ≡ map (entry_renamed rename) (message_entries old.types old.messages message)
      → root_read old doc message ≡ Some root
      → (first : Segment) × (root_read new doc other ≡ Some first)
      × ((line : DataRecord) × (rest : List DataRecord) × (segment_of new.definitions line ≡ Some first))
  read-renamed doc message other root same read =
      let entries = message_entries old.types old.messages message in
      let lines = doc.segments in
      let was = built-root (built old.definitions entries lines) root read in
      let rules = entries-kept old old_kept message in
      let builds = subst (Builds old.definitions entries lines) was.2 (built-Builds old.definitions entries rules.apart rules.known lines) in
      let spelt = spells-renamed rename apart entries old.definitions new.definitions segment-renamed lines (tree root was.0 was.1) builds.0 in
      of_forest was.0 was.1 lines spelt.0 spelt.2 spelt.1
      (Builds-built new.definitions (map (entry_renamed rename) entries)
      (subst (IsPreorder 0 []) same (entries-kept new new_kept other).preorder) lines (Ok spelt.0)
      (spelt.1, valid-renamed rename apart entries (tree root was.0 was.1) spelt.0 spelt.2 builds.1))
    where
      of_forest : (below after : Forest) (lines : List DataRecord) (forest : Forest) → IsForestRenamed rename (tree root below after) forest
          → Spells new.definitions (map (entry_renamed rename) (message_entries old.types old.messages message)) lines forest
          → built new.definitions (map (entry_renamed rename) (message_entries old.types old.messages message)) doc.segments ≡ Ok forest
          → (first : Segment) × (root_read new doc other ≡ Some first)
          × ((line : DataRecord) × (rest : List DataRecord) × (segment_of new.definitions line ≡ Some first))
      of_forest below after lines no_trees is spells made = absurd is
      of_forest below after [] (tree first under behind) is spells made = absurd (let lies = spells.segments in cc)
      of_forest below after (line ∷ rest) (tree first under behind) is spells made = (
        first,
        ap (λ (some : List TypePlace). root_built (built new.definitions some doc.segments)) same ∙ ap root_built made,
        (line, rest, let segments = spells.segments in cc),
      )

  -- a document that has a posting under the old model has one under the new one
  pub posting-renamed : (doc : RawUnitDoc) (made : Posting) → posting old doc ≡ Some made → (other : Posting) × (posting new doc ≡ Some other)
  posting-renamed doc made is =
      let name = field_of doc.control Mestyp in
      let by_read = and_then-Some (posting_read old) (read_by_type old doc.control doc.segments) made is in
      let by_message = map-Some (read_as old doc.control doc.segments) (message_named name old) by_read.0 by_read.1 in
      let by_root = and_then-Some (posting_of old by_message.0) (root_read old doc by_message.0) made
      (subst (λ r. posting_read old r ≡ Some made) (sym by_message.2) by_read.2) in
      let message = messages name by_message.0 by_message.1 in
      let read = read-renamed doc by_message.0 message.0 by_root.0 message.2 by_root.1 in
      let typed = slice_get-within new.messages message.0 (message-within new new_kept name message.0 message.1) in
      let keeps = AllByRecursion-at (IsMessage new.definitions new.types new.kinds) new.messages message.0 typed.0 new_kept.messages.each typed.1 in
      let named = map-Some (segment_found new.definitions read.2.0.sdata) (found_in read.2.0.segnam new.definitions.types) read.0 read.2.2 in
      let defined = found-exists new.definitions read.2.0.segnam named.0.0 named.0.1 new_kept.definitions named.1 in
      let of_root = root-defined new read.2.0.sdata named.0 read.0 defined.0 named.2 defined.1 in (
        posting_with new typed.0 keeps.kind read.0.sdata defined.0,
        posting-made new doc message.0 typed.0 keeps.kind read.0 defined.0 message.1 read.1 typed.1 keeps.of_kind of_root,
      )
