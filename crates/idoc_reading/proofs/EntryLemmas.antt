-- The entries for a message type, and what data records make by them.
use Rattle.std.specs.Prelude.{slice_get}
use Rattle.std.specs.List.{IsDistinct}
use Rattle.std.specs.Option.{option_map_or}
use Rattle.std.proofs.Common.{◌≡◌, ℕ, ◌<◌, Option, Some, None, Ok, List, [], length, refl, sym, ap, subst, ◌∙◌}
use Rattle.std.proofs.lemmas.List.{length-map}
use Rattle.ale_base.proofs.ListLemmas.{AllByRecursion-at, AllByRecursion-weaker}
use Rattle.idoc_record.specs.Data.{DataRecord}
use Rattle.segment_defs.specs.declared.definitions.Definitions.{Definitions}
use Rattle.segment_defs.specs.declared.idoc_type.IdocType.{IdocType}
use Rattle.segment_defs.specs.declared.idoc_type.TypePlace.{TypePlace}
use Rattle.segment_defs.specs.Definitions.{AreDefinitions}
use Rattle.segment_defs.specs.IdocType.{IsEntry, IsIdocType}
use Rattle.dist_model.specs.declared.lists.Lists.{Lists}
use Rattle.dist_model.specs.declared.message.Message.{Message}
use Rattle.dist_model.specs.Message.{entries_at}
use Rattle.dist_model.specs.Model.{IsModel, entries_for}
use Rattle.idoc_tree.specs.Builds.{Builds}
use Rattle.idoc_tree.specs.Forest.{Forest, Segment, preorder}
use Rattle.idoc_tree.specs.FromRecords.{built}
use Rattle.idoc_tree.specs.Lines.{lines_of}
use Rattle.idoc_tree.specs.Spells.{segment_of}
use Rattle.idoc_tree.proofs.BuildsLemmas.{Builds-built, built-Builds}
use Rattle.idoc_tree.proofs.LineLemmas.{lines_of-spell}
use Rattle.idoc_reading.specs.Document.{AreEntries, IsOfEntries}

no-entries : (definitions : Definitions) → AreEntries definitions []
unfolding IsDistinct
no-entries definitions = record { known = tt; apart = tt; preorder = tt }

-- the entries of an IDoc type
pub type-entries : (definitions : Definitions) (type : IdocType) → IsIdocType definitions type → AreEntries definitions type.segments
type-entries definitions type kept = record {
  known = AllByRecursion-weaker (IsEntry definitions) (λ entry. entry.segment < length definitions.types) type.segments (λ entry e. e.known) kept.each;
  apart = kept.apart;
  preorder = kept.preorder;
}

-- the entries for a message type
pub entries-are : (model : Lists) (message : ℕ) (control : List ℕ) → IsModel model → AreEntries model.definitions (entries_for model message control)
entries-are model message control is = of_message (slice_get model.messages message)
  where
    of_type : (place : ℕ) (o : Option IdocType) → slice_get model.types place ≡ o
        → AreEntries model.definitions (option_map_or (λ (type : IdocType). type.segments) o [])
    of_type place None here = no-entries model.definitions
    of_type place (Some type) here =
        type-entries model.definitions type (AllByRecursion-at (IsIdocType model.definitions) model.types place type is.types.each here)

    of_message : (o : Option Message) → AreEntries model.definitions (option_map_or (λ (m : Message). entries_at model.types m.idoctype) o [])
    of_message None = no-entries model.definitions
    of_message (Some m) = of_type m.idoctype (slice_get model.types m.idoctype) refl

module _ (definitions : Definitions) (entries : List TypePlace) (are : AreEntries definitions entries) where
  -- data records make as many segments as they are
  pub built-each : (records : List DataRecord) (forest : Forest) → built definitions entries records ≡ Ok forest
      → length (preorder forest) ≡ length records
  built-each records forest made =
      let builds : Builds definitions entries records (Ok forest) =
      subst (Builds definitions entries records) made (built-Builds definitions entries are.apart are.known records) in
      sym (length-map (preorder forest) Some) ∙ ap (λ (os : List (Option Segment)). length os) (sym builds.0.segments)
      ∙ length-map records (segment_of definitions)

  -- the data records of a forest by these entries make it again
  pub built-again : (forest : Forest) → AreDefinitions definitions → IsOfEntries definitions entries forest
      → built definitions entries (lines_of definitions forest) ≡ Ok forest
  built-again forest kept of =
      Builds-built definitions entries are.preorder (lines_of definitions forest) (Ok forest)
      (lines_of-spell definitions entries forest kept of.nodes of.fitted of.hangs, of.valid)
