-- The queues of a unit, from its documents and the rules of a profile: in other words than the names that are computed. Queues are those of
-- SAP's queued RFC; the rules are this project's own.
use Rattle.std.specs.Prelude.{◌≡◌, ℕ, ◌↔◌, List, [], ◌∷◌, ◌++◌, Contains, Some, None}
use Rattle.std.specs.List.{AllByRecursion}
use Rattle.segment_defs.specs.declared.definitions.Definitions.{Definitions}
use Rattle.dist_model.specs.declared.filter.FieldPlace.{FieldPlace}
use Rattle.dist_model.specs.declared.lists.Lists.{Lists}
use Rattle.dist_model.specs.declared.outbound.Outbound.{Outbound}
use Rattle.dist_model.specs.declared.outbound.QueueRule.{QueueRule}
use Rattle.idoc_tree.specs.Forest.{Forest}
use Rattle.unit_core.specs.declared.ale_unit.AleUnit.{AleUnit}
use Rattle.unit_core.specs.declared.records.Record.{Record}
use Rattle.unit_core.specs.declared.records.Record.TheVariants.{Commit}
use Rattle.outbound_build.specs.declared.added.OutUnit.{OutUnit}
use Rattle.outbound_build.specs.Document.{Document, carried}
use Rattle.outbound_build.specs.QueueNames.{text_in}

-- a rule makes a name of a forest: it is the rule's text, and behind that the text of the rule's field in the forest, if it has a field
pub record IsNameOf (definitions : Definitions) (forest : Forest) (rule : QueueRule) (name : List ℕ) : Type 0 where
  pub some : name ≡ [] → ⊥
  pub plain : rule.place ≡ None → name ≡ rule.text
  pub of_field : (place : FieldPlace) → rule.place ≡ Some place → name ≡ rule.text ++ text_in definitions forest place

-- among these names are those that some of the rules make of a forest, and no others
abbrev pub AreNamesOf : Definitions → Forest → List QueueRule → List (List ℕ) → Type 0
AreNamesOf definitions forest rules names =
    (name : List ℕ) → Contains names name ↔ ((rule : QueueRule) × Contains rules rule × IsNameOf definitions forest rule name)

-- among these names are the texts of the rules that have one, and no others
abbrev pub AreTextsOf : List QueueRule → List (List ℕ) → Type 0
AreTextsOf rules names = (name : List ℕ) → Contains names name ↔ ((rule : QueueRule) × Contains rules rule × (rule.text ≡ name) × (name ≡ [] → ⊥))

-- a unit carries one document, to the receiver of a profile of the model, in the queues that the profile's rules name by that document
pub record IsQueuedByDocument (model : Lists) (unit : AleUnit) : Type 0 where
  pub profile : Outbound
  pub among : Contains model.outbound profile
  pub receiver : unit.receiver ≡ profile.receiver
  pub document : Document
  pub docs : unit.docs ≡ carried model.definitions document ∷ []
  pub outq : AreNamesOf model.definitions document.forest profile.outq unit.outq
  pub inq : AreNamesOf model.definitions document.forest profile.inq unit.inq

-- a unit carries what was collected, to the receiver of a profile of the model, in the queues that the texts of the profile's rules name
pub record IsQueuedByTexts (model : Lists) (unit : AleUnit) : Type 0 where
  pub profile : Outbound
  pub among : Contains model.outbound profile
  pub receiver : unit.receiver ≡ profile.receiver
  pub outq : AreTextsOf profile.outq unit.outq
  pub inq : AreTextsOf profile.inq unit.inq

-- the units that a record adds: those of a Commit are in the queues of their documents, and those of a Dispatch in the queues of the rules
abbrev pub AreQueued : Lists → Record → List OutUnit → Type 0
AreQueued model (Commit origin docs) units = AllByRecursion (λ one. IsQueuedByDocument model one.unit) units
AreQueued model _ units = AllByRecursion (λ one. IsQueuedByTexts model one.unit) units
