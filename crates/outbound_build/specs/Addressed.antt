-- Who sends a document and whom it is for, by its control record: in other words than the texts that are written there. SAP Library,
-- IDoc interface, control record: a partner is its type, LS for a logical system, and its number.
use Rattle.std.specs.Prelude.{◌≡◌, ℕ, List, Some, codes, slice_get}
use Rattle.std.specs.List.{AllByRecursion}
use Rattle.idoc_record.specs.declared.control_field.ControlField.TheVariants.{Mestyp, Rcvprn, Rcvprt, Sndprn, Sndprt}
use Rattle.idoc_record.specs.Control.{field_of}
use Rattle.dist_model.specs.declared.lists.Lists.{Lists}
use Rattle.dist_model.specs.declared.row.Row.{Row}
use Rattle.dist_model.specs.Model.{HasSystem, StandsForMessage}
use Rattle.unit_core.specs.declared.ale_unit.AleUnit.{AleUnit}
use Rattle.unit_core.specs.declared.raw_unit_doc.RawUnitDoc.{RawUnitDoc}
use Rattle.outbound_build.specs.declared.added.OutDocument.{OutDocument}
use Rattle.outbound_build.specs.declared.added.OutUnit.{OutUnit}
use Rattle.outbound_build.specs.declared.added.Waiting.{Waiting}

-- the control record of a document names these two systems of the model, as logical systems
pub record IsAddressed (model : Lists) (sender receiver : ℕ) (document : RawUnitDoc) : Type 0 where
  pub sends : HasSystem model (field_of document.control Sndprn) sender
  pub sends_as : field_of document.control Sndprt ≡ codes "LS"
  pub receives : HasSystem model (field_of document.control Rcvprn) receiver
  pub receives_as : field_of document.control Rcvprt ≡ codes "LS"

-- A document is from a system to the receiver of a row of the model, which is a row of that system. It is named by the message type of the row, or by
-- a reduced one of it.
pub record IsForRow (model : Lists) (system row : ℕ) (document : RawUnitDoc) : Type 0 where
  pub of : Row
  pub here : slice_get model.rows row ≡ Some of
  pub own : of.sender ≡ system
  pub addressed : IsAddressed model system of.receiver document
  pub named : StandsForMessage model (field_of document.control Mestyp) of.message

-- documents that were made are each for the row by which it was made
abbrev pub AreMadeFor : Lists → ℕ → List OutDocument → Type 0
AreMadeFor model system documents = AllByRecursion (λ one. IsForRow model system one.row one.document) documents

-- documents that wait are each for the row that it waits for
abbrev pub AreAddressed : Lists → ℕ → List Waiting → Type 0
AreAddressed model system waiting = AllByRecursion (λ one. IsForRow model system one.row one.document) waiting

-- a unit is from a system, and so is each of its documents, to the unit's receiver
pub record IsUnitAddressed (model : Lists) (system : ℕ) (unit : AleUnit) : Type 0 where
  pub sender : unit.sender ≡ system
  pub docs : AllByRecursion (IsAddressed model system unit.receiver) unit.docs

-- each of these units is addressed so
abbrev pub AreUnitsAddressed : Lists → ℕ → List OutUnit → Type 0
AreUnitsAddressed model system units = AllByRecursion (λ one. IsUnitAddressed model system one.unit) units
