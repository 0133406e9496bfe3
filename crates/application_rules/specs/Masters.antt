-- Which documents may be masters, and why others may not. SAP Library, ALE: a master IDoc is one of its message type; which fault is
-- told is this project's own.
use Rattle.std.specs.Prelude.{ℕ, List, Option, Some, None, Result, Ok, Err, if◌then◌else◌}
use Rattle.std.specs.Option.{option_map_or}
use Rattle.idoc_tree.specs.declared.fault.SyntaxFault.{SyntaxFault}
use Rattle.idoc_tree.specs.Forest.{Forest}
use Rattle.dist_model.specs.declared.lists.Lists.{Lists}
use Rattle.dist_model.specs.Named.{idoc_type_name_of}
use Rattle.idoc_reading.specs.Reading.{ReadDocument, read_by_type}
use Rattle.unit_core.specs.declared.raw_unit_doc.RawUnitDoc.{RawUnitDoc}
use Rattle.outbound_build.specs.Added.{may_be_of}
use Rattle.application_rules.specs.declared.fault.MasterFault.{MasterFault}
use Rattle.application_rules.specs.declared.fault.MasterFault.TheVariants.{Unknown, Syntax}

-- the fault of what data records make, if it is one
abbrev pub syntax_fault : Result Forest SyntaxFault → Option MasterFault
syntax_fault (Ok forest) = None
syntax_fault (Err fault) = Some (Syntax fault)

-- the fault of what was read of a document with this control record, as a master: IDOCTYP names another IDoc type than that of the
-- message type, or the data records are no document of it
abbrev pub fault_read : Lists → List ℕ → ReadDocument → Option MasterFault
fault_read model control read =
    if may_be_of control (idoc_type_name_of model read.message) then syntax_fault read.made else Some Unknown

-- the same, also where MESTYP stands for no message type
abbrev pub reading_fault : Lists → List ℕ → Option ReadDocument → Option MasterFault
reading_fault model control reading = option_map_or (fault_read model control) reading (Some Unknown)

-- The fault of a document as a master; none where it may be one.
abbrev pub master_fault : Lists → RawUnitDoc → Option MasterFault
master_fault model doc = reading_fault model doc.control (read_by_type model doc.control doc.segments)
