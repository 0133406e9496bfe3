-- What a gathering makes, as documents that a Commit may carry. SAP Library, ALE, change pointers; one master for an object is this
-- project's own.
use Rattle.std.specs.Prelude.{ℕ, List, map}
use Rattle.segment_defs.specs.declared.definitions.Definitions.{Definitions}
use Rattle.dist_model.specs.declared.lists.Lists.{Lists}
use Rattle.unit_core.specs.declared.raw_unit_doc.RawUnitDoc.{RawUnitDoc}
use Rattle.outbound_build.specs.Document.{carried}
use Rattle.object_store.specs.Objects.{ObjectsOf}
use Rattle.change_pointers.specs.declared.pointer.Pointer.{Pointer}
use Rattle.change_pointers.specs.Master.{ObjectMaster}
use Rattle.change_pointers.specs.Gathered.{gathered as masters_of}

-- the master of an object as a Commit carries it: its control record, and the data records of its forest
abbrev pub carried_master : Definitions → ObjectMaster → RawUnitDoc
carried_master definitions master = carried definitions (record { control = master.control; forest = master.forest })

-- The documents of one gathering: for each object of which a pointer of the message type waits, in byte order of kinds and keys, its
-- master. An object that is not there gives none.
abbrev pub gathered : Lists → ObjectsOf → List Pointer → ℕ → List RawUnitDoc
gathered model objects pointers message = map (carried_master model.definitions) (masters_of model message objects pointers)
