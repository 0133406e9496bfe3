-- What one gathering of a message type makes of the pointers that wait. SAP Library, ALE, change pointers; one master for an object is
-- this project's own.
use Rattle.std.specs.Prelude.{ℕ, List}
use Rattle.std.specs.List.{filter_map}
use Rattle.dist_model.specs.declared.lists.Lists.{Lists}
use Rattle.object_store.specs.Objects.{ObjectsOf}
use Rattle.change_pointers.specs.declared.pointer.Pointer.{Pointer}
use Rattle.change_pointers.specs.Pointers.{pending_of}
use Rattle.change_pointers.specs.Master.{ObjectMaster, object_master}

-- The masters of one gathering: one for each object of which a pointer of the message type waits, in byte order of kinds and keys,
-- as the object is now. An object that was changed back has its master too: its pointers wait.
abbrev pub gathered : Lists → ℕ → ObjectsOf → List Pointer → List ObjectMaster
gathered model message objects pointers = filter_map (object_master model message objects) (pending_of message pointers)
