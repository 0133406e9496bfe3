-- Which Commits may follow a log by its model, objects and pointers, and not by how many units there would be: one master, or those
-- that a gathering makes. This project's own.
use Rattle.std.specs.Prelude.{ℕ, ◌==◌, ◌&&◌, Bool, false, List, length, position, is_none, nat_le, nat_lt, Option, Some, None}
use Rattle.std.specs.Cmp.Lexicographic.{pointwise}
use Rattle.std.specs.List.{list_all}
use Rattle.std.specs.Option.{option_map_or}
use Rattle.ale_base.specs.Text.{is_text}
use Rattle.dist_model.specs.declared.lists.Lists.{Lists}
use Rattle.unit_core.specs.declared.raw_unit_doc.RawUnitDoc.{RawUnitDoc}
use Rattle.object_store.specs.Objects.{ObjectsOf}
use Rattle.change_pointers.specs.declared.pointer.Pointer.{Pointer}
use Rattle.unit_core.specs.SameUnit.{is_same_doc}
use Rattle.application_rules.specs.declared.commits.TheConstants.{MOST_SEGMENTS}
use Rattle.application_rules.specs.Masters.{master_fault}
use Rattle.application_rules.specs.Gathered.{gathered}

-- whether a document may be committed: it has not too many segments, and no fault as a master
abbrev pub may_be_committed : Lists → RawUnitDoc → Bool
may_be_committed model doc = nat_le (length doc.segments) MOST_SEGMENTS && is_none (master_fault model doc)

-- the message type whose own name this is; the name of a reduced one is none
abbrev pub own_named : List ℕ → Lists → Option ℕ
own_named name model = position (λ message. is_text name message.name) model.messages

-- whether there is a document, and they are those of a gathering of a message type
abbrev pub are_gathered : Lists → ObjectsOf → List Pointer → List RawUnitDoc → ℕ → Bool
are_gathered model objects pointers docs message =
    nat_lt 0 (length docs) && pointwise is_same_doc docs (gathered model objects pointers message)

-- whether documents are what their origin says: one document, or those of a gathering of the message type of a name
abbrev pub are_of : Lists → ObjectsOf → List Pointer → Option (List ℕ) → List RawUnitDoc → Bool
are_of model objects pointers None docs = length docs == 1
are_of model objects pointers (Some name) docs = option_map_or (are_gathered model objects pointers docs) (own_named name model) false

-- Whether a Commit may follow a log whose model, objects and pointers these are. How many units there would be is no part of it.
abbrev pub may_commit : Lists → ObjectsOf → List Pointer → Option (List ℕ) → List RawUnitDoc → Bool
may_commit model objects pointers origin docs = are_of model objects pointers origin docs && list_all (may_be_committed model) docs
