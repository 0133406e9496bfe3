-- What an operator is shown of the objects of a log. This project's own.
use Rattle.std.specs.Prelude.{List, map}
use Rattle.object_store.specs.declared.object.Object.{Object}
use Rattle.object_store.specs.Objects.{listed}
use Rattle.status_log.specs.declared.line.ObjectLine.{ObjectLine}
use Rattle.unit_core.specs.declared.records.Record.{Record}
use Rattle.document_state.specs.OfLog.{applied_by}

-- the line of an object: its kind, its key, and its fields that are not blank
abbrev pub object_line : Object → ObjectLine
object_line object = record { kind = object.kind; key = object.key; fields = object.fields }

-- the lines of the objects of a log: by kind and key, each with its fields by name, all in byte order
abbrev pub object_lines : List Record → List ObjectLine
object_lines log = map object_line (listed (applied_by log).application.objects)
