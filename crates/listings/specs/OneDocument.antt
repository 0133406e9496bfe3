-- What an operator is shown of one outbound document of a log: its control record, and its segments with their places. This project's own.
use Rattle.std.specs.Prelude.{ℕ, List, [], ◌∷◌, Option}
use Rattle.std.specs.Option.{option_map}
use Rattle.idoc_record.specs.declared.place.Place.{Place}
use Rattle.idoc_record.specs.Data.{DataRecord}
use Rattle.dist_model.specs.declared.lists.Lists.{Lists}
use Rattle.status_log.specs.declared.line.SegmentLine.{SegmentLine}
use Rattle.unit_core.specs.declared.raw_unit_doc.RawUnitDoc.{RawUnitDoc}
use Rattle.unit_core.specs.declared.records.Record.{Record}
use Rattle.said_models.specs.OfLog.{model_of}
use Rattle.document_state.specs.OfLog.{sent_by}
use Rattle.listings.specs.declared.shown_document.ShownDocument.{ShownDocument}
use Rattle.listings.specs.History.{numbered_in}
use Rattle.listings.specs.Places.{places_under}

-- data records, each at its place
abbrev pub placed_lines : List Place → List DataRecord → List SegmentLine
placed_lines (place ∷ places) (line ∷ lines) = record { place = place; line = line } ∷ placed_lines places lines
placed_lines _ _ = []

-- a document as it is shown under the model in force
abbrev pub shown_under : Option Lists → RawUnitDoc → ShownDocument
shown_under model document =
    record { control = document.control; lines = placed_lines (places_under model document) document.segments }

-- the outbound document of a number in a log, as it is shown; none where there is none
abbrev pub document_shown : List Record → ℕ → Option ShownDocument
document_shown log number = option_map (λ one. shown_under (model_of log) one.document) (numbered_in (sent_by log).past.documents number)
