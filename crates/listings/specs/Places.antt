-- Where the segments of a document stand in it: SEGNUM, PSGNUM and HLEVEL of their data records. The fields are SAP's (SAP Library, IDoc
-- interface, data record); their values are this project's own.
use Rattle.std.specs.Prelude.{ℕ, suc, ◌+◌, ◌<◌, List, [], ◌∷◌, ◌++◌, length, Option, Result, Ok, Err}
use Rattle.std.specs.Option.{option_map_or}
use Rattle.idoc_record.specs.declared.place.Place.{Place}
use Rattle.idoc_record.specs.Data.{DataRecord}
use Rattle.dist_model.specs.declared.lists.Lists.{Lists}
use Rattle.idoc_tree.specs.declared.fault.SyntaxFault.{SyntaxFault}
use Rattle.idoc_tree.specs.Forest.{Forest, no_trees, tree, preorder}
use Rattle.idoc_reading.specs.Reading.{ReadDocument, read_by_type}
use Rattle.unit_core.specs.declared.raw_unit_doc.RawUnitDoc.{RawUnitDoc}

-- a place fits its data record: SEGNUM and PSGNUM have six digits, HLEVEL has two
abbrev pub HasDigits : Place → Type 0
HasDigits place = (place.segnum < 1000000) × (place.parent < 1000000) × (place.level < 100)

-- The places of the segments of a forest, in preorder. The first has this number; the segment above the roots is of the number that is
-- given, and 0 where there is none; the roots are at this level, and those below a segment one level deeper.
abbrev pub places_in : ℕ → ℕ → ℕ → Forest → List Place
places_in number above level no_trees = []
places_in number above level (tree root below after) =
    record { segnum = number; parent = above; level = level }
    ∷ (places_in (suc number) number (suc level) below ++ places_in (suc number + length (preorder below)) above level after)

-- the places of data records that hang together in no known way: all at the root level
abbrev pub root_places : ℕ → List DataRecord → List Place
root_places number [] = []
root_places number (line ∷ lines) = record { segnum = number; parent = 0; level = 1 } ∷ root_places (suc number) lines

-- the places of data records, by what was made of them
abbrev pub places_made : List DataRecord → Result Forest SyntaxFault → List Place
places_made lines (Ok forest) = places_in 1 0 1 forest
places_made lines (Err fault) = root_places 1 lines

-- the places of the segments of a document, by what was read of it
abbrev pub places_read : List DataRecord → Option ReadDocument → List Place
places_read lines reading = option_map_or (λ read. places_made lines read.made) reading (root_places 1 lines)

-- the places of the segments of a document, by the model
abbrev pub places_by : Lists → RawUnitDoc → List Place
places_by model document = places_read document.segments (read_by_type model document.control document.segments)

-- the same, by the model in force; what no model reads is at the root level
abbrev pub places_under : Option Lists → RawUnitDoc → List Place
places_under model document = option_map_or (λ model. places_by model document) model (root_places 1 document.segments)
