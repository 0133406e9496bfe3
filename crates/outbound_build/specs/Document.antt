-- Documents: a control record and the segments.
use Rattle.std.specs.Prelude.{ℕ, List}
use Rattle.segment_defs.specs.declared.definitions.Definitions.{Definitions}
use Rattle.idoc_tree.specs.declared.node.Doc.{Doc}
use Rattle.idoc_tree.specs.Forest.{Forest}
use Rattle.idoc_tree.specs.Nodes.{forest_of}
use Rattle.idoc_tree.specs.Lines.{lines_of}
use Rattle.unit_core.specs.declared.raw_unit_doc.RawUnitDoc.{RawUnitDoc}

-- a document: the bytes of its control record, and its forest
pub record Document : Type 0 where
  pub control : List ℕ
  pub forest : Forest

-- the document that is in memory
abbrev pub document_of : Doc → Document
document_of doc = record { control = doc.control; forest = forest_of doc.forest.items }

-- the document as a unit carries it: its control record, and the data records of its forest
abbrev pub carried : Definitions → Document → RawUnitDoc
carried definitions document = record { control = document.control; segments = lines_of definitions document.forest }
