-- A master that was read, in memory: a step on the way to `master_of` of `Added`.
use Rattle.std.specs.Prelude.{◌<◌, length}
use Rattle.dist_model.specs.declared.lists.Lists.{Lists}
use Rattle.dist_model.specs.Model.{entries_for}
use Rattle.idoc_tree.specs.Nodes.{forest_of}
use Rattle.idoc_reading.specs.Document.{IsOfEntries}
use Rattle.outbound_build.specs.declared.masters.MasterDoc.{MasterDoc}
use Rattle.outbound_build.specs.Document.{document_of}
use Rattle.outbound_build.specs.Added.{Master}

-- the master that is in memory
abbrev pub master_in : MasterDoc → Master
master_in master = record { message = master.message; document = document_of master.doc }

-- a master that was read is a document by the entries for its message type
pub record IsRead (model : Lists) (master : MasterDoc) : Type 0 where
  pub known : master.message < length model.messages
  pub of_entries : IsOfEntries model.definitions (entries_for model master.message master.doc.control) (forest_of master.doc.forest.items)
