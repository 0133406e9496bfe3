-- What is sent of a master to one receiver. SAP Library, ALE: outbound processing filters segments, reduces and converts
-- fields and adapts the version; the meaning of each step is this project's own.
use Rattle.std.specs.Prelude.{◌≡◌, ℕ, List, Option, Some, None, option_and_then, slice_get}
use Rattle.std.specs.Option.{option_map_or}
use Rattle.idoc_record.specs.Control.{control_with}
use Rattle.segment_defs.specs.declared.idoc_type.TypePlace.{TypePlace}
use Rattle.dist_model.specs.declared.lists.Lists.{Lists}
use Rattle.dist_model.specs.declared.outbound.Outbound.{Outbound}
use Rattle.dist_model.specs.Model.{entries_for, outbound_of}
use Rattle.idoc_tree.specs.Forest.{Forest, no_trees, tree}
use Rattle.filter_objects.specs.Passing.{groups_of}
use Rattle.filter_objects.specs.Kept.{IsKeptPart}
use Rattle.filter_objects.specs.FromLeaves.{kept_part}
use Rattle.version_reduce.specs.Removed.{removed}
use Rattle.version_reduce.specs.Reduced.{reduced}
use Rattle.version_reduce.specs.Converted.{converted}
use Rattle.version_reduce.specs.Released.{released}
use Rattle.outbound_build.specs.Document.{Document}
use Rattle.outbound_build.specs.ControlRecord.{control_text}

-- what a profile makes of a forest: segments are removed, fields reduced, values converted, and definitions of the
-- profile's release given, in this order
abbrev pub adapted : Lists → Outbound → Forest → Forest
adapted model profile forest = released model profile (converted model profile (reduced model profile (removed profile forest)))

-- the document of this number that a profile makes of what is kept of a master; none where nothing is kept
abbrev pub made_of : Lists → Outbound → ℕ → List ℕ → Forest → Option Document
made_of model profile number control no_trees = None
made_of model profile number control (tree root below after) =
    Some (record {
      control = control_with (control_text model profile number control);
      forest = adapted model profile (tree root below after);
    })

-- the message type of a row of the model
abbrev pub message_of : Lists → ℕ → ℕ
message_of model row = option_map_or (λ is. is.message) (slice_get model.rows row) 0

-- the entries by which a master with this control record is read that a row sends
abbrev pub entries_of : Lists → ℕ → List ℕ → List TypePlace
entries_of model row control = entries_for model (message_of model row) control

-- what the groups of a row keep of a master
abbrev pub kept_by : Lists → ℕ → Document → Forest
kept_by model row master = kept_part model (entries_of model row master.control) (groups_of model row) master.forest

-- what is sent by a row and its profile
abbrev pub sent_by : Lists → ℕ → ℕ → Document → Outbound → Option Document
sent_by model row number master profile = made_of model profile number master.control (kept_by model row master)

-- what is sent of a master by a row of the model, as the document of this number; none where nothing of it is kept
abbrev pub sent : Lists → ℕ → ℕ → Document → Option Document
sent model row number master = option_and_then (sent_by model row number master) (outbound_of model row)

-- a forest is what the profile of a row makes of a part of a master that the groups of the row keep
pub record IsAdaptedPart (model : Lists) (row : ℕ) (master : Document) (forest : Forest) : Type 0 where
  pub kept : Forest
  pub profile : Outbound
  pub part : IsKeptPart model (entries_of model row master.control) (groups_of model row) master.forest kept
  pub of_row : outbound_of model row ≡ Some profile
  pub makes : forest ≡ adapted model profile kept
