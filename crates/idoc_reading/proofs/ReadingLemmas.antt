-- What was read of a document has a segment for each data record.
use Rattle.std.specs.Option.{option_map}
use Rattle.std.proofs.Common.{◌≡◌, ℕ, Option, Some, None, Ok, List, length, ap, ◌∙◌}
use Rattle.idoc_record.specs.declared.control_field.ControlField.TheVariants.{Mestyp}
use Rattle.idoc_record.specs.Control.{field_of}
use Rattle.idoc_record.specs.Data.{DataRecord}
use Rattle.dist_model.specs.declared.lists.Lists.{Lists}
use Rattle.dist_model.specs.Model.{IsModel, entries_for, message_named}
use Rattle.idoc_tree.specs.Forest.{Forest, preorder}
use Rattle.idoc_reading.specs.Reading.{ReadDocument, read_as, read_by_type}
use Rattle.idoc_reading.proofs.EntryLemmas.{built-each, entries-are}

pub read-each : (model : Lists) (control : List ℕ) (records : List DataRecord) (read : ReadDocument) (forest : Forest) → IsModel model
    → read_by_type model control records ≡ Some read → read.made ≡ Ok forest → length (preorder forest) ≡ length records
read-each model control records read forest kept found made = of_message (message_named (field_of control Mestyp) model) found
  where
    of_message : (o : Option ℕ) → option_map (read_as model control records) o ≡ Some read → length (preorder forest) ≡ length records
    of_message None found = absurd (cc)
    of_message (Some message) found =
        let same : read_as model control records message ≡ read = cc in
        built-each model.definitions (entries_for model message control) (entries-are model message control kept) records forest
        (ap (λ (r : ReadDocument). r.made) same ∙ made)
