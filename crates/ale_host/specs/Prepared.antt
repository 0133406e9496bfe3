-- What a run has from its files; only private functions cite this.
use Rattle.std.specs.Prelude.{◌≡◌, ◌⊎◌, ℕ, List, Ok}
use Rattle.std.specs.Arc.{arc_value}
use Rattle.ale_io.specs.Told.{Told, IsFileWithin}
use Rattle.dist_model.specs.declared.lists.Lists.{Lists}
use Rattle.idoc_file.specs.declared.raw_doc.RawDoc.{RawDoc}
use Rattle.idoc_file.specs.DocumentFile.{AreDocuments}
use Rattle.model_text.specs.declared.reading.TheConstants as text_limit
use Rattle.model_text.specs.Text.{answer_to}
use Rattle.script_text.specs.declared.command.Command.{Command}
use Rattle.unit_core.specs.declared.raw_unit_doc.RawUnitDoc.{RawUnitDoc}
use Rattle.ale_host.specs.declared.inputs.SaidModel.{SaidModel}
use Rattle.ale_host.specs.declared.prepared.Prepared.{Prepared}
use Rattle.ale_host.specs.Inputs.{SaysDocuments}
use Rattle.ale_host.specs.declared.ending.Ending.{Ending}
use Rattle.ale_host.specs.declared.ending.Ending.TheVariants as ending
use Rattle.ale_host.specs.LoadModel.{load_model}
use Rattle.ale_host.specs.declared.host.Order.{Order}
use Rattle.ale_host.specs.Loading.{LoadSays}
use Rattle.ale_host.specs.Running.{AskFor, Say, masters_of}

-- a run has this from its files: a text and the model that it says, the documents, which are its masters, and the commands
pub record IsPrepared (text : List ℕ) (model : Lists) (documents : List RawDoc) (commands : List Command) (prepared : Prepared) : Type 0 where
  pub text_is : prepared.text ≡ text
  pub model_is : arc_value prepared.model ≡ model
  pub names_are : arc_value prepared.inputs.model ≡ model
  pub masters_are : prepared.inputs.masters ≡ masters_of documents
  pub commands_are : prepared.commands ≡ commands

-- the text of the model is that of its file, as far as it is told, and says it
pub record SaysModel (told : Told) (file : SaidModel) : Type 0 where
  pub in_file : IsFileWithin text_limit.MAX_BYTES told file.text
  pub says : answer_to file.text ≡ Ok (arc_value file.model)
  pub names_are : arc_value file.names ≡ arc_value file.model

-- the file of the documents says these masters
abbrev pub SaysMasters : Told → List RawUnitDoc → Type 0
SaysMasters told masters = (documents : List RawDoc) × SaysDocuments told documents × (masters ≡ masters_of documents)

-- lines say these masters
abbrev pub AreMasters : List (List ℕ) → List RawUnitDoc → Type 0
AreMasters lines masters = (documents : List RawDoc) × AreDocuments lines documents × (masters ≡ masters_of documents)

-- what a run has of a model with its text, masters and commands
abbrev pub prepared_of : SaidModel → List RawUnitDoc → List Command → Prepared
prepared_of file masters commands = record {
  text = file.text;
  model = file.model;
  inputs = record { model = file.names; masters = masters };
  commands = commands;
}

-- what a run has is what its files say
abbrev pub IsRead : (List ℕ → Told) → List ℕ → List ℕ → List ℕ → Prepared → Type 0
IsRead told model_name documents_name script_name prepared =
    (text : List ℕ) × ((model : Lists) × ((documents : List RawDoc) × ((commands : List Command)
    × Say told model_name documents_name script_name text model documents commands × IsPrepared text model documents commands prepared)))

-- what a load of so many masters has is what its texts say
abbrev pub IsLoaded : ℕ → Prepared → Type 0
IsLoaded masters prepared =
    (model : Lists) × ((documents : List RawDoc) × ((commands : List Command)
    × LoadSays masters model documents commands × IsPrepared load_model model documents commands prepared))

-- the words ask for a run or a load, and this is what it has
abbrev pub IsAsked : List (List ℕ) → (List ℕ → Told) → Order → Type 0
IsAsked words told order =
    (text : List ℕ) × ((model : Lists) × ((documents : List RawDoc) × ((commands : List Command)
    × AskFor words told order.report text model documents commands × IsPrepared text model documents commands order.prepared)))

-- an ending, or want of memory in its place
abbrev pub EndsAs : Ending → Ending → Type 0
EndsAs due its = (its ≡ due) ⊎ (its ≡ ending.OutOfMemory)
