-- What a load reads, and what it prints.
use Rattle.std.specs.Prelude.{◌≡◌, ⊤, ℕ, List, ◌++◌, Ok, Err, codes}
use Rattle.std.specs.Fmt.{decimal}
use Rattle.ale_base.specs.Lines.{lines_of}
use Rattle.idoc_file.specs.declared.raw_doc.RawDoc.{RawDoc}
use Rattle.idoc_file.specs.DocumentFile.{AreDocuments, IsFirstBad}
use Rattle.dist_model.specs.declared.lists.Lists.{Lists}
use Rattle.model_text.specs.Text.{answer_to}
use Rattle.script_text.specs.declared.command.Command.{Command}
use Rattle.script_text.specs.Script.{script_of}
use Rattle.ale_host.specs.LoadModel.{load_model}
use Rattle.ale_host.specs.Load.{documents, script}
use Rattle.landscape.specs.declared.counts.Counts.{Counts}
use Rattle.ale_host.specs.declared.ending.Ending.{Ending}
use Rattle.ale_host.specs.declared.ending.Ending.TheVariants as ending

-- the texts of a load of so many masters say this model, these documents and these commands
pub record LoadSays (masters : ℕ) (model : Lists) (these : List RawDoc) (commands : List Command) : Type 0 where
  pub says_model : answer_to load_model ≡ Ok model
  pub says_documents : AreDocuments (lines_of (documents masters)) these
  pub says_script : script_of (script masters) ≡ Ok commands

-- why a load of so many masters ends at one of its texts
abbrev pub EndsLoad : ℕ → Ending → Type 0
EndsLoad masters (ending.ModelRefused fault) = answer_to load_model ≡ Err fault
EndsLoad masters (ending.Refused fault) = IsFirstBad (lines_of (documents masters)) fault
EndsLoad masters (ending.ScriptRefused fault) = script_of (script masters) ≡ Err fault
EndsLoad masters ending.OutOfMemory = ⊤
EndsLoad masters _ = ⊥

-- the line of a load: how many masters and units were committed, and how many units were received, executed and ended
abbrev pub load_line : Counts → List ℕ
load_line counts =
    codes "masters " ++ (decimal counts.masters
    ++ (codes " units " ++ (decimal counts.units
    ++ (codes " received " ++ (decimal counts.received
    ++ (codes " executed " ++ (decimal counts.executed
    ++ (codes " ended " ++ (decimal counts.ended ++ codes "\n")))))))))
