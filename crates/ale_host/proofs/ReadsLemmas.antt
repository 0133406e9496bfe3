-- What calls that read files one after another leave of them, and how a run ends at one of its files.
use Rattle.std.specs.Arc.{arc_value}
use Rattle.std.proofs.Common.{◌≡◌, ◌∙◌, ℕ, List, Option, Some, None, arith, refl, ap, subst, inl, inr}
use Rattle.ale_base.specs.Faults.{Rose}
use Rattle.ale_io.specs.Told.{Told}
use Rattle.script_text.specs.declared.command.Command.{Command}
use Rattle.unit_core.specs.declared.raw_unit_doc.RawUnitDoc.{RawUnitDoc}
use Rattle.ale_host.specs.declared.ending.Ending.{Ending}
use Rattle.ale_host.specs.declared.ending.Ending.TheVariants as ending
use Rattle.ale_host.specs.declared.inputs.SaidModel.{SaidModel}
use Rattle.ale_host.specs.declared.prepared.Prepared.{Prepared}
use Rattle.ale_host.specs.Inputs.{EndsRun, SaysScript, StopsAtDocuments, StopsAtScript}
use Rattle.ale_host.specs.Prepared.{IsRead, SaysMasters, SaysModel, prepared_of}
use Rattle.ale_host.specs.Reads.{IsQuietWith, ReadsOnly}
use Rattle.ale_host.proofs.EndingLemmas.{is-read}

-- a count that stayed is quiet at each ending
quiet-same : (end : Option Ending) (before after : ℕ) → after ≡ before → IsQuietWith end before after
quiet-same None before after same = same
quiet-same (Some (ending.Unread name why)) before after same = tt
quiet-same (Some ending.OutOfMemory) before after same = tt
quiet-same (Some _) before after same = same

-- nothing was read
pub reads-nothing : (told : List ℕ → Told) (faults : ℕ) (end : Option Ending) → ReadsOnly told told faults faults end
reads-nothing told faults end = record { kept = λ name. refl; counted = omega arith; quiet = quiet-same end faults faults refl }

module _ (told told_then : List ℕ → Told) (faults faults_then : ℕ) where
  module _ (first : ReadsOnly told told_then faults faults_then None) where
    -- one call behind another
    pub reads-then : (told_last : List ℕ → Told) (faults_last : ℕ) (end : Option Ending) → ReadsOnly told_then told_last faults_then faults_last end
        → ReadsOnly told told_last faults faults_last end
    reads-then told_last faults_last end second = record {
      kept = λ name. second.kept name ∙ first.kept name;
      counted = (let one = first.counted in let two = second.counted in omega arith);
      quiet = subst (λ n. IsQuietWith end n faults_last) first.quiet second.quiet;
    }

    -- what is found of a file behind a read is so before it
    seen-before : (P : Told → Type 0 → Type 0) (name : List ℕ) (faults_last : ℕ) → P (told_then name) (Rose faults_then faults_last)
        → P (told name) (Rose faults faults_last)
    seen-before P name faults_last here =
        subst (λ (one : Told). P one (Rose faults faults_last)) (first.kept name)
        (subst (λ (rose : Type 0). P (told_then name) rose) (ap (λ n. Rose n faults_last) first.quiet) here)

-- the run ends at the documents, behind the model
pub documents-end : (told told_model : List ℕ → Told) (faults faults_model faults_last : ℕ) (model documents script : List ℕ) (file : SaidModel)
    (end : Ending)
    → SaysModel (told model) file → ReadsOnly told told_model faults faults_model None
    → StopsAtDocuments documents (told_model documents) (Rose faults_model faults_last) end
    → EndsRun told (Rose faults faults_last) model documents script end
documents-end told told_model faults faults_model faults_last model documents script file end says reads stops = inr (
  arc_value file.model,
  (file.text, (says.in_file, says.says)),
  inl (seen-before told told_model faults faults_model reads (λ one rose. StopsAtDocuments documents one rose end) documents faults_last stops),
)

module _ (told told_model told_documents : List ℕ → Told) (faults faults_model faults_documents : ℕ) (model documents script : List ℕ)
    (file : SaidModel) (masters : List RawUnitDoc)
    (says_model : SaysModel (told model) file) (first : ReadsOnly told told_model faults faults_model None)
    (says_masters : SaysMasters (told_model documents) masters)
    (second : ReadsOnly told_model told_documents faults_model faults_documents None) where
  masters-before : SaysMasters (told documents) masters
  masters-before = subst (λ (one : Told). SaysMasters one masters) (first.kept documents) says_masters

  both : ReadsOnly told told_documents faults faults_documents None
  both = reads-then told told_model faults faults_model first told_documents faults_documents None second

  -- the run ends at the script, behind the documents
  pub script-end : (faults_last : ℕ) (end : Ending) → StopsAtScript script (told_documents script) (Rose faults_documents faults_last) end
      → EndsRun told (Rose faults faults_last) model documents script end
  script-end faults_last end stops = inr (
    arc_value file.model,
    (file.text, (says_model.in_file, says_model.says)),
    inr (
      masters-before.0,
      masters-before.1,
      seen-before told told_documents faults faults_documents both (λ one rose. StopsAtScript script one rose end) script faults_last stops,
    ),
  )

  -- all three files were read
  pub run-read : (commands : List Command) (prepared : Prepared) → SaysScript (told_documents script) commands → prepared ≡ prepared_of file masters commands
      → IsRead told model documents script prepared
  run-read commands prepared says_script is =
      is-read told file masters commands prepared model documents script says_model masters-before
      (subst (λ (one : Told). SaysScript one commands) (both.kept script) says_script) is
