-- The ending of `pass` is one of the run.
use Rattle.std.specs.Arc.{arc_value}
use Rattle.std.proofs.Common.{◌≡◌, ◌∙◌, ◌⊎◌, ℕ, Some, Ok, List, refl, sym, ap, subst, inl, inr}
use Rattle.ale_base.specs.Lines.{lines_of}
use Rattle.ale_io.specs.Told.{Told}
use Rattle.ale_host.specs.declared.words.Form.TheVariants.{Pass, Run}
use Rattle.ale_host.specs.declared.ending.Ending.{Ending}
use Rattle.ale_host.specs.declared.ending.Ending.TheVariants as ending
use Rattle.ale_host.specs.Inputs.{EndsRun, SaysDocuments, SaysScript, StopsAtDocuments}
use Rattle.idoc_file.specs.declared.raw_doc.RawDoc.{RawDoc}
use Rattle.ale_host.specs.declared.inputs.SaidModel.{SaidModel}
use Rattle.ale_host.specs.declared.prepared.Prepared.{Prepared}
use Rattle.ale_host.specs.LoadModel.{load_model}
use Rattle.ale_host.specs.Load as load
use Rattle.ale_host.specs.Running.{masters_of}
use Rattle.ale_host.specs.Prepared.{AreMasters, EndsAs, IsLoaded, IsPrepared, IsRead, SaysMasters, SaysModel, prepared_of}
use Rattle.model_text.specs.Text.{answer_to}
use Rattle.script_text.specs.declared.command.Command.{Command}
use Rattle.script_text.specs.Script.{script_of}
use Rattle.unit_core.specs.declared.raw_unit_doc.RawUnitDoc.{RawUnitDoc}
use Rattle.ale_host.specs.Words.{form_of, document_file, documents_file, model_file, script_file}
use Rattle.ale_host.specs.Ending.{EndsPass, Ends, IsPrintable, IsQuiet}

pub Ends-pass : (words : List (List ℕ)) (told : List ℕ → Told) (faults : Type 0) (end : Ending) → form_of words ≡ Some Pass
    → EndsPass (document_file words) (told (document_file words)) faults end → Ends words told faults end
Ends-pass words told faults (ending.Passed documents) is_pass ends = inl (is_pass, ends)
Ends-pass words told faults (ending.ModelRefused fault) is_pass ends = inl (is_pass, ends)
Ends-pass words told faults (ending.Refused fault) is_pass ends = inl (is_pass, ends)
Ends-pass words told faults (ending.ScriptRefused fault) is_pass ends = inl (is_pass, ends)
Ends-pass words told faults (ending.Unread name why) is_pass ends = inl (is_pass, ends)
Ends-pass words told faults ending.OutOfMemory is_pass ends = tt
Ends-pass words told faults ending.Usage is_pass ends = absurd ends.2

-- a run of files whose names are these words ends so
pub Ends-run : (words : List (List ℕ)) (told : List ℕ → Told) (faults : Type 0) (end : Ending) → form_of words ≡ Some Run
    → EndsRun told faults (model_file words) (documents_file words) (script_file words) end → Ends words told faults end
Ends-run words told faults (ending.Passed documents) is_run ends = inr (inl (is_run, ends))
Ends-run words told faults (ending.ModelRefused fault) is_run ends = inr (inl (is_run, ends))
Ends-run words told faults (ending.Refused fault) is_run ends = inr (inl (is_run, ends))
Ends-run words told faults (ending.ScriptRefused fault) is_run ends = inr (inl (is_run, ends))
Ends-run words told faults (ending.Unread name why) is_run ends = inr (inl (is_run, ends))
Ends-run words told faults ending.OutOfMemory is_run ends = tt
Ends-run words told faults ending.Usage is_run ends = elim ends [
  | inl stops ↦ absurd stops
  | inr (lists, says, behind) ↦ elim behind [ inl stops ↦ absurd stops | inr (all, documents, last) ↦ absurd last ]
]

-- an ending of these words can be printed: only `pass` prints documents, and a file has no more than are printed
pub ends-printable : (words : List (List ℕ)) (told : List ℕ → Told) (faults : Type 0) (end : Ending) → Ends words told faults end → IsPrintable end
ends-printable words told faults (ending.Passed documents) (inl passes) = passes.1.2.few
ends-printable words told faults (ending.Passed documents) (inr (inl runs)) = elim runs.1 [
  | inl stops ↦ absurd stops
  | inr (lists, says, behind) ↦ elim behind [ inl stops ↦ absurd stops | inr (all, its, last) ↦ absurd last ]
]
ends-printable words told faults (ending.Passed documents) (inr (inr loads)) = absurd loads.2
ends-printable words told faults _ ends = tt

-- the file of `pass` was read, or it ended the call
pub pass-read : (name : List ℕ) (told : Told) (faults : Type 0) (documents : List RawDoc) → SaysDocuments told documents
    → EndsPass name told faults (ending.Passed documents)
pass-read name told faults documents says = says

pub pass-ended : (name : List ℕ) (told : Told) (faults : Type 0) (end : Ending) → StopsAtDocuments name told faults end
    → (end ≡ ending.OutOfMemory) ⊎ EndsPass name told faults end
pass-ended name told faults (ending.Unread its_name why) stops = inr stops
pass-ended name told faults (ending.Refused fault) stops = inr stops
pass-ended name told faults ending.OutOfMemory stops = inl refl
pass-ended name told faults _ stops = absurd stops

-- what is had of a model with its text, masters and commands
is-prepared : (file : SaidModel) (documents : List RawDoc) (masters : List RawUnitDoc) (commands : List Command) (prepared : Prepared)
    → arc_value file.names ≡ arc_value file.model → masters ≡ masters_of documents → prepared ≡ prepared_of file masters commands
    → IsPrepared file.text (arc_value file.model) documents commands prepared
is-prepared file documents masters commands prepared names same is = record {
  text_is = ap (λ (p : Prepared). p.text) is;
  model_is = ap (λ (p : Prepared). arc_value p.model) is;
  names_are = ap (λ (p : Prepared). arc_value p.inputs.model) is ∙ names;
  masters_are = ap (λ (p : Prepared). p.inputs.masters) is ∙ same;
  commands_are = ap (λ (p : Prepared). p.commands) is;
}

-- what a load has is what its texts say
pub is-loaded : (count : ℕ) (file : SaidModel) (masters : List RawUnitDoc) (commands : List Command) (prepared : Prepared)
    → file.text ≡ load_model → answer_to load_model ≡ Ok (arc_value file.model) → arc_value file.names ≡ arc_value file.model
    → AreMasters (lines_of (load.documents count)) masters → script_of (load.script count) ≡ Ok commands → prepared ≡ prepared_of file masters commands
    → IsLoaded count prepared
is-loaded count file masters commands prepared text says names are says_commands is = (
  arc_value file.model,
  (
    are.0,
    (
      commands,
      record { says_model = says; says_documents = are.1; says_script = says_commands },
      subst (λ (t : List ℕ). IsPrepared t (arc_value file.model) are.0 commands prepared) text (is-prepared file are.0 masters commands prepared
          names are.2 is),
    ),
  ),
)

-- what a run has is what its three files say
pub is-read : (told : List ℕ → Told) (file : SaidModel) (masters : List RawUnitDoc) (commands : List Command) (prepared : Prepared)
    (model documents script : List ℕ)
    → SaysModel (told model) file → SaysMasters (told documents) masters → SaysScript (told script) commands → prepared ≡ prepared_of file masters commands
    → IsRead told model documents script prepared
is-read told file masters commands prepared model documents script says_model says_masters says_script is = (
  file.text,
  (
    arc_value file.model,
    (
      says_masters.0,
      (
        commands,
        record { in_file = says_model.in_file; says_model = says_model.says; says_documents = says_masters.1; says_script = says_script },
        is-prepared file says_masters.0 masters commands prepared says_model.names_are says_masters.2 is,
      ),
    ),
  ),
)

-- an ending that is printed, or want of memory in its place, is one of these words
pub ends-as : (words : List (List ℕ)) (told : List ℕ → Told) (faults : Type 0) (due its : Ending) → Ends words told faults due → EndsAs due its → Ends words
    told faults its
ends-as words told faults due its ends (inl same) = subst (Ends words told faults) (sym same) ends
ends-as words told faults due its ends (inr same) = subst (Ends words told faults) (sym same) tt

-- the same of the count of faults of the files
pub quiet-early : (due its : Ending) (before after : ℕ) → IsQuiet due before after → EndsAs due its → IsQuiet its before after
quiet-early due its before after quiet (inl same) = subst (λ (end : Ending). IsQuiet end before after) (sym same) quiet
quiet-early due its before after quiet (inr same) = subst (λ (end : Ending). IsQuiet end before after) (sym same) tt
