use Rattle.std.proofs.Common.{◌≡◌, arith, Some, map, string_bytes, inl, inr, sym, subst, ◌∙◌}
use Rattle.ale_base.specs.Faults.{Rose}
use Rattle.ale_host.specs.declared.words.Form.TheVariants.{Pass, Run}
use Rattle.ale_host.specs.Words.{form_of, document_file, documents_file, model_file, script_file}
use Rattle.ale_host.specs.Ending.{Ends, EndsPass}
use Rattle.ale_host.proofs.WordsLemmas.{document_file-second, run-five, word-at}
use Rattle.ale_host.proofs.EndingLemmas.{Ends-pass, Ends-run}
use Rattle.ale_host.proofs.host.asked.Goals as goal

pub returns-in-Some-Pass-clause-ends : goal.returns-in-Some-Pass-clause-ends
returns-in-Some-Pass-clause-ends g c =
    let words = map string_bytes c.args.words.now in
    let told = g.F.Files.told c.args.files.now in
    let faults = Rose (g.F.Files.faults c.args.files.now) (g.F.Files.faults c.pass.new.files) in
    let is_pass : form_of words ≡ Some Pass = cc in
    let name : document_file words ≡ c.as_str-in-Some-Pass.result.now = document_file-second string_bytes c.args.words.now c.index-words-1-in-Some-Pass.result
    is_pass c.index-words-1-in-Some-Pass.is ∙ sym c.as_str-in-Some-Pass.ensures.value in
    elim c.pass.ensures.ends [
      | inl memory ↦ subst (Ends words told faults) (sym memory) tt
      | inr ends ↦ Ends-pass words told faults c.pass.result is_pass (subst (λ file. EndsPass file (told file) faults c.pass.result) (sym name) ends)
    ]

pub returns-in-Err-clause-ends : goal.returns-in-Err-clause-ends
returns-in-Err-clause-ends g c =
    let words = map string_bytes c.args.words.now in
    let told = g.F.Files.told c.args.files.now in
    let is_run : form_of words ≡ Some Run = cc in
    let five = run-five string_bytes c.args.words.now is_run in
    let model : model_file words ≡ c.as_str-model.result.now = word-at string_bytes c.args.words.now 1 c.index-words-1.result (omega (arith, five))
    c.index-words-1.is ∙ sym c.as_str-model.ensures.value in
    let documents : documents_file words ≡ c.as_str.result.now = word-at string_bytes c.args.words.now 2 c.index-words-2.result
    (omega (arith, five)) c.index-words-2.is ∙ sym c.as_str.ensures.value in
    let script : script_file words ≡ c.as_str-in-Some-Run.result.now = word-at string_bytes c.args.words.now 3 c.index-words-3.result (omega (arith, five))
    c.index-words-3.is ∙ sym c.as_str-in-Some-Run.ensures.value in
    let faults = Rose (g.F.Files.faults c.args.files.now) (g.F.Files.faults c.read_run.new.files) in
    Ends-run words told faults c.in-Err.ending is_run (rw (model, documents, script) c.in-Err.ensures.ends)

pub returns-in-Ok-clause-runs : goal.returns-in-Ok-clause-runs
returns-in-Ok-clause-runs g c =
    let words = map string_bytes c.args.words.now in
    let told = g.F.Files.told c.args.files.now in
    let is_run : form_of words ≡ Some Run = cc in
    let five = run-five string_bytes c.args.words.now is_run in
    let model : model_file words ≡ c.as_str-model.result.now = word-at string_bytes c.args.words.now 1 c.index-words-1.result (omega (arith, five))
    c.index-words-1.is ∙ sym c.as_str-model.ensures.value in
    let documents : documents_file words ≡ c.as_str.result.now = word-at string_bytes c.args.words.now 2 c.index-words-2.result
    (omega (arith, five)) c.index-words-2.is ∙ sym c.as_str.ensures.value in
    let script : script_file words ≡ c.as_str-in-Some-Run.result.now = word-at string_bytes c.args.words.now 3 c.index-words-3.result (omega (arith, five))
    c.index-words-3.is ∙ sym c.as_str-in-Some-Run.ensures.value in
    let read = c.in-Ok.ensures.says in
    (read.0, (read.1.0, (read.1.1.0, (read.1.1.1.0, (is_run, rw (model, documents, script) read.1.1.1.1), read.1.1.1.2))))
