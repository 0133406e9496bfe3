use Rattle.std.proofs.Common.{refl, ap, ◌∙◌, ◌++◌}
use Rattle.ale_io.specs.Folder.{told_of}
use Rattle.worked_cases.specs.Judged.{compared}
use Rattle.worked_cases.proofs.tried.tried.Goals as goal

pub returns-clause-tried : goal.returns-clause-tried
returns-clause-tried g c =
    let told = told_of c.args.files.now.files in
    let run = c.args.run.now in
    let call = c.performed-status in
    let status = call.result.status in
    let printed = call.new.out.bytes.items in
    let adds = c.in_ok-put_compared.ensures in (
      compared run status printed adds.0 adds.1 adds.2,
      (told, λ name. refl, (c.in_ok-begun.begun, c.in_ok-begun.ensures, (status, printed, adds.0, adds.1, adds.2, call.ensures.gives, refl))),
      adds.3 ∙ ap (λ text. c.args.comparisons.now ++ compared run status text adds.0 adds.1 adds.2) c.as_slice-printed.ensures.value,
    )
