use Rattle.std.proofs.Common.{inl}
use Rattle.std.proofs.lemmas.Result.{err_from_is_err_and}
use Rattle.ale_host.proofs.ReadsLemmas.{documents-end, run-read, script-end}
use Rattle.ale_host.proofs.host.read_run.Goals as goal

pub returns-in_err-said-clause-ends : goal.returns-in_err-said-clause-ends
returns-in_err-said-clause-ends g c =
    let p = err_from_is_err_and c.from_residual.result c.from_residual.ensures.1 in
    rw (p.1, p.2) (inl c.in_err-said.ensures.stops)

pub returns-in_err-masters-clause-ends : goal.returns-in_err-masters-clause-ends
returns-in_err-masters-clause-ends g c =
    let told = g.F.Files.told in
    let faults = g.F.Files.faults in
    let p = err_from_is_err_and c.from_residual-in_err-masters.result c.from_residual-in_err-masters.ensures.1 in
    rw (p.1, p.2) (documents-end (told c.args.files.now) (told c.read_model.new.files) (faults c.args.files.now) (faults c.read_model.new.files)
    (faults c.read_masters.new.files) c.args.model.now c.args.documents.now c.args.script.now c.in_ok-said.said c.in_err-masters.field-0.0
    c.in_ok-said.ensures.says c.in_ok-said.ensures.only c.in_err-masters.ensures.stops)

pub returns-in_err-commands-clause-ends : goal.returns-in_err-commands-clause-ends
returns-in_err-commands-clause-ends g c =
    let told = g.F.Files.told in
    let faults = g.F.Files.faults in
    let p = err_from_is_err_and c.from_residual-in_err-commands.result c.from_residual-in_err-commands.ensures.1 in
    rw (p.1, p.2) (script-end (told c.args.files.now) (told c.read_model.new.files) (told c.read_masters.new.files) (faults c.args.files.now)
    (faults c.read_model.new.files) (faults c.read_masters.new.files) c.args.model.now c.args.documents.now c.args.script.now c.in_ok-said.said
    c.in_ok-masters.masters c.in_ok-said.ensures.says c.in_ok-said.ensures.only c.in_ok-masters.ensures.says c.in_ok-masters.ensures.only
    (faults c.read_script.new.files) c.in_err-commands.field-0.0 c.in_err-commands.ensures.stops)

pub returns-clause-says : goal.returns-clause-says
returns-clause-says g c =
    let told = g.F.Files.told in
    let faults = g.F.Files.faults in
    run-read (told c.args.files.now) (told c.read_model.new.files) (told c.read_masters.new.files) (faults c.args.files.now)
    (faults c.read_model.new.files) (faults c.read_masters.new.files) c.args.model.now c.args.documents.now c.args.script.now c.in_ok-said.said
    c.in_ok-masters.masters c.in_ok-said.ensures.says c.in_ok-said.ensures.only c.in_ok-masters.ensures.says c.in_ok-masters.ensures.only
    c.in_ok-commands.commands c.prepared_from.result c.in_ok-commands.ensures.says c.prepared_from.ensures
