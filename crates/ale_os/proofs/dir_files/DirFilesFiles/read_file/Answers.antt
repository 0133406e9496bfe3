use Rattle.std.proofs.Common.{◌+◌, ◌≤◌, ◌++◌, length, drop, sym, ap, ◌∙◌, arith}
use Rattle.std.specs.Prelude.{replicate}
use Rattle.std.proofs.lemmas.List.{length-replicate, length-drop, take-append-drop}
use Rattle.ale_os.proofs.dir_files.DirFilesFiles.read_file.Goals as goal

-- the bytes behind those that were there
pub returns-in-Ok-clause-read : goal.returns-in-Ok-clause-read
returns-in-Ok-clause-read g c =
    let before = c.args.into.now.items in
    let after = c.append.new.into.items in
    let few : length (drop (length before) after) ≤ c.args.limit = omega (arith, c.in-Ok.ensures.within, length-drop (length before) after) in
    (drop (length before) after, tt, few, sym (take-append-drop (length before) after) ∙ ap (λ front. front ++ drop (length before) after) c.in-Ok.ensures.kept)

-- where nothing is told of the file, any bytes over the limit will do
pub returns-in-Err-clause-too_long : goal.returns-in-Err-clause-too_long
returns-in-Err-clause-too_long g c = λ refused. (replicate (c.args.limit + 1) 0, tt, simp length-replicate (omega arith))
