use Rattle.std.proofs.Common.{[], rules}
use Rattle.std.proofs.lemmas.List.FromFn.{fill_by_all}
use Rattle.ale_volumes.proofs.memory_volumes.empty_volumes.Goals as goal

pub returns : goal.returns
returns c = fill_by_all (λ k. []) c.from_fn.result 16 [] (search rules) (λ k low. let called = c.from_fn.ensures.items.at k [] low in search (rules, called.2))
