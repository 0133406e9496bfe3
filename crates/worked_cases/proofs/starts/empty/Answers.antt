use Rattle.std.proofs.Common.{rules, [], ◌∷◌, ◌++◌, ap, ◌∙◌}
use Rattle.std.proofs.lemmas.List.FromFn.{fill_by_all}
use Rattle.worked_cases.proofs.starts.empty.Goals as goal

pub returns : goal.returns
returns c =
    c.in_ok-push.ensures.items ∙ ap (λ all. all ++ c.from_fn.result ∷ []) c.new-all.ensures.items
    ∙ ap (λ one. one ∷ [])
    (fill_by_all (λ k. []) c.from_fn.result 16 [] (search rules) (λ k low. let called = c.from_fn.ensures.items.at k [] low in search (rules, called.2)))
