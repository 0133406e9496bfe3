use Rattle.std.specs.List.{filter_map}
use Rattle.std.proofs.Common.{◌++◌, sym, ap, subst, ◌∙◌, append-nil, arith}
use Rattle.idoc_tree.proofs.NodeLemmas.{drop-past}
use Rattle.change_pointers.specs.Laws.{FollowNames}
use Rattle.change_pointers.specs.Renumbered.{renumbered}
use Rattle.change_pointers.proofs.LawLemmas.{renumbered-follow}
use Rattle.change_pointers.proofs.pointers.Pointers.renumber.Goals as goal

pub returns-clause-names : goal.returns-clause-names
returns-clause-names c =
    let before = c.args.before.now in
    let after = c.args.after.now in
    let kept = c.loop-pointer.kept in
    let kept_is = sym (append-nil kept)
    ∙ ap (λ rest. kept ++ filter_map (renumbered before after) rest)
    (sym (drop-past c.as_slice-pointers.result.now c.loop-pointer.pointer-index (omega arith)))
    ∙ c.loop-pointer.invariant in
    subst (FollowNames before after c.args.self.now) (sym kept_is) (renumbered-follow before after c.as_lists-rules.ensures.kept c.args.self.now)
