use Rattle.std.proofs.Common.{sym, subst}
use Rattle.ale_base.specs.Text.{is_text}
use Rattle.dist_model.specs.declared.kind.Kind.{Kind}
use Rattle.dist_model.specs.Kind.{IsKind}
use Rattle.dist_model.specs.Model.{IsModel}
use Rattle.application_rules.proofs.PutLemmas.{find-keeps}
use Rattle.application_rules.proofs.puts.may_put.Goals as goal

pub may_change-requires-clause-known : goal.may_change-requires-clause-known
may_change-requires-clause-known c =
    let lists = c.as_lists-lists.result.now in
    let kept : IsModel lists = subst IsModel (sym c.as_lists-lists.ensures.same) c.as_lists-lists.ensures.kept in
    (find-keeps (IsKind lists.definitions) (λ (kind : Kind). is_text c.args.kind.now kind.name) lists.kinds c.in-Some.kind.now kept.kinds.each
    (sym c.in-Some.ensures)).known
