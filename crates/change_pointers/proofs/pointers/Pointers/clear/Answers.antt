use Rattle.std.proofs.Common.{sym, ap, subst, ◌∙◌, rules}
use Rattle.std.proofs.lemmas.Fn.{filter_same}
use Rattle.change_pointers.specs.Laws.{ClearsAlone}
use Rattle.change_pointers.specs.Pointers.{cleared}
use Rattle.change_pointers.proofs.LawLemmas.{clears-alone}
use Rattle.change_pointers.proofs.pointers.Pointers.clear.Goals as goal

left : goal.returns-clause-left
left c = filter_same _ _ _ (λ x b f' k. search rules) _ _ c.retain.ensures ∙ ap (cleared c.args.message) c.self.view_is

pub returns-clause-left : goal.returns-clause-left
returns-clause-left c = left c

pub returns-clause-alone : goal.returns-clause-alone
returns-clause-alone c = subst (ClearsAlone c.args.message c.args.self.now) (sym (left c)) (clears-alone c.args.message c.args.self.now)
