use Rattle.std.proofs.Common.{◌+◌, sym, ap, ◌∙◌, drop, arith}
use Rattle.idoc_tree.specs.Parts.{with_root}
use Rattle.idoc_tree.proofs.NodeLemmas.{drop-past}
use Rattle.filter_objects.specs.declared.member.Member.TheViews.{out-Member}
use Rattle.filter_objects.specs.steps.Members.{set_of, followed}
use Rattle.filter_objects.proofs.MemberLemmas.{followed-none, set_of-push, member_of-out, set_of-drop}
use Rattle.filter_objects.proofs.member.+copied_members.Goals as goal

pub loop-member-preserved : goal.loop-member-preserved
loop-member-preserved t c =
    let members = c.args.members.now in
    let at = c.loop-member.member-index in
    let item = c.member-item.result in
    let old = c.loop-member.copy.items in
    let rest = set_of (drop (at + 1) members) in
    ap (λ items. followed (set_of items) rest) c.in_ok-push.ensures.items
    ∙ set_of-push old (record { kept = (out-Member item).kept; below = c.in_ok-below.below }) rest
    ∙ ap (λ b. followed (set_of old) (with_root (out-Member item).kept b rest)) (c.in_ok-below.ensures ∙ ap set_of c.deref.ensures.value)
    ∙ ap (λ m. followed (set_of old) (with_root m.kept m.below rest)) (sym (member_of-out item))
    ∙ ap (followed (set_of old)) (sym (set_of-drop members at item c.loop-member-test.true c.member-item.is))
    ∙ c.loop-member.invariant

pub returns : goal.returns
returns t c =
    let done = set_of c.loop-member.copy.items in
    sym (followed-none done)
    ∙ ap (λ ms. followed done (set_of ms)) (sym (drop-past c.args.members.now c.loop-member.member-index (omega arith)))
    ∙ c.loop-member.invariant
