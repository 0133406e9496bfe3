use Rattle.std.proofs.Common.{◌≡◌, ◌+◌, ◌-◌, ◌<◌, ◌≤◌, min, length, sym, ap, ◌∙◌, take, drop, arith}
use Rattle.std.proofs.lemmas.List.{take_rest}
use Rattle.idoc_tree.specs.Parts.{union}
use Rattle.filter_objects.specs.steps.Members.{set_of, followed}
use Rattle.filter_objects.proofs.MemberLemmas.{set_of-one, union-drop, union-past, followed_assoc}
use Rattle.filter_objects.proofs.union.+union.Goals as goal

pub union_of-loop-at-preserved : goal.union_of-loop-at-preserved
union_of-loop-at-preserved t c =
    let one = c.args.one.now in
    let two = c.args.other.now in
    let at = c.loop-at.at in
    let member = c.in_ok-member.member in
    let old = set_of c.loop-at.all.items in
    let rest = union (set_of (drop (at + 1) one)) (set_of (drop (at + 1) two)) in
    let in_one : at < length one = omega arith in
    let in_two : at < length two = omega arith in
    ap (λ items. followed (set_of items) rest) c.in_ok-push.ensures.items
    ∙ set_of-one c.loop-at.all.items member rest
    ∙ ap (followed old) (sym (union-drop one two at c.index-one-at.result c.index-other-at.result member in_one in_two c.index-one-at.is c.index-other-at.is
    c.in_ok-member.ensures))
    ∙ c.loop-at.invariant

pub union_of-returns : goal.union_of-returns
union_of-returns t c =
    let one = c.args.one.now in
    let two = c.args.other.now in
    let both = c.min-both.result in
    let old = set_of c.loop-at.all.items in
    let past : min (length one) (length two) ≤ both = omega arith in
    let at_end : both ≡ c.loop-at.at = omega arith in
    c.in_ok-push_copies-2.ensures
    ∙ ap (λ s. followed s (set_of (take (length two - both) (drop both two)))) c.in_ok-push_copies.ensures
    ∙ ap (λ ms. followed (followed old (set_of (take (length one - both) (drop both one)))) (set_of ms)) (take_rest two both)
    ∙ ap (λ ms. followed (followed old (set_of ms)) (set_of (drop both two))) (take_rest one both)
    ∙ followed_assoc old (set_of (drop both one)) (set_of (drop both two))
    ∙ ap (followed old) (sym (union-past one two both past))
    ∙ ap (λ k. followed old (union (set_of (drop k one)) (set_of (drop k two)))) at_end
    ∙ c.loop-at.invariant
