use Rattle.std.proofs.Common.{sym, ap, ◌∙◌, ◌++◌, ◌∷◌, [], subst, take}
use Rattle.std.proofs.lemmas.List.{take_all}
use Rattle.std.proofs.lemmas.Grind.{flat_map-append}
use Rattle.byte_journal.specs.Log.{records, open_gate, closed_gate, framed}
use Rattle.worked_cases.specs.Held.{AreGiven}
use Rattle.worked_cases.proofs.HeldLemmas.{AreGiven-snoc, take_item}
use Rattle.worked_cases.proofs.held.journal_of.Goals as goal

pub loop-record-preserved : goal.loop-record-preserved
loop-record-preserved c =
    let now = c.loop-record in
    let contents = c.args.contents.now in
    let given = c.args.given.now in
    let item = c.record-item.result in
    let before = now.invariant in
    let one = c.in_ok-put_given.ensures in
    let taken = take_item given now.record-index item c.loop-record-test.true c.record-item.is in
    let more = AreGiven-snoc contents (take now.record-index given) item before.0 one.0 before.1 one.1 in (
      before.0 ++ one.0,
      subst (λ gs. AreGiven contents gs (before.0 ++ one.0)) (sym taken) more,
      one.2 ∙ ap (λ b. b ++ records one.0) before.2 ∙ sym (flat_map-append (λ body. open_gate ∷ framed body) before.0 one.0),
    )

pub returns : goal.returns
returns c =
    let now = c.loop-record in
    let before = now.invariant in
    let given = c.args.given.now in
    let all = take_all now.record-index given c.loop-record-test.false in (
      before.0,
      subst (λ gs. AreGiven c.args.contents.now gs before.0) all before.1,
      c.from_vec.ensures ∙ c.in_ok-push.ensures.items ∙ ap (λ b. b ++ closed_gate ∷ []) before.2,
    )
