use Rattle.std.specs.Arc.{arc_value}
use Rattle.std.proofs.Common.{◌≡◌, ◌∙◌, Some, sym, ap}
use Rattle.unit_core.specs.Queues.{unit_named}
use Rattle.document_state.specs.OfLog.{postings_behind}
use Rattle.document_state.proofs.ReplayLemmas.{executes}
use Rattle.document_state.proofs.replay.executed.Goals as goal

pub returns : goal.returns
returns c =
    let log = c.args.log.now in
    let was = executes c.args.system log c.args.tid c.requires.follows in
    let same : arc_value c.in_ok-unit-in-Some.unit ≡ c.in-Some.unit.now = c.in_ok-unit-in-Some.ensures.ok ∙ c.in_ok-clone-in-Some.ensures.cases in (
      λ model is. ap (unit_named c.args.tid) was.all ∙ sym c.in-Some.ensures ∙ ap Some (sym same),
      c.in_ok-postings-in-Some.ensures log c.requires.tables was.same ∙ ap (postings_behind log) (sym same),
    )
