use Rattle.std.specs.Arc.{arc_value}
use Rattle.std.proofs.Common.{◌≡◌, ◌∙◌, sym, subst}
use Rattle.unit_core.specs.declared.records.Record.{Record}
use Rattle.document_state.specs.declared.made.Made.TheVariants.{Executed}
use Rattle.document_state.specs.Made.{GoesWith}
use Rattle.document_state.proofs.LogRulesLemmas.{goes-executed}
use Rattle.document_state.proofs.log_rules.made_of.Goals as goal

pub returns : goal.returns
returns c =
    let same : arc_value c.in_ok-unit.unit ≡ c.args.unit.now = c.in_ok-unit.ensures.ok ∙ c.in_ok-clone.ensures.cases in
    let goes = goes-executed c.args.system c.args.log.now c.args.next.now c.args.unit.now (arc_value c.in_ok-unit.unit) c.in_ok-postings.postings
    c.requires.follows c.requires.unit same (c.in_ok-postings.ensures c.args.log.now c.requires.tables) in
    subst (λ (next : Record). GoesWith c.args.log.now next (Executed c.in_ok-unit.unit c.in_ok-postings.postings)) (sym goes.1) (goes.2, goes.3)
