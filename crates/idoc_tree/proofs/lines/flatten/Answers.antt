use Rattle.std.specs.Prelude.{◌≡◌, ◌++◌}
use Rattle.std.proofs.Common.{◌∙◌, sym, ap, subst}
use Rattle.idoc_tree.specs.Nodes.{forest_of}
use Rattle.idoc_tree.specs.Spells.{Spells}
use Rattle.idoc_tree.specs.Lines.{lines_of}
use Rattle.idoc_tree.proofs.LineLemmas.{lines_of-spell}
use Rattle.idoc_tree.proofs.lines.flatten.Goals as goal
use Rattle.idoc_tree.proofs.lines.flatten.Goals.{In_ok-push_lines}

all_lines : (c : In_ok-push_lines) → c.push_lines.new.lines.items ≡ lines_of c.args.definitions.now (forest_of c.args.doc.now.forest.items)
all_lines c =
    let definitions = c.args.definitions.now in
    c.in_ok-push_lines.ensures
    ∙ ap (λ lines. lines ++ lines_of definitions (forest_of c.deref.result.now)) c.new-lines.ensures.items
    ∙ ap (λ nodes. lines_of definitions (forest_of nodes)) c.deref.ensures.value

pub returns-clause-spelled : goal.returns-clause-spelled
returns-clause-spelled c = λ fit entries hangs.
    let definitions = c.args.definitions.now in
    let forest = forest_of c.args.doc.now.forest.items in
    subst (λ lines. Spells definitions entries lines forest) (sym (all_lines (goal.at.returns-clause-spelled c).In_ok-push_lines))
    (lines_of-spell definitions entries forest c.requires.definitions c.requires.nodes fit hangs)

pub returns-clause-again : goal.returns-clause-again
returns-clause-again c = λ fit entries hangs valid.
    let definitions = c.args.definitions.now in
    let forest = forest_of c.args.doc.now.forest.items in (
      subst (λ lines. Spells definitions entries lines forest) (sym (all_lines (goal.at.returns-clause-again c).In_ok-push_lines))
          (lines_of-spell definitions entries forest c.requires.definitions c.requires.nodes fit hangs),
      valid,
    )
