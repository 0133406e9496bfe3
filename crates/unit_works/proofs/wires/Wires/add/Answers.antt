use Rattle.std.proofs.Common.{◌++◌, cond, ap, ◌∙◌}
use Rattle.ale_base.specs.Tid.{is_tid}
use Rattle.unit_works.specs.Wires.{letters_left, letters_said, after_add}
use Rattle.unit_works.proofs.NumberLemmas.{written-left}
use Rattle.unit_works.proofs.wires.Wires.add.Goals as goal

pub returns-clause-ok : goal.returns-clause-ok
returns-clause-ok c = λ other.
    written-left c.args.tid c.number_of.result c.self.inside.lines c.insert.new.self c.append.new.self c.number_of.ensures c.in_ok-insert.ensures.updates other
    ∙ ap (λ line. cond (is_tid c.args.tid other) line (letters_left c.self.inside.lines.entries other))
    (c.in_ok-append.ensures ∙ ap (λ line. line ++ letters_said c.args.letters.now) c.in_ok-line.ensures)
    ∙ ap (λ kept. cond (is_tid c.args.tid other) (letters_left c.args.self.now c.args.tid ++ letters_said c.args.letters.now) (letters_left kept other))
    c.self.view_is
