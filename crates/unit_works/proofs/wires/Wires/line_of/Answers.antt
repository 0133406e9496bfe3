use Rattle.std.proofs.Common.{◌≡◌, Some, None, ap, sym, ◌∙◌}
use Rattle.std.specs.Option.{option_copied}
use Rattle.std.proofs.lemmas.Result.{IfOk-weaker}
use Rattle.unit_works.specs.Wires.{letters_left}
use Rattle.unit_works.proofs.NumberLemmas.{found-left}
use Rattle.unit_works.proofs.wires.Wires.line_of.Goals as goal

pub returns-in-Some : goal.returns-in-Some
returns-in-Some c =
    let left : c.in-Some.line.now ≡ letters_left c.args.self.now c.args.tid =
    found-left c.args.tid c.number_of.result c.self.inside.lines.entries (Some c.in-Some.line.now) c.number_of.ensures c.in-Some.ensures.value
    ∙ ap (λ kept. letters_left kept c.args.tid) c.self.view_is in
    IfOk-weaker c.copied.result _ _ (λ line is. is ∙ left) c.copied.ensures

pub returns-in-None : goal.returns-in-None
returns-in-None c =
    c.new.ensures
    ∙ found-left c.args.tid c.number_of.result c.self.inside.lines.entries None c.number_of.ensures c.in-None.ensures.value
    ∙ ap (λ kept. letters_left kept c.args.tid) c.self.view_is
