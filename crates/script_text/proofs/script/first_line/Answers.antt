use Rattle.std.proofs.Common.{◌≡◌, length, false, nat_eq, sym, ap, ◌∙◌, ◌∷◌, rules}
use Rattle.ale_base.specs.Lines.{lines_of}
use Rattle.ale_base.proofs.LinesLemmas.{lines_of-ended, lines_of-unended}
use Rattle.script_text.proofs.script.first_line.Goals as goal

pub returns-in-Some-clause-found : goal.returns-in-Some-clause-found
returns-in-Some-clause-found c =
    let found = c.in-Some.ensures.found in (
      ap lines_of found.0 ∙ lines_of-ended c.in-Some.line.now c.in-Some.behind.now found.1
          ∙ ap (λ line. line ∷ lines_of c.in-Some.behind.now) (sym c.without_return.ensures),
      found.2,
    )

pub returns-in-None-clause-found : goal.returns-in-None-clause-found
returns-in-None-clause-found c =
    let filled : nat_eq (length c.args.bytes.now) 0 ≡ false = sym c.is_empty.ensures ∙ c.if-is_empty.false in
    (lines_of-unended c.args.bytes.now filled c.in-None.ensures.none, search rules)
