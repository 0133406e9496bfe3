use Rattle.std.proofs.Common.{◌≡◌, ◌+◌, [], ◌∷◌, ◌++◌, length, sym, subst, ◌∙◌, arith}
use Rattle.ale_base.proofs.OnOkLemmas.{on_ok}
use Rattle.idoc_file.specs.declared.lines_read.LinesRead.{LinesRead}
use Rattle.idoc_file.specs.Reading.{AreRead}
use Rattle.idoc_file.proofs.ReadingLemmas.{IsFirstBad-here, AreRead-good}
use Rattle.idoc_file.proofs.lines_read.LinesRead.read_line.Goals as goal

pub returns-in-Err-clause-read : goal.returns-in-Err-clause-read
returns-in-Err-clause-read c =
    let line = c.args.line.now in
    let before = c.args.self.now in
    on_ok c.refuse.result c.refuse.ensures.bad (λ bad lines few are.
    let good = AreRead-good before lines (sym c.is_some.ensures ∙ c.if-is_some.false) are in
    let number : c.saturating_add-self.result ≡ length lines + 1 = omega (arith, good.1, c.saturating_add-self.ensures) in
    subst (λ (after : LinesRead). AreRead after (lines ++ line ∷ [])) (sym c.refuse.ensures.kept)
    (IsFirstBad-here lines line before.documents c.saturating_add-self.result c.in-Err.fault good.0 number
    (c.read_line.ensures.fault c.in-Err.fault c.in-Err.is bad)))
