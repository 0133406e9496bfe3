use Rattle.std.proofs.Common.{length, sym, subst, ◌∙◌, arith, eqb-true}
use Rattle.std.proofs.lemmas.List.{nil_from_length}
use Rattle.ale_base.proofs.OnOkLemmas.{on_ok}
use Rattle.idoc_file.specs.Reading.{AreRead}
use Rattle.idoc_file.proofs.ReadingLemmas.{IsReading-few, IsReading-all, IsReading-last}
use Rattle.idoc_file.proofs.lines_read.LinesRead.read_last.Goals as goal

pub returns-then-is_empty-clause-read : goal.returns-then-is_empty-clause-read
returns-then-is_empty-clause-read c = λ bytes within is.
    let unfinished = c.args.unfinished.now in
    IsReading-all c.args.self.now unfinished bytes is
    (nil_from_length unfinished (eqb-true (length unfinished) 0 (sym c.is_empty.ensures ∙ c.if-is_empty.true)))

pub returns-clause-read : goal.returns-clause-read
returns-clause-read c =
    let before = c.args.self.now in
    let unfinished = c.args.unfinished.now in
    on_ok c.read_line.result c.read_line.ensures.read (λ reads bytes within is.
    let low = IsReading-few before unfinished bytes is in
    subst (AreRead c.read_line.new.self) (sym (IsReading-last before unfinished bytes is (sym c.is_empty.ensures ∙ c.if-is_empty.false)))
    (reads is.lines (omega arith) is.are))
