use Rattle.std.proofs.Common.{◌≡◌, ℕ, List, [], ◌∷◌, ◌++◌, length, refl, sym, ap, subst, ◌∙◌, arith, eqb-true}
use Rattle.std.proofs.lemmas.List.{nil_from_length}
use Rattle.ale_base.proofs.OnOkLemmas.{on_ok}
use Rattle.idoc_file.specs.declared.lines_read.LinesRead.{LinesRead}
use Rattle.ale_base.specs.Lines.{without_return}
use Rattle.idoc_file.specs.Reading.{AreRead}
use Rattle.idoc_file.proofs.ReadingLemmas.{IsReading-ended, IsReading-few, IsReading-same}
use Rattle.idoc_file.proofs.reader.Reader.end_line.Goals as goal

-- nothing is kept of the unfinished line
pub returns-then-is_empty-clause-reading : goal.returns-then-is_empty-clause-reading
returns-then-is_empty-clause-reading c =
    let read = c.args.self.now.read in
    let unfinished = c.args.self.now.unfinished.items in
    let after = c.read_line.new.self in
    let end = c.args.end.now in
    let none : unfinished ≡ [] = sym c.as_slice.ensures.value
    ∙ nil_from_length c.as_slice.result.now (eqb-true (length c.as_slice.result.now) 0 (sym c.is_empty.ensures ∙ c.if-is_empty.true)) in
    let whole : c.without_return.result.now ≡ without_return (unfinished ++ end) = c.without_return.ensures
    ∙ ap (λ (u : List ℕ). without_return (u ++ end)) (sym none) in
    on_ok c.read_line.result c.read_line.ensures.read (λ reads bytes few no_end is.
    let low = IsReading-few read unfinished bytes is in
    let more = bytes ++ (end ++ 10 ∷ []) in
    IsReading-same after after [] unfinished more more refl (sym none) refl
    (IsReading-ended read unfinished bytes is after end no_end
    (subst (λ (line : List ℕ). AreRead after (is.lines ++ line ∷ [])) whole (reads is.lines (omega arith) is.are))))

-- or its front is
pub returns-clause-reading : goal.returns-clause-reading
returns-clause-reading c =
    let read = c.args.self.now.read in
    let unfinished = c.args.self.now.unfinished.items in
    let after = c.read_line-2.new.self in
    let end = c.args.end.now in
    let kept = c.in_ok-keep.ensures.kept in
    let line_is : c.as_slice-2.result.now ≡ unfinished ++ end = c.as_slice-2.ensures.value ∙ ap (λ v. v.items) c.replace-line.ensures.value ∙ kept.1 in
    let whole : c.without_return-2.result.now ≡ without_return (unfinished ++ end) = c.without_return-2.ensures ∙ ap without_return line_is in
    let none : c.replace-line.new.dest.items ≡ [] = ap (λ v. v.items) c.replace-line.ensures.after ∙ c.new.ensures.items in
    on_ok c.read_line-2.result c.read_line-2.ensures.read (λ reads bytes few no_end is.
    let low = IsReading-few read unfinished bytes is in
    let more = bytes ++ (end ++ 10 ∷ []) in
    IsReading-same after after [] c.replace-line.new.dest.items more more refl (sym none) refl
    (IsReading-ended read unfinished bytes is after end no_end
    (subst (λ (line : List ℕ). AreRead after (is.lines ++ line ∷ [])) whole
    (reads is.lines (omega arith) (subst (λ (r : LinesRead). AreRead r is.lines) (sym kept.0) is.are)))))
