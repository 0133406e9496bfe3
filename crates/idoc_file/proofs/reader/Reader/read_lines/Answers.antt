use Rattle.std.proofs.Common.{◌≡◌, ◌<◌, [], ◌∷◌, ◌++◌, length, refl, sym, ap, ◌∙◌, arith, append_assoc, length-append}
use Rattle.ale_base.proofs.OnOkLemmas.{on_ok}
use Rattle.idoc_file.proofs.ReadingLemmas.{IsReading-kept, IsReading-same}
use Rattle.idoc_file.proofs.reader.Reader.read_lines.Goals as goal

-- one line more has ended
pub loop-end-preserved : goal.loop-end-preserved
loop-end-preserved c =
    let piece = c.args.piece.now in
    let rest = c.loop-end.rest.now in
    let end = c.in-Some.end.now in
    let behind = c.in-Some.behind.now in
    let found = c.in-Some.ensures.found in
    let after = c.end_line.new.self in
    record {
      reading = λ bytes few is.
          let so_far = c.loop-end.invariant.reading bytes few is in
          let taken = so_far.0 in
          let more = taken ++ (end ++ 10 ∷ []) in
          let whole : more ++ behind ≡ piece =
          append_assoc taken (end ++ 10 ∷ []) behind ∙ ap (λ others. taken ++ others) (append_assoc end (10 ∷ []) behind ∙ sym found.0) ∙ so_far.1 in
          let short : length (bytes ++ taken) < 4294967295 = omega (arith, length-append bytes taken, ap length so_far.1, length-append taken rest) in (
            more,
            whole,
            IsReading-same after.read after.read after.unfinished.items after.unfinished.items ((bytes ++ taken) ++ (end ++ 10 ∷ [])) (bytes ++ more) refl refl
                (append_assoc bytes taken (end ++ 10 ∷ []))
                (c.in_ok-end_line.ensures.reading (bytes ++ taken) short found.1 so_far.2),
          );
      fed = c.in_ok-end_line.ensures.fed ∙ c.loop-end.invariant.fed;
      gone = λ gone. c.in_ok-end_line.ensures.stays_gone (c.loop-end.invariant.gone gone);
    }

-- what is left ends no line
pub returns-clause-reading : goal.returns-clause-reading
returns-clause-reading c =
    let before = c.loop-end.self in
    let rest = c.loop-end.rest.now in
    let after = c.keep.new.self in
    on_ok c.keep.result c.keep.ensures.kept (λ kept bytes few is.
    let so_far = c.loop-end.invariant.reading bytes few is in
    let taken = so_far.0 in
    IsReading-same before.read after.read (before.unfinished.items ++ rest) after.unfinished.items ((bytes ++ taken) ++ rest) (bytes ++ c.args.piece.now)
    (sym kept.0) (sym kept.1) (append_assoc bytes taken rest ∙ ap (λ others. bytes ++ others) so_far.1)
    (IsReading-kept before.read before.unfinished.items (bytes ++ taken) so_far.2 rest c.in_default.ensures.none))
