use Rattle.std.proofs.Common.{◌≡◌, ℕ, ◌+◌, ◌≤◌, List, ◌++◌, length, take, drop, sym, ap, ◌∙◌, arith}
use Rattle.std.specs.Prelude.{replicate}
use Rattle.std.proofs.Math.Seq.{drop-append_seam}
use Rattle.std.proofs.lemmas.List.{length-append, length-replicate, length-drop, take-append-drop, take_all, nil_from_length}
use Rattle.ale_io.specs.Piece.{IsPiece}
use Rattle.ale_os.proofs.dir_files.DirFilesFiles.read_piece.Goals as goal

-- some bytes are a piece of those that have others before them
behind : (n : ℕ) (piece : List ℕ) → drop n (replicate n 0 ++ piece) ≡ piece
behind n piece =
    let long : length (replicate n 0) ≡ n = simp length-replicate in
    ap (λ k. drop k (replicate n 0 ++ piece)) (sym long) ∙ drop-append_seam (replicate n 0) piece

IsPiece-behind : (at most : ℕ) (piece : List ℕ) → length piece ≤ most → IsPiece (replicate at 0 ++ piece) at most piece
IsPiece-behind at most piece few =
    let long : length (replicate at 0 ++ piece) ≡ at + length piece = simp (length-append, length-replicate) in
    record {
      here = sym (take_all (length piece) piece (omega arith)) ∙ ap (take (length piece)) (sym (behind at piece));
      few = few;
      ended = (λ none. omega (arith, ap length none), λ over. nil_from_length piece (omega arith));
    }

-- where nothing is told of the file, any bytes that have the piece at its place will do
pub returns-in-Ok-clause-read : goal.returns-in-Ok-clause-read
returns-in-Ok-clause-read g c =
    let before = c.args.into.now.items in
    let after = c.append_piece.new.into.items in
    let piece = drop (length before) after in
    let counted = c.in-Ok.ensures.counted in
    let long : c.in-Ok.count ≡ length piece = omega (arith, counted.0, length-drop (length before) after) in
    record {
      bytes = replicate c.args.at 0 ++ piece;
      holds = tt;
      piece = piece;
      is = IsPiece-behind c.args.at c.args.most piece (omega (arith, counted.1));
      appended = sym (take-append-drop (length before) after) ∙ ap (λ front. front ++ piece) c.in-Ok.ensures.kept;
      counted = long;
    }
