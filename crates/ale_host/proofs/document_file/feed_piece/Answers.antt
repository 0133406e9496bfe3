use Rattle.std.proofs.Common.{◌≡◌, ℕ, List, ◌++◌, length, sym, ap, subst, ◌∙◌}
use Rattle.ale_io.specs.Piece.{IsPiece}
use Rattle.ale_host.specs.Feeding.{MayBegin}
use Rattle.ale_host.proofs.FeedingLemmas.{MayBegin-more}
use Rattle.ale_host.proofs.document_file.feed_piece.Goals as goal

-- the file goes on with what was fed
pub returns-in-Ok-clause-fed : goal.returns-in-Ok-clause-fed
returns-in-Ok-clause-fed g c = λ is.
    let told = g.F.Files.told c.args.files.now c.args.name.now in
    let read = c.in_ok-count.ensures.read in
    let slice = c.as_slice.result.now in
    let whole : slice ≡ read.piece = c.as_slice.ensures.value ∙ read.appended ∙ ap (λ front. front ++ read.piece) c.clear.ensures.items in
    let place : c.fed.result ≡ length is.bytes = c.fed.ensures.length is.bytes is.stands in
    let piece : IsPiece read.bytes (length is.bytes) 65536 read.piece = subst (λ (at : ℕ). IsPiece read.bytes at 65536 read.piece) place read.is in
    record {
      bytes = is.bytes ++ slice;
      stands = c.in-Ok.ensures.stands is.bytes is.stands;
      begins = subst (λ (p : List ℕ). MayBegin told (is.bytes ++ p)) (sym whole)
          (MayBegin-more told is.bytes read.bytes read.piece 65536 is.begins read.holds piece);
    }
