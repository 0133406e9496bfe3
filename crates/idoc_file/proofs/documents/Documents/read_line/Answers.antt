use Rattle.std.proofs.Common.{◌≡◌, ◌<◌, false, List, [], ◌∷◌, ◌++◌, sym, ap, subst, ◌∙◌, arith}
use Rattle.std.specs.Prelude.{sum_by}
use Rattle.idoc_file.specs.declared.raw_doc.RawDoc.{RawDoc}
use Rattle.idoc_file.specs.DocumentFile.{AreDocuments, is_blank, segment_count, last_count}
use Rattle.ale_base.proofs.OnOkLemmas.{on_ok}
use Rattle.idoc_file.proofs.DocumentLemmas.{AreDocuments-skipped, AreDocuments-begun, AreDocuments-with_segment, last_count-snoc}
use Rattle.idoc_file.proofs.documents.Documents.read_line.Goals as goal

pub returns-then-is_blank-clause-read : goal.returns-then-is_blank-clause-read
returns-then-is_blank-clause-read c = λ lines number are.
    AreDocuments-skipped lines c.args.self.now c.args.line.now are c.if-line-gt-MAX_LINE.false (sym c.is_blank.ensures ∙ c.if-is_blank.true)

pub returns-then-is_control-clause-read : goal.returns-then-is_control-clause-read
returns-then-is_control-clause-read c =
    let line = c.args.line.now in
    let filled : is_blank line ≡ false = sym c.is_blank.ensures ∙ c.if-is_blank.false in
    on_ok c.read_control_line.result c.read_control_line.ensures.begun (λ begins lines number are.
    subst (AreDocuments (lines ++ line ∷ [])) (sym begins.becomes)
    (AreDocuments-begun lines c.args.self.now c.args.number line begins.bytes are c.if-line-gt-MAX_LINE.false filled number begins.is begins.room))

pub returns-clause-read : goal.returns-clause-read
returns-clause-read c =
    let line = c.args.line.now in
    let filled : is_blank line ≡ false = sym c.is_blank.ensures ∙ c.if-is_blank.false in
    on_ok c.read_data_line.result c.read_data_line.ensures.added (λ on lines number are.
    let adds = on.adds in
    subst (AreDocuments (lines ++ line ∷ [])) (sym adds.becomes)
    (AreDocuments-with_segment lines adds.front adds.document line on.new (subst (AreDocuments lines) adds.was are)
    c.if-line-gt-MAX_LINE.false filled on.is
    (omega (arith, on.room, ap last_count adds.was, last_count-snoc adds.front adds.document))
    (subst (λ (ds : List RawDoc). sum_by segment_count ds < 1000000) adds.was on.within)))
