-- The bytes of a file have one ending.
use Rattle.std.proofs.Common.{◌≡◌, ℕ, List, ap}
use Rattle.ale_host.specs.declared.ending.Ending.{Ending}
use Rattle.ale_host.specs.declared.ending.Ending.TheVariants as ending
use Rattle.ale_base.specs.Lines.{lines_of}
use Rattle.idoc_file.proofs.DocumentLemmas.{same_documents}
use Rattle.idoc_file.proofs.AnswerLemmas.{not_documents, fault_once}
use Rattle.ale_host.specs.Ending.{EndsFile}

pub one_ending : (bytes : List ℕ) (one other : Ending) → EndsFile bytes one → EndsFile bytes other → one ≡ other
one_ending bytes (ending.Passed documents) (ending.Passed others) ends also = ap ending.Passed (same_documents (lines_of bytes) documents others ends also)
one_ending bytes (ending.Passed documents) (ending.Refused fault) ends also = absurd (not_documents (lines_of bytes) fault also documents ends)
one_ending bytes (ending.Refused fault) (ending.Passed documents) ends also = absurd (not_documents (lines_of bytes) fault ends documents also)
one_ending bytes (ending.Refused fault) (ending.Refused other) ends also = ap ending.Refused (fault_once (lines_of bytes) fault other ends also)
one_ending bytes (ending.Passed documents) _ ends also = absurd also
one_ending bytes (ending.Refused fault) _ ends also = absurd also
one_ending bytes _ other ends also = absurd ends
