use Rattle.idoc_file.proofs.AnswerLemmas.{one_answer}
use Rattle.idoc_file.proofs.reader.Reader.end.Goals as goal

pub returns-clause-one_answer : goal.returns-clause-one_answer
returns-clause-one_answer c = one_answer

pub returns-in_err-read_last-clause-one_answer : goal.returns-in_err-read_last-clause-one_answer
returns-in_err-read_last-clause-one_answer c = one_answer
