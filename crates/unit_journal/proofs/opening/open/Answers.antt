use Rattle.unit_journal.proofs.LogLemmas.{one_answer}
use Rattle.unit_journal.proofs.opening.open.Goals as goal

pub returns-in_err-journal-clause-one_answer : goal.returns-in_err-journal-clause-one_answer
returns-in_err-journal-clause-one_answer g c = one_answer

pub returns-in_err-entries-clause-one_answer : goal.returns-in_err-entries-clause-one_answer
returns-in_err-entries-clause-one_answer g c = one_answer

pub returns-clause-one_answer : goal.returns-clause-one_answer
returns-clause-one_answer g c = one_answer
