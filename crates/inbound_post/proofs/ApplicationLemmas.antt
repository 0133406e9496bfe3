-- One more record of a log, and its application.
use Rattle.std.specs.Prelude.{fold}
use Rattle.std.proofs.Common.{◌≡◌, ℕ, List, [], ◌∷◌, ◌++◌, map, refl}
use Rattle.std.proofs.lemmas.List.Sums.{fold_push}
use Rattle.dist_model.specs.declared.lists.Lists.{Lists}
use Rattle.unit_core.specs.declared.records.Record.{Record}
use Rattle.unit_core.specs.declared.ale_unit.AleUnit.{AleUnit}
use Rattle.unit_core.specs.declared.raw_unit_doc.RawUnitDoc.{RawUnitDoc}
use Rattle.inbound_post.specs.Prepared.{posting_from, prepared}
use Rattle.inbound_post.specs.Application.{Application, arrived, arrived_all, with_document, executed_with, no_past, past_after, past_of}

-- what is known behind a log with one more record
pub past_of-push : (models : List Lists) (log : List Record) (next : Record) → past_of models (log ++ next ∷ []) ≡ past_after models (past_of models log) next
unfolding past_of
past_of-push models log next = fold_push (past_after models) no_past log next

all_arrived : (model : Lists) (system sender : ℕ) (docs : List RawUnitDoc) (application : Application)
    → fold (with_document model system sender) application docs ≡ arrived_all sender docs (map (posting_from model system sender) docs) application
all_arrived model system sender [] application = refl
all_arrived model system sender (doc ∷ docs) application =
    all_arrived model system sender docs (arrived sender doc (posting_from model system sender doc) application)

-- a unit that is executed is posted as it was prepared, which takes the unit and the model alone
pub executed-prepared : (model : Lists) (system : ℕ) (unit : AleUnit) (application : Application)
    → executed_with model system unit application ≡ arrived_all unit.sender unit.docs (prepared model system unit).postings application
executed-prepared model system unit application = all_arrived model system unit.sender unit.docs application
