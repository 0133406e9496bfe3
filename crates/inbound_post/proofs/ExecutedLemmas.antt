-- What a unit that is executed brings: each of its documents comes in, in order, and none is lost.
use Rattle.std.specs.Prelude.{fold, map}
use Rattle.std.proofs.Common.{◌≡◌, ℕ, List, [], ◌∷◌, ◌++◌, length, sym, ap, ◌∙◌, append_assoc}
use Rattle.std.proofs.lemmas.List.{append-nil, length-map, map-append}
use Rattle.dist_model.specs.declared.lists.Lists.{Lists}
use Rattle.unit_core.specs.declared.ale_unit.AleUnit.{AleUnit}
use Rattle.unit_core.specs.declared.raw_unit_doc.RawUnitDoc.{RawUnitDoc}
use Rattle.inbound_post.specs.declared.inbound_document.InboundDocument.{InboundDocument}
use Rattle.inbound_post.specs.Application.{Application, executed_with, with_document}
use Rattle.inbound_post.specs.Prepared.{posting_from, prepared}
use Rattle.inbound_post.specs.Tables.{bare}

-- a document as it comes in from a sender
abbrev pub from_sender : ℕ → RawUnitDoc → InboundDocument
from_sender sender doc = record { sender = sender; document = doc }

all-come : (model : Lists) (system sender : ℕ) (docs : List RawUnitDoc) (application : Application)
    → map bare (fold (with_document model system sender) application docs).documents ≡ map bare application.documents ++ map (from_sender sender) docs
all-come model system sender [] application = sym (append-nil (map bare application.documents))
all-come model system sender (doc ∷ docs) application =
    all-come model system sender docs (with_document model system sender application doc)
    ∙ ap (λ (xs : List InboundDocument). xs ++ map (from_sender sender) docs) (one application)
    ∙ append_assoc (map bare application.documents) (from_sender sender doc ∷ []) (map (from_sender sender) docs)
  where
    one : (application : Application)
        → map bare (with_document model system sender application doc).documents ≡ map bare application.documents ++ from_sender sender doc ∷ []
    one application = map-append bare application.documents _

-- the inbound documents behind a unit that is executed are those before, and behind them the unit's own, each once and in order
pub executed-documents : (model : Lists) (system : ℕ) (unit : AleUnit) (application : Application)
    → map bare (executed_with model system unit application).documents ≡ map bare application.documents ++ map (from_sender unit.sender) unit.docs
executed-documents model system unit application = all-come model system unit.sender unit.docs application

-- what is prepared of a unit says of each of its documents what becomes of it: as many postings as documents
pub prepared-each : (model : Lists) (system : ℕ) (unit : AleUnit) → length (prepared model system unit).postings ≡ length unit.docs
prepared-each model system unit = length-map unit.docs (posting_from model system unit.sender)
