-- What an operator is shown of the documents of a log: a line a document, by number. This project's own.
use Rattle.std.specs.Prelude.{ℕ, suc, List, [], ◌∷◌, ◌++◌}
use Rattle.ale_base.specs.declared.way.Way.TheVariants.{Outgoing, Incoming}
use Rattle.idoc_record.specs.declared.control_field.ControlField.TheVariants.{Mestyp, Rcvprn, Sndprn}
use Rattle.idoc_record.specs.Control.{field_of}
use Rattle.status_log.specs.declared.line.DocLine.{DocLine}
use Rattle.status_log.specs.declared.status_at.StatusAt.{StatusAt}
use Rattle.status_log.specs.Statuses.{bare}
use Rattle.unit_core.specs.declared.records.Record.{Record}
use Rattle.outbound_build.specs.declared.added.OutDocument.{OutDocument}
use Rattle.inbound_post.specs.Application.{Arrived}
use Rattle.document_state.specs.OfLog.{sent_by, applied_by}

-- the line of the outbound document of a number, by the statuses of each: its partner is the system to which it was sent
abbrev pub sent_line : (ℕ → List StatusAt) → ℕ → OutDocument → DocLine
sent_line statuses number one =
    record {
      way = Outgoing;
      doc = record { 0 = number };
      partner = field_of one.document.control Rcvprn;
      message = field_of one.document.control Mestyp;
      statuses = bare (statuses number);
    }

-- the line of the inbound document of a number: its partner is the system from which it came
abbrev pub arrived_line : ℕ → Arrived → DocLine
arrived_line number one =
    record {
      way = Incoming;
      doc = record { 0 = number };
      partner = field_of one.document.control Sndprn;
      message = field_of one.document.control Mestyp;
      statuses = bare one.statuses;
    }

-- the lines of documents in order, of which the first has this number
abbrev pub numbered : {A : Type 0} → (ℕ → A → DocLine) → ℕ → List A → List DocLine
numbered line number [] = []
numbered line number (one ∷ others) = line number one ∷ numbered line (suc number) others

-- the lines of the documents of a log: the outbound ones, and then the inbound ones, each numbered from 1
abbrev pub document_lines : List Record → List DocLine
document_lines log =
    numbered (sent_line (sent_by log).statuses) 1 (sent_by log).past.documents ++ numbered arrived_line 1 (applied_by log).application.documents
