-- The tables in which a running system keeps what `Application` says of its log.
use Rattle.std.specs.Prelude.{◌≡◌, ℕ, map}
use Rattle.status_log.specs.Statuses.{statuses_of}
use Rattle.inbound_post.specs.declared.inbound_document.InboundDocument.{InboundDocument}
use Rattle.inbound_post.specs.declared.application_tables.ApplicationTables.{ApplicationTables}
use Rattle.inbound_post.specs.Application.{Application, Arrived, statuses_at}

-- an inbound document without its statuses
abbrev pub bare : Arrived → InboundDocument
bare document = record { sender = document.sender; document = document.document }

-- the tables are those of an application. Which units were received they do not say.
pub record AreTablesOf (application : Application) (tables : ApplicationTables) : Type 0 where
  pub documents : tables.documents ≡ map bare application.documents
  pub statuses : (doc : ℕ) → statuses_of doc tables.statuses ≡ statuses_at application.documents doc
  pub objects : tables.objects ≡ application.objects
  pub pointers : tables.pointers ≡ application.pointers
  pub records : tables.records ≡ application.records
