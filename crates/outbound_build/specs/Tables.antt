-- The tables in which a running system keeps the outbound documents of its log and their statuses.
use Rattle.std.specs.Prelude.{◌≡◌, ℕ}
use Rattle.status_log.specs.Statuses.{statuses_of}
use Rattle.outbound_build.specs.declared.outbound_tables.OutboundTables.{OutboundTables}
use Rattle.outbound_build.specs.Statuses.{Tracked, carried_in}

-- the tables are those of what is known behind some records
pub record AreTablesOf (tracked : Tracked) (tables : OutboundTables) : Type 0 where
  pub outbox : tables.outbox ≡ tracked.past.outbox
  pub documents : tables.documents ≡ tracked.past.documents
  pub carried : tables.carried ≡ carried_in tracked.past.units
  pub records : tables.records ≡ tracked.records
  pub statuses : (doc : ℕ) → statuses_of doc tables.statuses ≡ tracked.statuses doc
