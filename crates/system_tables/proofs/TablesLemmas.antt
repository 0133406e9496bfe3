-- The tables of a log, as they come to be and as they change. These are the laws by which a system keeps its tables.
use Rattle.std.proofs.Common.{◌≡◌, ℕ, Option, Some, None, List, [], ◌∷◌, ◌++◌, length, refl, sym, ap, subst, ◌∙◌}
use Rattle.std.proofs.lemmas.List.{take_at}
use Rattle.ale_base.specs.Tid.{TidOf}
use Rattle.ale_base.specs.declared.way.Way.{Way}
use Rattle.ale_base.specs.declared.way.Way.TheVariants.{Outgoing, Incoming}
use Rattle.unit_core.specs.declared.ale_unit.AleUnit.{AleUnit}
use Rattle.unit_core.specs.declared.records.Record.{Record}
use Rattle.tid_table.proofs.LogTidsLemmas.{AreTidsOf-nothing}
use Rattle.plain_queues.specs.Changes.{claimed, released}
use Rattle.plain_queues.specs.LogQueues.{AreQueuesOf}
use Rattle.plain_queues.proofs.RecordLemmas.{AreQueuesOf-nothing, AreQueuesOf-claimed, AreQueuesOf-released}
use Rattle.system_tables.specs.Tables.{TablesOf, no_tables, entered, left, queues_of, with_queues}
use Rattle.system_tables.specs.Noted.{Noted}
use Rattle.system_tables.specs.CanNote.{CanNote}
use Rattle.system_tables.specs.OfLog.{AreTablesOf}
use Rattle.system_tables.specs.Joins.{Joins, ClaimsBy, ClaimsAfter}
use Rattle.system_tables.proofs.UnconfirmedLemmas.{AreUnconfirmedIn-nothing}
use Rattle.system_tables.proofs.NotedLemmas.{received-noted, seen-noted, unconfirmed-noted, outgoing-noted, incoming-noted}
use Rattle.system_tables.proofs.CanNoteLemmas.{can_note_outgoing-joins, can_note_incoming-joins}

-- new tables are those of a log that has no records and commits nothing, whatever the claims
pub AreTablesOf-nothing : {A : Type 0} (stands : A → List Record → Type 0) (application : A) (sent arrived : TidOf → Option ℕ) → stands application []
    → AreTablesOf stands [] [] sent arrived (no_tables application)
AreTablesOf-nothing stands application sent arrived begins = record {
  units = refl;
  received = refl;
  seen = AreTidsOf-nothing;
  unconfirmed = AreUnconfirmedIn-nothing;
  outgoing = AreQueuesOf-nothing Outgoing sent;
  incoming = AreQueuesOf-nothing Incoming arrived;
  application = begins;
}

-- units that are entered and taken back leave the tables as they were
pub left-entered : {A : Type 0} (more : List AleUnit) (tables : TablesOf A) → left (length tables.units) (entered more tables) ≡ tables
left-entered more tables = ap (λ units. record tables { units = units }) (take_at tables.units more (length tables.units) refl)

-- noting a record that joins the log asks no more than is known of it
pub CanNote-joins : {A : Type 0} (stands : A → List Record → Type 0) (committed more : List AleUnit) (log : List Record) (claim : Option ℕ)
    (sent arrived : TidOf → Option ℕ) (next : Record) (tables : TablesOf A) → AreTablesOf stands committed log sent arrived tables
    → Joins committed more log claim sent arrived next → CanNote next more claim (entered more tables)
CanNote-joins stands committed more log claim sent arrived next tables are joins = record {
  outgoing = can_note_outgoing-joins committed more log claim sent next tables.outgoing joins.sending are.outgoing;
  incoming = can_note_incoming-joins committed log claim arrived next tables.incoming joins.receiving are.incoming;
}

-- one more record: the tables of a log, with its units entered, are those of the longer log once it is noted
pub AreTablesOf-noted : {A : Type 0} (stands goes : A → List Record → Type 0) (committed more : List AleUnit) (log : List Record) (claim : Option ℕ)
    (sent arrived sent_after arrived_after : TidOf → Option ℕ) (next : Record) (before after : TablesOf A)
    → AreTablesOf stands committed log sent arrived before → Joins committed more log claim sent arrived next
    → ClaimsAfter next sent arrived sent_after arrived_after → Noted stands goes next more (entered more before) after
    → goes before.application log → AreTablesOf stands (committed ++ more) (log ++ next ∷ []) sent_after arrived_after after
AreTablesOf-noted stands goes committed more log claim sent arrived sent_after arrived_after next before after are joins claims noted made = record {
  units = noted.units ∙ ap (λ units. units ++ more) are.units;
  received = received-noted log next before.received after.received noted.received are.received;
  seen = seen-noted log claim arrived next before.seen after.seen joins.receiving noted.seen are.seen;
  unconfirmed = unconfirmed-noted committed more log claim sent next before.unconfirmed after.unconfirmed joins.sending noted.unconfirmed are.unconfirmed;
  outgoing = outgoing-noted committed more log claim sent arrived sent_after arrived_after next before.outgoing after.outgoing
      joins.sending claims noted.outgoing are.outgoing;
  incoming = incoming-noted committed more log claim sent arrived sent_after arrived_after next before.incoming after.incoming
      joins.receiving claims noted.incoming are.incoming;
  application = noted.application log are.application made;
}

-- a claim is no record: the log stays, and the unit is claimed
pub AreTablesOf-claimed : {A : Type 0} (stands : A → List Record → Type 0) (way : Way) (committed : List AleUnit) (log : List Record) (tid : TidOf)
    (number : ℕ) (sent arrived sent_after arrived_after : TidOf → Option ℕ) (tables : TablesOf A)
    → ClaimsBy way tid (Some number) sent arrived sent_after arrived_after → AreTablesOf stands committed log sent arrived tables
    → AreTablesOf stands committed log sent_after arrived_after (with_queues way (claimed number tid (queues_of way tables)) tables)
AreTablesOf-claimed stands Outgoing committed log tid number sent arrived sent_after arrived_after tables claims are = record {
  units = are.units;
  received = are.received;
  seen = are.seen;
  unconfirmed = are.unconfirmed;
  outgoing = AreQueuesOf-claimed Outgoing committed log tid number sent sent_after tables.outgoing claims.0 are.outgoing;
  incoming = subst (λ c. AreQueuesOf Incoming committed log c tables.incoming) (sym claims.1) are.incoming;
  application = are.application;
}
AreTablesOf-claimed stands Incoming committed log tid number sent arrived sent_after arrived_after tables claims are = record {
  units = are.units;
  received = are.received;
  seen = are.seen;
  unconfirmed = are.unconfirmed;
  outgoing = subst (λ c. AreQueuesOf Outgoing committed log c tables.outgoing) (sym claims.0) are.outgoing;
  incoming = AreQueuesOf-claimed Incoming committed log tid number arrived arrived_after tables.incoming claims.1 are.incoming;
  application = are.application;
}

-- nor is giving a claim up: the log stays, and the unit is released
pub AreTablesOf-released : {A : Type 0} (stands : A → List Record → Type 0) (way : Way) (committed : List AleUnit) (log : List Record) (tid : TidOf)
    (sent arrived sent_after arrived_after : TidOf → Option ℕ) (tables : TablesOf A) → ClaimsBy way tid None sent arrived sent_after arrived_after
    → AreTablesOf stands committed log sent arrived tables
    → AreTablesOf stands committed log sent_after arrived_after (with_queues way (released tid (queues_of way tables)) tables)
AreTablesOf-released stands Outgoing committed log tid sent arrived sent_after arrived_after tables claims are = record {
  units = are.units;
  received = are.received;
  seen = are.seen;
  unconfirmed = are.unconfirmed;
  outgoing = AreQueuesOf-released Outgoing committed log tid sent sent_after tables.outgoing claims.0 are.outgoing;
  incoming = subst (λ c. AreQueuesOf Incoming committed log c tables.incoming) (sym claims.1) are.incoming;
  application = are.application;
}
AreTablesOf-released stands Incoming committed log tid sent arrived sent_after arrived_after tables claims are = record {
  units = are.units;
  received = are.received;
  seen = are.seen;
  unconfirmed = are.unconfirmed;
  outgoing = subst (λ c. AreQueuesOf Outgoing committed log c tables.outgoing) (sym claims.0) are.outgoing;
  incoming = AreQueuesOf-released Incoming committed log tid arrived arrived_after tables.incoming claims.1 are.incoming;
  application = are.application;
}
