-- A legal log replayed: what goes with each record, and what comes of one more.
use Rattle.std.specs.Prelude.{map}
use Rattle.std.specs.Option.{option_map_or}
use Rattle.std.proofs.Common.{◌≡◌, ℕ, zero, suc, ◌+◌, ◌≤◌, ◌<◌, ◌&&◌, true, false, Option, Some, None, List, [], ◌∷◌, ◌++◌, length, get_or, take, refl, sym, ap}
use Rattle.std.proofs.Common.{subst, ◌∙◌}
use Rattle.std.proofs.lemmas.Bool.{and_parts, leb-true}
use Rattle.std.proofs.lemmas.List.{take_more}
use Rattle.ale_base.specs.Tid.{TidOf}
use Rattle.ale_base.specs.declared.tid.TheConstants.Tid.{MAX_UNIT}
use Rattle.dist_model.specs.declared.lists.Lists.{Lists}
use Rattle.unit_core.specs.Filters.{received}
use Rattle.unit_core.specs.Queues.{unit_named}
use Rattle.unit_core.specs.declared.ale_unit.AleUnit.{AleUnit}
use Rattle.unit_core.specs.declared.records.Record.{Record}
use Rattle.unit_core.specs.declared.records.Record.TheVariants as log
use Rattle.said_models.specs.OfLog.{models_of, model_of}
use Rattle.outbound_build.specs.declared.added.Added.{Added}
use Rattle.outbound_build.specs.declared.added.OutUnit.{OutUnit}
use Rattle.outbound_build.specs.Added.{adds_any}
use Rattle.outbound_build.specs.Committed.{committed_of, no_more}
use Rattle.inbound_post.specs.Prepared.{offers}
use Rattle.document_state.specs.declared.made.Made.{Made}
use Rattle.document_state.specs.declared.made.Made.TheVariants.{Sent}
use Rattle.document_state.specs.Made.{GoesWith}
use Rattle.document_state.specs.OfLog.{sent_by, applied_by, added_behind}
use Rattle.document_state.specs.Tables.{AreTablesOf}
use Rattle.document_state.proofs.NotedLemmas.{goes-adds}
use Rattle.document_state.specs.steps.Applying.{AddsAs}
use Rattle.trfc_protocol.specs.Legal.{AllFollow, IsLegal, is_commit, is_empty, is_free_inbound, is_new, may_follow, offers_received, offers_that_of}
use Rattle.trfc_protocol.specs.Meaning.{Meaning}
use Rattle.trfc_protocol.proofs.LegalLemmas.{follows-at}
use Rattle.document_state.specs.declared.replay.Replay.{Replay}
use Rattle.document_state.specs.Allowed.{allowed}
use Rattle.document_state.specs.Meaning.{model_meaning, offered}
use Rattle.document_state.specs.steps.Replaying.{IsNext, IsReplayOf, units_made}
use Rattle.document_state.specs.LawfulLemmas.{allows-by, committed-nothing, committed-push, few-commit}
use Rattle.document_state.proofs.LegalLogLemmas.{sent-system, applied-system, received-applied}

-- ---- a Commit and a Dispatch

-- a record that adds any may follow where the rules allow it
adds-allowed : (systems system : ℕ) (records : List Record) (next : Record) → may_follow (model_meaning systems) system records next ≡ true
    → adds_any next ≡ true → allowed systems records next ≡ true
adds-allowed systems system [] (log.Genesis number text) may adds = absurd (cc)
adds-allowed systems system [] _ may adds = absurd (let lies = may in cc)
adds-allowed systems system (first ∷ rest) (log.Commit origin docs) may adds = may
adds-allowed systems system (first ∷ rest) log.Dispatch may adds = may
adds-allowed systems system (first ∷ rest) _ may adds = absurd (cc)

-- a model is in force where it may follow
adds-under : (system : ℕ) (records : List Record) (next : Record) → IsNext system records next → adds_any next ≡ true
    → (model : Lists) × (model_of records ≡ Some model)
adds-under system records next is adds =
    let by = allows-by is.systems records next (adds-allowed is.systems system records next is.may adds) in (by.0, by.1)

-- so the log is the system's
pub adds-system : (system : ℕ) (records : List Record) (next : Record) → IsNext system records next → adds_any next ≡ true
    → (sent_by records).past.system ≡ system
adds-system system records next is adds =
    let by = adds-under system records next is adds in sent-system is.systems system records is.legal by.0 by.1

-- it is one that commits
commits : (next : Record) → adds_any next ≡ true → is_commit next ≡ true
commits (log.Commit origin docs) adds = refl
commits log.Dispatch adds = refl
commits _ adds = absurd (cc)

-- and there are not too many units
pub adds-few : (system : ℕ) (records : List Record) (next : Record) → IsNext system records next → adds_any next ≡ true
    → length (sent_by records).past.units + length (added_behind records next).units ≤ MAX_UNIT
adds-few system records next is adds = leb-true _ MAX_UNIT (few-commit is.systems system records next (commits next adds) is.may)

-- what it adds goes with it
pub goes-sent : (records : List Record) (next : Record) (added : Added) → adds_any next ≡ true → added ≡ added_behind records next
    → GoesWith records next (Sent added)
goes-sent records (log.Commit origin docs) added adds is = is
goes-sent records log.Dispatch added adds is = is
goes-sent records _ added adds is = absurd (cc)

-- ---- a Direct and an Execute

-- a model is in force behind a log where anything is offered
offers-under : (system : ℕ) (records : List Record) (function : List ℕ) → offered system records function ≡ true
    → (model : Lists) × (model_of records ≡ Some model)
offers-under system records function may = of (model_of records) refl may
  where
    of : (found : Option Lists) → model_of records ≡ found → option_map_or (λ model. offers model system function) found false ≡ true
        → (model : Lists) × (model_of records ≡ Some model)
    of None is lies = absurd (cc)
    of (Some model) is may = (model, is)

-- the log of a unit that is executed at once is the system's
pub direct-system : (system : ℕ) (records : List Record) (unit : AleUnit) → IsNext system records (log.Direct unit) → (applied_by records).system ≡ system
direct-system system records unit is = of records is.legal is.may
  where
    of : (records : List Record) → IsLegal (model_meaning is.systems) system records
        → may_follow (model_meaning is.systems) system records (log.Direct unit) ≡ true → (applied_by records).system ≡ system
    of [] legal may = absurd (cc)
    of (first ∷ rest) legal may =
        let parts = and_parts (is_new system (first ∷ rest) unit && is_empty unit.inq) (offered system (first ∷ rest) unit.function) may in
        let by = offers-under system (first ∷ rest) unit.function parts.1 in
        applied-system is.systems system (first ∷ rest) legal by.0 by.1

-- a unit that is executed was received, by a log that is the system's
pub record Executes (system : ℕ) (records : List Record) (tid : TidOf) : Type 0 where
  pub same : (applied_by records).system ≡ system
  pub all : (applied_by records).application.received ≡ received records
  pub unit : AleUnit
  pub named : unit_named tid (received records) ≡ Some unit

pub executes : (system : ℕ) (records : List Record) (tid : TidOf) → IsNext system records (log.Execute tid) → Executes system records tid
executes system records tid is = of records is.legal is.may
  where
    named : (records : List Record) (found : Option AleUnit) → IsLegal (model_meaning is.systems) system records → unit_named tid (received records) ≡ found
        → offers_that_of (offered system records) found ≡ true → Executes system records tid
    named records None legal here lies = absurd (cc)
    named records (Some unit) legal here may =
        let by = offers-under system records unit.function may in
        record {
          same = applied-system is.systems system records legal by.0 by.1;
          all = received-applied is.systems system records legal by.0 by.1;
          unit = unit;
          named = here;
        }

    of : (records : List Record) → IsLegal (model_meaning is.systems) system records
        → may_follow (model_meaning is.systems) system records (log.Execute tid) ≡ true → Executes system records tid
    of [] legal may = absurd (cc)
    of (first ∷ rest) legal may =
        let parts = and_parts (is_free_inbound (first ∷ rest) tid) (offers_received (model_meaning is.systems) system (first ∷ rest) tid) may in
        named (first ∷ rest) (unit_named tid (received (first ∷ rest))) legal refl parts.1

-- ---- one more record

-- what was made says what is added
abbrev adds_of : Made → Added
adds_of (Sent added) = added
adds_of _ = no_more

made-adds : (made : Made) → AddsAs made (adds_of made)
made-adds (Sent added) = refl
made-adds _ = refl

made-same : (made : Made) → units_made made ≡ map (λ (one : OutUnit). one.unit) (adds_of made).units
made-same (Sent added) = refl
made-same _ = refl

-- what was made for a record has the units that it adds
pub made-units : (records : List Record) (next : Record) (made : Made) → GoesWith records next made
    → units_made made ≡ map (λ (one : OutUnit). one.unit) (added_behind records next).units
made-units records next made goes =
    made-same made
    ∙ ap (λ (more : Added). map (λ (one : OutUnit). one.unit) more.units) (goes-adds records next made (adds_of made) goes (made-adds made))

-- a record was taken up
pub replayed-next : (records : List Record) (next : Record) (made : Made) (before after : Replay) → IsReplayOf records before → GoesWith records next made
    → after.units ≡ before.units ++ units_made made → AreTablesOf (records ++ next ∷ []) after.tables → IsReplayOf (records ++ next ∷ []) after
replayed-next records next made before after is goes units tables = record {
  tables = tables;
  units = units ∙ ap (λ (us : List AleUnit). us ++ units_made made) is.units
      ∙ ap (λ (us : List AleUnit). committed_of (models_of records) records ++ us) (made-units records next made goes)
      ∙ sym (committed-push records next);
}

-- nothing was
pub replayed-nothing : (replay : Replay) → AreTablesOf [] replay.tables → replay.units ≡ [] → IsReplayOf [] replay
replayed-nothing replay tables none = record { tables = tables; units = none ∙ sym committed-nothing }

-- ---- the whole log

-- the first records of a legal log are one
legal-take : (rules : Meaning) (system : ℕ) (before records : List Record) (k : ℕ) → AllFollow rules system before records
    → AllFollow rules system before (take k records)
legal-take rules system before [] zero all = tt
legal-take rules system before [] (suc k) all = tt
legal-take rules system before (next ∷ records) zero all = tt
legal-take rules system before (next ∷ records) (suc k) all = (all.0, legal-take rules system (before ++ next ∷ []) records k all.1)

-- each record of a legal log may follow those before it
pub next-at : (systems system : ℕ) (records : List Record) (k : ℕ) (next : Record) → IsLegal (model_meaning systems) system records → k < length records
    → next ≡ get_or records k next → IsNext system (take k records) next
next-at systems system records k next legal within is = record {
  systems = systems;
  legal = legal-take (model_meaning systems) system [] records k legal;
  may = ap (may_follow (model_meaning systems) system (take k records)) is ∙ follows-at (model_meaning systems) system records k next legal within;
}

-- one record more was taken up
pub replayed-at : (records : List Record) (k : ℕ) (next : Record) (replay : Replay) → k < length records → next ≡ get_or records k next
    → IsReplayOf (take k records ++ next ∷ []) replay → IsReplayOf (take (k + 1) records) replay
replayed-at records k next replay within is replayed =
    subst (λ (behind : List Record). IsReplayOf behind replay)
    (ap (λ (one : Record). take k records ++ one ∷ []) is ∙ sym (take_more records k next within)) replayed
