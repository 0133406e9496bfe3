-- Records that are asked for are appended as their events say.
use Rattle.std.specs.Prelude.{◌≢◌, Result, Ok, Err}
use Rattle.std.specs.Option.{option_map_or}
use Rattle.std.proofs.Common.{◌≡◌, ℕ, true, false, not, ◌&&◌, ◌||◌, Option, Some, None, List, [], ◌∷◌, inl, inr, refl, sym, ap, ◌∙◌}
use Rattle.std.proofs.lemmas.Bool.{and_parts}
use Rattle.ale_volumes.specs.Disk.{Disk}
use Rattle.ale_base.specs.Tid.{TidOf}
use Rattle.ale_base.specs.declared.way.Way.{Way}
use Rattle.ale_base.specs.declared.way.Way.TheVariants.{Outgoing, Incoming}
use Rattle.unit_core.specs.declared.ale_unit.AleUnit.{AleUnit}
use Rattle.unit_core.specs.declared.records.Record.{Record}
use Rattle.unit_core.specs.declared.records.Record.TheVariants as log
use Rattle.unit_core.specs.Filters.{received, executed, done_in}
use Rattle.unit_core.specs.Queues.{unit_named, is_outstanding}
use Rattle.unit_codec.specs.Condition.{IsWritable}
use Rattle.plain_queues.specs.LogQueues.{units_of, through}
use Rattle.trfc_protocol.specs.declared.world.World.{World}
use Rattle.trfc_protocol.specs.declared.event.Event.TheVariants as event
use Rattle.trfc_protocol.specs.declared.event.Action.TheVariants.{Append}
use Rattle.trfc_protocol.specs.Meaning.{Meaning}
use Rattle.trfc_protocol.specs.Legal.{is_commit, is_operators, is_model, is_empty, is_open, is_open_at, may_follow, may_follow_others, IsLawful}
use Rattle.trfc_protocol.specs.Worlds.{log_of, is_up, committed_by}
use Rattle.trfc_protocol.specs.RecordOf.{may_operate, record_if, record_of}
use Rattle.trfc_protocol.specs.Safe.{Safe}
use Rattle.trfc_protocol.proofs.WorldLemmas.{is_up-known}
use Rattle.trfc_protocol.proofs.SafeLemmas.{begun}
use Rattle.trfc_protocol.proofs.NextLemmas.{record_if-each}
use Rattle.system_tables.specs.Concerns.{concerns_application}
use Rattle.unit_landscape.specs.declared.append_end.AppendEnd.{AppendEnd}
use Rattle.unit_landscape.specs.declared.append_end.AppendEnd.TheVariants.{Volume, Full, Before, After}
use Rattle.unit_landscape.specs.KeptWorlds.{KeptOf}
use Rattle.unit_landscape.specs.Writes.{has_texts, Appends}
use Rattle.unit_landscape.specs.Ends.{AppendsAs}
use Rattle.unit_landscape.specs.Calls.{OperatedAs}
use Rattle.unit_landscape.specs.Appending.{at, operated_of}

-- a record of an operator commits nothing
pub operators-plain : (next : Record) → is_operators next ≡ true → is_commit next ≡ false
operators-plain (log.Commit origin docs) is = cc
operators-plain log.Dispatch is = cc
operators-plain _ is = refl

-- a record that says nothing to an application leaves the model
silent-model : (next : Record) → concerns_application next ≡ false → is_model next ≡ false
silent-model (log.Model text) silent = cc
silent-model _ silent = refl

-- and it has no texts
silent-texts : (next : Record) → concerns_application next ≡ false → has_texts next ≡ true → IsWritable next
silent-texts (log.Genesis system text) silent texts = cc
silent-texts (log.Commit origin docs) silent texts = cc
silent-texts (log.Put kind key fields) silent texts = cc
silent-texts (log.Model text) silent texts = cc
silent-texts _ silent texts = cc

-- an operator's record that says nothing to an application is asked for whatever is claimed
silent-operates : {R : Type 0} (world : World R) (next : Record) → is_operators next ≡ true → concerns_application next ≡ false
    → may_operate world next ≡ true
silent-operates world next kind silent =
    ap (λ b. b && (not (is_model next) || is_empty world.claims)) kind
    ∙ ap (λ b. not b || is_empty world.claims) (silent-model next silent)

open-same : (through : List TidOf) (found : Option AleUnit) → option_map_or (is_outstanding through) found false ≡ is_open through found
open-same through None = refl
open-same through (Some unit) = refl

-- a unit is outstanding in a direction by the queues where it is so by the log
pub outstanding-open : {R : Type 0} (rules : Meaning) (world : World R) (system : ℕ) (way : Way) (tid : TidOf)
    → option_map_or (is_outstanding (through way (log_of world system)))
    (unit_named tid (units_of way (committed_by rules world system) (log_of world system))) false
    ≡ is_open_at rules system (log_of world system) way tid
outstanding-open rules world system Outgoing tid = open-same (done_in (log_of world system)) (unit_named tid (committed_by rules world system))
outstanding-open rules world system Incoming tid = open-same (executed (log_of world system)) (unit_named tid (received (log_of world system)))

begun_others : (rules : Meaning) (system : ℕ) (before : List Record) (next : Record) → before ≢ []
    → may_follow rules system before next ≡ may_follow_others rules system before next
begun_others rules system [] next begun = absurd (begun refl)
begun_others rules system (first ∷ rest) next begun = refl

-- where a system is up its log is begun
pub up-others : {R : Type 0} (rules : Meaning) → IsLawful rules → (world : World R) → Safe rules world → (system : ℕ) (next : Record)
    → is_up world system ≡ true
    → may_follow rules system (log_of world system) next ≡ may_follow_others rules system (log_of world system) next
up-others rules lawful world safe system next up =
    let known = is_up-known world system up in
    begun_others rules system (log_of world system) next (begun rules lawful world safe system known.0 known.1)

-- a Retry may follow where the unit is outstanding by the queues
pub retry-may : {R : Type 0} (rules : Meaning) → IsLawful rules → (world : World R) → Safe rules world → (system : ℕ) (way : Way) (tid : TidOf) →
    is_up world system ≡ true
    → may_follow rules system (log_of world system) (log.Retry way tid)
    ≡ option_map_or (is_outstanding (through way (log_of world system)))
    (unit_named tid (units_of way (committed_by rules world system) (log_of world system))) false
retry-may rules lawful world safe system way tid up =
    up-others rules lawful world safe system (log.Retry way tid) up ∙ sym (outstanding-open rules world system way tid)

module _ {R : Type 0} (rules : Meaning) (world : World R) (system : ℕ) (next : Record) where
  -- a Commit or a Dispatch that is possible is appended
  pub commit-appends : record_of rules world (event.Commit system next) ≡ Some (at system next) → IsWritable next
      → Appends rules world system next None (event.Commit system next)
  commit-appends possible writable = record { writes = possible; ends = refl; texts = λ has. writable }

  -- a record of an operator that is possible is appended
  pub operator-appends : record_of rules world (event.Operator (Append system next)) ≡ Some (at system next) → (has_texts next ≡ true → IsWritable next)
      → Appends rules world system next None (event.Operator (Append system next))
  operator-appends possible texts = record { writes = possible; ends = refl; texts = texts }

  -- it is one of an operator or of the application
  pub operator-kind : record_of rules world (event.Operator (Append system next)) ≡ Some (at system next) → is_operators next ≡ true
  operator-kind possible =
      let may = may_follow rules system (log_of world system) next in
      record_if-each (λ it. is_operators next ≡ true) (is_up world system && may_operate world next && may) system next
      (λ pass.
      let a = and_parts (is_up world system && may_operate world next) may pass in
      let b = and_parts (is_up world system) (may_operate world next) a.0 in
      (and_parts (is_operators next) _ b.1).0) (at system next) possible

  module _ (up : is_up world system ≡ true) (may : may_follow rules system (log_of world system) next ≡ true) (kind : is_operators next ≡ true)
      (silent : concerns_application next ≡ false) where
    -- a record of an operator that may follow is possible
    pub asked-record : record_of rules world (event.Operator (Append system next)) ≡ Some (at system next)
    asked-record =
        ap (λ b. record_if (b && may_operate world next && may_follow rules system (log_of world system) next) system next) up
        ∙ ap (λ b. record_if (b && may_follow rules system (log_of world system) next) system next) (silent-operates world next kind silent)
        ∙ ap (λ b. record_if b system next) may

    pub asked-appends : Appends rules world system next None (event.Operator (Append system next))
    asked-appends = operator-appends asked-record (silent-texts next silent)

-- how an operator's record is appended, by how its record was
pub operated-as : {R A V T : Type 0} (rules : Meaning) (disk : Disk V) (before after : KeptOf R A V) (system : ℕ) (next : Record)
    (result : Result T AppendEnd)
    → is_up before.world system ≡ true → may_follow rules system (log_of before.world system) next ≡ true
    → record_of rules before.world (event.Operator (Append system next)) ≡ Some (at system next)
    → AppendsAs rules disk before after (event.Operator (Append system next)) (at system next) result
    → OperatedAs rules disk before after system next (operated_of result)
operated-as rules disk before then system next (Ok done) up may writes ends = (ends, writes)
operated-as rules disk before then system next (Err Volume) up may writes ends = ((up, may), ends)
operated-as rules disk before then system next (Err (Full size)) up may writes ends = ((up, may), ends)
operated-as rules disk before then system next (Err Before) up may writes ends = ((up, may), inl ends)
operated-as rules disk before then system next (Err After) up may writes ends = ((up, may), inr (at system next, writes, ends))
