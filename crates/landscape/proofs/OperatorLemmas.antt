-- What an operator asks for is appended, or refused for the first reason.
use Rattle.std.specs.Prelude.{⊤, if◌then◌else◌, Result, Ok, Err}
use Rattle.std.proofs.Common.{◌≡◌, ℕ, ◌&&◌, Bool, true, false, Option, Some, None, List, inl, inr, refl, sym, ap, subst, ◌∙◌}
use Rattle.std.proofs.lemmas.Bool.{and_parts}
use Rattle.ale_base.specs.QueueName.{IsQueueName}
use Rattle.ale_base.specs.Tid.{TidOf}
use Rattle.ale_base.specs.declared.way.Way.{Way}
use Rattle.ale_volumes.specs.Disk.{Disk}
use Rattle.unit_core.specs.declared.records.Record.{Record}
use Rattle.unit_core.specs.declared.records.Record.TheVariants as log
use Rattle.unit_codec.specs.Fields.{is_queue}
use Rattle.unit_codec.proofs.RuleLemmas.{is_queue_name}
use Rattle.status_log.specs.declared.refusal.Refusal.{Refusal}
use Rattle.status_log.specs.declared.refusal.Refusal.TheVariants as refusal
use Rattle.trfc_protocol.specs.declared.event.Event.TheVariants as event
use Rattle.trfc_protocol.specs.declared.event.Action.TheVariants.{Append}
use Rattle.trfc_protocol.specs.declared.world.World.{World}
use Rattle.trfc_protocol.specs.Legal.{is_destination, may_follow, may_follow_others}
use Rattle.trfc_protocol.specs.RecordOf.{Writing, may_operate, record_of}
use Rattle.trfc_protocol.specs.Worlds.{is_up, log_of}
use Rattle.trfc_protocol.proofs.NextLemmas.{record_if-each}
use Rattle.unit_landscape.specs.KeptWorlds.{KeptOf}
use Rattle.unit_landscape.specs.declared.answers.OperatorEnd.{OperatorEnd}
use Rattle.unit_landscape.specs.declared.answers.OperatorEnd.TheVariants as operator
use Rattle.unit_landscape.specs.declared.answers.Late.{Late}
use Rattle.unit_landscape.specs.declared.answers.LateEnd.{LateEnd}
use Rattle.unit_landscape.specs.declared.answers.LateEnd.TheVariants as late
use Rattle.unit_landscape.specs.Appending.{at}
use Rattle.unit_landscape.specs.Calls.{OperatedAs}
use Rattle.unit_landscape.specs.Ends.{FellBehind}
use Rattle.unit_landscape.specs.Kept.{IsLandscape}
use Rattle.unit_landscape.specs.Late.{LateAs}
use Rattle.unit_landscape.specs.Writes.{DiskAs}
use Rattle.unit_landscape.proofs.OperatingLemmas.{up-others}
use Rattle.document_state.specs.declared.document_tables.DocumentTables.{DocumentTables}
use Rattle.document_state.specs.declared.model_rules.ModelRules.{ModelRules}
use Rattle.landscape.specs.Asked.{Asked}
use Rattle.landscape.specs.Carried.{CarriedAs, DiskAsked, asked_at, operator_event}
use Rattle.landscape.specs.Operator.{asked_queue, asked_retry, number_to, start_of, stop_of, way_at, way_to}
use Rattle.landscape.specs.Working.{CameOrRefused, late_of}
use Rattle.landscape.specs.steps.Ready.{refused_of}
use Rattle.landscape.proofs.BegunLemmas.{meaning, is_lawful}

-- what an operator asks for by a record: it is appended where it may follow the log of a system that is up, and else refused so
abbrev pub asked_by : World ModelRules → ℕ → Record → Refusal → Asked
asked_by world system next why =
    if is_up world system then (if may_follow (meaning world.rules) system (log_of world system) next then Ok (Some next) else Err why) else Err refusal.N2

module _ (world : World ModelRules) (system : ℕ) (next : Record) (why : Refusal) where
  by-may : is_up world system ≡ true → may_follow (meaning world.rules) system (log_of world system) next ≡ true → asked_by world system next why ≡ Ok
      (Some next)
  by-may up may =
      ap (λ b. if b then (if may_follow (meaning world.rules) system (log_of world system) next then Ok (Some next) else Err why) else Err refusal.N2) up
      ∙ ap (λ b. if b then Ok (Some next) else Err why) may

  by-not : is_up world system ≡ true → may_follow (meaning world.rules) system (log_of world system) next ≡ false → asked_by world system next why ≡ Err why
  by-not up may =
      ap (λ b. if b then (if may_follow (meaning world.rules) system (log_of world system) next then Ok (Some next) else Err why) else Err refusal.N2) up
      ∙ ap (λ b. if b then Ok (Some next) else Err why) may

  pub by-down : is_up world system ≡ false → asked_by world system next why ≡ Err refusal.N2
  by-down down =
      ap (λ b. if b then (if may_follow (meaning world.rules) system (log_of world system) next then Ok (Some next) else Err why) else Err refusal.N2) down

  -- what is known where the record is that of its event
  record MayBe (it : Writing) : Type 0 where
    pub same : it ≡ at system next
    pub asked : asked_by world system next why ≡ Ok (Some next)

  may-be : (it : Writing) → record_of (meaning world.rules) world (event.Operator (Append system next)) ≡ Some it → MayBe it
  may-be it is =
      let may = may_follow (meaning world.rules) system (log_of world system) next in
      record_if-each MayBe (is_up world system && may_operate world next && may) system next
      (λ pass.
      let a = and_parts (is_up world system && may_operate world next) may pass in
      let b = and_parts (is_up world system) (may_operate world next) a.0 in
      record { same = refl; asked = by-may b.0 a.1 }) it is

module _ {V : Type 0} (disk : Disk V) (before after : KeptOf ModelRules DocumentTables V) (system : ℕ) (next : Record) (why : Refusal) (asked : Asked)
    (asks : asked ≡ asked_by before.world system next why) where
  -- an operator's record was appended as it is asked for
  pub operated-carried : {T : Type 0} (result : Result T OperatorEnd)
      → (asked ≡ Err why → after ≡ before → CarriedAs disk before after system (operator_event system) asked (λ (x : T). ⊤) (Err why))
      → OperatedAs (meaning before.world.rules) disk before after system next result
      → CarriedAs disk before after system (operator_event system) asked (λ (x : T). ⊤) (refused_of why result)
  operated-carried (Ok done) refuses did = (tt, inr (next, asks ∙ (may-be before.world system next why _ did.1).asked, did.0))
  operated-carried (Err operator.Down) refuses did = (asks ∙ by-down before.world system next why did.0, did.1)
  operated-carried (Err operator.NotAllowed) refuses did = refuses (asks ∙ by-not before.world system next why did.0 did.1) did.2
  operated-carried (Err (operator.Full size)) refuses did = (next, asks ∙ by-may before.world system next why did.0.0 did.0.1, did.1)
  operated-carried (Err operator.Volume) refuses did = (next, asks ∙ by-may before.world system next why did.0.0 did.0.1, did.1)
  operated-carried (Err operator.OutOfMemory) refuses did = elim did.1 [
    | inl stays ↦ inl stays
    | inr behind ↦ inr (
      next,
      asks ∙ by-may before.world system next why did.0.0 did.0.1,
      subst (FellBehind (meaning before.world.rules) disk before after (event.Operator (Append system next)))
          (may-be before.world system next why behind.0 behind.1).same behind.2,
    )
  ]

  -- and no other volume than its system's is called
  pub operated-disk : DiskAs disk before after (record_of (meaning before.world.rules) before.world (event.Operator (Append system next)))
      → DiskAsked disk before after system asked
  operated-disk = of (record_of (meaning before.world.rules) before.world (event.Operator (Append system next))) refl
    where
      of : (found : Option Writing) → record_of (meaning before.world.rules) before.world (event.Operator (Append system next)) ≡ found
          → DiskAs disk before after found → DiskAsked disk before after system asked
      of None is keeps = inl keeps
      of (Some it) is writes =
          let be = may-be before.world system next why it is in
          inr (next, asks ∙ be.asked, subst (λ it. DiskAs disk before after (Some it)) be.same writes)

-- ---- what is asked for

module _ (world : World ModelRules) (is : IsLandscape meaning world) (system : ℕ) where
  -- a queue of a proper name is stopped or started where it leads somewhere
  queue-asks : (destination : Option ℕ) (name : List ℕ) (next : Record) → is_queue name ≡ true
      → ((before : List Record) → may_follow_others (meaning world.rules) system before next ≡ is_destination world.rules.systems system (way_to destination)
      (number_to destination))
      → asked_at world system (λ log. asked_queue world.rules.systems system destination name next) ≡ asked_by world system next refusal.N5
  queue-asks destination name next proper follows = of (is_up world system) refl
    where
      of : (up : Bool) → is_up world system ≡ up
          → (if up then asked_queue world.rules.systems system destination name next else Err refusal.N2)
          ≡ (if up then (if may_follow (meaning world.rules) system (log_of world system) next then Ok (Some next) else Err refusal.N5) else Err refusal.N2)
      of true up =
          ap (λ b. if b && is_destination world.rules.systems system (way_to destination) (number_to destination) then Ok (Some next) else Err refusal.N5)
          proper
          ∙ ap (λ b. if b then Ok (Some next) else Err refusal.N5)
          (sym (up-others (meaning world.rules) (is_lawful world.rules) world is.safe system next up ∙ follows (log_of world system)))
      of false up = refl

  pub stop-asks : (destination : Option ℕ) (name : List ℕ) → is_queue name ≡ true
      → asked_at world system (λ log. asked_queue world.rules.systems system destination name (stop_of destination name)) ≡ asked_by world system
      (stop_of destination name) refusal.N5
  stop-asks destination name proper = queue-asks destination name (stop_of destination name) proper (λ before. refl)

  pub start-asks : (destination : Option ℕ) (name : List ℕ) → is_queue name ≡ true
      → asked_at world system (λ log. asked_queue world.rules.systems system destination name (start_of destination name)) ≡ asked_by world system
      (start_of destination name) refusal.N5
  start-asks destination name proper = queue-asks destination name (start_of destination name) proper (λ before. refl)

  -- a name that is no queue name is refused
  pub unnamed : (destination : Option ℕ) (name : List ℕ) (next : Record) → is_up world system ≡ true → is_queue name ≡ false
      → asked_at world system (λ log. asked_queue world.rules.systems system destination name next) ≡ Err refusal.N5
  unnamed destination name next up improper =
      ap (λ b. if b then asked_queue world.rules.systems system destination name next else Err refusal.N2) up
      ∙ ap (λ b. if b && is_destination world.rules.systems system (way_to destination) (number_to destination) then Ok (Some next) else Err refusal.N5)
      improper

  -- a unit is tried again where it is outstanding
  pub retry-asks : (tid : TidOf)
      → asked_at world system (asked_retry world.rules.systems system tid) ≡ asked_by world system (log.Retry (way_at system tid) tid) refusal.N6
  retry-asks tid = of (is_up world system) refl
    where
      of : (up : Bool) → is_up world system ≡ up
          → (if up then asked_retry world.rules.systems system tid (log_of world system) else Err refusal.N2)
          ≡ (if up then (if may_follow (meaning world.rules) system (log_of world system) (log.Retry (way_at system tid) tid) then Ok
          (Some (log.Retry (way_at system tid) tid)) else Err refusal.N6) else Err refusal.N2)
      of true up =
          ap (λ b. if b then Ok (Some (log.Retry (way_at system tid) tid)) else Err refusal.N6)
          (sym (up-others (meaning world.rules) (is_lawful world.rules) world is.safe system (log.Retry (way_at system tid) tid) up))
      of false up = refl

-- ---- the calls

module _ {V : Type 0} (disk : Disk V) (before after : KeptOf ModelRules DocumentTables V) (is : IsLandscape meaning before.world) (system : ℕ) where
  pub retry-carried : {T : Type 0} (tid : TidOf) (way : Way) → way ≡ way_at system tid → (result : Result T OperatorEnd)
      → OperatedAs (meaning before.world.rules) disk before after system (log.Retry way tid) result
      → CarriedAs disk before after system (operator_event system) (asked_at before.world system (asked_retry before.world.rules.systems system tid))
      (λ (x : T). ⊤) (refused_of refusal.N6 result)
  retry-carried tid way same result did =
      operated-carried disk before after system (log.Retry (way_at system tid) tid) refusal.N6
      (asked_at before.world system (asked_retry before.world.rules.systems system tid))
      (retry-asks before.world is system tid) result (λ asked stays. (asked, stays))
      (subst (λ w. OperatedAs (meaning before.world.rules) disk before after system (log.Retry w tid) result) same did)

  pub retry-disk : (tid : TidOf) (way : Way) → way ≡ way_at system tid
      → DiskAs disk before after
      (record_of (meaning before.world.rules) before.world (event.Operator (Append system (log.Retry way tid))))
      → DiskAsked disk before after system (asked_at before.world system (asked_retry before.world.rules.systems system tid))
  retry-disk tid way same wrote =
      operated-disk disk before after system (log.Retry (way_at system tid) tid) refusal.N6
      (asked_at before.world system (asked_retry before.world.rules.systems system tid))
      (retry-asks before.world is system tid)
      (subst (λ w. DiskAs disk before after
      (record_of (meaning before.world.rules) before.world (event.Operator (Append system (log.Retry w tid))))) same wrote)

  module _ (destination : Option ℕ) (given name : List ℕ) (way : Way) (number : ℕ) (leads : way ≡ way_to destination)
      (numbered : number ≡ number_to destination)
      (named : (name ≡ given) × IsQueueName given) where
    pub stop-carried : {T : Type 0} (result : Result T OperatorEnd) → OperatedAs (meaning before.world.rules) disk before after system
        (log.Stop way number name) result
        → CarriedAs disk before after system (operator_event system)
        (asked_at before.world system (λ log. asked_queue before.world.rules.systems system destination given (stop_of destination given))) (λ (x : T). ⊤)
        (refused_of refusal.N5 result)
    stop-carried result did =
        operated-carried disk before after system (stop_of destination given) refusal.N5
        (asked_at before.world system (λ log. asked_queue before.world.rules.systems system destination given (stop_of destination given)))
        (stop-asks before.world is system destination given (is_queue_name given named.1)) result (λ asked stays. (asked, stays))
        (subst (λ n. OperatedAs (meaning before.world.rules) disk before after system (log.Stop (way_to destination) (number_to destination) n) result)
        named.0
        (subst (λ n. OperatedAs (meaning before.world.rules) disk before after system (log.Stop (way_to destination) n name) result) numbered
        (subst (λ w. OperatedAs (meaning before.world.rules) disk before after system (log.Stop w number name) result) leads did)))

    pub start-carried : {T : Type 0} (result : Result T OperatorEnd) → OperatedAs (meaning before.world.rules) disk before after system
        (log.Start way number name) result
        → CarriedAs disk before after system (operator_event system)
        (asked_at before.world system (λ log. asked_queue before.world.rules.systems system destination given (start_of destination given))) (λ (x : T). ⊤)
        (refused_of refusal.N5 result)
    start-carried result did =
        operated-carried disk before after system (start_of destination given) refusal.N5
        (asked_at before.world system (λ log. asked_queue before.world.rules.systems system destination given (start_of destination given)))
        (start-asks before.world is system destination given (is_queue_name given named.1)) result (λ asked stays. (asked, stays))
        (subst (λ n. OperatedAs (meaning before.world.rules) disk before after system (log.Start (way_to destination) (number_to destination) n) result)
        named.0
        (subst (λ n. OperatedAs (meaning before.world.rules) disk before after system (log.Start (way_to destination) n name) result) numbered
        (subst (λ w. OperatedAs (meaning before.world.rules) disk before after system (log.Start w number name) result) leads did)))

    pub stop-disk : DiskAs disk before after
        (record_of (meaning before.world.rules) before.world (event.Operator (Append system (log.Stop way number name))))
        → DiskAsked disk before after system
        (asked_at before.world system (λ log. asked_queue before.world.rules.systems system destination given (stop_of destination given)))
    stop-disk wrote =
        operated-disk disk before after system (stop_of destination given) refusal.N5
        (asked_at before.world system (λ log. asked_queue before.world.rules.systems system destination given (stop_of destination given)))
        (stop-asks before.world is system destination given (is_queue_name given named.1))
        (subst (λ n. DiskAs disk before after
        (record_of (meaning before.world.rules) before.world (event.Operator (Append system (log.Stop (way_to destination) (number_to destination) n)))))
        named.0
        (subst (λ n. DiskAs disk before after
        (record_of (meaning before.world.rules) before.world (event.Operator (Append system (log.Stop (way_to destination) n name))))) numbered
        (subst (λ w. DiskAs disk before after
        (record_of (meaning before.world.rules) before.world (event.Operator (Append system (log.Stop w number name))))) leads wrote)))

    pub start-disk : DiskAs disk before after
        (record_of (meaning before.world.rules) before.world (event.Operator (Append system (log.Start way number name))))
        → DiskAsked disk before after system
        (asked_at before.world system (λ log. asked_queue before.world.rules.systems system destination given (start_of destination given)))
    start-disk wrote =
        operated-disk disk before after system (start_of destination given) refusal.N5
        (asked_at before.world system (λ log. asked_queue before.world.rules.systems system destination given (start_of destination given)))
        (start-asks before.world is system destination given (is_queue_name given named.1))
        (subst (λ n. DiskAs disk before after
        (record_of (meaning before.world.rules) before.world
        (event.Operator (Append system (log.Start (way_to destination) (number_to destination) n))))) named.0
        (subst (λ n. DiskAs disk before after
        (record_of (meaning before.world.rules) before.world (event.Operator (Append system (log.Start (way_to destination) n name))))) numbered
        (subst (λ w. DiskAs disk before after
        (record_of (meaning before.world.rules) before.world (event.Operator (Append system (log.Start w number name))))) leads wrote)))

-- ---- a late request

-- a late request is answered by the number of its refusal
pub late-carried : {V : Type 0} (disk : Disk V) (before after : KeptOf ModelRules DocumentTables V) (tid : TidOf) (result : Result Late LateEnd)
    → LateAs (meaning before.world.rules) disk before after tid result → CameOrRefused disk before after tid (late_of result)
late-carried disk before after tid (Ok came) did = did
late-carried disk before after tid (Err late.NoSuchSystem) did = inl did
late-carried disk before after tid (Err late.SenderDown) did = did
late-carried disk before after tid (Err late.NotCommitted) did = inr did
late-carried disk before after tid (Err late.NotMarked) did = did
late-carried disk before after tid (Err (late.Full size)) did = did
late-carried disk before after tid (Err late.OutOfMemory) did = did
