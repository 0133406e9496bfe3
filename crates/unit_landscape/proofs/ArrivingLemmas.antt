-- The arrival of a unit is its event.
use Rattle.std.specs.Option.{option_and_then, option_map_or}
use Rattle.std.proofs.Common.{◌≡◌, true, false, not, cond, ◌&&◌, ◌||◌, Bool, None, refl, ap, ◌∙◌}
use Rattle.std.proofs.lemmas.Bool.{and_parts}
use Rattle.unit_core.specs.declared.ale_unit.AleUnit.{AleUnit}
use Rattle.unit_core.specs.declared.records.Record.TheVariants as log
use Rattle.unit_core.specs.Filters.{received, forgotten_in}
use Rattle.unit_core.specs.Queues.{is_listed, is_among}
use Rattle.tid_table.specs.LogTids.{is_known}
use Rattle.trfc_protocol.specs.declared.world.World.{World}
use Rattle.trfc_protocol.specs.declared.answer.Answer.{Answer}
use Rattle.trfc_protocol.specs.declared.answer.Answer.TheVariants as answer
use Rattle.trfc_protocol.specs.declared.event.Event.TheVariants as event
use Rattle.trfc_protocol.specs.Meaning.{Meaning}
use Rattle.trfc_protocol.specs.Worlds.{log_of}
use Rattle.trfc_protocol.specs.Offered.{heads_at_sender, may_arrive, answer_to}
use Rattle.trfc_protocol.specs.RecordOf.{record_of_answer, record_of_arrival, record_of}
use Rattle.trfc_protocol.specs.Happens.{written, with_run, after_arrival, with_claims_after, happens}
use Rattle.unit_landscape.specs.Writes.{Appends}
use Rattle.unit_landscape.specs.Appending.{Arrives}

-- the receiver of a unit that may arrive has not forgotten it: it knows it where it received it
pub known-arrives : {R : Type 0} (rules : Meaning) (world : World R) (unit : AleUnit) → may_arrive rules world unit ≡ true
    → is_known unit.tid (log_of world unit.receiver) ≡ is_among unit.tid (received (log_of world unit.receiver))
known-arrives rules world unit may =
    let forgotten = is_listed unit.tid (forgotten_in (log_of world unit.receiver)) in
    let among = is_among unit.tid (received (log_of world unit.receiver)) in
    let parts = and_parts (not forgotten) (among || heads_at_sender rules world unit) may in
    ap (λ b. among && b) parts.0 ∙ and-true among
  where
    and-true : (b : Bool) → (b && true) ≡ b
    and-true true = refl
    and-true false = refl

module _ {R : Type 0} (rules : Meaning) (world : World R) (unit : AleUnit) (given : Answer) (arrives : Arrives rules world unit given) where
  -- the record of an arrival is that of its answer
  pub arrival-record : record_of rules world (event.Arrive unit.tid) ≡ record_of_answer unit given
  arrival-record =
      ap (option_and_then (record_of_arrival rules world)) arrives.committed
      ∙ ap (λ b. cond b (record_of_answer unit (answer_to rules world unit)) None) arrives.may
      ∙ ap (record_of_answer unit) arrives.answer

  arrival-claims : with_claims_after rules world (event.Arrive unit.tid) ≡ with_run world unit given
  arrival-claims =
      ap (λ found. option_map_or (after_arrival rules world) found world) arrives.committed
      ∙ ap (λ b. cond b (with_run world unit (answer_to rules world unit)) world) arrives.may
      ∙ ap (with_run world unit) arrives.answer

  -- and the world is what the answer makes of it
  pub arrival-after : happens rules world (event.Arrive unit.tid) ≡ written (record_of_answer unit given) (with_run world unit given)
  arrival-after = ap (λ found. written found (with_claims_after rules world (event.Arrive unit.tid))) arrival-record
      ∙ ap (written (record_of_answer unit given)) arrival-claims

-- a unit that is taken in is appended at its receiver
pub accept-appends : {R : Type 0} (rules : Meaning) (world : World R) (unit : AleUnit) → Arrives rules world unit answer.New
    → Appends rules world unit.receiver (log.Accept unit) None (event.Arrive unit.tid)
accept-appends rules world unit arrives = record {
  writes = arrival-record rules world unit answer.New arrives;
  ends = refl;
  texts = λ none. cc;
}
