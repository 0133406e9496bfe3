-- A confirmation and the reply to it are their events.
use Rattle.std.specs.Prelude.{Contains, Result, Ok, Err, IfOk, OnErr}
use Rattle.std.specs.Option.{option_and_then, option_map, option_map_or}
use Rattle.std.proofs.Common.{◌≡◌, ℕ, true, false, not, ◌&&◌, Bool, Option, Some, None, inr, refl, sym, ap, subst, ◌∙◌}
use Rattle.std.proofs.lemmas.Option.{same_Some}
use Rattle.ale_volumes.specs.Disk.{Disk}
use Rattle.ale_base.specs.Tid.{TidOf}
use Rattle.ale_base.specs.declared.out_of_memory.OutOfMemory.{OutOfMemory}
use Rattle.unit_core.specs.declared.ale_unit.AleUnit.{AleUnit}
use Rattle.unit_core.specs.declared.records.Record.TheVariants as log
use Rattle.unit_core.specs.Filters.{received, done_in, ended_in, forgotten_in}
use Rattle.unit_core.specs.Queues.{is_listed, is_among, unit_named}
use Rattle.unit_core.proofs.TidLemmas.{is_among-Contains, unit_named-Contains}
use Rattle.tid_table.specs.LogTids.{is_known}
use Rattle.system_tables.specs.OfLog.{is_unconfirmed}
use Rattle.trfc_protocol.specs.declared.world.World.{World}
use Rattle.trfc_protocol.specs.declared.event.Event.TheVariants as event
use Rattle.trfc_protocol.specs.declared.event.ReplyTo.TheVariants.{Forgotten}
use Rattle.trfc_protocol.specs.Meaning.{Meaning}
use Rattle.trfc_protocol.specs.Legal.{IsLawful}
use Rattle.trfc_protocol.specs.Worlds.{log_of, is_up, committed_by, committed_unit}
use Rattle.trfc_protocol.specs.RecordOf.{record_if, record_of_confirmation, record_of_ending}
use Rattle.trfc_protocol.specs.Safe.{Safe}
use Rattle.trfc_protocol.proofs.SafeLemmas.{numbered}
use Rattle.trfc_protocol.proofs.ForCallers.{done_unit, forgotten_unit}
use Rattle.unit_landscape.specs.KeptWorlds.{KeptOf}
use Rattle.unit_landscape.specs.declared.appending.Appended.{Appended}
use Rattle.unit_landscape.specs.declared.appending.Appended.TheVariants.{Written, Fallen}
use Rattle.unit_landscape.specs.Writes.{Appends}
use Rattle.unit_landscape.specs.Ends.{IsShort}
use Rattle.unit_landscape.specs.Calls.{receiver_of, is_forgotten, ConfirmedAs, ClosedAs}
use Rattle.unit_landscape.specs.Appending.{EndsSo, IsToForget, IsToEnd, confirmed_of, closed_of}
use Rattle.unit_landscape.proofs.EndsLemmas.{was-written, was-fallen, was-short}

not_twice : (b : Bool) → not (not b) ≡ b
not_twice true = refl
not_twice false = refl

-- the receiver that was found is that of the unit
pub receiver-found : (found : Option AleUnit) (receiver : ℕ) → option_map (λ (unit : AleUnit). unit.receiver) found ≡ Some receiver
    → receiver ≡ option_map_or (λ (unit : AleUnit). unit.receiver) found 0
receiver-found None receiver is = cc
receiver-found (Some unit) receiver is = sym (same_Some unit.receiver receiver is)

module _ {R : Type 0} (rules : Meaning) (lawful : IsLawful rules) (world : World R) (safe : Safe rules world) (tid : TidOf)
    (done : is_listed tid (done_in (log_of world tid.system)) ≡ true) where
  -- a unit that is done was committed, and its receiver received it
  pub done-named : (unit : AleUnit) × (committed_unit rules world tid ≡ Some unit) × (unit.tid ≡ tid) × Contains (received (log_of world unit.receiver)) unit
  done-named =
      let was = done_unit rules lawful world safe tid.system tid done in (
        was.0,
        subst (λ t. unit_named t (committed_by rules world tid.system) ≡ Some was.0) was.1
            (unit_named-Contains (committed_by rules world tid.system) was.0 (numbered rules lawful world safe tid.system) was.2),
        was.1,
        was.3,
      )

  receiver-is : receiver_of rules world tid ≡ done-named.0.receiver
  receiver-is = ap (λ f. option_map_or (λ (unit : AleUnit). unit.receiver) f 0) done-named.1

  -- it knows the id, unless it has forgotten it
  pub done-known : is_known tid (log_of world (receiver_of rules world tid)) ≡ not (is_forgotten rules world tid)
  done-known =
      let among : is_among tid (received (log_of world (receiver_of rules world tid))) ≡ true =
      ap (λ s. is_among tid (received (log_of world s))) receiver-is
      ∙ ap (λ t. is_among t (received (log_of world done-named.0.receiver))) (sym done-named.2)
      ∙ is_among-Contains done-named.0 (received (log_of world done-named.0.receiver)) done-named.3 in
      ap (λ b. b && not (is_listed tid (forgotten_in (log_of world (receiver_of rules world tid))))) among

  -- so what the receiver knows says whether it has forgotten
  pub forgotten-by : (receiver : ℕ) (known : Bool) → receiver ≡ receiver_of rules world tid → known ≡ is_known tid (log_of world receiver)
      → is_forgotten rules world tid ≡ not known
  forgotten-by receiver known its is =
      sym (ap not (is ∙ ap (λ s. is_known tid (log_of world s)) its ∙ done-known) ∙ not_twice (is_forgotten rules world tid))

  confirm-appends : is_up world (receiver_of rules world tid) ≡ true → is_forgotten rules world tid ≡ false
      → Appends rules world (receiver_of rules world tid) (log.Forget tid) None (event.Confirm tid)
  confirm-appends up known = record {
    writes =
        let unit : AleUnit = done-named.0 in
        ap (option_and_then (record_of_confirmation world)) done-named.1
        ∙ ap (λ t. record_if (is_listed t (done_in (log_of world t.system)) && is_up world unit.receiver
        && not (is_listed t (forgotten_in (log_of world unit.receiver))))
        unit.receiver (log.Forget t)) done-named.2
        ∙ ap (λ s. record_if (is_listed tid (done_in (log_of world tid.system)) && is_up world s && not (is_listed tid (forgotten_in (log_of world s)))) s
        (log.Forget tid))
        (sym receiver-is)
        ∙ ap (λ b. record_if (b && is_up world (receiver_of rules world tid) && not (is_forgotten rules world tid)) (receiver_of rules world tid)
        (log.Forget tid)) done
        ∙ ap (λ b. record_if (b && not (is_forgotten rules world tid)) (receiver_of rules world tid) (log.Forget tid)) up
        ∙ ap (λ b. record_if (not b) (receiver_of rules world tid) (log.Forget tid)) known;
    ends = refl;
    texts = λ none. cc;
  }

  -- it is unconfirmed, unless it is ended
  pub done-unconfirmed : is_unconfirmed tid (log_of world tid.system) ≡ not (is_listed tid (ended_in (log_of world tid.system)))
  done-unconfirmed = ap (λ b. b && not (is_listed tid (ended_in (log_of world tid.system)))) done

  ended-appends : is_up world tid.system ≡ true → is_listed tid (ended_in (log_of world tid.system)) ≡ false → is_forgotten rules world tid ≡ true
      → Appends rules world tid.system (log.Ended tid) None (event.Reply (Forgotten tid))
  ended-appends up open_ forgotten = record {
    writes =
        let ended = is_listed tid (ended_in (log_of world tid.system)) in
        ap (option_and_then (record_of_ending world tid)) done-named.1
        ∙ ap (λ b. record_if (b && is_listed tid (done_in (log_of world tid.system)) && not ended
        && is_listed tid (forgotten_in (log_of world done-named.0.receiver)))
        tid.system (log.Ended tid)) up
        ∙ ap (λ b. record_if (b && not ended && is_listed tid (forgotten_in (log_of world done-named.0.receiver))) tid.system (log.Ended tid)) done
        ∙ ap (λ b. record_if (not b && is_listed tid (forgotten_in (log_of world done-named.0.receiver))) tid.system (log.Ended tid)) open_
        ∙ ap (λ b. record_if b tid.system (log.Ended tid)) (ap (λ s. is_listed tid (forgotten_in (log_of world s))) (sym receiver-is) ∙ forgotten);
    ends = refl;
    texts = λ none. cc;
  }

-- a unit whose id is forgotten is done
pub forgotten-done : {R : Type 0} (rules : Meaning) → IsLawful rules → (world : World R) → Safe rules world → (tid : TidOf) →
    is_forgotten rules world tid ≡ true
    → is_listed tid (done_in (log_of world tid.system)) ≡ true
forgotten-done rules lawful world safe tid forgotten = forgotten_unit rules lawful world safe (receiver_of rules world tid) tid forgotten

module _ {R : Type 0} (rules : Meaning) (lawful : IsLawful rules) (world : World R) (safe : Safe rules world) (tid : TidOf) (system : ℕ) where
  -- an id that is to be forgotten is, in the event
  pub forget-appends : IsToForget rules world tid system → Appends rules world system (log.Forget tid) None (event.Confirm tid)
  forget-appends is =
      subst (λ s. Appends rules world s (log.Forget tid) None (event.Confirm tid)) (sym is.its)
      (confirm-appends rules lawful world safe tid is.done (ap (is_up world) (sym is.its) ∙ is.up) is.known)

  -- an end that is to be recorded is, in the event
  pub end-appends : IsToEnd rules world tid system → Appends rules world system (log.Ended tid) None (event.Reply (Forgotten tid))
  end-appends is =
      subst (λ s. Appends rules world s (log.Ended tid) None (event.Reply (Forgotten tid))) (sym is.its)
      (ended-appends rules lawful world safe tid (forgotten-done rules lawful world safe tid is.forgotten) (ap (is_up world) (sym is.its) ∙ is.up)
      (subst (λ s. is_listed tid (ended_in (log_of world s)) ≡ false) is.its is.lasts) is.forgotten)

module _ {R A V : Type 0} (rules : Meaning) (lawful : IsLawful rules) (disk : Disk V) (before after : KeptOf R A V) (tid : TidOf) (system : ℕ)
    (result : Result Appended OutOfMemory) (safe : Safe rules before.world) where
  -- how a confirmation ends, by how its record was appended
  pub confirmed-as : IsToForget rules before.world tid system → EndsSo rules disk before after system (log.Forget tid) None result
      → IfOk (confirmed_of result) (ConfirmedAs rules disk before after tid) × OnErr (confirmed_of result)
      (IsShort rules disk before after (event.Confirm tid))
  confirmed-as is ends = at_end result refl
    where
      does : Appends rules before.world system (log.Forget tid) None (event.Confirm tid)
      does = forget-appends rules lawful before.world safe tid system is

      at_end : (r : Result Appended OutOfMemory) → result ≡ r
          → IfOk (confirmed_of r) (ConfirmedAs rules disk before after tid) × OnErr (confirmed_of r) (IsShort rules disk before after (event.Confirm tid))
      at_end (Ok Written) same = (
        (
          ap (is_up before.world) (sym is.its) ∙ is.up,
          is.known,
          was-written rules disk before after system (log.Forget tid) None (event.Confirm tid) does result ends Written same refl,
        ),
        tt,
      )
      at_end (Ok Fallen) same =
          (inr (was-fallen rules disk before after system (log.Forget tid) None (event.Confirm tid) does result ends Fallen same refl), tt)
      at_end (Err short) same = (tt, was-short rules disk before after system (log.Forget tid) None (event.Confirm tid) does result ends short same)

  -- how the reply to a confirmation ends, by how its record was appended
  pub closed-as : IsToEnd rules before.world tid system → EndsSo rules disk before after system (log.Ended tid) None result
      → IfOk (closed_of result) (ClosedAs rules disk before after tid) × OnErr (closed_of result)
      (IsShort rules disk before after (event.Reply (Forgotten tid)))
  closed-as is ends = at_end result refl
    where
      does : Appends rules before.world system (log.Ended tid) None (event.Reply (Forgotten tid))
      does = end-appends rules lawful before.world safe tid system is

      at_end : (r : Result Appended OutOfMemory) → result ≡ r
          → IfOk (closed_of r) (ClosedAs rules disk before after tid) × OnErr (closed_of r) (IsShort rules disk before after (event.Reply (Forgotten tid)))
      at_end (Ok Written) same = (
        (
          ap (is_up before.world) (sym is.its) ∙ is.up,
          subst (λ s. is_listed tid (ended_in (log_of before.world s)) ≡ false) is.its is.lasts,
          was-written rules disk before after system (log.Ended tid) None (event.Reply (Forgotten tid)) does result ends Written same refl,
        ),
        tt,
      )
      at_end (Ok Fallen) same =
          (inr (was-fallen rules disk before after system (log.Ended tid) None (event.Reply (Forgotten tid)) does result ends Fallen same refl), tt)
      at_end (Err short) same = (tt, was-short rules disk before after system (log.Ended tid) None (event.Reply (Forgotten tid)) does result ends short same)
