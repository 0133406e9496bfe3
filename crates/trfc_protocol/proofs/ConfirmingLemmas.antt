-- A safe world stays safe where a confirmation arrives, and where its reply does.
use Rattle.std.specs.Prelude.{Contains}
use Rattle.std.specs.Option.{option_and_then}
use Rattle.std.proofs.Common.{◌≡◌, true, false, not, ◌&&◌, Option, Some, None, refl, sym, subst}
use Rattle.std.proofs.lemmas.Bool.{cond_both, and_parts, and_from, not-true, not_from_false}
use Rattle.std.proofs.lemmas.List.Elements.{All-contains}
use Rattle.ale_base.specs.Tid.{TidOf}
use Rattle.unit_core.specs.declared.ale_unit.AleUnit.{AleUnit}
use Rattle.unit_core.specs.declared.records.Record.TheVariants as log
use Rattle.unit_core.specs.Filters.{received, done_in, ended_in, forgotten_in}
use Rattle.unit_core.specs.Queues.{is_listed, is_among}
use Rattle.unit_core.proofs.TidLemmas.{Contains-is_listed, is_among-Contains, same_unit}
use Rattle.unit_core.proofs.OnceLemmas.{WasTaken}
use Rattle.trfc_protocol.specs.declared.world.World.{World}
use Rattle.trfc_protocol.specs.Meaning.{Meaning}
use Rattle.trfc_protocol.specs.Legal.{IsLawful}
use Rattle.trfc_protocol.specs.Worlds.{log_of, is_up, committed_by, committed_unit}
use Rattle.trfc_protocol.specs.RecordOf.{record_of_confirmation, record_of_ending}
use Rattle.trfc_protocol.specs.Happens.{written}
use Rattle.trfc_protocol.specs.Safe.{Safe}
use Rattle.trfc_protocol.proofs.LegalLemmas.{MayJoin-forget, MayJoin-ended}
use Rattle.trfc_protocol.proofs.SafeLemmas.{MayWrite, sound_now, numbered, committed_unit-is, may_follow-up}
use Rattle.trfc_protocol.proofs.NextLemmas.{IsNext, Next-written, spares_all, stays}

module _ {R : Type 0} (rules : Meaning) (lawful : IsLawful rules) (world : World R) (safe : Safe rules world) where
  abbrev Next : World R → Type 0
  Next after = IsNext rules world after

  -- a confirmation arrives
  pub writes-forget : (tid : TidOf) (unit : AleUnit) → committed_unit rules world tid ≡ Some unit
      → is_listed unit.tid (done_in (log_of world unit.tid.system)) ≡ true → is_up world unit.receiver ≡ true
      → is_listed unit.tid (forgotten_in (log_of world unit.receiver)) ≡ false → MayWrite rules world unit.receiver (log.Forget unit.tid)
  writes-forget tid unit named done up open_ =
      let is = committed_unit-is rules lawful world safe tid unit named in
      let has_done = Contains-is_listed unit.tid (done_in (log_of world unit.tid.system)) done in
      let was : WasTaken (committed_by rules world) (log_of world) unit.tid.system unit.tid =
      All-contains (WasTaken (committed_by rules world) (log_of world) unit.tid.system) (done_in (log_of world unit.tid.system)) unit.tid
      ((sound_now rules lawful world safe).once.done_was_taken unit.tid.system) has_done in
      let committed_here : Contains (committed_by rules world unit.tid.system) unit = subst
      (λ (t : TidOf). Contains (committed_by rules world t.system) unit) (sym is.1) is.0 in
      let equal : was.0 ≡ unit = same_unit (committed_by rules world unit.tid.system) was.0 unit
      (numbered rules lawful world safe unit.tid.system) was.2 committed_here was.1 in
      let among : is_among unit.tid (received (log_of world unit.receiver)) ≡ true =
      is_among-Contains unit (received (log_of world unit.receiver)) (subst (λ (u : AleUnit). Contains (received (log_of world u.receiver)) u) equal was.3) in
      record {
        up = up;
        may = may_follow-up rules lawful world safe unit.receiver (log.Forget unit.tid) up
            (and_from (is_among unit.tid (received (log_of world unit.receiver))) (not (is_listed unit.tid (forgotten_in (log_of world unit.receiver)))) among
            (not_from_false (is_listed unit.tid (forgotten_in (log_of world unit.receiver))) open_));
        join = MayJoin-forget (committed_by rules world) (log_of world) unit.receiver unit.tid has_done;
      }

  pub Next-confirms : (tid : TidOf) (found : Option AleUnit) → committed_unit rules world tid ≡ found
      → Next (written (option_and_then (record_of_confirmation world) found) world)
  Next-confirms tid None named = stays rules lawful world safe
  Next-confirms tid (Some unit) named =
      let done = is_listed unit.tid (done_in (log_of world unit.tid.system)) in
      let up = is_up world unit.receiver in
      let open_ = not (is_listed unit.tid (forgotten_in (log_of world unit.receiver))) in
      cond_both (done && up && open_) (Some (record { system = unit.receiver; next = log.Forget unit.tid })) None (λ it. Next (written it world))
      (λ pass.
      let a = and_parts (done && up) open_ pass in
      let b = and_parts done up a.0 in
      Next-written rules lawful world safe unit.receiver (log.Forget unit.tid)
      (writes-forget tid unit named b.0 b.1 (not-true (is_listed unit.tid (forgotten_in (log_of world unit.receiver))) a.1))
      (λ held has. spares_all unit.receiver (log.Forget unit.tid) held refl refl refl refl (λ _. refl) (λ _. refl)))
      (λ _. stays rules lawful world safe)

  -- the reply to a confirmation arrives
  pub writes-ended : (tid : TidOf) (unit : AleUnit) → committed_unit rules world tid ≡ Some unit → is_up world tid.system ≡ true
      → is_listed tid (done_in (log_of world tid.system)) ≡ true → is_listed tid (ended_in (log_of world tid.system)) ≡ false
      → is_listed tid (forgotten_in (log_of world unit.receiver)) ≡ true → MayWrite rules world tid.system (log.Ended tid)
  writes-ended tid unit named up done open_ gone =
      let is = committed_unit-is rules lawful world safe tid unit named in
      record {
        up = up;
        may = may_follow-up rules lawful world safe tid.system (log.Ended tid) up
            (and_from (is_listed tid (done_in (log_of world tid.system))) (not (is_listed tid (ended_in (log_of world tid.system)))) done
            (not_from_false (is_listed tid (ended_in (log_of world tid.system))) open_));
        join = MayJoin-ended (committed_by rules world) (log_of world) tid.system tid
            (unit, is.1, is.0, Contains-is_listed tid (forgotten_in (log_of world unit.receiver)) gone);
      }

  pub Next-ends : (tid : TidOf) (found : Option AleUnit) → committed_unit rules world tid ≡ found
      → Next (written (option_and_then (record_of_ending world tid) found) world)
  Next-ends tid None named = stays rules lawful world safe
  Next-ends tid (Some unit) named =
      let up = is_up world tid.system in
      let done = is_listed tid (done_in (log_of world tid.system)) in
      let open_ = not (is_listed tid (ended_in (log_of world tid.system))) in
      let gone = is_listed tid (forgotten_in (log_of world unit.receiver)) in
      cond_both (up && done && open_ && gone) (Some (record { system = tid.system; next = log.Ended tid })) None (λ it. Next (written it world))
      (λ pass.
      let a = and_parts (up && done && open_) gone pass in
      let b = and_parts (up && done) open_ a.0 in
      let c = and_parts up done b.0 in
      Next-written rules lawful world safe tid.system (log.Ended tid)
      (writes-ended tid unit named c.0 c.1 (not-true (is_listed tid (ended_in (log_of world tid.system))) b.1) a.1)
      (λ held has. spares_all tid.system (log.Ended tid) held refl refl refl refl (λ _. refl) (λ _. refl)))
      (λ _. stays rules lawful world safe)
