-- The work of a claim: its unit, and what goes with its record.
use Rattle.std.specs.Prelude.{IfSome}
use Rattle.std.specs.Option.{option_and_then, option_map_or}
use Rattle.std.proofs.Common.{◌≡◌, ℕ, Bool, true, false, not, ◌&&◌, Option, Some, List, refl, sym, ap, subst, ◌∙◌}
use Rattle.std.proofs.lemmas.Bool.{and_parts}
use Rattle.ale_base.specs.declared.way.Way.TheVariants.{Incoming}
use Rattle.unit_core.specs.declared.ale_unit.AleUnit.{AleUnit}
use Rattle.unit_core.specs.declared.records.Record.TheVariants as log
use Rattle.unit_core.specs.Filters.{received, executed, is_marked}
use Rattle.unit_core.specs.Queues.{unit_named, heads_inbound}
use Rattle.unit_core.proofs.TidLemmas.{unit_named-Some}
use Rattle.inbound_post.specs.declared.prepared.DocPosting.{DocPosting}
use Rattle.trfc_protocol.specs.declared.world.World.{World}
use Rattle.trfc_protocol.specs.declared.held.Held.{Held}
use Rattle.trfc_protocol.specs.declared.held.HeldKind.{HeldKind}
use Rattle.trfc_protocol.specs.declared.held.HeldKind.TheVariants.{Out, In, Direct}
use Rattle.trfc_protocol.specs.declared.event.Event.TheVariants as event
use Rattle.trfc_protocol.specs.Legal.{is_free_inbound}
use Rattle.trfc_protocol.specs.Offered.{offers_received_now}
use Rattle.trfc_protocol.specs.RecordOf.{Writing, record_of, record_of_claim, record_of_run, record_of_work}
use Rattle.trfc_protocol.specs.Safe.{is_due}
use Rattle.trfc_protocol.specs.Worlds.{claim_of, committed_unit, is_kind, is_up, log_of, offers_now}
use Rattle.trfc_protocol.proofs.ClaimLemmas.{claim_of-Some}
use Rattle.trfc_protocol.proofs.LegalLemmas.{is_free-parts}
use Rattle.trfc_protocol.proofs.NextLemmas.{record_if-each}
use Rattle.trfc_protocol.proofs.SafeLemmas.{IsRun-due, hold, received-is}
use Rattle.unit_landscape.specs.declared.claims.InClaim.{InClaim}
use Rattle.unit_landscape.specs.Calls.{is_offered_function, is_on, is_out, stands_in}
use Rattle.unit_landscape.specs.Kept.{IsLandscape}
use Rattle.document_state.specs.declared.made.Made.{Made}
use Rattle.document_state.specs.declared.made.Made.TheVariants.{Brought, Executed, Nothing, Postings, Sent}
use Rattle.document_state.specs.Made.{GoesWith}
use Rattle.document_state.specs.OfLog.{postings_behind}
use Rattle.document_state.specs.declared.model_rules.ModelRules.{ModelRules}
use Rattle.document_state.proofs.LegalLogLemmas.{received-applied}
use Rattle.landscape.specs.Begun.{AreBegun}
use Rattle.landscape.specs.Working.{IsExecuted, IsKindOf, IsMadeFor, IsPreparedFor}
use Rattle.landscape.proofs.BegunLemmas.{meaning, is_lawful}
use Rattle.landscape.proofs.StandingLemmas.{legal-log}

-- a unit is worked on at its receiver, which is up
record IsWorkedOn (world : World ModelRules) (held : Held) (unit : AleUnit) : Type 0 where
  pub named : committed_unit (meaning world.rules) world held.tid ≡ Some unit
  pub receiver : unit.receiver ≡ held.system
  pub up : is_up world held.system ≡ true

module _ (world : World ModelRules) (is : IsLandscape meaning world) (number : ℕ) (held : Held) (found : claim_of number world.claims ≡ Some held) where
  -- a unit that is claimed to be executed was received where it is claimed
  received-here : held.kind ≡ In → (unit : AleUnit) × IsWorkedOn world held unit × (unit_named held.tid (received (log_of world held.system)) ≡ Some unit)
  received-here kind =
      let holds = hold (meaning world.rules) (is_lawful world.rules) world is.safe held (claim_of-Some number world.claims held found).0 in
      let free : is_free_inbound (log_of world held.system) held.tid ≡ true = subst (λ k. is_due (meaning world.rules) world held k ≡ true) kind holds.due in
      let parts = is_free-parts (executed (log_of world held.system)) (is_marked Incoming held.tid (log_of world held.system))
      (heads_inbound (executed (log_of world held.system)) (received (log_of world held.system))) (unit_named held.tid (received (log_of world held.system)))
      free in
      let there = unit_named-Some held.tid (received (log_of world held.system)) parts.0 parts.1 in
      let its = received-is (meaning world.rules) (is_lawful world.rules) world is.safe held.system parts.0 there.0 in (
        parts.0,
        record { named = subst (λ t. committed_unit (meaning world.rules) world t ≡ Some parts.0) there.1 its.1; receiver = its.0; up = holds.up },
        parts.1,
      )

  -- a unit that is claimed to be run was committed for the system where it is claimed
  run-here : held.kind ≡ Direct → (unit : AleUnit) × IsWorkedOn world held unit
  run-here kind =
      let holds = hold (meaning world.rules) (is_lawful world.rules) world is.safe held (claim_of-Some number world.claims held found).0 in
      let run = IsRun-due (meaning world.rules) world held.system held.tid (subst (λ k. is_due (meaning world.rules) world held k ≡ true) kind holds.due) in
      (run.unit, record { named = run.named; receiver = run.receiver; up = holds.up })

  -- what is told of a unit at its receiver is told of the one that is worked on
  told-offered : (unit : AleUnit) → IsWorkedOn world held unit → (offered : Bool)
      → IfSome (committed_unit (meaning world.rules) world held.tid)
      (λ u. is_up world u.receiver ≡ true → offered ≡ offers_now (meaning world.rules) world u.receiver u.function)
      → offered ≡ is_offered_function (meaning world.rules) world held.tid
  told-offered unit works offered told =
      let of : IfSome (Some unit) (λ u. is_up world u.receiver ≡ true → offered ≡ offers_now (meaning world.rules) world u.receiver u.function) =
      subst (λ f. IfSome f (λ u. is_up world u.receiver ≡ true → offered ≡ offers_now (meaning world.rules) world u.receiver u.function)) works.named told in
      of (subst (λ s. is_up world s ≡ true) (sym works.receiver) works.up)
      ∙ sym (ap (λ f. option_map_or (λ (u : AleUnit). offers_now (meaning world.rules) world u.receiver u.function) f false) works.named)

  pub offered-told : (kind : HeldKind) → held.kind ≡ kind → is_kind kind Out ≡ false → (offered : Bool)
      → IfSome (committed_unit (meaning world.rules) world held.tid)
      (λ u. is_up world u.receiver ≡ true → offered ≡ offers_now (meaning world.rules) world u.receiver u.function)
      → offered ≡ is_offered_function (meaning world.rules) world held.tid
  offered-told In kind works offered told = let here = received-here kind in told-offered here.0 here.1 offered told
  offered-told Direct kind works offered told = let here = run-here kind in told-offered here.0 here.1 offered told
  offered-told Out kind works offered told = absurd (cc)

  -- ---- what goes with the record of an execution

  module _ (begun : AreBegun world) (postings : List DocPosting) (prepared : IsPreparedFor world held.tid postings) where
    -- with the execution of a unit that was taken in go the unit and its postings
    execute-goes : (unit : AleUnit) → IsWorkedOn world held unit → unit_named held.tid (received (log_of world held.system)) ≡ Some unit → (made : Made) →
        IsExecuted unit postings made
        → GoesWith (log_of world held.system) (log.Execute held.tid) made
    execute-goes unit works named (Executed one its) made = (
      λ model in_force.
          ap (unit_named held.tid) (received-applied world.rules.systems held.system (log_of world held.system) (legal-log world is begun held.system) model
          in_force)
          ∙ named ∙ ap Some (sym made.0),
      made.1 ∙ prepared unit works.named
          ∙ ap (λ s. postings_behind (log_of world s) unit) works.receiver ∙ ap (postings_behind (log_of world held.system)) (sym made.0),
    )
    execute-goes unit works named Nothing made = absurd made
    execute-goes unit works named (Brought model) made = absurd made
    execute-goes unit works named (Sent added) made = absurd made
    execute-goes unit works named (Postings its) made = absurd made

    -- with a run go its postings
    run-goes : (unit : AleUnit) → IsWorkedOn world held unit → (made : Made) → made ≡ Postings postings → GoesWith (log_of world held.system) (log.Direct unit)
        made
    run-goes unit works made is =
        subst (GoesWith (log_of world held.system) (log.Direct unit)) (sym is)
        (prepared unit works.named ∙ ap (λ s. postings_behind (log_of world s) unit) works.receiver)

    of-kind : (pick : Held → HeldKind → Option Writing) (kind : HeldKind) → held.kind ≡ kind → record_of_claim world pick number ≡ pick held kind
    of-kind pick kind is = ap (option_and_then (λ (h : Held). pick h h.kind)) found ∙ ap (pick held) is

    pub goes-with : (kind : HeldKind) → held.kind ≡ kind → (made : Made) → IsMadeFor world kind held.tid postings made
        → (it : Writing) → record_of (meaning world.rules) world (event.Finish number) ≡ Some it → GoesWith (log_of world it.system) it.next made
    goes-with In kind made its it writes =
        let here = received-here kind in
        record_if-each (λ it. GoesWith (log_of world it.system) it.next made) (offers_received_now (meaning world.rules) world held.system held.tid)
        held.system (log.Execute held.tid)
        (λ offers. execute-goes here.0 here.1 here.2 made (its here.0 here.1.named)) it
        (sym (of-kind (record_of_work (meaning world.rules) world) In kind) ∙ writes)
    goes-with Direct kind made its it writes =
        let here = run-here kind in
        record_if-each (λ it. GoesWith (log_of world it.system) it.next made) (offers_now (meaning world.rules) world held.system here.0.function) held.system
        (log.Direct here.0)
        (λ offers. run-goes here.0 here.1 made its) it
        (sym (ap (option_and_then (record_of_run (meaning world.rules) world held)) here.1.named) ∙ sym
        (of-kind (record_of_work (meaning world.rules) world) Direct kind) ∙ writes)
    goes-with Out kind made its it writes = absurd (let none = sym (of-kind (record_of_work (meaning world.rules) world) Out kind) ∙ writes in cc)

-- a claim that stands to execute a unit is no shipment
pub works-kind : (world : World ModelRules) (claim : InClaim) (held : Held) → claim_of claim.number world.claims ≡ Some held → stands_in world claim ≡ true
    → is_kind held.kind Out ≡ false
works-kind world claim held found stands =
    let here = sym (ap (λ f. is_on claim.tid f && not (is_out f)) found) ∙ stands in
    not-true (is_kind held.kind Out) (and_parts (is_on claim.tid (Some held)) (not (is_kind held.kind Out)) here).1
  where
    not-true : (b : Bool) → not b ≡ true → b ≡ false
    not-true true is = cc
    not-true false is = refl

-- so the function of its unit is told, and what goes with its record
module _ (world : World ModelRules) (is : IsLandscape meaning world) (begun : AreBegun world) (claim : InClaim) (kind : HeldKind)
    (of : IsKindOf world claim (Some kind)) where
  works : is_kind kind Out ≡ false
  works = subst (λ k. is_kind k Out ≡ false) of.1.3 (works-kind world claim of.1.0 of.1.1 of.0)

  pub finish-offered : (offered : Bool)
      → IfSome (committed_unit (meaning world.rules) world claim.tid)
      (λ u. is_up world u.receiver ≡ true → offered ≡ offers_now (meaning world.rules) world u.receiver u.function)
      → offered ≡ is_offered_function (meaning world.rules) world claim.tid
  finish-offered offered told =
      subst (λ t. offered ≡ is_offered_function (meaning world.rules) world t) of.1.2
      (offered-told world is claim.number of.1.0 of.1.1 kind of.1.3 works offered
      (subst (λ t. IfSome (committed_unit (meaning world.rules) world t)
      (λ u. is_up world u.receiver ≡ true → offered ≡ offers_now (meaning world.rules) world u.receiver u.function)) (sym of.1.2) told))

  pub finish-goes : (postings : List DocPosting) → IsPreparedFor world claim.tid postings → (made : Made) → IsMadeFor world kind claim.tid postings made
      → (it : Writing) → record_of (meaning world.rules) world (event.Finish claim.number) ≡ Some it → GoesWith (log_of world it.system) it.next made
  finish-goes postings prepared made its it writes =
      goes-with world is claim.number of.1.0 of.1.1 begun postings
      (subst (λ t. IsPreparedFor world t postings) (sym of.1.2) prepared) kind of.1.3 made
      (subst (λ t. IsMadeFor world kind t postings made) (sym of.1.2) its) it writes
