-- A record of an event joins the log of its system: it may follow, and the claim that it ends is one of the world.
use Rattle.std.specs.Prelude.{Contains, find}
use Rattle.std.specs.Option.{option_map}
use Rattle.std.proofs.Common.{◌≡◌, ℕ, ◌==◌, true, false, ◌&&◌, Option, Some, None, List, [], ◌∷◌, ◌++◌, inl, inr, refl, sym, ap, subst, ◌∙◌}
use Rattle.std.proofs.lemmas.Bool.{and_parts, both_ways, eqb-true}
use Rattle.ale_base.specs.Tid.{TidOf, is_tid}
use Rattle.ale_base.proofs.MemberLemmas.{find-Some}
use Rattle.ale_base.proofs.OptionLemmas.{none_or_some}
use Rattle.unit_core.specs.declared.ale_unit.AleUnit.{AleUnit}
use Rattle.unit_core.specs.declared.records.Record.{Record}
use Rattle.unit_core.specs.declared.records.Record.TheVariants as log
use Rattle.unit_core.specs.Filters.{received}
use Rattle.unit_core.specs.Queues.{is_among}
use Rattle.unit_core.proofs.TidLemmas.{is_tid-true, is_among-Contains}
use Rattle.unit_codec.specs.Condition.{IsUnit}
use Rattle.trfc_protocol.specs.declared.world.World.{World}
use Rattle.trfc_protocol.specs.declared.held.Held.{Held}
use Rattle.trfc_protocol.specs.declared.held.HeldKind.{HeldKind}
use Rattle.trfc_protocol.specs.declared.held.HeldKind.TheVariants.{Out, In}
use Rattle.trfc_protocol.specs.declared.event.Event.{Event}
use Rattle.trfc_protocol.specs.Meaning.{Meaning}
use Rattle.trfc_protocol.specs.Legal.{IsLegal, IsLawful}
use Rattle.trfc_protocol.specs.Worlds.{log_of, committed_by, is_kind, claim_of}
use Rattle.trfc_protocol.specs.Safe.{Safe}
use Rattle.trfc_protocol.proofs.ClaimLemmas.{is_kind-true, claim_of-Some}
use Rattle.trfc_protocol.proofs.SafeLemmas.{MayWrite, sound_now, hold, committed_unit-is}
use Rattle.trfc_protocol.proofs.ExecutingLemmas.{in_received}
use Rattle.trfc_protocol.proofs.ForCallers.{shipped_by, shipped_unit}
use Rattle.trfc_protocol.proofs.RecordLemmas.{MayWrite-record}
use Rattle.log_tables.specs.Read.{CommitFew, IsProper}
use Rattle.log_tables.proofs.JoinsLegalLemmas.{IsEnding, joins-legal}
use Rattle.unit_landscape.specs.Claims.{is_at, claim_at}
use Rattle.unit_landscape.specs.Joining.{EndsNamed, JoinsAt}
use Rattle.unit_landscape.proofs.ClaimsLemmas.{claim_at-Contains}
use Rattle.unit_landscape.specs.Kept.{CommitWritable}
use Rattle.unit_landscape.specs.Writes.{Appends}
use Rattle.unit_landscape.proofs.ClaimEndsLemmas.{IsNamed, named-event}
pub use Rattle.unit_landscape.proofs.EventLemmas.{event-after, event-up, event-follows, event-writable, event-none_more}

-- there is no claim of a kind on a unit at a system
unclaimed : (kind : HeldKind) (system : ℕ) (tid : TidOf) (claims : List Held)
    → ((held : Held) → Contains claims held → held.kind ≡ kind → held.system ≡ system → held.tid ≡ tid → ⊥) → claim_at kind system claims tid ≡ None
unclaimed kind system tid claims none =
    elim (none_or_some (find (is_at kind system tid) claims)) [
      | inl nothing ↦ ap (option_map (λ (held : Held). held.number)) nothing
      | inr got ↦
          let held : Held = got.0 in
          let found = find-Some (is_at kind system tid) claims held got.1 in
          let parts = and_parts (is_kind held.kind kind && (held.system == system)) (is_tid held.tid tid) found.1 in
          let front = and_parts (is_kind held.kind kind) (held.system == system) parts.0 in
          absurd (none held found.0 (is_kind-true held.kind kind front.0) (eqb-true held.system system front.1) (is_tid-true held.tid tid parts.1))
    ]

-- units that can be written have few queues
few-written : (rules : Meaning) → CommitWritable rules → CommitFew rules
few-written rules writable = record {
  each = λ system l legal unit has.
      let is : IsUnit unit = writable.each system l legal unit has in
      record { few = is.outq.0; different = is.outq.1 };
}

module _ {R : Type 0} (rules : Meaning) (lawful : IsLawful rules) (world : World R) (safe : Safe rules world) (writable : CommitWritable rules)
    (system : ℕ) where
  abbrev before : List Record
  before = log_of world system

  abbrev sent : TidOf → Option ℕ
  sent = claim_at Out system world.claims

  abbrev arrived : TidOf → Option ℕ
  arrived = claim_at In system world.claims

  legal : IsLegal rules system before
  legal = (sound_now rules lawful world safe).legal system

  -- the number of a claim of the world is that of its unit
  number-at : (kind : HeldKind) (tid : TidOf) (number : ℕ) (held : Held) → claim_of number world.claims ≡ Some held → held.system ≡ system
      → held.kind ≡ kind → held.tid ≡ tid → claim_at kind system world.claims tid ≡ Some number
  number-at kind tid number held found at same its =
      let is = claim_of-Some number world.claims held found in
      subst (λ k. claim_at k system world.claims tid ≡ Some number) same
      (subst (λ s. claim_at held.kind s world.claims tid ≡ Some number) at
      (subst (λ t. claim_at held.kind held.system world.claims t ≡ Some number) its
      (claim_at-Contains world.claims held safe.apart is.0 ∙ ap Some is.1)))

  -- a unit that is not there is not claimed
  none-sent : (tid : TidOf) → is_among tid (rules.committed system before) ≡ false → sent tid ≡ None
  none-sent tid new =
      unclaimed Out system tid world.claims (λ held has kind at its.
      let shipped = shipped_unit rules lawful world safe held has kind in
      let is = committed_unit-is rules lawful world safe held.tid shipped.0 shipped.1 in
      let from : held.tid.system ≡ system = sym (shipped_by rules lawful world safe held has kind) ∙ at in
      both_ways (is_among tid (rules.committed system before)) new
      (subst (λ t. is_among t (rules.committed system before) ≡ true) (is.1 ∙ its)
      (is_among-Contains shipped.0 (rules.committed system before) (subst (λ s. Contains (committed_by rules world s) shipped.0) from is.0))))

  none-arrived : (tid : TidOf) → is_among tid (received before) ≡ false → arrived tid ≡ None
  none-arrived tid new =
      unclaimed In system tid world.claims (λ held has kind at its.
      let got = in_received rules lawful world safe held (hold rules lawful world safe held has) kind in
      let there : Contains (received before) got.0 = subst (λ s. Contains (received (log_of world s)) got.0) at got.1 in
      both_ways (is_among tid (received before)) new
      (subst (λ t. is_among t (received before) ≡ true) (got.2 ∙ its) (is_among-Contains got.0 (received before) there)))

  -- the claim that the record ends is that of its unit
  ending : (next : Record) (claim : Option ℕ) → IsNamed world.claims system next claim → IsEnding next claim sent arrived
  ending (log.Done tid) None named = cc
  ending (log.Done tid) (Some number) named = record {
    number = number;
    given = refl;
    held = number-at Out tid number named.held named.found named.at named.ends.0 named.ends.1;
  }
  ending (log.Mark tid cause) None named = cc
  ending (log.Mark tid cause) (Some number) named = record {
    number = number;
    given = refl;
    held = number-at Out tid number named.held named.found named.at named.ends.0 named.ends.1;
  }
  ending (log.Execute tid) None named = cc
  ending (log.Execute tid) (Some number) named = record {
    number = number;
    given = refl;
    held = number-at In tid number named.held named.found named.at named.ends.0 named.ends.1;
  }
  ending (log.Fail tid) None named = cc
  ending (log.Fail tid) (Some number) named = record {
    number = number;
    given = refl;
    held = number-at In tid number named.held named.found named.at named.ends.0 named.ends.1;
  }
  ending _ claim named = tt

  -- the unit of an Accept was committed, and so its queues are few
  proper : (next : Record) → MayWrite rules world system next → IsProper next
  proper (log.Accept unit) write =
      let is : IsUnit unit = writable.each unit.sender (log_of world unit.sender) ((sound_now rules lawful world safe).legal unit.sender) unit
      (write.join.takes unit refl).was_committed in
      record { few = is.inq.0; different = is.inq.1 }
  proper _ write = tt

  named-ends : (next : Record) (claim : Option ℕ) → IsNamed world.claims system next claim → EndsNamed world.claims system next claim
  named-ends next None named = tt
  named-ends next (Some number) named = named

module _ {R : Type 0} (rules : Meaning) (lawful : IsLawful rules) (world : World R) (safe : Safe rules world) (writable : CommitWritable rules)
    (e : Event) (system : ℕ) (next : Record) (claim : Option ℕ) (does : Appends rules world system next claim e) where
  -- the record of an event joins, with all the units that its system commits by it
  pub event-joins : (more : List AleUnit)
      → rules.committed system (log_of world system ++ next ∷ []) ≡ rules.committed system (log_of world system) ++ more
      → JoinsAt rules world system next more claim
  event-joins more commits =
      let write : MayWrite rules world system next = MayWrite-record rules lawful world safe e (record { system = system; next = next }) does.writes in
      let named : IsNamed world.claims system next claim = subst (IsNamed world.claims system next) (sym does.ends)
      (named-event rules lawful world safe e (record { system = system; next = next }) does.writes) in
      record {
        commits = commits;
        joins = joins-legal rules lawful (few-written rules writable) system (log_of world system) ((sound_now rules lawful world safe).legal system)
            (claim_at Out system world.claims) (claim_at In system world.claims)
            (none-sent rules lawful world safe writable system) (none-arrived rules lawful world safe writable system)
            next more claim write.may (proper rules lawful world safe writable system next write) commits
            (ending rules lawful world safe writable system next claim named);
        ends = named-ends rules lawful world safe writable system next claim named;
      }
