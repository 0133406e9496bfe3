-- A safe world stays safe where a record joins a log, a claim goes, or one more is made.
use Rattle.std.specs.Prelude.{Contains}
use Rattle.std.proofs.Common.{◌≡◌, ◌≢◌, ℕ, ◌<◌, ◌==◌, Bool, true, false, not, cond, Option, Some, None, [], refl, sym, ap, subst, ◌∙◌, arith}
use Rattle.std.proofs.lemmas.List.Elements.{All-push}
use Rattle.std.proofs.lemmas.Option.{same_Some, none-some}
use Rattle.ale_base.specs.Tid.{TidOf}
use Rattle.ale_base.specs.declared.mark.Mark.{Mark as Cause}
use Rattle.ale_base.specs.declared.mark.Mark.TheVariants.{Sysfail}
use Rattle.ale_base.specs.declared.way.Way.{Way}
use Rattle.ale_base.specs.declared.way.Way.TheVariants.{Outgoing, Incoming}
use Rattle.unit_core.specs.declared.records.Record.{Record}
use Rattle.unit_core.specs.declared.records.Record.TheVariants as log
use Rattle.unit_core.specs.Filters.{taken_by, executed_by, done_by, mark_after}
use Rattle.ale_base.proofs.MemberLemmas.{Contains-nil, Contains-filter_back}
use Rattle.unit_core.proofs.TidLemmas.{is_tid-other}
use Rattle.trfc_protocol.specs.declared.world.World.{World}
use Rattle.trfc_protocol.specs.declared.held.Held.{Held}
use Rattle.trfc_protocol.specs.declared.held.HeldKind.{HeldKind}
use Rattle.trfc_protocol.specs.declared.held.HeldKind.TheVariants.{Out, In}
use Rattle.trfc_protocol.specs.Meaning.{Meaning}
use Rattle.trfc_protocol.specs.Legal.{is_model, IsLawful}
use Rattle.trfc_protocol.specs.Worlds.{is_up, state_with, with_record, with_claim, without_claim, is_claimed, claim_of}
use Rattle.trfc_protocol.specs.RecordOf.{Writing, record_if}
use Rattle.trfc_protocol.specs.Happens.{ends_with}
use Rattle.trfc_protocol.specs.Safe.{is_due, Holds, Safe}
use Rattle.trfc_protocol.proofs.WorldLemmas.{is_up-known, kept-with_state}
use Rattle.trfc_protocol.proofs.ClaimLemmas.{All-from_Contains, without, AreApart-without, alone, AreApart-push}
use Rattle.trfc_protocol.proofs.SafeLemmas.{Spares, MayWrite, hold, Safe-written}

-- the world is safe, by the same rules as before
abbrev pub IsNext : {R : Type 0} → Meaning → World R → World R → Type 0
IsNext rules world after = Safe rules after × (after.rules ≡ world.rules)

-- a record that takes, executes and finishes nothing, is no Model, and marks no unit of these claims, is none of theirs
pub spares_all : (system : ℕ) (next : Record) (held : Held) → taken_by next ≡ None → executed_by next ≡ None → done_by next ≡ None → is_model next ≡ false
    → (held.kind ≡ Out → mark_after Outgoing held.tid None next ≡ None) → (held.kind ≡ In → mark_after Incoming held.tid None next ≡ None)
    → Spares system next held
spares_all system next held takes executes finishes plain out incoming = record {
  out = λ is here. (λ t same. absurd (none-some t (sym finishes ∙ same)), out is);
  in_ = λ is here. (λ t same. absurd (none-some t (sym executes ∙ same)), incoming is);
  direct = λ is. (
    λ t same. absurd (none-some t (sym finishes ∙ same)),
    λ unit same here. absurd (none-some unit (sym takes ∙ same)),
    λ here. plain,
  );
}

-- a record that is found under a condition: the condition holds, and the record is that one
pub record_if-each : (P : Writing → Type 0) (met : Bool) (system : ℕ) (next : Record) → (met ≡ true → P (record { system = system; next = next }))
    → (it : Writing) → record_if met system next ≡ Some it → P it
record_if-each P true system next holds it found = subst P (same_Some (record { system = system; next = next }) it found) (holds refl)
record_if-each P false system next holds it found = cc

-- a mark or a failure of another unit marks none
pub not_marked : (way : Way) (tid t : TidOf) (cause : Cause) → t ≢ tid
    → (mark_after Outgoing tid None (log.Mark t cause) ≡ None) × (mark_after Incoming tid None (log.Fail t) ≡ None)
not_marked way tid t cause differs =
    let other = is_tid-other t tid differs in
    (ap (λ b. cond b (Some cause) None) other, ap (λ b. cond {A = Option Cause} b (Some Sysfail) None) other)

module _ {R : Type 0} (rules : Meaning) (lawful : IsLawful rules) (world : World R) (safe : Safe rules world) where
  abbrev Next : World R → Type 0
  Next after = IsNext rules world after

  -- the world as it is
  pub stays : Next world
  stays = (safe, refl)

  -- a system writes a record, and its claims stay
  pub Next-written : (system : ℕ) (next : Record) → MayWrite rules world system next
      → ((held : Held) → Contains world.claims held → Spares system next held) → Next (with_record world system next)
  Next-written system next write spared =
      let known = is_up-known world system write.up in (
        Safe-written rules lawful world safe world.claims system next write (hold rules lawful world safe) safe.apart spared,
        (kept-with_state world system (state_with next) known.0 known.1).2,
      )

  -- so do the claims that are left where one goes
  pub others_hold : (number : ℕ) (held : Held) → Contains (without number world.claims) held → Holds rules world held
  others_hold number held has = hold rules lawful world safe held (Contains-filter_back (λ h. not (h.number == number)) world.claims held has).0

  -- the same, where the work of a claim ends
  pub Next-closed : (held : Held) (system : ℕ) (next : Record) → MayWrite rules world system next
      → ((other : Held) → Contains (without held.number world.claims) other → Spares system next other)
      → Next (with_record (without_claim world held.number) system next)
  Next-closed held system next write spared =
      let known = is_up-known world system write.up in (
        Safe-written rules lawful world safe (without held.number world.claims) system next write (others_hold held.number)
            (AreApart-without held.number world.claims safe.apart) spared,
        (kept-with_state (without_claim world held.number) system (state_with next) known.0 known.1).2,
      )

  -- what the work of a claim writes
  pub Next-ends_with : (held : Held) (found : Option Writing) → ((it : Writing) → found ≡ Some it → MayWrite rules world it.system it.next)
      → ((it : Writing) → found ≡ Some it → (other : Held) → Contains (without held.number world.claims) other → Spares it.system it.next other)
      → Next (ends_with world held found)
  Next-ends_with held None write spared = stays
  Next-ends_with held (Some it) write spared = Next-closed held it.system it.next (write it refl) (spared it refl)

  -- a claim goes
  pub Next-without_claim : (number : ℕ) → Next (without_claim world number)
  Next-without_claim number = (
    record {
      systems = safe.systems;
      sound = safe.sound;
      settled = safe.settled;
      hold = All-from_Contains (Holds rules (without_claim world number)) (without number world.claims) (λ held has.
          let before = others_hold number held has in record { up = before.up; due = before.due; number = before.number });
      apart = AreApart-without number world.claims safe.apart;
    },
    refl,
  )

  -- all claims go
  pub Next-revoked : Next (record world { claims = [] })
  Next-revoked = (
    record {
      systems = safe.systems;
      sound = safe.sound;
      settled = safe.settled;
      hold = All-from_Contains (Holds rules (record world { claims = [] })) [] (λ held has. absurd (Contains-nil held has));
      apart = tt;
    },
    refl,
  )

  -- a claim is made
  pub Next-with_claim : (tid : TidOf) (system : ℕ) (kind : HeldKind) → is_up world system ≡ true
      → is_due rules world (record { number = world.next_number; tid = tid; system = system; kind = kind }) kind ≡ true
      → is_claimed kind tid world.claims ≡ false → Next (with_claim world tid system kind)
  Next-with_claim tid system kind up due free =
      let new : Held = record { number = world.next_number; tid = tid; system = system; kind = kind } in (
        record {
          systems = safe.systems;
          sound = safe.sound;
          settled = safe.settled;
          hold = All-push (Holds rules (with_claim world tid system kind)) world.claims new
              (All-from_Contains (Holds rules (with_claim world tid system kind)) world.claims (λ held has.
              let before = hold rules lawful world safe held has in let below : held.number < world.next_number = before.number in
              record { up = before.up; due = before.due; number = omega arith }))
              (record { up = up; due = due; number = omega arith });
          apart = AreApart-push world.claims new safe.apart (λ held has. (hold rules lawful world safe held has).number) free;
        },
        refl,
      )

  -- a claim of the same kind that is left is of another unit than the one that goes
  pub other_than : (held other : Held) → claim_of held.number world.claims ≡ Some held → Contains (without held.number world.claims) other
      → other.kind ≡ held.kind → held.tid ≢ other.tid
  other_than held other found has same_kind same = alone held.number world.claims held other safe.apart found has same_kind (sym same)
