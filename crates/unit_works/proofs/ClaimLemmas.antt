-- Claims that stand, and one that is made last.
use Rattle.std.specs.Prelude.{Contains, filter}
use Rattle.std.specs.List.{list_all}
use Rattle.std.proofs.Common.{◌≡◌, ◌==◌, ◌&&◌, ℕ, not, Bool, true, false, Option, Some, None, List, [], ◌∷◌, ◌++◌, inl, inr, refl, sym, ap, subst, ◌∙◌, arith}
use Rattle.std.proofs.lemmas.Bool.{and_parts, and_from, eqb-true, cond-true, cond-false, cases_Bool, eq-eqb, not-true}
use Rattle.ale_base.specs.Tid.{TidOf, is_tid}
use Rattle.ale_base.proofs.MemberLemmas.{Contains-here, Contains-there}
use Rattle.ale_base.proofs.OptionLemmas.{none_or_some}
use Rattle.unit_core.proofs.TidLemmas.{is_tid-true, is_tid-from}
use Rattle.trfc_protocol.specs.declared.held.Held.{Held}
use Rattle.trfc_protocol.specs.declared.held.HeldKind.TheVariants.{Direct, In, Out}
use Rattle.trfc_protocol.specs.declared.world.World.{World}
use Rattle.unit_core.specs.Filters.{received}
use Rattle.unit_core.specs.Queues.{unit_named}
use Rattle.trfc_protocol.specs.Legal.{IsLawful, is_free_inbound, is_free_outbound}
use Rattle.trfc_protocol.specs.Offered.{is_stopped_inbound, is_stopped_outbound, may_move}
use Rattle.trfc_protocol.specs.Meaning.{Meaning}
use Rattle.trfc_protocol.specs.Safe.{Safe, is_due}
use Rattle.trfc_protocol.specs.Worlds.{claim_of, committed_by, committed_unit, is_kind, is_up, log_of, without_claim}
use Rattle.trfc_protocol.proofs.ClaimLemmas.{claim_of-Some, is_kind-true}
use Rattle.trfc_protocol.proofs.SafeLemmas.{hold}
use Rattle.unit_landscape.specs.declared.claims.OutClaim.{OutClaim}
use Rattle.unit_landscape.specs.declared.claims.InClaim.{InClaim}
use Rattle.unit_landscape.specs.Appending.{HoldsOut, HoldsIn}
use Rattle.unit_landscape.specs.Calls.{is_on, is_out, stands_out, stands_in}
use Rattle.unit_works.specs.Claims.{AreOrGone, NoneRuns}
use Rattle.unit_works.specs.Trips.{may_execute, may_ship}

-- a claim to ship a unit that stands is there
pub held-out : {R : Type 0} (world : World R) (claim : OutClaim) → stands_out world claim ≡ true → (held : Held) × HoldsOut world claim held
held-out world claim stands = there (claim_of claim.number world.claims) refl stands
  where
    there : (found : Option Held) → claim_of claim.number world.claims ≡ found → (is_on claim.tid found && is_out found) ≡ true → (held : Held)
        × HoldsOut world claim held
    there None is on = cc
    there (Some held) is on =
        let parts = and_parts (is_tid held.tid claim.tid) (is_kind held.kind Out) on in
        (held, record { found = is; its = is_tid-true held.tid claim.tid parts.0; kind = is_kind-true held.kind Out parts.1 })

-- so is one to execute it
pub held-in : {R : Type 0} (world : World R) (claim : InClaim) → stands_in world claim ≡ true → (held : Held) × HoldsIn world claim held
held-in world claim stands = there (claim_of claim.number world.claims) refl stands
  where
    there : (found : Option Held) → claim_of claim.number world.claims ≡ found → (is_on claim.tid found && not (is_out found)) ≡ true → (held : Held)
        × HoldsIn world claim held
    there None is on = cc
    there (Some held) is on =
        let parts = and_parts (is_tid held.tid claim.tid) (not (is_kind held.kind Out)) on in
        (held, record { found = is; its = is_tid-true held.tid claim.tid parts.0; kind = not-true (is_kind held.kind Out) parts.1 })

-- the next number is that of no claim
pub next-fresh : {R : Type 0} (rules : Meaning) → IsLawful rules → (world : World R) → Safe rules world → claim_of world.next_number world.claims ≡ None
next-fresh rules lawful world safe = elim (none_or_some (claim_of world.next_number world.claims)) [
  | inl none ↦ none
  | inr is ↦
      let there = claim_of-Some world.next_number world.claims is.0 is.1 in
      let below = (hold rules lawful world safe is.0 there.0).number in
      let its = there.1 in
      absurd (omega arith)
]

-- the claim that is made last is found by its number, where no other has it
pub found-last : (number : ℕ) (claims : List Held) (held : Held) → held.number ≡ number → claim_of number claims ≡ None
    → claim_of number (claims ++ held ∷ []) ≡ Some held
found-last number [] held its none = cond-true (held.number == number) (Some held) None (eq-eqb held.number number its)
found-last number (h ∷ hs) held its none = elim (cases_Bool (h.number == number)) [
  | inl same ↦ let found = sym (cond-true (h.number == number) (Some h) (claim_of number hs) same) ∙ none in cc
  | inr differs ↦
      cond-false (h.number == number) (Some h) (claim_of number (hs ++ held ∷ [])) differs
      ∙ found-last number hs held its (sym (cond-false (h.number == number) (Some h) (claim_of number hs) differs) ∙ none)
]

-- and where it goes the others are left
pub without-last : (number : ℕ) (claims : List Held) (held : Held) → held.number ≡ number → claim_of number claims ≡ None
    → filter (λ (h : Held). not (h.number == number)) (claims ++ held ∷ []) ≡ claims
without-last number [] held its none = cond-false (not (held.number == number)) (held ∷ []) [] (ap not (eq-eqb held.number number its))
without-last number (h ∷ hs) held its none = elim (cases_Bool (h.number == number)) [
  | inl same ↦ let found = sym (cond-true (h.number == number) (Some h) (claim_of number hs) same) ∙ none in cc
  | inr differs ↦
      let keep : Held → Bool = λ (g : Held). not (g.number == number) in
      cond-true (keep h) (h ∷ filter keep (hs ++ held ∷ [])) (filter keep (hs ++ held ∷ [])) (ap not differs)
      ∙ ap (λ gs. h ∷ gs) (without-last number hs held its (sym (cond-false (h.number == number) (Some h) (claim_of number hs) differs) ∙ none))
]

-- a claim that is found stands
pub stands-found_out : {R : Type 0} (world : World R) (claim : OutClaim) (held : Held) → claim_of claim.number world.claims ≡ Some held
    → held.tid ≡ claim.tid → held.kind ≡ Out
    → stands_out world claim ≡ true
stands-found_out world claim held found its kind =
    ap (λ f. is_on claim.tid f && is_out f) found
    ∙ and_from (is_tid held.tid claim.tid) (is_kind held.kind Out) (is_tid-from held.tid claim.tid its) (ap (λ k. is_kind k Out) kind)

pub stands-found_in : {R : Type 0} (world : World R) (claim : InClaim) (held : Held) → claim_of claim.number world.claims ≡ Some held → held.tid ≡ claim.tid
    → is_kind held.kind Out ≡ false
    → stands_in world claim ≡ true
stands-found_in world claim held found its kind =
    ap (λ f. is_on claim.tid f && not (is_out f)) found
    ∙ and_from (is_tid held.tid claim.tid) (not (is_kind held.kind Out)) (is_tid-from held.tid claim.tid its) (ap not kind)

-- the last claim is there
pub Contains-last : (claims : List Held) (held : Held) → Contains (claims ++ held ∷ []) held
Contains-last [] held = Contains-here held []
Contains-last (h ∷ hs) held = Contains-there h (hs ++ held ∷ []) held (Contains-last hs held)

-- where there are no claims none stands
pub stands-gone : {R : Type 0} (world : World R) (claim : OutClaim) → world.claims ≡ [] → stands_out world claim ≡ false
stands-gone world claim gone = ap (λ claims. is_on claim.tid (claim_of claim.number claims) && is_out (claim_of claim.number claims)) gone

pub stands-gone_in : {R : Type 0} (world : World R) (claim : InClaim) → world.claims ≡ [] → stands_in world claim ≡ false
stands-gone_in world claim gone = ap (λ claims. is_on claim.tid (claim_of claim.number claims) && not (is_out (claim_of claim.number claims))) gone

-- ---- claims that are left

-- where the claim of a number goes, or all, no run is claimed that was not
pub runs-without : {R : Type 0} (before after : World R) (number : ℕ) → AreOrGone before after (without_claim before number).claims
    → NoneRuns before.claims → NoneRuns after.claims
runs-without before after number left none = elim left [
  | inl are ↦ ap (list_all not_run) are ∙ left_of before.claims none
  | inr gone ↦ ap (list_all not_run) gone.0
]
  where
    not_run : Held → Bool
    not_run held = not (is_kind held.kind Direct)

    left_of : (claims : List Held) → list_all not_run claims ≡ true → list_all not_run (filter (λ (h : Held). not (h.number == number)) claims) ≡ true
    left_of [] all = refl
    left_of (h ∷ hs) all =
        let parts = and_parts (not_run h) (list_all not_run hs) all in
        elim (cases_Bool (not (h.number == number))) [
          | inl kept ↦
              rw kept (and_from (not_run h) (list_all not_run (filter (λ (g : Held). not (g.number == number)) hs)) parts.0 (left_of hs parts.1))
          | inr gone ↦ rw gone (left_of hs parts.1)
        ]

-- where the last claim goes, or all, the others are left
pub left-last : {R : Type 0} (before after : World R) (others : List Held) (held : Held) (number : ℕ) → held.number ≡ number → claim_of number others ≡ None
    → before.claims ≡ others ++ held ∷ [] → AreOrGone before after (without_claim before number).claims → AreOrGone before after others
left-last before after others held number its fresh are left =
    subst (AreOrGone before after) (ap (filter (λ (h : Held). not (h.number == number))) are ∙ without-last number others held its fresh) left

-- ---- the unit of a claim that stands may go, unless one of its queues is stopped

pub claimed-ships : {R : Type 0} (rules : Meaning) → IsLawful rules → (world : World R) → Safe rules world → (claim : OutClaim)
    → stands_out world claim ≡ true
    → may_move (is_stopped_outbound (log_of world claim.tid.system)) (committed_unit rules world claim.tid) ≡ true
    → may_ship rules world claim.tid ≡ true
claimed-ships rules lawful world safe claim stands moves =
    let there = held-out world claim stands in
    let held = there.0 in
    let holds = there.1 in
    let its = hold rules lawful world safe held (claim_of-Some claim.number world.claims held holds.found).0 in
    let due : is_due rules world held Out ≡ true = ap (is_due rules world held) (sym holds.kind) ∙ its.due in
    let parts = and_parts (held.system == held.tid.system) (is_free_outbound (committed_by rules world held.system) (log_of world held.system) held.tid) due in
    let here : claim.tid.system ≡ held.system = ap (λ (t : TidOf). t.system) (sym holds.its) ∙ sym (eqb-true held.system held.tid.system parts.0) in
    and_from (is_up world claim.tid.system && is_free_outbound (committed_by rules world claim.tid.system) (log_of world claim.tid.system) claim.tid)
    (may_move (is_stopped_outbound (log_of world claim.tid.system)) (committed_unit rules world claim.tid))
    (and_from (is_up world claim.tid.system)
    (is_free_outbound (committed_by rules world claim.tid.system) (log_of world claim.tid.system) claim.tid)
    (ap (is_up world) here ∙ its.up)
    (ap (λ s. is_free_outbound (committed_by rules world s) (log_of world s) claim.tid) here
    ∙ ap (is_free_outbound (committed_by rules world held.system) (log_of world held.system)) (sym holds.its) ∙ parts.1))
    moves

pub claimed-executes : {R : Type 0} (rules : Meaning) → IsLawful rules → (world : World R) → Safe rules world → (claim : InClaim) (held : Held)
    → HoldsIn world claim held → held.kind ≡ In
    → may_move (is_stopped_inbound (log_of world held.system)) (unit_named held.tid (received (log_of world held.system))) ≡ true
    → may_execute world held.system held.tid ≡ true
claimed-executes rules lawful world safe claim held holds kind moves =
    let its = hold rules lawful world safe held (claim_of-Some claim.number world.claims held holds.found).0 in
    let due : is_due rules world held In ≡ true = ap (is_due rules world held) (sym kind) ∙ its.due in
    and_from (is_up world held.system && is_free_inbound (log_of world held.system) held.tid)
    (may_move (is_stopped_inbound (log_of world held.system)) (unit_named held.tid (received (log_of world held.system))))
    (and_from (is_up world held.system) (is_free_inbound (log_of world held.system) held.tid) its.up due)
    moves
