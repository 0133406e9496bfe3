-- A unit is claimed, to be shipped or to be executed.
use Rattle.std.specs.Prelude.{Result, Ok, Err, IfOk, IfSome, OnErr}
use Rattle.std.specs.Result.{is_ok}
use Rattle.std.proofs.Common.{◌≡◌, ◌&&◌, ◌||◌, ℕ, not, cond, List, Option, Some, None, [], ◌∷◌, ◌++◌, refl, sym, ap, subst, ◌∙◌, true, false}
use Rattle.std.proofs.lemmas.Bool.{and_from, and_parts}
use Rattle.ale_volumes.specs.Disk.{Disk}
use Rattle.ale_base.specs.Tid.{TidOf, is_tid}
use Rattle.unit_core.specs.declared.ale_unit.AleUnit.{AleUnit}
use Rattle.unit_core.specs.Filters.{received}
use Rattle.unit_core.specs.Queues.{is_among, unit_named}
use Rattle.ale_base.specs.declared.out_of_memory.OutOfMemory.{OutOfMemory}
use Rattle.trfc_protocol.specs.declared.event.Event.TheVariants as event
use Rattle.trfc_protocol.specs.declared.answer.Answer.TheVariants as answer
use Rattle.trfc_protocol.specs.declared.held.Held.{Held}
use Rattle.trfc_protocol.specs.declared.held.HeldKind.TheVariants.{Out, In, Direct}
use Rattle.trfc_protocol.specs.declared.world.World.{World}
use Rattle.trfc_protocol.specs.Legal.{IsLawful, is_empty, is_free_inbound, is_free_outbound}
use Rattle.trfc_protocol.specs.Meaning.{Meaning}
use Rattle.trfc_protocol.specs.Offered.{answer_to, is_stopped_inbound, is_stopped_outbound, may_move, offers_received_now}
use Rattle.trfc_protocol.specs.Worlds.{claim_of, committed_by, committed_unit, is_claimed, is_kind, is_up, log_of, offers_now, rest_of, with_claim}
use Rattle.unit_landscape.specs.KeptWorlds.{KeptOf}
use Rattle.unit_landscape.specs.declared.claims.OutClaim.{OutClaim}
use Rattle.unit_landscape.specs.declared.claims.InClaim.{InClaim}
use Rattle.unit_landscape.specs.Calls.{ClaimedIn, ClaimedOut}
use Rattle.unit_landscape.specs.Crashes.{LeavesSound}
use Rattle.unit_landscape.specs.Kept.{IsLandscape}
use Rattle.unit_landscape.proofs.OfferedLemmas.{claim-after, run-after}
use Rattle.unit_works.specs.Events.{is_claim, is_run}
use Rattle.unit_works.specs.Finished.{finished_in}
use Rattle.unit_works.specs.Went.{WentOn}
use Rattle.unit_works.specs.Claiming.{out_held}
use Rattle.unit_works.specs.Claiming.{IsShipped, IsExecuted}
use Rattle.unit_works.proofs.ClaimLemmas.{next-fresh, found-last, stands-found_out}
use Rattle.unit_works.proofs.LogLemmas.{grown-same}
use Rattle.unit_works.proofs.WentLemmas.{went-same, went-happened}

-- a claim to ship a unit begins no run
no-run : (tid other : TidOf) (number system : ℕ) (claims : List Held)
    → is_claimed Direct tid (claims ++ record { number = number; tid = other; system = system; kind = Out } ∷ []) ≡ is_claimed Direct tid claims
no-run tid other number system [] = refl
no-run tid other number system (h ∷ hs) = ap (λ b. is_kind h.kind Direct && is_tid h.tid tid || b) (no-run tid other number system hs)

-- so a receiver answers as before
answer-claimed : {R : Type 0} (rules : Meaning) (world : World R) (tid : TidOf) (system : ℕ) (unit : AleUnit)
    → answer_to rules (with_claim world tid system Out) unit ≡ answer_to rules world unit
answer-claimed rules world tid system unit =
    ap (λ b. cond (not (is_up world unit.receiver)) answer.Down (cond (is_among unit.tid (received (log_of world unit.receiver))) answer.Known
    (cond b answer.Busy (cond (is_empty unit.inq) (cond (offers_now rules world unit.receiver unit.function) answer.Run answer.SysFail) answer.New))))
    (no-run unit.tid tid world.next_number system world.claims)

module _ {R A V : Type 0} (meaning : R → Meaning) (lawful : (r : R) → IsLawful (meaning r)) (disk : Disk V) (before after : KeptOf R A V)
    (is : IsLandscape meaning before.world) (system : ℕ) where
  -- ---- the first unit that is offered outbound is claimed

  abbrev GaveOut : Result (Option OutClaim) OutOfMemory → Type 0
  GaveOut result = IfOk result (ClaimedOut (meaning before.world.rules) disk before after system)

  pub went-claimed_out : (disk.told → LeavesSound meaning disk before after) → (result : Result (Option OutClaim) OutOfMemory) → GaveOut result →
      OnErr result (after ≡ before)
      → WentOn meaning disk is_claim (is_ok result) before after
  went-claimed_out leaves (Ok None) did same = went-same meaning disk is_claim true before after did.0
  went-claimed_out leaves (Ok (Some claim)) did same = went-happened meaning lawful disk is_claim before after is leaves true
      (event.Claim claim.tid) refl refl did.0
  went-claimed_out leaves (Err why) did same = went-same meaning disk is_claim false before after same

  module _ (claim : OutClaim) (did : ClaimedOut (meaning before.world.rules) disk before after system (Some claim)) where
    world-claimed_out : after.world ≡ with_claim before.world claim.tid claim.tid.system Out
    world-claimed_out =
        let was = did.0 in was.world ∙ claim-after (meaning before.world.rules) (lawful before.world.rules) before.world is.safe claim.tid did.1

    pub finished-claimed_out : finished_in after.world ≡ finished_in before.world
    finished-claimed_out = ap finished_in world-claimed_out

    pub is-shipped : IsShipped (meaning before.world.rules) before.world after.world system claim
    is-shipped =
        let made = did.5 in
        let fresh : claim_of claim.number before.world.claims ≡ None =
        subst (λ n. claim_of n before.world.claims ≡ None) (sym made.next)
        (next-fresh (meaning before.world.rules) (lawful before.world.rules) before.world is.safe) in
        let claims : after.world.claims ≡ before.world.claims ++ out_held claim ∷ [] =
        ap (λ (w : World R). w.claims) world-claimed_out
        ∙ ap (λ (n : ℕ). before.world.claims ++ record { number = n; tid = claim.tid; system = claim.tid.system; kind = Out } ∷ []) (sym made.next) in
        record {
          offered = did.1;
          first = did.2;
          here = did.3;
          made = made;
          stands = stands-found_out after.world claim (out_held claim)
              (ap (claim_of claim.number) claims ∙ found-last claim.number before.world.claims (out_held claim) refl fresh) refl refl;
          claims = claims;
          fresh = fresh;
          unit = did.4.0;
          committed = did.4.1;
          receiver = did.4.2;
          may =
              let up = is_up before.world claim.tid.system && is_free_outbound (committed_by (meaning before.world.rules) before.world claim.tid.system)
              (log_of before.world claim.tid.system) claim.tid in
              let free = not (is_claimed Out claim.tid before.world.claims) in
              let moves = may_move (is_stopped_outbound (log_of before.world claim.tid.system))
              (committed_unit (meaning before.world.rules) before.world claim.tid) in
              let parts = and_parts (up && free) moves did.1 in
              and_from up moves (and_parts up free parts.0).0 parts.1;
          answers = ap (λ (w : World R). answer_to (meaning before.world.rules) w (did.4.0)) world-claimed_out
              ∙ answer-claimed (meaning before.world.rules) before.world claim.tid claim.tid.system (did.4.0);
          grew = record {
            grew = grown-same before.world after.world (λ s. ap (λ (w : World R). log_of w s) world-claimed_out);
            stand = λ s. (ap (λ (w : World R). is_up w s) world-claimed_out, ap (λ (w : World R). rest_of w s) world-claimed_out);
          };
        }

  pub finished-out : (result : Result (Option OutClaim) OutOfMemory) → GaveOut result → OnErr result (after ≡ before)
      → finished_in after.world ≡ finished_in before.world
  finished-out (Ok None) did same = ap (λ (k : KeptOf R A V). finished_in k.world) did.0
  finished-out (Ok (Some claim)) did same = finished-claimed_out claim did
  finished-out (Err why) did same = ap (λ (k : KeptOf R A V). finished_in k.world) same

  pub shipped-out : (result : Result (Option OutClaim) OutOfMemory) → GaveOut result
      → IfOk result (λ found. IfSome found (IsShipped (meaning before.world.rules) before.world after.world system))
  shipped-out (Ok None) did = tt
  shipped-out (Ok (Some claim)) did = is-shipped claim did
  shipped-out (Err why) did = tt

  -- ---- the first unit that is offered inbound is claimed

  abbrev GaveIn : Result (Option InClaim) OutOfMemory → Type 0
  GaveIn result = IfOk result (ClaimedIn (meaning before.world.rules) disk before after system)

  pub went-claimed_in : (disk.told → LeavesSound meaning disk before after) → (result : Result (Option InClaim) OutOfMemory) → GaveIn result →
      OnErr result (after ≡ before)
      → WentOn meaning disk is_run (is_ok result) before after
  went-claimed_in leaves (Ok None) did same = went-same meaning disk is_run true before after did.0
  went-claimed_in leaves (Ok (Some claim)) did same = went-happened meaning lawful disk is_run before after is leaves true (event.Run claim.tid) refl refl did.0
  went-claimed_in leaves (Err why) did same = went-same meaning disk is_run false before after same

  module _ (claim : InClaim) (did : ClaimedIn (meaning before.world.rules) disk before after system (Some claim)) where
    world-claimed_in : after.world ≡ with_claim before.world claim.tid system In
    world-claimed_in =
        let was = did.0 in was.world ∙ run-after (meaning before.world.rules) (lawful before.world.rules) before.world is.safe system claim.tid did.1

    pub finished-claimed_in : finished_in after.world ≡ finished_in before.world
    finished-claimed_in = ap finished_in world-claimed_in

    pub is-executed : IsExecuted (meaning before.world.rules) before.world after.world system claim
    is-executed =
        let made = did.4 in
        record {
          offered = did.1;
          first = did.2;
          made = made;
          claims = ap (λ (w : World R). w.claims) world-claimed_in
              ∙ ap (λ (n : ℕ). before.world.claims ++ record { number = n; tid = claim.tid; system = system; kind = In } ∷ []) (sym made.next)
              ∙ ap (λ (s : ℕ). before.world.claims ++ record { number = claim.number; tid = claim.tid; system = s; kind = In } ∷ []) (sym did.3);
          fresh = subst (λ n. claim_of n before.world.claims ≡ None) (sym made.next)
              (next-fresh (meaning before.world.rules) (lawful before.world.rules) before.world is.safe);
          here = did.3;
          may =
              let up = is_up before.world system && is_free_inbound (log_of before.world system) claim.tid in
              let free = not (is_claimed In claim.tid before.world.claims) in
              let moves = may_move (is_stopped_inbound (log_of before.world system)) (unit_named claim.tid (received (log_of before.world system))) in
              let parts = and_parts (up && free) moves did.1 in
              and_from up moves (and_parts up free parts.0).0 parts.1;
          offers = ap (λ (w : World R). offers_received_now (meaning before.world.rules) w system claim.tid) world-claimed_in;
          grew = record {
            grew = grown-same before.world after.world (λ s. ap (λ (w : World R). log_of w s) world-claimed_in);
            stand = λ s. (ap (λ (w : World R). is_up w s) world-claimed_in, ap (λ (w : World R). rest_of w s) world-claimed_in);
          };
        }

  pub finished-in : (result : Result (Option InClaim) OutOfMemory) → GaveIn result → OnErr result (after ≡ before)
      → finished_in after.world ≡ finished_in before.world
  finished-in (Ok None) did same = ap (λ (k : KeptOf R A V). finished_in k.world) did.0
  finished-in (Ok (Some claim)) did same = finished-claimed_in claim did
  finished-in (Err why) did same = ap (λ (k : KeptOf R A V). finished_in k.world) same

  pub executed-in : (result : Result (Option InClaim) OutOfMemory) → GaveIn result
      → IfOk result (λ found. IfSome found (IsExecuted (meaning before.world.rules) before.world after.world system))
  executed-in (Ok None) did = tt
  executed-in (Ok (Some claim)) did = is-executed claim did
  executed-in (Err why) did = tt
