-- A world that begins with sound logs is safe, and logs that are a Genesis alone are sound.
use Rattle.std.specs.Prelude.{Contains, All, slice_get, slice_index_or, map}
use Rattle.std.specs.List.{range_with_len}
use Rattle.std.proofs.Common.{◌≡◌, ◌≢◌, ℕ, zero, suc, ◌+◌, ◌<◌, ◌≤◌, None, List, [], ◌∷◌, length, take, inl, inr, ◌⊎◌, refl, sym, ap, subst, ◌∙◌, arith}
use Rattle.std.proofs.lemmas.Bool.{eq-eqb}
use Rattle.std.proofs.lemmas.List.{length-map}
use Rattle.std.proofs.lemmas.List.Elements.{All-nil}
use Rattle.std.proofs.lemmas.List.FromFn.{length-map-range_with_len}
use Rattle.unit_core.specs.declared.ale_unit.AleUnit.{AleUnit}
use Rattle.unit_core.specs.declared.records.Record.{Record}
use Rattle.unit_core.specs.declared.queue.Queue.TheVariants.{Outbound}
use Rattle.unit_core.specs.Filters.{received, executed, done_in, ended_in, forgotten_in}
use Rattle.unit_core.specs.Queues.{in_queue, tids_of}
use Rattle.unit_core.specs.Once.{TakenOnce, TakenWasCommitted, TakenInOrder, ExecutedInOrder, Once}
use Rattle.unit_core.proofs.OnceLemmas.{WasTaken, WasForgotten}
use Rattle.trfc_protocol.specs.declared.world.World.{World}
use Rattle.trfc_protocol.specs.Meaning.{Meaning}
use Rattle.trfc_protocol.specs.Legal.{IsLegal}
use Rattle.trfc_protocol.specs.Worlds.{state_of, log_or_none, rest_or_none, log_under}
use Rattle.trfc_protocol.specs.Safe.{Holds, Sound, Safe, IsSafe}
use Rattle.trfc_protocol.specs.Start.{first_state, first_world, genesis_log, genesis_logs}
use Rattle.unit_core.specs.Systems.{of_system}
use Rattle.trfc_protocol.proofs.WorldLemmas.{log_found-settled}
use Rattle.trfc_protocol.proofs.SoundLemmas.{Sound-same}

-- a system that begins with a log has that log, and nothing to find
begins : (logs : List (List Record)) (system : ℕ)
    → (log_or_none (state_of (map first_state logs) system) ≡ of_system logs system) × (rest_or_none (state_of (map first_state logs) system) ≡ None)
begins logs zero = (refl, refl)
begins logs (suc k) = at logs k
  where
    at : (logs : List (List Record)) (k : ℕ)
        → (log_or_none (slice_get (map first_state logs) k) ≡ slice_index_or logs k []) × (rest_or_none (slice_get (map first_state logs) k) ≡ None)
    at [] k = (refl, refl)
    at (log ∷ logs) zero = (refl, refl)
    at (log ∷ logs) (suc k) = at logs k

-- a world that begins with sound logs is safe
pub Safe-of_logs : {R : Type 0} (meaning : R → Meaning) (rules : R) (logs : List (List Record)) (world : World R) → world ≡ first_world rules logs
    → length logs ≡ (meaning rules).systems → Sound (meaning rules) (of_system logs) → IsSafe meaning world
Safe-of_logs {R} meaning rules logs world same all sound =
    let first : World R = first_world rules logs in
    subst (λ (w : World R). Safe (meaning w.rules) w) (sym same)
    (record {
      systems = length-map logs first_state ∙ all;
      sound = λ choice. Sound-same (meaning rules) (of_system logs) (log_under choice first)
          (λ s. log_found-settled (choice s) (state_of (map first_state logs) s) (begins logs s).1 ∙ (begins logs s).0) sound;
      settled = λ s up. (begins logs s).1;
      hold = All-nil (Holds (meaning rules) first);
      apart = tt;
    })

module _ (text : List ℕ) where
  -- the k-th log from that of system a on
  genesis_at : (a n k : ℕ) → (slice_index_or (map (genesis_log text) (range_with_len a n)) k [] ≡ [])
      ⊎ (slice_index_or (map (genesis_log text) (range_with_len a n)) k [] ≡ genesis_log text (a + k))
  genesis_at a zero k = inl refl
  genesis_at a (suc n) zero = let same : a ≡ a + 0 = omega arith in inr (ap (genesis_log text) same)
  genesis_at a (suc n) (suc k) =
      let moved : a + 1 + k ≡ a + suc k = omega arith in
      elim (genesis_at (a + 1) n k) [
        | inl none ↦ inl none
        | inr some ↦ inr (some ∙ ap (genesis_log text) moved)
      ]

  genesis_within : (a n k : ℕ) → k < n → slice_index_or (map (genesis_log text) (range_with_len a n)) k [] ≡ genesis_log text (a + k)
  genesis_within a zero k small = absurd (omega arith)
  genesis_within a (suc n) zero small = let same : a ≡ a + 0 = omega arith in ap (genesis_log text) same
  genesis_within a (suc n) (suc k) small =
      let moved : a + 1 + k ≡ a + suc k = omega arith in genesis_within (a + 1) n k (omega arith) ∙ ap (genesis_log text) moved

  -- a log is empty or the Genesis of its system
  genesis_or_none : (n system : ℕ) → (of_system (genesis_logs text n) system ≡ []) ⊎ (of_system (genesis_logs text n) system ≡ genesis_log text system)
  genesis_or_none n zero = inl refl
  genesis_or_none n (suc k) =
      let moved : 1 + k ≡ suc k = omega arith in
      elim (genesis_at 1 n k) [
        | inl none ↦ inl none
        | inr some ↦ inr (some ∙ ap (genesis_log text) moved)
      ]

  -- that of a system of the landscape is its Genesis
  genesis_known : (n system : ℕ) → 1 ≤ system → system ≤ n → of_system (genesis_logs text n) system ≡ genesis_log text system
  genesis_known n zero least most = absurd (omega arith)
  genesis_known n (suc k) least most =
      let moved : 1 + k ≡ suc k = omega arith in genesis_within 1 n k (omega arith) ∙ ap (genesis_log text) moved

  none_taken : (n system : ℕ) → All (λ tid. Contains (tids_of (received (take n (genesis_log text system)))) tid) (executed (take n (genesis_log text system)))
  none_taken zero system = All-nil _
  none_taken (suc zero) system = All-nil _
  none_taken (suc (suc n)) system = All-nil _

  nothing_taken : (n : ℕ) → All (λ tid. Contains (tids_of (received (take n []))) tid) (executed (take n []))
  nothing_taken zero = All-nil _
  nothing_taken (suc n) = All-nil _

  module _ (rules : Meaning) where
    abbrev logs : ℕ → List Record
    logs = of_system (genesis_logs text rules.systems)

    -- what holds of no records and of a Genesis alone holds of each log
    each_log : (P : ℕ → List Record → Type 0) → ((s : ℕ) → P s []) → ((s : ℕ) → P s (genesis_log text s)) → (s : ℕ) → P s (logs s)
    each_log P none one s =
        elim (genesis_or_none rules.systems s) [
          | inl empty ↦ subst (P s) (sym empty) (none s)
          | inr is ↦ subst (P s) (sym is) (one s)
        ]

    abbrev units : ℕ → List AleUnit
    units s = rules.committed s (logs s)

    once : Once units logs
    once = record {
      taken_once = each_log (λ _ log. TakenOnce log) (λ _. tt) (λ _. tt);
      taken_was_committed = each_log (TakenWasCommitted units) (λ _. All-nil _) (λ _. All-nil _);
      taken_in_order = each_log (TakenInOrder units)
          (λ s sender name. (in_queue (Outbound sender s name) (units sender), refl))
          (λ s sender name. (in_queue (Outbound sender s name) (units sender), refl));
      executed_in_order = each_log (λ _ log. ExecutedInOrder log)
          (λ _. record { was_received = nothing_taken; once = tt; in_order = λ name. ([], refl) })
          (λ s. record { was_received = λ n. none_taken n s; once = tt; in_order = λ name. ([], refl) });
      done_was_taken = each_log (λ s log. All (WasTaken units logs s) (done_in log)) (λ _. All-nil _) (λ _. All-nil _);
      forgotten_was_done = each_log (λ _ log. All (λ tid. Contains (done_in (logs tid.system)) tid) (forgotten_in log)) (λ _. All-nil _) (λ _. All-nil _);
      ended_was_forgotten = each_log (λ s log. All (WasForgotten units logs s) (ended_in log)) (λ _. All-nil _) (λ _. All-nil _);
    }

    -- logs that are a Genesis alone are sound
    pub Sound-genesis : Sound rules logs
    Sound-genesis = record {
      legal = each_log (IsLegal rules) (λ _. tt) (λ s. (eq-eqb s s refl, tt));
      begun = λ s least most empty. begun_log s (logs s) (genesis_known rules.systems s least most) empty;
      once = once;
    }
      where
        begun_log : (s : ℕ) (log : List Record) → log ≡ genesis_log text s → log ≢ []
        begun_log s [] same empty = cc
        begun_log s (x ∷ xs) same empty = cc

-- and there is one for each system
pub length-genesis_logs : (text : List ℕ) (n : ℕ) → length (genesis_logs text n) ≡ n
length-genesis_logs text n = length-map-range_with_len (genesis_log text) 1 n
