-- What is kept beside the record stays so through a write and a sync.
use Rattle.std.specs.Prelude.{slice_index_or}
use Rattle.std.proofs.Common.{◌≡◌, ◌≢◌, inl, inr, ℕ, ◌+◌, ◌<◌, ◌≤◌, Bool, true, false, cond, eqb, List, [], ◌∷◌, ◌++◌, length, set, get_or, refl, sym, ◌∙◌, ap}
use Rattle.std.proofs.Common.{subst, arith, rules}
use Rattle.std.proofs.lemmas.Bool.{cases_eq}
use Rattle.std.proofs.lemmas.List.{get_or-set_same, get_or-set_other, length-set, length_push}
use Rattle.std.proofs.lemmas.Bool.Decides.{nat_tests}
use Rattle.std.proofs.lemmas.List.Sums.{count_by-le-length, sum_by-set}
use Rattle.ale_volumes.specs.declared.volume.Volume.{Volume}
use Rattle.ale_volumes.specs.declared.volume.UnsyncedWrite.{UnsyncedWrite}
use Rattle.ale_volumes.specs.declared.step.Step.{Step}
use Rattle.ale_volumes.specs.declared.step.Step.TheVariants.{Write, Sync}
use Rattle.ale_volumes.specs.Volume.{settled}
use Rattle.ale_volumes.specs.Memory.{after_step, after_steps, contents_after, written_or_half, place_in, IsKept}
use Rattle.ale_volumes.specs.MemoryLemmas.{after_steps-push, after_step-other, after_step-sync, chosen_then, volume_of}

contents-after_step : (n : ℕ) (volume : Volume) (at : ℕ) (bytes : List ℕ) (failed : Bool) → (after_step n volume (Write n at bytes failed)).contents
    ≡ contents_after volume.contents at bytes failed
contents-after_step n volume at bytes failed =
    ap (λ (v : Volume). v.contents) (chosen_then _ (written_or_half volume (place_in volume.contents at) bytes failed) volume (search (rules, nat_tests)))
    ∙ by_failure failed
  where
    by_failure : (f : Bool) → (written_or_half volume (place_in volume.contents at) bytes f).contents ≡ contents_after volume.contents at bytes f
    by_failure true = refl
    by_failure false = refl

-- after a write there is one since the last sync
writes-after_write : (n : ℕ) (volume : Volume) (at : ℕ) (bytes : List ℕ) (failed : Bool) → 0 < length (after_step n volume (Write n at bytes failed)).writes
writes-after_write n volume at bytes failed =
    let write : UnsyncedWrite = record { at = place_in volume.contents at; bytes = bytes } in
    let is : length (after_step n volume (Write n at bytes failed)).writes ≡ length (written_or_half volume (place_in volume.contents at) bytes failed).writes =
    ap (λ (v : Volume). length v.writes) (chosen_then (eqb n n) (written_or_half volume (place_in volume.contents at) bytes failed) volume
    (search (rules, nat_tests))) in
    omega (arith, is, by_failure failed, length_push volume.writes write)
  where
    by_failure : (f : Bool) → length (written_or_half volume (place_in volume.contents at) bytes f).writes
        ≡ length (volume.writes ++ record { at = place_in volume.contents at; bytes = bytes } ∷ [])
    by_failure true = refl
    by_failure false = refl

module _ (start : List (List ℕ)) (steps : List Step) (held : List (List ℕ)) (unsynced : List Bool) (capacity : ℕ)
    (kept : IsKept start steps held unsynced capacity) (n : ℕ) where
  -- another volume after a step of this one
  other_volume : (step : Step) (m : ℕ) → m ≢ volume_of step → after_steps start (steps ++ step ∷ []) m ≡ after_steps start steps m
  other_volume step m other = after_steps-push start steps step m ∙ after_step-other m _ step other

  pub kept-write : (at : ℕ) (bytes : List ℕ) (failed : Bool) (room : ℕ) → n < 16 → length steps + 17 ≤ room
      → IsKept start (steps ++ Write n at bytes failed ∷ []) (set held n (contents_after (slice_index_or held n []) at bytes failed)) (set unsynced n true) room
  kept-write at bytes failed room within enough =
      let volumes = kept.volumes in
      let flags = kept.flags in
      let step = Write n at bytes failed in
      let old = after_steps start steps n in
      let now = contents_after (slice_index_or held n []) at bytes failed in
      record {
        volumes = length-set held n now ∙ volumes;
        flags = length-set unsynced n true ∙ flags;
        holds = λ m low. elim (cases_eq m n) [
          | inl same ↦
              let here : get_or (set held n now) n [] ≡ now = get_or-set_same held n now [] (omega arith) in
              let was = kept.holds n within in
              let is : now ≡ (after_steps start (steps ++ step ∷ []) n).contents =
              ap (λ (l : List ℕ). contents_after l at bytes failed) was ∙ sym (contents-after_step n old at bytes failed)
              ∙ ap (λ (v : Volume). v.contents) (sym (after_steps-push start steps step n)) in
              subst (λ (k : ℕ). get_or (set held n now) k [] ≡ (after_steps start (steps ++ step ∷ []) k).contents) (sym same) (here ∙ is)
          | inr other ↦ get_or-set_other held n m now [] other ∙ kept.holds m low ∙ ap (λ (v : Volume). v.contents) (sym (other_volume step m other))
        ];
        clean = λ m low unset. elim (cases_eq m n) [
          | inl same ↦
              let here : get_or (set unsynced n true) n true ≡ true = get_or-set_same unsynced n true true (omega arith) in
              let there : get_or (set unsynced n true) n true ≡ false = subst (λ (k : ℕ). get_or (set unsynced n true) k true ≡ false) same unset in
              absurd (cc)
          | inr other ↦
              let was : get_or unsynced m true ≡ false = sym (get_or-set_other unsynced n m true true other) ∙ unset in
              ap (λ (v : Volume). length v.writes) (other_volume step m other) ∙ kept.clean m low was
        ];
        written = λ m low set_there. elim (cases_eq m n) [
          | inl same ↦ subst (λ (k : ℕ). 0 < length (after_steps start (steps ++ step ∷ []) k).writes) (sym same)
              (omega (arith, ap (λ (v : Volume). length v.writes) (after_steps-push start steps step n), writes-after_write n old at bytes failed))
          | inr other ↦
              let was : get_or unsynced m true ≡ true = sym (get_or-set_other unsynced n m true true other) ∙ set_there in
              omega (arith, ap (λ (v : Volume). length v.writes) (other_volume step m other), kept.written m low was)
        ];
        room = omega (arith, count_by-le-length (λ (is : Bool). is) (set unsynced n true), length-set unsynced n true, length_push steps step);
      }

  pub kept-sync : n < 16 → get_or unsynced n true ≡ true → (room : ℕ) → capacity ≤ room → IsKept start (steps ++ Sync n ∷ []) held (set unsynced n false) room
  kept-sync within unset room enough =
      let volumes = kept.volumes in
      let flags = kept.flags in
      let step = Sync n in
      let old = after_steps start steps n in
      let now : after_steps start (steps ++ Sync n ∷ []) n ≡ settled old.contents = after_steps-push start steps step n ∙ after_step-sync n old in
      let count = sum_by-set (λ (is : Bool). cond is 1 0) unsynced n false true (omega arith) in
      let was : ◌≡◌ {A = ℕ} (cond (get_or unsynced n true) 1 0) 1 = ap (λ (b : Bool). cond b 1 0) unset in
      record {
        volumes = volumes;
        flags = length-set unsynced n false ∙ flags;
        holds = λ m low. elim (cases_eq m n) [
          | inl same ↦
              let is : get_or held n [] ≡ (after_steps start (steps ++ step ∷ []) n).contents = kept.holds n within
              ∙ ap (λ (v : Volume). v.contents) (sym now) in
              subst (λ (k : ℕ). get_or held k [] ≡ (after_steps start (steps ++ step ∷ []) k).contents) (sym same) is
          | inr other ↦ kept.holds m low ∙ ap (λ (v : Volume). v.contents) (sym (other_volume step m other))
        ];
        clean = λ m low unset. elim (cases_eq m n) [
          | inl same ↦ subst (λ (k : ℕ). length (after_steps start (steps ++ step ∷ []) k).writes ≡ 0) (sym same) (ap (λ (v : Volume). length v.writes) now)
          | inr other ↦
              let before : get_or unsynced m true ≡ false = sym (get_or-set_other unsynced n m false true other) ∙ unset in
              ap (λ (v : Volume). length v.writes) (other_volume step m other) ∙ kept.clean m low before
        ];
        written = λ m low set_there. elim (cases_eq m n) [
          | inl same ↦
              let here : get_or (set unsynced n false) n true ≡ false = get_or-set_same unsynced n false true (omega arith) in
              let there : get_or (set unsynced n false) n true ≡ true = subst (λ (k : ℕ). get_or (set unsynced n false) k true ≡ true) same set_there in
              absurd (cc)
          | inr other ↦
              let before : get_or unsynced m true ≡ true = sym (get_or-set_other unsynced n m false true other) ∙ set_there in
              omega (arith, ap (λ (v : Volume). length v.writes) (other_volume step m other), kept.written m low before)
        ];
        room = omega (arith, kept.room, count, was, length_push steps step);
      }

-- the same by other names
pub kept-renamed : (start : List (List ℕ)) (steps more : List Step) (held other : List (List ℕ)) (unsynced : List Bool) (capacity : ℕ) → more ≡ steps →
    other ≡ held → IsKept start steps held unsynced capacity → IsKept start more other unsynced capacity
kept-renamed start steps more held other unsynced capacity same_steps same_held kept =
    subst (λ (s : List Step). IsKept start s other unsynced capacity) (sym same_steps)
    (subst (λ (h : List (List ℕ)). IsKept start steps h unsynced capacity) (sym same_held) kept)

-- a push that succeeds
pub pushed_ok : {X : Type 0} (b : Bool) (now old more : List X) → b ≡ true → now ≡ cond b more old → now ≡ more
pushed_ok b now old more is same = same ∙ ap (λ (t : Bool). cond t more old) is
