-- The volumes hold the logs, where a record is written and where a system falls.
use Rattle.std.specs.Prelude.{slice_get, Result, Ok, Err, OnOk, OnErr}
use Rattle.std.proofs.Common.{◌≡◌, ◌≢◌, ℕ, ◌-◌, ◌≤◌, true, false, Option, Some, None, List, [], ◌∷◌, ◌++◌, inl, inr, refl, sym, ap, subst, ◌∙◌}
use Rattle.std.proofs.lemmas.Bool.{cases_eq, both_ways}
use Rattle.std.proofs.lemmas.Option.{same_Some}
use Rattle.ale_volumes.specs.Disk.{Disk}
use Rattle.unit_core.specs.declared.records.Record.{Record}
use Rattle.trfc_protocol.specs.declared.world.World.{World}
use Rattle.trfc_protocol.specs.declared.world.SystemState.{SystemState}
use Rattle.trfc_protocol.specs.Worlds.{log_of, log_or_none, up_or_not, is_up, one_fall_more, state_with, state_down, with_state, with_record, with_fall}
use Rattle.trfc_protocol.proofs.WorldLemmas.{state_of-here}
use Rattle.unit_landscape.specs.Joining.{without_named}
use Rattle.unit_landscape.specs.Changed.{ChangedAt}
use Rattle.unit_landscape.proofs.InStepLemmas.{ChangedAt-same, stands_up}
use Rattle.unit_landscape.proofs.EnteringLemmas.{systems-changed}
use Rattle.unit_journal.specs.declared.journals.SystemJournals.{SystemJournals}
use Rattle.unit_journal.specs.OnDisk.{IsAtEndOf, moments_at, AreInOrder, IsOnDisk, IsLeftOnDisk}
use Rattle.unit_journal.specs.Changes.{OnlyAt, with_moment}
use Rattle.unit_journal.proofs.KeptLemmas.{HaveMoments-one, IsLeft-of, IsOnDisk-same, IsLeftOnDisk-same, IsOnDisk-with_moment, IsLeftOnDisk-with_moment}
use Rattle.unit_journal.proofs.OrderLemmas.{AreInOrder-same}
use Rattle.unit_landscape.specs.OnVolumes.{AreOnVolumes}

-- a claim that goes leaves the systems
pub named_systems : {R : Type 0} (world : World R) (claim : Option ℕ) → (without_named world claim).systems ≡ world.systems
named_systems world None = refl
named_systems world (Some number) = refl

-- a record leaves a system up
pub up-written : {R : Type 0} (world : World R) (system : ℕ) (next : Record) → is_up world system ≡ true → is_up (with_record world system next) system ≡ true
up-written world system next up =
    let standing = stands_up world.systems system up in
    ap up_or_not (state_of-here world system (state_with next) standing.state standing.known) ∙ standing.up

module _ {D : Type 0} (disk : Disk D) where
  -- of one system the state, the journal and the volume change, and of no other
  pub on_volumes-changed : (old new : D) (systems after : List SystemState) (before journals : SystemJournals) (place : ℕ)
      (StateChange : SystemState → SystemState → Type 0)
      → AreOnVolumes disk old systems before → ChangedAt StateChange place systems after → OnlyAt place before journals
      → AreInOrder (moments_at journals place)
      → ((other : ℕ) → other ≢ place → disk.told → disk.volume new other ≡ disk.volume old other)
      → ((state now : SystemState) → slice_get systems place ≡ Some state → StateChange state now
      → (now.up ≡ true → IsOnDisk disk new place journals now.log) × (now.up ≡ false → IsLeftOnDisk disk new place journals now.log now.rest))
      → AreOnVolumes disk new after journals
  on_volumes-changed old new systems after before journals place StateChange are changed one order others here = record {
    count = one.journals ∙ are.count ∙ sym changed.long;
    moments = HaveMoments-one place before journals one are.moments;
    order = λ other. elim (cases_eq other place) [
      | inl same ↦ subst (λ k. AreInOrder (moments_at journals k)) (sym same) order
      | inr differs ↦ AreInOrder-same other before journals (one.others other differs).moments (are.order other)
    ];
    few = subst (λ n. n ≤ 16) (sym changed.long) are.few;
    up = λ other now at up. elim (cases_eq other place) [
      | inl same ↦
          let its = changed.its now (subst (λ k. slice_get after k ≡ Some now) same at) in
          subst (λ k. IsOnDisk disk new k journals now.log) (sym same) ((here its.0 now its.1 its.2).0 up)
      | inr differs ↦
          IsOnDisk-same disk old new other before journals now.log (others other differs) (one.others other differs)
          (are.up other now (sym (changed.others other differs) ∙ at) up)
    ];
    down = λ other now at down. elim (cases_eq other place) [
      | inl same ↦
          let its = changed.its now (subst (λ k. slice_get after k ≡ Some now) same at) in
          subst (λ k. IsLeftOnDisk disk new k journals now.log now.rest) (sym same) ((here its.0 now its.1 its.2).1 down)
      | inr differs ↦
          IsLeftOnDisk-same disk old new other before journals now.log now.rest (others other differs) (one.others other differs)
          (are.down other now (sym (changed.others other differs) ∙ at) down)
    ];
  }

  -- a log that is on its volume has a journal at its end
  pub at_end-of : (vols : D) (place : ℕ) (journals : SystemJournals) (log : List Record) → IsOnDisk disk vols place journals log
      → IsAtEndOf place journals log
  at_end-of vols place journals log is = record { journal = is.journal; here = is.here; at_end = let on = is.on in on.at_end }

  -- the log of a system that is up is on its volume
  pub on_disk-up : {R : Type 0} (vols : D) (world : World R) (journals : SystemJournals) (system : ℕ) → is_up world system ≡ true
      → AreOnVolumes disk vols world.systems journals → IsOnDisk disk vols (system - 1) journals (log_of world system)
  on_disk-up vols world journals system up are =
      let standing = stands_up world.systems system up in
      subst (IsOnDisk disk vols (system - 1) journals) (sym (ap log_or_none standing.known))
      (are.up (system - 1) standing.state standing.at standing.up)

  module _ {R : Type 0} (old new : D) (world : World R) (before journals : SystemJournals) (system : ℕ) (up : is_up world system ≡ true)
      (are : AreOnVolumes disk old world.systems before) (one : OnlyAt (system - 1) before journals)
      (order : AreInOrder (moments_at journals (system - 1)))
      (others : (other : ℕ) → other ≢ system - 1 → disk.told → disk.volume new other ≡ disk.volume old other) where
    -- the state of a system that is up
    its_log : (state : SystemState) → slice_get world.systems (system - 1) ≡ Some state → (log_of world system ≡ state.log) × (state.up ≡ true)
    its_log state at =
        let standing = stands_up world.systems system up in
        let same : standing.state ≡ state = same_Some standing.state state (sym standing.at ∙ at) in
        (ap log_or_none standing.known ∙ ap (λ (s : SystemState). s.log) same, sym (ap (λ (s : SystemState). s.up) same) ∙ standing.up)

    -- a record was written
    pub on_volumes-written : (next : Record) → IsOnDisk disk new (system - 1) journals (log_of world system ++ next ∷ [])
        → AreOnVolumes disk new (with_record world system next).systems journals
    on_volumes-written next on_disk =
        on_volumes-changed old new world.systems (with_record world system next).systems before journals (system - 1) (λ s now. now ≡ state_with next s)
        are (systems-changed world system (state_with next) up) one order others
        (λ state now at change.
        let its = its_log state at in (
          λ _. subst (λ (s : SystemState). IsOnDisk disk new (system - 1) journals s.log) (sym change)
              (subst (λ log. IsOnDisk disk new (system - 1) journals (log ++ next ∷ [])) its.0 on_disk),
          λ down. absurd (both_ways now.up down (ap (λ (s : SystemState). s.up) change ∙ its.1)),
        ))

    -- nothing was written
    pub on_volumes-stays : IsOnDisk disk new (system - 1) journals (log_of world system) → AreOnVolumes disk new world.systems journals
    on_volumes-stays on_disk =
        on_volumes-changed old new world.systems world.systems before journals (system - 1) (λ s now. now ≡ s)
        are (ChangedAt-same (λ s now. now ≡ s) (system - 1) world.systems (λ s. refl)) one order others
        (λ state now at change.
        let its = its_log state at in (
          λ _. subst (λ (s : SystemState). IsOnDisk disk new (system - 1) journals s.log) (sym change)
              (subst (IsOnDisk disk new (system - 1) journals) its.0 on_disk),
          λ down. absurd (both_ways now.up down (ap (λ (s : SystemState). s.up) change ∙ its.1)),
        ))

    -- the system fell
    on_volumes-down : (rest : Option Record) → IsLeftOnDisk disk new (system - 1) journals (log_of world system) rest
        → AreOnVolumes disk new (with_state world system (state_down rest)).systems journals
    on_volumes-down rest left =
        on_volumes-changed old new world.systems (with_state world system (state_down rest)).systems before journals (system - 1)
        (λ s now. now ≡ state_down rest s)
        are (systems-changed world system (state_down rest) up) one order others
        (λ state now at change.
        let its = its_log state at in (
          λ is. absurd (both_ways now.up (ap (λ (s : SystemState). s.up) change) is),
          λ _. subst (λ (s : SystemState). IsLeftOnDisk disk new (system - 1) journals s.log s.rest) (sym change)
              (subst (λ log. IsLeftOnDisk disk new (system - 1) journals log rest) its.0 left),
        ))

  -- a system that was up fell, with what its volume may have behind its log
  pub on_volumes-fell : {R : Type 0} (old new : D) (world : World R) (before journals : SystemJournals) (system : ℕ) (rest : Option Record) →
      is_up world system ≡ true
      → AreOnVolumes disk old world.systems before → OnlyAt (system - 1) before journals → AreInOrder (moments_at journals (system - 1))
      → ((other : ℕ) → other ≢ system - 1 → disk.told → disk.volume new other ≡ disk.volume old other)
      → IsLeftOnDisk disk new (system - 1) journals (log_of world system) rest
      → AreOnVolumes disk new (with_fall world system rest).systems journals
  on_volumes-fell old new world before journals system rest up are one order others left =
      on_volumes-down old new (record world { claims = []; falls = one_fall_more world.falls }) before journals system up are one order others rest left

  -- what is as it was is so at each place
  pub OnlyAt-same : (place : ℕ) (all : SystemJournals) → OnlyAt place all all
  OnlyAt-same place all = record {
    journals = refl;
    moments = refl;
    others = λ other differs. record { journal = refl; moments = refl; rest = refl };
    moment = refl;
  }

  -- what follows a record that was written, a claim that goes or a fall, leaves the volumes those of the logs
  pub on_volumes-after : {R T F : Type 0} (vols : D) (world after : World R) (journals : SystemJournals) (system : ℕ) (claim : Option ℕ) (r : Result T F)
      → is_up world system ≡ true → OnOk r (after ≡ without_named world claim) → OnErr r (after ≡ with_fall world system None)
      → AreOnVolumes disk vols world.systems journals → AreOnVolumes disk vols after.systems journals
  on_volumes-after vols world after journals system claim (Ok done) up is fell are =
      subst (λ (systems : List SystemState). AreOnVolumes disk vols systems journals) (sym (ap (λ w. w.systems) is ∙ named_systems world claim)) are
  on_volumes-after vols world after journals system claim (Err end) up is fell are =
      subst (λ w. AreOnVolumes disk vols w.systems journals) (sym fell)
      (on_volumes-fell vols vols world journals journals system None up are (OnlyAt-same (system - 1) journals) (are.order (system - 1))
      (λ other differs tells. refl)
      (IsLeft-of disk vols (system - 1) journals (log_of world system) (on_disk-up vols world journals system up are)))

  -- another moment for what is written next leaves what the volumes hold
  pub on_volumes-with_moment : (vols : D) (systems : List SystemState) (journals : SystemJournals) (moment : Option ℕ)
      → AreOnVolumes disk vols systems journals → AreOnVolumes disk vols systems (with_moment moment journals)
  on_volumes-with_moment vols systems journals moment are = record {
    count = are.count;
    moments = are.moments;
    order = are.order;
    few = are.few;
    up = λ place state at up. IsOnDisk-with_moment disk vols place journals state.log moment (are.up place state at up);
    down = λ place state at down. IsLeftOnDisk-with_moment disk vols place journals state.log state.rest moment (are.down place state at down);
  }
