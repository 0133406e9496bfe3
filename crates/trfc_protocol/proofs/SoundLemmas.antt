-- Logs that are sound stay so where a record joins one of them, and a record that may join them may join where others have
-- gone on.
use Rattle.std.specs.Prelude.{Contains}
use Rattle.std.proofs.Common.{◌≡◌, ◌≢◌, ℕ, ◌≤◌, true, false, ◌||◌, None, List, [], ◌∷◌, ◌++◌, inl, inr, ◌⊎◌, sym, ap, subst, ◌∙◌}
use Rattle.std.proofs.Math.Bool.{or-true}
use Rattle.std.proofs.lemmas.Bool.{both_ways, false_from_ne_true}
use Rattle.std.proofs.lemmas.List.Folds.{list_any-append}
use Rattle.std.proofs.lemmas.List.Elements.{All-contains}
use Rattle.ale_base.specs.Tid.{TidOf, is_tid}
use Rattle.unit_core.specs.declared.ale_unit.AleUnit.{AleUnit}
use Rattle.unit_core.specs.declared.records.Record.{Record}
use Rattle.unit_core.specs.Filters.{taken_by, done_by, forgotten_by, received, done_in, forgotten_in}
use Rattle.unit_core.specs.Queues.{is_listed, is_among, tids_of, heads_outbound}
use Rattle.ale_base.specs.Prefix.{IsPrefix}
use Rattle.unit_core.specs.Once.{NoneTwice}
use Rattle.ale_base.proofs.PrefixLemmas.{IsPrefix-same, IsPrefix-Contains, IsPrefix-filter_map}
use Rattle.unit_core.proofs.TidLemmas.{Contains-is_listed, is_among-Contains, same_unit}
use Rattle.unit_core.proofs.QueueLemmas.{heads_outbound-keeps}
use Rattle.unit_core.proofs.InsideLemmas.{MayExecute, MayRun}
use Rattle.unit_core.proofs.OnceLemmas.{Joins, MayTake, WasTaken, MayJoin, at_each, Once-joins}
use Rattle.trfc_protocol.specs.Meaning.{Meaning}
use Rattle.trfc_protocol.specs.Legal.{IsLegal, may_follow, IsLawful}
use Rattle.trfc_protocol.specs.Safe.{Sound}
use Rattle.trfc_protocol.proofs.LegalLemmas.{IsLegal-push, last_follows, push_not_empty, committed-NoneTwice, committed-grows}

-- logs are sound where they are the same as sound ones
pub Sound-same : (rules : Meaning) (logs after : ℕ → List Record) → ((system : ℕ) → after system ≡ logs system) → Sound rules logs → Sound rules after
Sound-same rules logs after same sound =
    let equal : after ≡ logs = λ i system. same system i in
    subst (Sound rules) (sym equal) sound

-- a log is as it was, or one record longer
abbrev pub IsLonger : List Record → List Record → Type 0
IsLonger log further = (further ≡ log) ⊎ ((rest : Record) × (further ≡ log ++ rest ∷ []))

-- it goes on as the longer one
pub IsLonger-prefix : (log further : List Record) → IsLonger log further → IsPrefix log further
IsLonger-prefix log further longer =
    elim longer [
      | inl same ↦ subst (IsPrefix log) (sym same) (IsPrefix-same log)
      | inr more ↦ (more.0 ∷ [], sym more.1)
    ]

module _ (rules : Meaning) (lawful : IsLawful rules) where
  abbrev units_of : (ℕ → List Record) → ℕ → List AleUnit
  units_of logs system = rules.committed system (logs system)

  -- the units that a system committed have ids that differ
  pub ids_differ : (logs : ℕ → List Record) → Sound rules logs → (system : ℕ) → NoneTwice (tids_of (units_of logs system))
  ids_differ logs sound system = committed-NoneTwice rules lawful system (logs system) (sound.legal system)

  -- a record joins the log of a system
  pub Sound-joins : (logs after : ℕ → List Record) (system : ℕ) (next : Record) → Sound rules logs → may_follow rules system (logs system) next ≡ true
      → MayJoin (units_of logs) logs system next → Joins logs after system next → Sound rules after
  Sound-joins logs after system next sound may join joins = record {
    legal = at_each logs after system next joins (IsLegal rules) sound.legal (IsLegal-push rules system (logs system) next (sound.legal system) may);
    begun = at_each logs after system next joins (λ s log. 1 ≤ s → s ≤ rules.systems → log ≢ []) sound.begun
        (λ _ _. push_not_empty (logs system) next);
    once = Once-joins (units_of logs) (units_of after) logs after system next (ids_differ logs sound) sound.once join joins
        (at_each logs after system next joins (λ s log. IsPrefix (units_of logs s) (rules.committed s log)) (λ s. IsPrefix-same (units_of logs s))
        (committed-grows rules lawful system (logs system) (sound.legal system) next may));
  }

  module _ (logs further : ℕ → List Record) (sound : Sound rules logs) (sound_further : Sound rules further)
      (longer : (s : ℕ) → IsLonger (logs s) (further s)) where
    grows : (s : ℕ) → IsPrefix (logs s) (further s)
    grows s = IsLonger-prefix (logs s) (further s) (longer s)

    -- the units that a system committed go on
    pub units_grow : (s : ℕ) → IsPrefix (units_of logs s) (units_of further s)
    units_grow s =
        elim (longer s) [
          | inl same ↦ subst (λ log. IsPrefix (units_of logs s) (rules.committed s log)) (sym same) (IsPrefix-same (units_of logs s))
          | inr more ↦
              let legal : IsLegal rules s (logs s ++ more.0 ∷ []) = subst (IsLegal rules s) more.1 (sound_further.legal s) in
              subst (λ log. IsPrefix (units_of logs s) (rules.committed s log)) (sym more.1)
              (committed-grows rules lawful s (logs s) (sound.legal s) more.0 (last_follows rules s (logs s) more.0 legal))
        ]

    committed_further : (s : ℕ) (unit : AleUnit) → Contains (units_of logs s) unit → Contains (units_of further s) unit
    committed_further s unit has = IsPrefix-Contains (units_of logs s) (units_of further s) unit (units_grow s) has

    -- what a unit's system committed and its receiver did not receive is not done
    pub not_done : (system : ℕ) (unit : AleUnit) → further system ≡ logs system → unit.receiver ≡ system → Contains (units_of logs unit.sender) unit
        → is_among unit.tid (received (logs system)) ≡ false → is_listed unit.tid (done_in (further unit.sender)) ≡ true → ⊥
    not_done system unit same receiver has new listed =
        let further_units = units_of further in
        let was : WasTaken further_units further unit.sender unit.tid = All-contains (WasTaken further_units further unit.sender)
        (done_in (further unit.sender)) unit.tid (sound_further.once.done_was_taken unit.sender)
        (Contains-is_listed unit.tid (done_in (further unit.sender)) listed) in
        let equal : was.0 ≡ unit = same_unit (further_units unit.sender) was.0 unit (ids_differ further sound_further unit.sender) was.2
        (committed_further unit.sender unit has) was.1 in
        let there : Contains (received (further unit.receiver)) unit = subst (λ (u : AleUnit). Contains (received (further u.receiver)) u) equal was.3 in
        let here : Contains (received (logs system)) unit = subst (λ log. Contains (received log) unit) same
        (subst (λ s. Contains (received (further s)) unit) receiver there) in
        both_ways (is_among unit.tid (received (logs system))) new (is_among-Contains unit (received (logs system)) here)

    -- a unit that was not received heads its queues still
    pub heads_further : (system : ℕ) (unit : AleUnit) → further system ≡ logs system → unit.receiver ≡ system → Contains (units_of logs unit.sender) unit
        → is_among unit.tid (received (logs system)) ≡ false → heads_outbound (done_in (logs unit.sender)) (units_of logs unit.sender) unit ≡ true
        → heads_outbound (done_in (further unit.sender)) (units_of further unit.sender) unit ≡ true
    heads_further system unit same receiver has new heads =
        let more = units_grow unit.sender in
        let done = IsPrefix-filter_map done_by (logs unit.sender) (further unit.sender) (grows unit.sender) in
        let others : is_listed unit.tid done.0 ≡ false = false_from_ne_true (is_listed unit.tid done.0) (λ listed.
        not_done system unit same receiver has new
        (ap (is_listed unit.tid) (sym done.1) ∙ list_any-append (λ (t : TidOf). is_tid t unit.tid) (done_in (logs unit.sender)) done.0
        ∙ ap (λ b. is_listed unit.tid (done_in (logs unit.sender)) || b) listed ∙ or-true (is_listed unit.tid (done_in (logs unit.sender))))) in
        subst (λ units. heads_outbound (done_in (further unit.sender)) units unit ≡ true) more.1
        (subst (λ tids. heads_outbound tids (units_of logs unit.sender ++ more.0) unit ≡ true) done.1
        (heads_outbound-keeps (done_in (logs unit.sender)) done.0 (units_of logs unit.sender) more.0 unit others heads))

    -- a record that may join a log that stays may join it where others have gone on
    pub MayJoin-further : (system : ℕ) (next : Record) → further system ≡ logs system → MayJoin (units_of logs) logs system next
        → MayJoin (units_of further) further system next
    MayJoin-further system next same join = record {
      takes = λ unit taken.
          let take : MayTake (units_of logs) logs system unit = join.takes unit taken in
          record {
            receiver = take.receiver;
            was_committed = committed_further unit.sender unit take.was_committed;
            new = ap (λ log. is_among unit.tid (received log)) same ∙ take.new;
            heads = heads_further system unit same take.receiver take.was_committed take.new take.heads;
          };
      executes = λ tid executed. subst (λ log. ((taken_by next ≡ None) × MayExecute log tid) ⊎ MayRun next tid) (sym same) (join.executes tid executed);
      runs = join.runs;
      finishes = λ tid finishes.
          let was = join.finishes tid finishes in (
            was.0,
            was.1,
            committed_further system was.0 was.2,
            IsPrefix-Contains (received (logs was.0.receiver)) (received (further was.0.receiver)) was.0
                (IsPrefix-filter_map taken_by (logs was.0.receiver) (further was.0.receiver) (grows was.0.receiver)) was.3,
          );
      forgets = λ tid forgets. IsPrefix-Contains (done_in (logs tid.system)) (done_in (further tid.system)) tid
          (IsPrefix-filter_map done_by (logs tid.system) (further tid.system) (grows tid.system)) (join.forgets tid forgets);
      ends = λ tid ends.
          let was = join.ends tid ends in (
            was.0,
            was.1,
            committed_further system was.0 was.2,
            IsPrefix-Contains (forgotten_in (logs was.0.receiver)) (forgotten_in (further was.0.receiver)) tid
                (IsPrefix-filter_map forgotten_by (logs was.0.receiver) (further was.0.receiver) (grows was.0.receiver)) was.3,
          );
    }
