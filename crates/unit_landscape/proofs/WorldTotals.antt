-- The totals of a safe world are in order, and no event lets one of them fall.
use Rattle.std.specs.Prelude.{Contains}
use Rattle.std.proofs.Common.{◌≡◌, inl, inr, ℕ, ◌≤◌, List, [], ◌∷◌, ◌++◌, length, sym, ap, subst, ◌∙◌, append_assoc}
use Rattle.std.proofs.lemmas.List.{append-nil}
use Rattle.ale_base.specs.Prefix.{IsPrefix}
use Rattle.ale_base.proofs.OptionLemmas.{none_or_some}
use Rattle.ale_base.proofs.PrefixLemmas.{IsPrefix-same, IsPrefix-trans}
use Rattle.ale_base.proofs.MemberLemmas.{Contains-nil}
use Rattle.unit_core.specs.declared.ale_unit.AleUnit.{AleUnit}
use Rattle.unit_core.specs.declared.records.Record.{Record}
use Rattle.trfc_protocol.specs.declared.event.Event.{Event}
use Rattle.trfc_protocol.specs.declared.world.World.{World}
use Rattle.trfc_protocol.specs.Meaning.{Meaning}
use Rattle.trfc_protocol.specs.Legal.{AllFollow, IsLegal, IsLawful}
use Rattle.trfc_protocol.specs.Worlds.{log_of, log_or_none, state_of, committed_by, committed_unit}
use Rattle.trfc_protocol.specs.Happens.{happens}
use Rattle.trfc_protocol.specs.Safe.{Safe}
use Rattle.trfc_protocol.proofs.WorldLemmas.{state_of-least, state_of-most}
use Rattle.trfc_protocol.proofs.LegalLemmas.{IsLegal-push, committed-grows}
use Rattle.trfc_protocol.proofs.SafeLemmas.{sound_now, received-is}
use Rattle.trfc_protocol.proofs.EventLemmas.{Next-happens}
use Rattle.trfc_protocol.proofs.ForCallers.{logs_grow}
use Rattle.unit_landscape.specs.Counted.{AreInOrder, HaveNotFallen}
use Rattle.unit_landscape.proofs.TotalsLemmas.{executed_le, received_le, received_grows, executed_grows, committed_grows, sum_to-most}

-- the records behind a front of a legal log may follow it
follow_behind : (rules : Meaning) (system : ℕ) (before front rest : List Record) → AllFollow rules system before (front ++ rest)
    → AllFollow rules system (before ++ front) rest
follow_behind rules system before [] rest follow = subst (λ log. AllFollow rules system log rest) (sym (append-nil before)) follow
follow_behind rules system before (next ∷ front) rest follow =
    subst (λ log. AllFollow rules system log rest) (append_assoc before (next ∷ []) front)
    (follow_behind rules system (before ++ next ∷ []) front rest follow.1)

-- the units that a legal log commits begin with those of its front
committed_on : (rules : Meaning) → IsLawful rules → (system : ℕ) (front rest : List Record) → IsLegal rules system front → AllFollow rules system front rest
    → IsPrefix (rules.committed system front) (rules.committed system (front ++ rest))
committed_on rules lawful system front [] legal follow =
    subst (λ log. IsPrefix (rules.committed system front) (rules.committed system log)) (sym (append-nil front))
    (IsPrefix-same (rules.committed system front))
committed_on rules lawful system front (next ∷ rest) legal follow =
    let longer : List Record = front ++ next ∷ [] in
    IsPrefix-trans (rules.committed system front) (rules.committed system longer) (rules.committed system (front ++ next ∷ rest))
    (committed-grows rules lawful system front legal next follow.0)
    (subst (λ log. IsPrefix (rules.committed system longer) (rules.committed system log)) (append_assoc front (next ∷ []) rest)
    (committed_on rules lawful system longer rest (IsLegal-push rules system front next legal follow.0) follow.1))

module _ {R : Type 0} (rules : Meaning) (lawful : IsLawful rules) (world : World R) (safe : Safe rules world) where
  -- only systems of the landscape commit units
  within : (system : ℕ) (unit : AleUnit) → Contains (committed_by rules world system) unit → (1 ≤ system) × (system ≤ rules.systems)
  within system unit has =
      elim (none_or_some (state_of world.systems system)) [
        | inl none ↦
            let empty : log_of world system ≡ [] = ap log_or_none none in
            let no_units : committed_by rules world system ≡ [] = ap (rules.committed system) empty ∙ lawful.nothing_at_first system in
            absurd (Contains-nil unit (subst (λ units. Contains units unit) no_units has))
        | inr some ↦ (
          state_of-least world.systems system some.0 some.1,
          subst (λ n. system ≤ n) safe.systems (state_of-most world.systems system some.0 some.1),
        )
      ]

  -- the totals of a safe world are in order
  pub in_order : AreInOrder rules world
  in_order =
      let sound = sound_now rules lawful world safe in record {
        executed = executed_le (committed_by rules world) (log_of world) sound.once rules.systems;
        received = received_le (committed_by rules world) (log_of world) sound.once (committed_unit rules world)
            (λ system unit has. (received-is rules lawful world safe system unit has).1) rules.systems within;
        most = sum_to-most (λ system. length (committed_by rules world system)) 65536 rules.systems
            (λ system. lawful.most system (log_of world system) (sound.legal system));
      }

  -- where each log goes on, no total falls
  pub not_fallen : (after : World R) → Safe rules after → ((system : ℕ) → IsPrefix (log_of world system) (log_of after system)) → HaveNotFallen rules world after
  not_fallen after safe_after grow = record {
    committed = committed_grows (committed_by rules world) (committed_by rules after) rules.systems
        (λ system.
        let on = grow system in
        let legal : IsLegal rules system (log_of world system ++ on.0) =
        subst (IsLegal rules system) (sym on.1) ((sound_now rules lawful after safe_after).legal system) in
        subst (λ log. IsPrefix (committed_by rules world system) (rules.committed system log)) on.1
        (committed_on rules lawful system (log_of world system) on.0 ((sound_now rules lawful world safe).legal system)
        (follow_behind rules system [] (log_of world system) on.0 legal)));
    received = received_grows (log_of world) (log_of after) rules.systems grow;
    executed = executed_grows (log_of world) (log_of after) rules.systems grow;
  }

  -- no event lets a total fall
  pub event_lets_none_fall : (e : Event) → HaveNotFallen rules world (happens rules world e)
  event_lets_none_fall e = not_fallen (happens rules world e) (Next-happens rules lawful world safe e).0 (logs_grow rules world e)
