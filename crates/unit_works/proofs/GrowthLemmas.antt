-- What is appended, one after the other, until a system falls: of works each, and of one event.
use Rattle.std.proofs.Common.{◌≡◌, ℕ, Bool, true, false, Option, List, [], ◌∷◌, ◌++◌, inl, inr, sym, ap, subst, ◌∙◌, append_assoc}
use Rattle.std.proofs.lemmas.Bool.{both_ways}
use Rattle.ale_volumes.specs.Disk.{Disk}
use Rattle.unit_core.specs.declared.ale_unit.AleUnit.{AleUnit}
use Rattle.trfc_protocol.specs.declared.answer.Answer.{Answer}
use Rattle.trfc_protocol.specs.declared.event.Event.{Event}
use Rattle.trfc_protocol.specs.declared.world.World.{World}
use Rattle.trfc_protocol.specs.Happens.{happens}
use Rattle.trfc_protocol.specs.Legal.{IsLawful}
use Rattle.trfc_protocol.specs.Meaning.{Meaning}
use Rattle.trfc_protocol.specs.RecordOf.{Writing, record_of}
use Rattle.trfc_protocol.specs.Worlds.{is_up, log_of, rest_of}
use Rattle.unit_landscape.specs.KeptWorlds.{KeptOf}
use Rattle.unit_landscape.specs.Ends.{Happened}
use Rattle.unit_landscape.specs.Kept.{IsLandscape}
use Rattle.unit_works.specs.declared.letter.Letter.{Letter}
use Rattle.unit_works.specs.Trips.{AppendedAs, CutAt, Felled, HaveGrown, ShippedSo, Wholly, shipment}
use Rattle.unit_works.proofs.LogLemmas.{grown-event, grown-on, grown-same, listed}
use Rattle.unit_works.proofs.StateLemmas.{is_step, step-rest, step-up}

module _ {R : Type 0} where
  -- nothing happened
  pub wholly-same : (before after : World R) → after ≡ before → Wholly before after []
  wholly-same before after same = record {
    grew = grown-same before after (λ system. ap (λ (w : World R). log_of w system) same);
    stand = λ system. (ap (λ (w : World R). is_up w system) same, ap (λ (w : World R). rest_of w system) same);
  }

  -- one after the other
  pub wholly-on : (before between after : World R) (xs ys : List Writing) → Wholly before between xs → Wholly between after ys
      → Wholly before after (xs ++ ys)
  wholly-on before between after xs ys first second = record {
    grew = grown-on before between after xs ys first.grew second.grew;
    stand = λ system. ((second.stand system).0 ∙ (first.stand system).0, (second.stand system).1 ∙ (first.stand system).1);
  }

module _ {R A V : Type 0} where
  -- records, and then a system fell
  cut-behind : (before between after : KeptOf R A V) (xs done : List Writing) (next : Writing) → Wholly before.world between.world xs
      → CutAt between after done next → CutAt before after (xs ++ done) next
  cut-behind before between after xs done next first second = record {
    grew = grown-on before.world between.world after.world xs done first.grew second.grew;
    up = sym (first.stand next.system).0 ∙ second.up;
    fell = second.fell;
    why = second.why;
    others = λ system differs.
        let now = second.others system differs in
        (now.0 ∙ (first.stand system).0, now.1 ∙ (first.stand system).1);
  }

  -- records, and then others, whole or cut
  pub appended-on : (before between after : KeptOf R A V) (xs ys : List Writing) → Wholly before.world between.world xs → (whole : Bool)
      → AppendedAs between after ys whole → AppendedAs before after (xs ++ ys) whole
  appended-on before between after xs ys first true second = wholly-on before.world between.world after.world xs ys first second
  appended-on before between after xs ys first false second =
      let done : List Writing = second.0 in
      let next : Writing = second.2 in (
        xs ++ done,
        second.1,
        next,
        ap (λ l. xs ++ l) second.3 ∙ sym (append_assoc xs done (next ∷ second.1)),
        cut-behind before between after xs done next first second.4,
      )

  -- of records that were cut, and others behind them, none is appended behind the cut
  pub cut-before : (before after : KeptOf R A V) (xs ys : List Writing) → AppendedAs before after xs false → AppendedAs before after (xs ++ ys) false
  cut-before before after xs ys first =
      (first.0, first.1 ++ ys, first.2, ap (λ l. l ++ ys) first.3 ∙ append_assoc first.0 (first.2 ∷ first.1) ys, first.4)

  -- a system that is up after it was before
  pub appended-up : (before after : KeptOf R A V) (xs : List Writing) (whole : Bool) → AppendedAs before after xs whole → (system : ℕ)
      → is_up after.world system ≡ true → is_up before.world system ≡ true
  appended-up before after xs true did system up = sym (did.stand system).0 ∙ up
  appended-up before after xs false did system up =
      let cut = did.4 in
      sym (cut.others system (λ same. both_ways (is_up after.world system) (ap (is_up after.world) same ∙ cut.fell) up)).0 ∙ up

  -- records, and others behind which a system was felled
  pub felled-behind : (before between after : KeptOf R A V) (xs ys : List Writing) (system : ℕ) → Wholly before.world between.world xs
      → Felled between after ys system → Felled before after (xs ++ ys) system
  felled-behind before between after xs ys system first second = record {
    grew = grown-on before.world between.world after.world xs ys first.grew second.grew;
    up = sym (first.stand system).0 ∙ second.up;
    fell = second.fell;
    nothing = second.nothing;
    told = second.told;
    others = λ other differs.
        let now = second.others other differs in
        (now.0 ∙ (first.stand other).0, now.1 ∙ (first.stand other).1);
  }

  -- a system that is up after one was felled was before
  felled-up : (before after : KeptOf R A V) (xs : List Writing) (system : ℕ) → Felled before after xs system → (other : ℕ)
      → is_up after.world other ≡ true → is_up before.world other ≡ true
  felled-up before after xs system did other up =
      sym (did.others other (λ same. both_ways (is_up after.world other) (ap (is_up after.world) same ∙ did.fell) up)).0 ∙ up

  -- nothing was appended, and then a unit was shipped
  pub shipped-behind : (before between after : KeptOf R A V) (letter : Letter) (given : Answer) (unit : AleUnit) → Wholly before.world between.world []
      → (whole : Bool) → ShippedSo between after letter given unit whole → ShippedSo before after letter given unit whole
  shipped-behind before between after letter given unit first true second =
      (appended-on before between after [] (shipment letter given unit) first true second.0, second.1)
  shipped-behind before between after letter given unit first false second = elim second [
    | inl cut ↦ inl (appended-on before between after [] (shipment letter given unit) first false cut)
    | inr felled ↦ inr (felled.0, felled-behind before between after [] (shipment letter given unit) unit.receiver first felled.1)
  ]

  -- a system that is up after a shipment was before
  pub shipped-up : (before after : KeptOf R A V) (letter : Letter) (given : Answer) (unit : AleUnit) (whole : Bool)
      → ShippedSo before after letter given unit whole → (system : ℕ) → is_up after.world system ≡ true → is_up before.world system ≡ true
  shipped-up before after letter given unit true did system up = appended-up before after (shipment letter given unit) true did.0 system up
  shipped-up before after letter given unit false did system up = elim did [
    | inl cut ↦ appended-up before after (shipment letter given unit) false cut system up
    | inr felled ↦ felled-up before after (shipment letter given unit) unit.receiver felled.1 system up
  ]

module _ {R A V : Type 0} (meaning : R → Meaning) (lawful : (r : R) → IsLawful (meaning r)) (disk : Disk V) (before after : KeptOf R A V)
    (is : IsLandscape meaning before.world) (e : Event) (step : is_step e ≡ true) where
  -- an event that happened let the logs grow by its record, where it has one
  pub happened-wholly : (found : Option Writing) → record_of (meaning before.world.rules) before.world e ≡ found
      → Happened (meaning before.world.rules) disk before after e → Wholly before.world after.world (listed found)
  happened-wholly found writes did = record {
    grew = subst (λ (w : World R). HaveGrown before.world w (listed found)) (sym did.world)
        (subst (λ f. HaveGrown before.world (happens (meaning before.world.rules) before.world e) (listed f)) writes
        (grown-event (meaning before.world.rules) (lawful before.world.rules) before.world is.safe e step));
    stand = λ system. (
      ap (λ (w : World R). is_up w system) did.world ∙ step-up (meaning before.world.rules) (lawful before.world.rules) before.world is.safe e step system,
      ap (λ (w : World R). rest_of w system) did.world
          ∙ step-rest (meaning before.world.rules) (lawful before.world.rules) before.world is.safe e step system,
    );
  }
