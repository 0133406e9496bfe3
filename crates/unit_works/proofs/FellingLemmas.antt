-- A system is felled: nothing has ended, and there are no claims.
use Rattle.std.specs.Option.{option_map}
use Rattle.std.proofs.Common.{◌≡◌, ◌≤◌, ◌&&◌, ℕ, Bool, true, false, Option, None, Some, List, [], inl, inr, refl, sym, ap, subst, ◌∙◌, arith}
use Rattle.std.proofs.lemmas.Option.{same_Some}
use Rattle.ale_volumes.specs.Disk.{Disk}
use Rattle.unit_core.specs.declared.ale_unit.AleUnit.{AleUnit}
use Rattle.trfc_protocol.specs.declared.event.Event.{Event}
use Rattle.trfc_protocol.specs.declared.event.Event.TheVariants.{Fall}
use Rattle.trfc_protocol.specs.declared.held.Held.{Held}
use Rattle.trfc_protocol.specs.declared.world.World.{World}
use Rattle.trfc_protocol.specs.Legal.{IsLawful}
use Rattle.trfc_protocol.specs.Meaning.{Meaning}
use Rattle.trfc_protocol.specs.Worlds.{is_up, log_of, rest_of, rest_or_none, state_of, up_or_not, with_fall}
use Rattle.unit_landscape.specs.Causes.{AreCausesOf, cause_in}
use Rattle.unit_landscape.specs.Crashes.{LeavesSound}
use Rattle.unit_landscape.specs.declared.cause.Cause.TheVariants.{Crashed}
use Rattle.unit_landscape.specs.Ends.{Happened}
use Rattle.unit_landscape.specs.Kept.{IsLandscape}
use Rattle.unit_landscape.specs.KeptWorlds.{KeptOf, cause_at}
use Rattle.unit_landscape.specs.LogAnswers.{KeepsDisk}
use Rattle.unit_landscape.proofs.CausesLemmas.{cause-told}
use Rattle.unit_landscape.proofs.EndsLemmas.{falls-up}
use Rattle.unit_works.specs.Claims.{AreOrGone}
use Rattle.unit_works.specs.declared.letter.Letter.{Letter}
use Rattle.unit_works.specs.Events.{falls_under, is_fall}
use Rattle.unit_works.specs.Finished.{finished_in}
use Rattle.unit_works.specs.Trips.{Felled}
use Rattle.unit_works.specs.Went.{WentOn}
use Rattle.unit_works.specs.steps.Felling.{FellIf}
use Rattle.unit_works.proofs.LogLemmas.{grown-same}
use Rattle.unit_works.proofs.StateLemmas.{fall-is_down, fall-log, fall-other, fall-rest}
use Rattle.unit_works.proofs.WentLemmas.{up-known, went-felled, went-same}
use Rattle.unit_works.proofs.WorldLemmas.{claims-fall, finished-fall}

-- a system that was up fell, and the landscape tells that it was felled
module _ {R A V : Type 0} (meaning : R → Meaning) (disk : Disk V) (before after : KeptOf R A V) (system : ℕ) (up : is_up before.world system ≡ true)
    (did : Happened (meaning before.world.rules) disk before after (Fall system None)) where
  fall-world : after.world ≡ with_fall before.world system None
  fall-world = did.world ∙ falls-up (meaning before.world.rules) before.world system up

  finished-felled : finished_in after.world ≡ finished_in before.world
  finished-felled = ap finished_in fall-world ∙ finished-fall before.world system None up

  claims-felled : after.world.claims ≡ []
  claims-felled = ap (λ (w : World R). w.claims) fall-world ∙ claims-fall before.world system None

  down-felled : is_up after.world system ≡ false
  down-felled = ap (λ (w : World R). is_up w system) fall-world ∙ fall-is_down before.world system up None

  told-felled : AreCausesOf before.world.systems before.causes → system ≤ 16 → cause_at after system ≡ Crashed
  told-felled are most = ap (λ all. cause_in all system) did.causes ∙ cause-told before.world.systems system Crashed before.causes are most

  is-felled : cause_at after system ≡ Crashed → Felled before after [] system
  is-felled told = record {
    grew = grown-same before.world after.world (λ other. ap (λ (w : World R). log_of w other) fall-world ∙ fall-log before.world system up None other);
    up = up;
    fell = down-felled;
    nothing = ap (λ (w : World R). rest_of w system) fall-world ∙ fall-rest before.world system up None;
    told = told;
    others = λ other differs.
        let state = ap (λ (w : World R). state_of w.systems other) fall-world ∙ fall-other before.world system up None other differs in
        (ap up_or_not state, ap rest_or_none state);
  }

-- the same of a call that answers whether the system was up
module _ {R A V : Type 0} (meaning : R → Meaning) (lawful : (r : R) → IsLawful (meaning r)) (disk : Disk V) (before after : KeptOf R A V) (system : ℕ)
    (is : IsLandscape meaning before.world) (are : AreCausesOf before.world.systems before.causes) where
  abbrev DidFall : Bool → Type 0
  DidFall fell = (fell ≡ true → Happened (meaning before.world.rules) disk before after (Fall system None)) × (fell ≡ false → after ≡ before)

  most : is_up before.world system ≡ true → system ≤ 16
  most up =
      let known = up-known (meaning before.world.rules) before.world is.safe system up in
      let within = known.1 in
      let few = (lawful before.world.rules).systems_most in
      omega arith

  pub fell-went : (fell : Bool) → fell ≡ is_up before.world system → DidFall fell → KeepsDisk before after
      → (disk.told → LeavesSound meaning disk before after) → WentOn meaning disk is_fall true before after
  fell-went true up did keeps leaves =
      went-felled meaning lawful disk is_fall before after is leaves (λ other kept works. works) true system (sym up) (did.0 refl) keeps
      (told-felled meaning disk before after system (sym up) (did.0 refl) are (most (sym up)))
  fell-went false up did keeps leaves = went-same meaning disk is_fall true before after (did.1 refl)

  pub fell-finished : (fell : Bool) → fell ≡ is_up before.world system → DidFall fell → finished_in after.world ≡ finished_in before.world
  fell-finished true up did = finished-felled meaning disk before after system (sym up) (did.0 refl)
  fell-finished false up did = ap (λ (k : KeptOf R A V). finished_in k.world) (did.1 refl)

  pub fell-claims : (fell : Bool) → fell ≡ is_up before.world system → DidFall fell → AreOrGone before.world after.world before.world.claims
  fell-claims true up did =
      inr (
        claims-felled meaning disk before after system (sym up) (did.0 refl),
        (system, sym up, down-felled meaning disk before after system (sym up) (did.0 refl)),
      )
  fell-claims false up did = inl (ap (λ (k : KeptOf R A V). k.world.claims) (did.1 refl))

  pub fell-if : (fell : Bool) → fell ≡ is_up before.world system → DidFall fell → FellIf before after (is_up before.world system) system
  fell-if true up did =
      subst (λ b. FellIf before after b system) up (
        is-felled meaning disk before after system (sym up) (did.0 refl)
            (told-felled meaning disk before after system (sym up) (did.0 refl) are (most (sym up))),
        claims-felled meaning disk before after system (sym up) (did.0 refl),
      )
  fell-if false up did = subst (λ b. FellIf before after b system) up (did.1 refl)

-- ---- the receiver of a unit falls under a letter

module _ {R A V : Type 0} (letter : Letter) (unit : AleUnit) where
  -- one that fells none leaves it
  pub fall-off : (kept : KeptOf R A V) → falls_under letter ≡ false
      → FellIf kept kept (falls_under letter && is_up kept.world unit.receiver) unit.receiver
  fall-off kept off = subst (λ b. FellIf kept kept (b && is_up kept.world unit.receiver) unit.receiver) (sym off) refl

  -- one that does fells it where it is up
  pub fall-on : (before after : KeptOf R A V) (system : ℕ) (found : Option AleUnit) (receiver : Option ℕ) → falls_under letter ≡ true
      → receiver ≡ option_map (λ (u : AleUnit). u.receiver) found → receiver ≡ Some system → found ≡ Some unit
      → FellIf before after (is_up before.world system) system
      → FellIf before after (falls_under letter && is_up before.world unit.receiver) unit.receiver
  fall-on before after system found receiver on is some named fell =
      let same : unit.receiver ≡ system =
      same_Some unit.receiver system (sym (ap (option_map (λ (u : AleUnit). u.receiver)) named) ∙ sym is ∙ some) in
      subst (λ b. FellIf before after (b && is_up before.world unit.receiver) unit.receiver) (sym on)
      (subst (λ s. FellIf before after (is_up before.world s) s) (sym same) fell)

-- a unit that was committed has one
pub fall-known : (unit : AleUnit) (found : Option AleUnit) (receiver : Option ℕ) → receiver ≡ option_map (λ (u : AleUnit). u.receiver) found
    → receiver ≡ None → found ≡ Some unit → ⊥
fall-known unit found receiver is none named =
    let wrong : Some unit.receiver ≡ None = sym (ap (option_map (λ (u : AleUnit). u.receiver)) named) ∙ sym is ∙ none in cc
