-- A system fell as it was to append the record of an event: nothing more has ended, and there are no claims.
use Rattle.std.proofs.Common.{◌≡◌, ◌⊎◌, ◌-◌, ℕ, true, Option, Some, None, List, [], inl, inr, sym, ap, subst, ◌∙◌}
use Rattle.std.proofs.lemmas.Bool.{cond-true}
use Rattle.ale_volumes.specs.Disk.{Disk}
use Rattle.unit_core.specs.declared.records.Record.{Record}
use Rattle.trfc_protocol.specs.declared.event.Event.{Event}
use Rattle.trfc_protocol.specs.declared.held.Held.{Held}
use Rattle.trfc_protocol.specs.declared.world.World.{World}
use Rattle.trfc_protocol.specs.Keeping.{may_keep}
use Rattle.trfc_protocol.specs.Legal.{IsLawful}
use Rattle.trfc_protocol.specs.Meaning.{Meaning}
use Rattle.trfc_protocol.specs.RecordOf.{Writing, record_of}
use Rattle.trfc_protocol.specs.Worlds.{is_up, log_of, rest_of, rest_or_none, state_of, up_or_not, with_fall}
use Rattle.trfc_protocol.proofs.KeepingLemmas.{kept-is}
use Rattle.trfc_protocol.proofs.RecordLemmas.{MayWrite-record}
use Rattle.unit_journal.specs.declared.journals.SystemJournals.{SystemJournals}
use Rattle.unit_journal.specs.OnDisk.{moments_at, next_moment}
use Rattle.unit_landscape.specs.KeptWorlds.{KeptOf}
use Rattle.unit_landscape.specs.Ends.{Failed, FellInstead, Overflowed}
use Rattle.unit_landscape.specs.Kept.{IsLandscape}
use Rattle.unit_landscape.proofs.EndsLemmas.{falls-up, too_long-same}
use Rattle.unit_works.specs.Claims.{AreOrGone}
use Rattle.unit_works.specs.Finished.{finished_in}
use Rattle.unit_works.specs.Trips.{CutAt, DidNotFit, HasFailed}
use Rattle.unit_works.specs.steps.Claims.{WasCut}
use Rattle.unit_works.proofs.LogLemmas.{grown-same, listed}
use Rattle.unit_works.proofs.StateLemmas.{fall-is_down, fall-log, fall-other, fall-rest}
use Rattle.unit_works.proofs.WorldLemmas.{finished-fall, claims-fall}

-- a system that was up fell
record HasFallen {R : Type 0} (before after : World R) : Type 0 where
  system : ℕ
  rest : Option Record
  up : is_up before system ≡ true
  world : after ≡ with_fall before system rest

module _ {R A V : Type 0} (meaning : R → Meaning) (lawful : (r : R) → IsLawful (meaning r)) (disk : Disk V) (before after : KeptOf R A V)
    (is : IsLandscape meaning before.world) (e : Event) (did : FellInstead (meaning before.world.rules) disk before after e) where
  pub fell-up : is_up before.world (did.0).system ≡ true
  fell-up = (MayWrite-record (meaning before.world.rules) (lawful before.world.rules) before.world is.safe e did.0 did.1).up

  -- its volume failed
  pub fell-failed : Failed (meaning before.world.rules) disk before after did.0 → after.world ≡ with_fall before.world (did.0).system (Some (did.0).next)
  fell-failed failed =
      let it : Writing = did.0 in
      failed.world
      ∙ cond-true (may_keep (meaning before.world.rules) before.world it.system it.next) (with_fall before.world it.system (Some it.next)) before.world
      ((kept-is (meaning before.world.rules) (lawful before.world.rules) before.world is.safe it.system it.next).1 (e, did.1))

  -- or the record did not fit
  pub fell-full : Overflowed (meaning before.world.rules) disk before after did.0 → after.world ≡ with_fall before.world (did.0).system None
  fell-full full = full.world ∙ falls-up (meaning before.world.rules) before.world (did.0).system fell-up

  fell : HasFallen before.world after.world
  fell = elim did.2 [
    | inl failed ↦ record { system = (did.0).system; rest = Some (did.0).next; up = fell-up; world = fell-failed failed }
    | inr full ↦ record { system = (did.0).system; rest = None; up = fell-up; world = fell-full full }
  ]

  pub finished-fell : finished_in after.world ≡ finished_in before.world
  finished-fell = let f = fell in ap finished_in f.world ∙ finished-fall before.world f.system f.rest f.up

  pub claims-fell : after.world.claims ≡ []
  claims-fell = let f = fell in ap (λ (w : World R). w.claims) f.world ∙ claims-fall before.world f.system f.rest

  -- it was to append this
  abbrev Given : Writing
  Given = did.0

  -- so nothing was appended, where it fell so
  cut-at : (rest : Option Record) → after.world ≡ with_fall before.world (did.0).system rest
      → HasFailed after Given ⊎ DidNotFit after Given → CutAt before after [] Given
  cut-at rest world why = record {
    grew = grown-same before.world after.world (λ system. ap (λ (w : World R). log_of w system) world
        ∙ fall-log before.world (did.0).system fell-up rest system);
    up = fell-up;
    fell = ap (λ (w : World R). is_up w (did.0).system) world ∙ fall-is_down before.world (did.0).system fell-up rest;
    why = why;
    others = λ system differs.
        let state = ap (λ (w : World R). state_of w.systems system) world
        ∙ fall-other before.world (did.0).system fell-up rest system differs in
        (ap up_or_not state, ap rest_or_none state);
  }

  finds : (rest : Option Record) → after.world ≡ with_fall before.world (did.0).system rest → rest_of after.world (did.0).system ≡ rest
  finds rest world = ap (λ (w : World R). rest_of w (did.0).system) world ∙ fall-rest before.world (did.0).system fell-up rest

  -- its volume failed, and it may find the record; or the record did not fit
  pub fell-cut : CutAt before after [] Given
  fell-cut = elim did.2 [
    | inl failed ↦
        let world = fell-failed failed in
        cut-at (Some (did.0).next) world (inl (record { finds = finds (Some (did.0).next) world; told = failed.told }))
    | inr full ↦
        let world = fell-full full in
        cut-at None world (inr (record {
          nothing = finds None world;
          size = full.size;
          long = too_long-same before after Given full.size
              (ap (λ (w : World R). log_of w (did.0).system) world ∙ fall-log before.world (did.0).system fell-up None (did.0).system)
              (ap (λ (j : SystemJournals). moments_at j ((did.0).system - 1)) full.journals)
              (ap (λ (j : SystemJournals). next_moment j ((did.0).system - 1)) full.journals) full.long;
          told = full.told;
        }))
  ]

  -- there are no claims, and it is down
  pub gone-fell : (these : List Held) → AreOrGone before.world after.world these
  gone-fell these = let cut = fell-cut in inr (claims-fell, ((did.0).system, fell-up, cut.fell))

  pub fell-was_cut : (added : List Writing) → listed (record_of (meaning before.world.rules) before.world e) ≡ added → WasCut before after added
  fell-was_cut added lists = record {
    cut = ([], [], Given, sym lists ∙ ap listed did.1, fell-cut);
    claims = claims-fell;
  }
