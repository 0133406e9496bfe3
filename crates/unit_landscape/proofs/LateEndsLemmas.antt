-- What comes of a late request, by the answer of its receiver and by how its record was appended.
use Rattle.std.specs.Prelude.{◌≢◌, Contains, Result, Ok, Err}
use Rattle.std.specs.Option.{option_and_then}
use Rattle.std.proofs.Common.{◌≡◌, ℕ, ◌+◌, Bool, true, false, not, cond, Option, Some, None, List, [], ◌∷◌, ◌++◌, inl, inr, refl, sym, ap, subst}
use Rattle.std.proofs.Common.{◌∙◌}
use Rattle.std.proofs.lemmas.Bool.{cases_Bool}
use Rattle.ale_base.specs.Tid.{TidOf}
use Rattle.ale_base.proofs.MemberLemmas.{Contains-here, Contains-there}
use Rattle.ale_volumes.specs.Disk.{Disk, LeftSince}
use Rattle.ale_volumes.specs.Volume.{IsImage}
use Rattle.unit_core.specs.declared.ale_unit.AleUnit.{AleUnit}
use Rattle.unit_core.specs.declared.records.Record.{Record}
use Rattle.unit_core.specs.declared.records.Record.TheVariants as log
use Rattle.unit_core.specs.Filters.{received}
use Rattle.unit_core.specs.Queues.{is_among}
use Rattle.trfc_protocol.specs.declared.world.World.{World}
use Rattle.trfc_protocol.specs.declared.held.Held.{Held}
use Rattle.trfc_protocol.specs.declared.held.HeldKind.TheVariants.{Direct}
use Rattle.trfc_protocol.specs.declared.answer.Answer.{Answer}
use Rattle.trfc_protocol.specs.declared.answer.Answer.TheVariants as answer
use Rattle.trfc_protocol.specs.declared.event.Event.{Event}
use Rattle.trfc_protocol.specs.declared.event.Event.TheVariants as event
use Rattle.trfc_protocol.specs.Meaning.{Meaning}
use Rattle.trfc_protocol.specs.Legal.{IsLawful, is_empty}
use Rattle.trfc_protocol.specs.Worlds.{log_of, is_up, offers_now, committed_unit, is_claimed, with_claim}
use Rattle.trfc_protocol.specs.Offered.{answer_to}
use Rattle.trfc_protocol.specs.RecordOf.{Writing, record_of_answer}
use Rattle.trfc_protocol.specs.Happens.{written, with_run}
use Rattle.trfc_protocol.specs.Safe.{Safe}
use Rattle.trfc_protocol.proofs.ClaimLemmas.{claim_of-Contains}
use Rattle.trfc_protocol.proofs.SafeLemmas.{committed_unit-is}
use Rattle.unit_landscape.specs.declared.append_end.AppendEnd.{AppendEnd}
use Rattle.unit_landscape.specs.declared.append_end.AppendEnd.TheVariants.{Volume, Full as TooLong, Before, After}
use Rattle.unit_landscape.specs.OnVolumes.{AreOnVolumes}
use Rattle.unit_landscape.specs.KeptWorlds.{KeptOf}
use Rattle.unit_landscape.specs.LogAnswers.{KeepsVolumes}
use Rattle.unit_landscape.specs.Kept.{IsLandscape}
use Rattle.unit_landscape.specs.Writes.{DiskAs, Appends}
use Rattle.unit_landscape.specs.Ends.{Happened, AppendsAs}
use Rattle.unit_landscape.specs.Appending.{at, Arrives}
use Rattle.unit_landscape.specs.Late.{IsLate, ComesLate, record_of_late, late_record, begun_by, LateAs, late_of, IsOfRun, IsGivenBack, GivesBack}
use Rattle.unit_landscape.specs.Claims.{without_last_claim}
use Rattle.unit_landscape.specs.InStep.{AreInStepWith}
use Rattle.unit_landscape.proofs.ClaimsLemmas.{claim-undone}
use Rattle.unit_landscape.specs.declared.answers.Late.TheVariants.{New, Down}
use Rattle.unit_landscape.proofs.HappenedLemmas.{happened-none, writes-nothing}
use Rattle.unit_landscape.proofs.ArrivingLemmas.{arrival-record, arrival-after}
use Rattle.unit_landscape.proofs.EndsLemmas.{too_long-same}
use Rattle.unit_landscape.proofs.FinishingLemmas.{direct-appends}
use Rattle.unit_landscape.proofs.LateLemmas.{late_may_arrive}

-- ---- the answer of the receiver

-- where there is no direct run no receiver is busy
never_busy : (up among direct offers : Bool)
    → cond (not up) answer.Down (cond among answer.Known (cond false answer.Busy (cond direct
    (cond offers answer.Run answer.SysFail) answer.New))) ≡ answer.Busy → ⊥
never_busy false among direct offers is = cc
never_busy true true direct offers is = cc
never_busy true false true true is = cc
never_busy true false true false is = cc
never_busy true false false offers is = cc

module _ {R : Type 0} (rules : Meaning) (world : World R) (unit : AleUnit) where
  -- no direct run is claimed, so the receiver is not busy
  pub not_busy : is_claimed Direct unit.tid world.claims ≡ false → answer_to rules world unit ≡ answer.Busy → ⊥
  not_busy alone is =
      let up = is_up world unit.receiver in
      let among = is_among unit.tid (received (log_of world unit.receiver)) in
      let offers = offers_now rules world unit.receiver unit.function in
      never_busy up among (is_empty unit.inq) offers
      (sym (ap (λ b. cond (not up) answer.Down (cond among answer.Known
      (cond b answer.Busy (cond (is_empty unit.inq) (cond offers answer.Run answer.SysFail) answer.New)))) alone) ∙ is)

  -- a receiver that does not answer that it is down is up
  answer-up : (given : Answer) → answer_to rules world unit ≡ given → given ≢ answer.Down → is_up world unit.receiver ≡ true
  answer-up given is other =
      elim (cases_Bool (is_up world unit.receiver)) [
        | inl up ↦ up
        | inr down ↦ absurd (other (sym is ∙ ap (λ b. cond (not b) answer.Down (cond (is_among unit.tid (received (log_of world unit.receiver))) answer.Known
            (cond (is_claimed Direct unit.tid world.claims) answer.Busy
            (cond (is_empty unit.inq) (cond (offers_now rules world unit.receiver unit.function) answer.Run answer.SysFail) answer.New)))) down))
      ]

  -- the record of a late request is that of its answer
  pub late-recorded : (tid : TidOf) (given : Answer) → committed_unit rules world tid ≡ Some unit → answer_to rules world unit ≡ given
      → late_record rules world tid ≡ record_of_late unit given
  late-recorded tid given named is =
      ap (option_and_then (λ (u : AleUnit). record_of_late u (answer_to rules world u))) named ∙ ap (record_of_late unit) is

module _ {R : Type 0} (rules : Meaning) (lawful : IsLawful rules) (world : World R) (safe : Safe rules world) where
  -- the unit of a late request has its id
  pub late-its : (tid : TidOf) (unit : AleUnit) → IsLate rules world tid unit → unit.tid ≡ tid
  late-its tid unit late = (committed_unit-is rules lawful world safe tid unit late.committed).1

  pub late-comes : (tid : TidOf) (unit : AleUnit) (given : Answer) → IsLate rules world tid unit → answer_to rules world unit ≡ given
      → ComesLate rules world unit given
  late-comes tid unit given late is = record { late = subst (λ t. IsLate rules world t unit) (sym (late-its tid unit late)) late; answers = is }

  -- a unit that comes late arrives
  pub comes-arrives : (unit : AleUnit) (given : Answer) → ComesLate rules world unit given → Arrives rules world unit given
  comes-arrives unit given comes = record {
    committed = comes.late.committed;
    may = late_may_arrive rules lawful world safe unit.tid unit comes.late;
    answer = comes.answers;
  }

-- where no volume was called all are as they were, whatever may come late
pub late-still : {R A V : Type 0} (disk : Disk V)
    (before : KeptOf R A V)
    → (disk.told → (vols : V) (n : ℕ) (image : List ℕ) → LeftSince disk vols n (disk.moment vols) image → IsImage (disk.volume vols n) image)
    → AreOnVolumes disk before.vols (before.world).systems before.journals → (rules : Meaning) (tid : TidOf)
    → DiskAs disk before before (late_record rules before.world tid)
late-still disk before only_now on_volumes rules tid = by_unit (committed_unit rules before.world tid)
  where
    by_answer : (unit : AleUnit) (given : Answer) → answer_to rules before.world unit ≡ given
        → DiskAs disk before before (record_of_late unit given)
    by_answer unit answer.New is =
        writes-nothing disk before before only_now on_volumes (at unit.receiver (log.Accept unit))
        (answer-up rules before.world unit answer.New is (λ same. cc)) (record { journals = refl; vols = refl; causes = refl })
    by_answer unit answer.Run is =
        writes-nothing disk before before only_now on_volumes (at unit.receiver (log.Direct unit))
        (answer-up rules before.world unit answer.Run is (λ same. cc)) (record { journals = refl; vols = refl; causes = refl })
    by_answer unit answer.Down is = record { journals = refl; vols = refl; causes = refl }
    by_answer unit answer.Known is = record { journals = refl; vols = refl; causes = refl }
    by_answer unit answer.Busy is = record { journals = refl; vols = refl; causes = refl }
    by_answer unit answer.SysFail is = record { journals = refl; vols = refl; causes = refl }

    by_unit : (found : Option AleUnit) → DiskAs disk before before
        (option_and_then (λ unit. record_of_late unit (answer_to rules before.world unit)) found)
    by_unit None = record { journals = refl; vols = refl; causes = refl }
    by_unit (Some unit) = by_answer unit (answer_to rules before.world unit) refl

-- an arrival that appends nothing and claims nothing leaves all as it is
pub arrived-still : {R A V : Type 0} (rules : Meaning) (disk : Disk V) (before : KeptOf R A V) (unit : AleUnit) (given : Answer)
    → Arrives rules before.world unit given
    → record_of_answer unit given ≡ None → with_run before.world unit given ≡ before.world → Happened rules disk before before (event.Arrive unit.tid)
arrived-still rules disk before unit given arrives none stays =
    happened-none rules disk before before (event.Arrive unit.tid) (arrival-record rules before.world unit given arrives ∙ none)
    (sym (arrival-after rules before.world unit given arrives ∙ ap (λ found. written found (with_run before.world unit given)) none ∙ stays))
    (record { journals = refl; vols = refl; causes = refl }) refl

-- ---- a unit is taken in

-- what comes of a unit that is taken in, by how its record was appended
pub taken-as : {R A V T : Type 0} (rules : Meaning) (disk : Disk V) (before after : KeptOf R A V) (unit : AleUnit)
    → ComesLate rules before.world unit answer.New
    → (result : Result T AppendEnd) → AppendsAs rules disk before after (event.Arrive unit.tid) (at unit.receiver (log.Accept unit)) result
    → LateAs rules disk before after unit.tid (late_of result)
taken-as rules disk before then unit comes (Ok done) ends = (unit, comes.late, inl (comes.answers, ends))
taken-as rules disk before then unit comes (Err Volume) ends = (unit, comes.late, inr (inl (comes.answers, ends)))
taken-as rules disk before then unit comes (Err (TooLong size)) ends = (unit, comes.late, inl (comes.answers, ends))
taken-as rules disk before then unit comes (Err Before) ends = inl ends
taken-as rules disk before then unit comes (Err After) ends = inr (unit, comes.late, inl (comes.answers, ends))

-- ---- a unit is run

contains_last : {X : Type 0} (xs : List X) (x : X) → Contains (xs ++ x ∷ []) x
contains_last [] x = Contains-here x []
contains_last (y ∷ ys) x = Contains-there y (ys ++ x ∷ []) x (contains_last ys x)

module _ {R A V : Type 0} (before : KeptOf R A V) (unit : AleUnit) where
  abbrev with_run_claimed : World R
  with_run_claimed = with_claim before.world unit.tid unit.receiver Direct

  -- what is kept as the claim of a run was made
  abbrev pub claimed_by : KeptOf R A V
  claimed_by = record before { world = with_run_claimed }

  -- a claim that was made leaves all else
  pub claimed-is : (mid : KeptOf R A V) → mid.world ≡ with_run_claimed → mid.tables ≡ before.tables → KeepsVolumes before mid → mid ≡ claimed_by
  claimed-is mid world tables keeps = λ i.
      let k : KeptOf R A V =
      record { world = world i; tables = tables i; journals = keeps.journals i; vols = keeps.vols i; causes = keeps.causes i } in k

  -- it is what is kept as the run begins
  pub claimed-begun : (rules : Meaning) → Arrives rules before.world unit answer.Run → claimed_by ≡ begun_by rules before unit.tid
  claimed-begun rules arrives = ap (λ w. let k : KeptOf R A V = record before { world = w } in k)
      (sym (arrival-after rules before.world unit answer.Run arrives))

  -- the record of the run ends its claim
  pub run-appends : (rules : Meaning) → IsLawful rules → Safe rules with_run_claimed → ComesLate rules before.world unit answer.Run
      → Appends rules with_run_claimed unit.receiver (log.Direct unit) (Some before.world.next_number) (event.Finish before.world.next_number)
  run-appends rules lawful safe comes =
      let held : Held = record { number = before.world.next_number; tid = unit.tid; system = unit.receiver; kind = Direct } in
      direct-appends rules lawful with_run_claimed safe held
      (claim_of-Contains with_run_claimed.claims held safe.apart (contains_last before.world.claims held)) refl unit comes.late.committed

-- where the record of a run was not appended and no system fell, its claim was made last
pub run-known : {R A V T : Type 0} (meaning : R → Meaning) (stands : A → List Record → Type 0) (rules : Meaning) (disk : Disk V)
    (before last : KeptOf R A V) (unit : AleUnit)
    → IsLandscape meaning before.world → AreInStepWith stands meaning before.world before.tables → (e : Event) (it : Writing)
    → (result : Result T AppendEnd) → AppendsAs rules disk (claimed_by before unit) last e it result → IsGivenBack meaning stands before last result
run-known meaning stands rules disk before last unit is in_step e it (Ok done) ends undone = cc
run-known meaning stands rules disk before last unit is in_step e it (Err Volume) ends undone = cc
run-known {R} {A} {V} meaning stands rules disk before last unit is in_step e it (Err (TooLong size)) ends undone = record {
  tid = unit.tid;
  system = unit.receiver;
  claimed = ap (λ (k : KeptOf R A V). k.world) ends.same;
  landscape = is;
  in_step = subst (AreInStepWith stands meaning before.world) (sym (ap (λ (k : KeptOf R A V). k.tables) ends.same)) in_step;
}
run-known meaning stands rules disk before last unit is in_step e it (Err Before) ends undone = record {
  tid = unit.tid;
  system = unit.receiver;
  claimed = ends.world;
  landscape = is;
  in_step = subst (AreInStepWith stands meaning before.world) (sym ends.tables) in_step;
}
run-known meaning stands rules disk before last unit is in_step e it (Err After) ends undone = cc

-- a claim that was taken back leaves the world before it
pub given-back : {R A V : Type 0} (meaning : R → Meaning) (stands : A → List Record → Type 0) (before last : KeptOf R A V) (after : World R)
    → IsOfRun meaning stands before last → after ≡ without_last_claim last.world → after ≡ before.world
given-back meaning stands before last after run back = back ∙ ap without_last_claim run.claimed ∙ claim-undone before.world run.tid run.system Direct

module _ {R A V : Type 0} (rules : Meaning) (lawful : IsLawful rules) (disk : Disk V) (before last after : KeptOf R A V)
    (safe : Safe rules before.world) (unit : AleUnit)
    (comes : ComesLate rules before.world unit answer.Run) where
  -- what comes of a unit that is run, by how its record was appended
  pub ran-as : {T : Type 0} → (result : Result T AppendEnd)
      → AppendsAs rules disk (begun_by rules before unit.tid) last (event.Finish before.world.next_number) (at unit.receiver (log.Direct unit)) result
      → GivesBack before last after result → LateAs rules disk before after unit.tid (late_of result)
  ran-as (Ok done) ends gives = subst (λ k. LateAs rules disk before k unit.tid (Ok New)) (sym (gives.done refl)) (unit, comes.late, inr (comes.answers, ends))
  ran-as (Err Volume) ends gives = subst (λ k. LateAs rules disk before k unit.tid (Ok Down)) (sym (gives.done refl))
      (unit, comes.late, inr (inr (comes.answers, ends)))
  ran-as (Err (TooLong size)) ends gives =
      let back = gives.undone refl in
      let tables = back.1 ∙ ap (λ (k : KeptOf R A V). k.tables) ends.same in
      let journals = back.2.journals ∙ ap (λ (k : KeptOf R A V). k.journals) ends.same in
      let vols = back.2.vols ∙ ap (λ (k : KeptOf R A V). k.vols) ends.same in
      let causes = back.2.causes ∙ ap (λ (k : KeptOf R A V). k.causes) ends.same in (
        unit,
        comes.late,
        inr (
          comes.answers,
          record {
            same = λ i.
                let k : KeptOf R A V = record { world = back.0 i; tables = tables i; journals = journals i; vols = vols i; causes = causes i } in k;
            long = too_long-same (begun_by rules before unit.tid) before (at unit.receiver (log.Direct unit)) size
                (sym (ap (λ (w : World R). log_of w unit.receiver)
                (arrival-after rules before.world unit answer.Run (comes-arrives rules lawful before.world safe unit answer.Run comes))))
                refl refl ends.long;
          },
        ),
      )
  ran-as (Err Before) ends gives = let back = gives.undone refl in inl (record {
    world = back.0;
    tables = back.1 ∙ ends.tables;
    journals = back.2.journals ∙ ends.journals;
    no_faults = λ place. ap (λ vols. disk.faults vols place) back.2.vols ∙ ends.no_faults place;
    causes = back.2.causes ∙ ends.causes;
  })
  ran-as {T} (Err After) ends gives =
      subst (λ k. LateAs rules disk before k unit.tid (late_of {T = T} (Err After))) (sym (gives.done refl)) (inr (unit, comes.late, inr (comes.answers, ends)))
