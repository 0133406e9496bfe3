-- How a record of an event ends, as the event says.
use Rattle.std.specs.Prelude.{Result, Ok, Err, IsErrOf}
use Rattle.std.proofs.Common.{◌≡◌, ◌≤◌, ℕ, ◌-◌, true, cond, Option, Some, None, List, inl, inr, ◌⊎◌, refl, sym, ap, subst, ◌∙◌, arith}
use Rattle.std.proofs.lemmas.Bool.{cases_eq}
use Rattle.std.proofs.lemmas.Option.{same_Some}
use Rattle.ale_base.specs.declared.out_of_memory.OutOfMemory.{OutOfMemory}
use Rattle.ale_volumes.specs.Disk.{Disk}
use Rattle.ale_volumes.specs.Faults.{CountsFault}
use Rattle.unit_core.specs.declared.records.Record.{Record}
use Rattle.trfc_protocol.specs.declared.world.World.{World}
use Rattle.trfc_protocol.specs.declared.event.Event.{Event}
use Rattle.trfc_protocol.specs.declared.event.Event.TheVariants.{Fall}
use Rattle.trfc_protocol.specs.Meaning.{Meaning}
use Rattle.trfc_protocol.specs.Legal.{IsLawful}
use Rattle.trfc_protocol.specs.Worlds.{is_up, log_of, with_record, with_fall, with_state, state_down, without_claim}
use Rattle.trfc_protocol.specs.RecordOf.{Writing, record_of}
use Rattle.trfc_protocol.specs.Happens.{happens}
use Rattle.trfc_protocol.proofs.NextLemmas.{Next-without_claim}
use Rattle.trfc_protocol.proofs.EventLemmas.{Safe-step}
use Rattle.trfc_protocol.proofs.KeepingLemmas.{kept-is}
use Rattle.unit_codec.specs.Entries.{entry_with}
use Rattle.unit_journal.specs.OnDisk.{entries_at, entries_of, length_with, moments_at, next_moment}
use Rattle.unit_landscape.specs.Joining.{without_named, after_record}
use Rattle.unit_landscape.specs.declared.append_end.AppendEnd.{AppendEnd}
use Rattle.unit_landscape.specs.declared.append_end.AppendEnd.TheVariants.{Volume, Full, Before, After}
use Rattle.unit_landscape.specs.KeptWorlds.{KeptOf, IsKept}
use Rattle.unit_landscape.specs.declared.cause.Cause.TheVariants.{Faulted, Overran}
use Rattle.unit_landscape.specs.Causes.{AreCausesOf, cause_in, with_cause, told_by}
use Rattle.unit_landscape.proofs.CausesLemmas.{cause-told, causes-appending}
use Rattle.unit_landscape.proofs.InStepLemmas.{stands_up}
use Rattle.unit_landscape.specs.AppendEnds.{AppendedAs, JournalsAs, UnchangedAs, FullAs}
use Rattle.unit_landscape.proofs.OnVolumesLemmas.{up-written}
use Rattle.unit_landscape.specs.Kept.{CommitWritable, IsLandscape}
use Rattle.unit_landscape.specs.Writes.{Appends, IsTooLong, MomentsAs}
use Rattle.unit_landscape.specs.Ends.{Happened, Overflowed, IsFull, Stays, FellBehind, FellInstead, IsShort, AppendsAs}
use Rattle.unit_landscape.specs.Appending.{at, WrittenAs, EndsSo}
use Rattle.unit_landscape.specs.declared.appending.Appended.{Appended}
use Rattle.unit_landscape.specs.declared.appending.Appended.TheVariants.{Written, Fallen}
use Rattle.unit_landscape.proofs.EventLemmas.{event-after, event-up}

-- ---- a landscape stays one

-- an event leaves a landscape one
pub landscape-step : {R : Type 0} (meaning : R → Meaning) → ((r : R) → IsLawful (meaning r)) → (world after : World R) (e : Event) → IsLandscape meaning world
    → after ≡ happens (meaning world.rules) world e → IsLandscape meaning after
landscape-step {R} meaning lawful world after e is same =
    let step = Safe-step meaning lawful world after e is.safe same in
    record { safe = step.1; writable = subst (λ r. CommitWritable (meaning r)) (sym step.0) is.writable }

-- so do two
pub landscape-steps : {R : Type 0} (meaning : R → Meaning) → ((r : R) → IsLawful (meaning r)) → (world after : World R) (first second : Event) →
    IsLandscape meaning world
    → after ≡ happens (meaning world.rules) (happens (meaning world.rules) world first) second → IsLandscape meaning after
landscape-steps {R} meaning lawful world then first second is same =
    let between : World R = happens (meaning world.rules) world first in
    let step = Safe-step meaning lawful world between first is.safe refl in
    landscape-step meaning lawful between then second (landscape-step meaning lawful world between first is refl)
    (same ∙ ap (λ r. happens (meaning r) between second) (sym step.0))

-- a world that is as it was
pub landscape-same : {R : Type 0} (meaning : R → Meaning) (world after : World R) → after ≡ world → IsLandscape meaning world → IsLandscape meaning after
landscape-same meaning world then same is = subst (IsLandscape meaning) (sym same) is

-- a claim that is given up
pub landscape-released : {R : Type 0} (meaning : R → Meaning) → ((r : R) → IsLawful (meaning r)) → (world after : World R) (number : ℕ) →
    IsLandscape meaning world
    → after ≡ without_claim world number → IsLandscape meaning after
landscape-released {R} meaning lawful world after number is same =
    subst (IsLandscape meaning) (sym same)
    (record { safe = (Next-without_claim (meaning world.rules) (lawful world.rules) world is.safe number).0; writable = is.writable })

-- ---- falls

-- a system that is up falls and leaves nothing
pub falls-up : {R : Type 0} (rules : Meaning) (world : World R) (system : ℕ) → is_up world system ≡ true
    → happens rules world (Fall system None) ≡ with_fall world system None
falls-up {R} rules world system up = ap (λ b. cond b (with_fall world system None) (with_state world system (state_down None))) up

-- with all claims gone it is one which went before
fall-without : {R : Type 0} (world : World R) (system : ℕ) (claim : Option ℕ) → with_fall (without_named world claim) system None ≡ with_fall world system None
fall-without world system None = refl
fall-without world system (Some number) = refl

without-up : {R : Type 0} (world : World R) (system : ℕ) (claim : Option ℕ) → is_up (without_named world claim) system ≡ is_up world system
without-up world system None = refl
without-up world system (Some number) = refl

-- ---- counts of faults

-- where no call failed no count changed
counts-none : (failed : Type 0) (before after : ℕ → ℕ) (n : ℕ) → ¬ failed → CountsFault failed before after n → (place : ℕ) → after place ≡ before place
counts-none failed before then n none counts place =
    elim (cases_eq place n) [
      | inl same ↦ subst (λ m. then m ≡ before m) (sym same) (counts.quiet none)
      | inr differs ↦ counts.others place differs
    ]

module _ {R A V : Type 0} (meaning : R → Meaning) (lawful : (r : R) → IsLawful (meaning r)) (stands : A → List Record → Type 0) (disk : Disk V)
    (before : KeptOf R A V) (is : IsLandscape meaning (before.world)) where
  abbrev rules : Meaning
  rules = meaning (before.world).rules

  module _ (now : KeptOf R A V) (system : ℕ) (next : Record) (claim : Option ℕ) (e : Event) (does : Appends rules before.world system next claim e) where
    up : is_up before.world system ≡ true
    up = event-up rules (lawful (before.world).rules) before.world is.safe is.writable e system next claim does

    behind : happens rules before.world e ≡ after_record before.world system next claim
    behind = event-after rules (lawful (before.world).rules) before.world is.safe is.writable e system next claim does

    -- a system that falls as it writes what an event appends
    falls-writing : happens rules before.world (Fall system (Some next)) ≡ with_fall before.world system (Some next)
    falls-writing =
        ap (λ b. cond b (with_fall before.world system (Some next)) before.world)
        ((kept-is rules (lawful (before.world).rules) before.world is.safe system next).1 (e, does.writes))

    -- a system that falls behind what an event appended
    falls-behind : with_fall (with_record before.world system next) system None ≡ happens rules (happens rules before.world e) (Fall system None)
    falls-behind =
        sym (ap (λ (w : World R). happens rules w (Fall system None)) behind
        ∙ falls-up rules (after_record before.world system next claim) system
        (without-up (with_record before.world system next) system claim ∙ up-written before.world system next up)
        ∙ fall-without (with_record before.world system next) system claim)

    -- its number is one of the sixteen
    number_most : IsKept meaning stands disk before → system ≤ 16
    number_most kept =
        let few = kept.on_volumes.few in
        let most = (stands_up before.world.systems system up).most in
        omega arith

    its : (it : Writing) → record_of rules before.world e ≡ Some it → at system next ≡ it
    its it same = same_Some (at system next) it (sym does.writes ∙ same)

    -- how the appending of its record ends
    pub ends-as : {T : Type 0} → (result : Result T AppendEnd) → IsKept meaning stands disk before
        → AppendedAs before.world now.world system next claim result → JournalsAs (system - 1) before.journals now.journals result
        → UnchangedAs before now result → now.causes ≡ told_by before.causes system result →
        FullAs (system - 1) before.journals (log_of before.world system) next result
        → CountsFault (IsErrOf result Volume) (disk.faults before.vols) (disk.faults now.vols) (system - 1)
        → AppendsAs rules disk before now e (at system next) result
    ends-as {T} (Ok done) kept did journals unchanged causes full counts = record {
      world = did ∙ sym behind;
      moments = subst (MomentsAs before.journals now.journals) (sym does.writes) journals;
      fits = λ it same size long.
          let it_is : IsTooLong before (at system next) size = subst (λ w. IsTooLong before w size) (sym (its it same)) long in
          let told_full : Ok done ≡ Err (Full size) = (full size (λ none. cc)).1 (it_is.long, it_is.over) in
          cc;
      no_faults = counts-none _ (disk.faults before.vols) (disk.faults now.vols) (system - 1) (λ failed. cc) counts;
      causes = causes ∙ sym (causes-appending rules before.world e (at system next) before.causes does.writes);
    }
    ends-as (Err Volume) kept did journals unchanged causes full counts = record {
      world = did ∙ sym falls-writing;
      journals = journals;
      fits = λ size long. let told_full : Err Volume ≡ Err (Full size) = (full size (λ none. cc)).1 (long.long, long.over) in cc;
      rose = counts.rose refl;
      others = counts.others;
      causes = causes;
      told = ap (λ all. cause_in all system) causes ∙ cause-told before.world.systems system Faulted before.causes kept.causes (number_most kept);
    }
    ends-as (Err (Full size)) kept did journals unchanged causes full counts =
        let size_is = (full size (λ none. cc)).0 refl in record { same = unchanged; long = record { long = size_is.0; over = size_is.1 } }
    ends-as {T} (Err Before) kept did journals unchanged causes full counts = record {
      world = did;
      tables = unchanged.1;
      journals = journals;
      no_faults = counts-none _ (disk.faults before.vols) (disk.faults now.vols) (system - 1) (λ failed. cc) counts;
      causes = causes;
    }
    ends-as {T} (Err After) kept did journals unchanged causes full counts = record {
      world = did ∙ falls-behind;
      moments = journals;
      fits = λ size long. let told_full : Err After ≡ Err (Full size) = (full size (λ none. cc)).1 (long.long, long.over) in cc;
      no_faults = counts-none _ (disk.faults before.vols) (disk.faults now.vols) (system - 1) (λ failed. cc) counts;
      causes = causes;
    }

    -- a landscape it is afterwards
    pub landscape-ends : {T : Type 0} → (result : Result T AppendEnd) → AppendsAs rules disk before now e (at system next) result →
        IsLandscape meaning (now.world)
    landscape-ends (Ok done) ends = landscape-step meaning lawful before.world now.world e is ends.world
    landscape-ends (Err Volume) ends = landscape-step meaning lawful before.world now.world (Fall system (Some next)) is ends.world
    landscape-ends (Err (Full size)) ends = landscape-same meaning before.world now.world (ap (λ (k : KeptOf R A V). k.world) ends.same) is
    landscape-ends (Err Before) ends = landscape-same meaning before.world now.world ends.world is
    landscape-ends (Err After) ends = landscape-steps meaning lawful before.world now.world e (Fall system None) is ends.world

-- a record that is too long for a log is so where that log, its moments and the next one are the same
pub too_long-same : {R A V : Type 0} (before after : KeptOf R A V) (it : Writing) (size : ℕ) → log_of after.world it.system ≡ log_of before.world it.system
    → moments_at after.journals (it.system - 1) ≡ moments_at before.journals (it.system - 1)
    → next_moment after.journals (it.system - 1) ≡ next_moment before.journals (it.system - 1) → IsTooLong before it size → IsTooLong after it size
too_long-same before then it size logs moments moment long = record {
  long = long.long
      ∙ sym (ap (λ (l : List Record). length_with (entries_of (moments_at then.journals (it.system - 1)) l)
      (entry_with (next_moment then.journals (it.system - 1)) it.next)) logs
      ∙ ap (λ (m : List (Option ℕ)). length_with (entries_of m (log_of before.world it.system))
      (entry_with (next_moment then.journals (it.system - 1)) it.next)) moments
      ∙ ap (λ (m : Option ℕ). length_with (entries_at before.journals (it.system - 1) (log_of before.world it.system)) (entry_with m it.next)) moment);
  over = long.over;
}

-- a record that did not fit, by which its system fell
pub overflowed : {R A V : Type 0} (rules : Meaning) (disk : Disk V) (before mid after : KeptOf R A V) (system : ℕ) (next : Record) (size : ℕ)
    → is_up before.world system ≡ true → IsFull rules disk before mid (at system next) size → after.world ≡ with_fall mid.world system None
    → after.journals ≡ mid.journals → after.vols ≡ mid.vols → after.causes ≡ with_cause mid.causes system (Overran size)
    → AreCausesOf mid.world.systems mid.causes → system ≤ 16
    → Overflowed rules disk before after (at system next)
overflowed {R} {A} {V} rules disk before mid then system next size up full fell journals vols causes are most = record {
  world = fell ∙ ap (λ (k : KeptOf R A V). with_fall k.world system None) full.same ∙ sym (falls-up rules before.world system up);
  journals = journals ∙ ap (λ (k : KeptOf R A V). k.journals) full.same;
  vols = vols ∙ ap (λ (k : KeptOf R A V). k.vols) full.same;
  size = size;
  long = full.long;
  causes = causes ∙ ap (λ (k : KeptOf R A V). with_cause k.causes system (Overran size)) full.same;
  told = ap (λ all. cause_in all system) causes ∙ cause-told mid.world.systems system (Overran size) mid.causes are most;
}

-- a record of which it was said that it does not fit
pub was-full : {R A V T : Type 0} (rules : Meaning) (disk : Disk V) (before after : KeptOf R A V) (e : Event) (it : Writing) (result : Result T AppendEnd)
    (end : AppendEnd) (size : ℕ)
    → result ≡ Err end → end ≡ Full size → AppendsAs rules disk before after e it result → IsFull rules disk before after it size
was-full rules disk before then e it result end size is full ends = subst (AppendsAs rules disk before then e it) (is ∙ ap Err full) ends

module _ {R A V : Type 0} (rules : Meaning) (disk : Disk V) (before after : KeptOf R A V) (system : ℕ) (next : Record) (claim : Option ℕ) (e : Event)
    (does : Appends rules before.world system next claim e) (result : Result Appended OutOfMemory)
    (ends : EndsSo rules disk before after system next claim result) where
  -- a record that stands in its log: the event happened
  pub was-written : (end : Appended) → result ≡ Ok end → end ≡ Written → Happened rules disk before after e
  was-written end is written = subst (WrittenAs rules disk before after e (at system next)) (is ∙ ap Ok written) (ends e does)

  -- a record that is not there: its system fell
  pub was-fallen : (end : Appended) → result ≡ Ok end → end ≡ Fallen → FellInstead rules disk before after e
  was-fallen end is fallen = (at system next, does.writes, subst (WrittenAs rules disk before after e (at system next)) (is ∙ ap Ok fallen) (ends e does))

  -- memory was wanting
  pub was-short : (short : OutOfMemory) → result ≡ Err short → IsShort rules disk before after e
  was-short short is = by_end (subst (WrittenAs rules disk before after e (at system next)) is (ends e does))
    where
      by_end : Stays rules disk before after ⊎ FellBehind rules disk before after e (at system next) → IsShort rules disk before after e
      by_end (inl same) = inl same
      by_end (inr behind) = inr (at system next, does.writes, behind)
