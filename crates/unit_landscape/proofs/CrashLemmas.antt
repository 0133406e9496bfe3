-- What a crash inside a call leaves is sound: it is a choice of what systems find that are down, of the world before the call, or of the one in
-- which the call's system falls as it writes the call's record.
use Rattle.std.specs.Prelude.{slice_get}
use Rattle.std.proofs.Common.{◌≡◌, ◌≢◌, ◌≤◌, ◌-◌, ℕ, zero, suc, Bool, true, false, Option, Some, None, List, [], ◌∷◌, ◌++◌, ◌⊎◌, length, inl, inr, refl}
use Rattle.std.proofs.Common.{sym, ap, subst, ◌∙◌, arith}
use Rattle.std.proofs.lemmas.Bool.{cases_Bool, cases_eq, cases_lt}
use Rattle.std.proofs.lemmas.List.{map-append}
use Rattle.ale_base.specs.Prefix.{IsPrefix}
use Rattle.ale_base.proofs.PrefixLemmas.{IsPrefix-same, IsPrefix-trans}
use Rattle.ale_volumes.specs.Disk.{Disk, LeftSince}
use Rattle.ale_volumes.specs.Volume.{IsImage}
use Rattle.ale_volumes.specs.Clock.{KeepsOthers, KeepsVolume, LeavesOnly, PastStays}
use Rattle.ale_volumes.proofs.ClockLemmas.{KeepsVolume-now, PastStays-joined}
use Rattle.byte_journal.specs.Settled.{IsLeftByOpening}
use Rattle.unit_core.specs.declared.records.Record.{Record}
use Rattle.unit_codec.specs.declared.entry.Entry.{Entry}
use Rattle.unit_codec.specs.Entries.{entry_with}
use Rattle.unit_journal.specs.Log.{Stands}
use Rattle.unit_journal.specs.OnDisk.{AreInOrder, MayFollow, StandsFound, entries_at, entries_of, last_moment, moments_at, moments_of, next_moment, rest_at}
use Rattle.unit_journal.specs.Settled.{IsBeforeOrAfter}
use Rattle.unit_journal.proofs.OrderLemmas.{AreInOrder-more, moments-entries, next-follows}
use Rattle.unit_journal.proofs.KeptLemmas.{IsOnDisk-stands}
use Rattle.unit_journal.proofs.LookLemmas.{looked-any_moment}
use Rattle.unit_journal.proofs.PlaceLemmas.{entries_of-records}
use Rattle.trfc_protocol.specs.declared.event.Event.{Event}
use Rattle.trfc_protocol.specs.declared.world.World.{World}
use Rattle.trfc_protocol.specs.declared.world.SystemState.{SystemState}
use Rattle.trfc_protocol.specs.Legal.{IsLawful}
use Rattle.trfc_protocol.specs.Meaning.{Meaning}
use Rattle.trfc_protocol.specs.RecordOf.{Writing, record_of}
use Rattle.trfc_protocol.specs.Safe.{Safe, Sound}
use Rattle.trfc_protocol.specs.Worlds.{log_found, log_of, log_or_none, log_under, log_with, one_fall_more, state_down, state_of, with_fall}
use Rattle.trfc_protocol.proofs.FallLemmas.{Safe-fallen}
use Rattle.trfc_protocol.proofs.RecordLemmas.{MayWrite-record}
use Rattle.trfc_protocol.proofs.SafeLemmas.{MayWrite}
use Rattle.trfc_protocol.proofs.WorldLemmas.{at_each_state, state_of-elsewhere, state_of-here, state_of-least, state_of-most}
use Rattle.unit_landscape.specs.Crashes.{AreFound, AreFoundSince, AreOfSystems, HasGrown, IsBetween, LeavesSound, StandsFor, StandsForLog, StaysSound}
use Rattle.unit_landscape.specs.Kept.{IsLandscape}
use Rattle.unit_landscape.specs.KeptWorlds.{KeptOf}
use Rattle.unit_landscape.specs.OnVolumes.{AreOnVolumes}
use Rattle.unit_landscape.specs.Writes.{DiskAs, WritesOnly}
use Rattle.unit_landscape.proofs.GrownLemmas.{grown-joined, grown-none}
use Rattle.unit_landscape.proofs.InStepLemmas.{StandsUp, stands_up}

-- a system that is known has its state at the place of its number
state-place : (systems : List SystemState) (system : ℕ) (state : SystemState) → state_of systems system ≡ Some state
    → slice_get systems (system - 1) ≡ Some state
state-place systems zero state known = absurd (cc)
state-place systems (suc place) state known = let less : suc place - 1 ≡ place = omega arith in ap (slice_get systems) less ∙ known

-- a number within those of the systems is that of a system
not-unknown : (systems : List SystemState) (system : ℕ) → 1 ≤ system → system ≤ length systems → state_of systems system ≢ None
not-unknown systems zero least most none = absurd (omega arith)
not-unknown systems (suc place) least most none = past systems place most none
  where
    past : (systems : List SystemState) (place : ℕ) → suc place ≤ length systems → slice_get systems place ≢ None
    past [] place within is = absurd (omega arith)
    past (state ∷ states) zero within is = cc
    past (state ∷ states) (suc place) within is = past states place (omega arith) is

-- what a crash leaves of a log lacks nothing of it
found-whole : (choice : Bool) (found : Option SystemState) → (more : Option Record) × (log_found choice found ≡ log_with (log_or_none found) more)
found-whole false found = (None, refl)
found-whole true None = (None, refl)
found-whole true (Some state) = (state.rest, refl)

-- a system that is not there has no log
found-none : {R : Type 0} (world : World R) (choice : Bool) (system many : ℕ) → length world.systems ≡ many
    → (1 ≤ system → system ≤ many → ⊥) → log_found choice (state_of world.systems system) ≡ []
found-none world choice system many all outside = at choice (state_of world.systems system) refl
  where
    at : (choice : Bool) (found : Option SystemState) → state_of world.systems system ≡ found → log_found choice found ≡ []
    at false None is = refl
    at true None is = refl
    at choice (Some state) is =
        absurd (outside (state_of-least world.systems system state is) (subst (λ n. system ≤ n) all (state_of-most world.systems system state is)))

-- bytes that stand for the entries of a log stand for the log
stands-as : (image : List ℕ) (moments : List (Option ℕ)) (log : List Record) → length moments ≡ length log → AreInOrder moments
    → Stands image (entries_of moments log) → StandsForLog image log
stands-as image moments log each order stands =
    (entries_of moments log, stands, entries_of-records moments log each, subst AreInOrder (sym (moments-entries moments log each)) order)

-- so do those that stand for one entry more
stands-more : (image : List ℕ) (moments : List (Option ℕ)) (log : List Record) (moment : Option ℕ) (next : Record) → length moments ≡ length log
    → AreInOrder moments → MayFollow (last_moment (moments_of (entries_of moments log))) moment
    → Stands image (entries_of moments log ++ entry_with moment next ∷ []) → StandsForLog image (log ++ next ∷ [])
stands-more image moments log moment next each order follows stands =
    let here : moments_of (entries_of moments log) ≡ moments = moments-entries moments log each in (
      entries_of moments log ++ entry_with moment next ∷ [],
      stands,
      map-append (λ (entry : Entry). entry.what) (entries_of moments log) (entry_with moment next ∷ [])
          ∙ ap (λ records. records ++ next ∷ []) (entries_of-records moments log each),
      subst AreInOrder (sym (map-append (λ (entry : Entry). entry.moment) (entries_of moments log) (entry_with moment next ∷ [])))
          (AreInOrder-more (moments_of (entries_of moments log)) moment (subst AreInOrder (sym here) order) follows),
    )

-- bytes that stand for a log, perhaps with what its system may find, stand for the log under a choice
rested : (image : List ℕ) (moments : List (Option ℕ)) (moment : Option ℕ) (state : SystemState) (rest : Option Record)
    → length moments ≡ length state.log → AreInOrder moments → state.rest ≡ rest → StandsFound image (entries_of moments state.log) moment rest
    → (choice : Bool) × StandsForLog image (log_found choice (Some state))
rested image moments moment state None each order is stands = (false, stands-as image moments state.log each order stands)
rested image moments moment state (Some next) each order is (inl stands) = (false, stands-as image moments state.log each order stands)
rested image moments moment state (Some next) each order is (inr stands) = (
  true,
  subst (StandsForLog image) (ap (log_with state.log) (sym is))
      (stands-more image moments state.log moment next each order stands.0 stands.1),
)

module _ {R A V : Type 0} (meaning : R → Meaning) (disk : Disk V) (before : KeptOf R A V) where
  -- what is found is what the systems of a safe world find under a choice
  found-by : (world : World R) → Safe (meaning before.world.rules) world
      → ((choice : Bool) (system : ℕ) → (more : Option Record) × (log_found choice (state_of world.systems system)
      ≡ log_with (log_of before.world system) more))
      → (images : ℕ → List ℕ)
      → ((system : ℕ) (state : SystemState) → state_of before.world.systems system ≡ Some state
      → (choice : Bool) × StandsForLog (images system) (log_found choice (state_of world.systems system)))
      → AreFound meaning before images
  found-by world safe whole images each = record {
    logs = log_under choice world;
    stand = λ system least most. stand system (state_of before.world.systems system) refl least most;
    whole = λ system. whole (choice system) system;
    within = λ system outside. found-none world (choice system) system (meaning before.world.rules).systems safe.systems outside;
    sound = safe.sound choice;
  }
    where
      pick : (system : ℕ) (found : Option SystemState) → state_of before.world.systems system ≡ found → Bool
      pick system None is = false
      pick system (Some state) is = (each system state is).0

      choice : ℕ → Bool
      choice system = pick system (state_of before.world.systems system) refl

      stand : (system : ℕ) (found : Option SystemState) (is : state_of before.world.systems system ≡ found) → 1 ≤ system
          → system ≤ length before.world.systems → StandsForLog (images system) (log_found (pick system found is) (state_of world.systems system))
      stand system None is least most = absurd (not-unknown before.world.systems system least most is)
      stand system (Some state) is least most = (each system state is).1

  module _ (only_now : disk.told → (vols : V) (n : ℕ) (image : List ℕ) → LeftSince disk vols n (disk.moment vols) image → IsImage (disk.volume vols n) image)
      (on_volumes : AreOnVolumes disk before.vols before.world.systems before.journals) (lawful : IsLawful (meaning before.world.rules))
      (safe : Safe (meaning before.world.rules) before.world) (tells : disk.told) where
    -- an image of now stands for the log of its system, perhaps with what that may find
    image-found : (system : ℕ) (state : SystemState) → state_of before.world.systems system ≡ Some state → (image : List ℕ)
        → LeftSince disk before.vols (system - 1) (disk.moment before.vols) image
        → (choice : Bool) × StandsForLog image (log_found choice (state_of before.world.systems system))
    image-found system state known image left =
        let place = system - 1 in
        let at = state-place before.world.systems system state known in
        let is = only_now tells before.vols place image left in
        subst (λ found. (choice : Bool) × StandsForLog image (log_found choice found)) (sym known)
        (elim (cases_Bool state.up) [
          | inl up ↦
              let on_disk = on_volumes.up place state at up in (
                false,
                stands-as image (moments_at before.journals place) state.log on_disk.each (on_volumes.order place)
                    (IsOnDisk-stands disk before.vols place before.journals state.log tells on_disk image is),
              )
          | inr down ↦
              let left_on = on_volumes.down place state at down in
              rested image (moments_at before.journals place) (rest_at before.journals place) state state.rest left_on.kept.each
              (on_volumes.order place) refl
              (left_on.left tells image is)
        ])

    -- an image of now by itself stands for the log of its system, perhaps with one record more
    alone-found : (system : ℕ) (image : List ℕ) → 1 ≤ system → system ≤ length before.world.systems
        → LeftSince disk before.vols (system - 1) (disk.moment before.vols) image → StandsFor before system image
    alone-found system image least most left = of (state_of before.world.systems system) refl
      where
        of : (found : Option SystemState) → state_of before.world.systems system ≡ found → StandsFor before system image
        of None is = absurd (not-unknown before.world.systems system least most is)
        of (Some state) is =
            let found = image-found system state is image left in
            let whole = found-whole found.0 (state_of before.world.systems system) in (whole.0, subst (StandsForLog image) whole.1 found.1)

    -- a call that calls no volume leaves what there is
    pub leaves-still : (after : KeptOf R A V) → after.vols ≡ before.vols → LeavesSound meaning disk before after
    leaves-still after same = record {
      later = let moment = ap disk.moment same in omega arith;
      each = λ images left.
          found-by before.world safe (λ choice system. found-whole choice (state_of before.world.systems system)) images
          (λ system state known. image-found system state known (images system)
          (subst (λ vols. LeftSince disk vols (system - 1) (disk.moment before.vols) (images system)) same
          (left system (state_of-least before.world.systems system state known) (state_of-most before.world.systems system state known))));
      past = λ system least most moment image le. (
        λ left. subst (λ vols. disk.left_at vols (system - 1) moment image) same left,
        λ left. subst (λ vols. disk.left_at vols (system - 1) moment image) (sym same) left,
      );
      alone = λ system image least most left.
          alone-found system image least most (subst (λ vols. LeftSince disk vols (system - 1) (disk.moment before.vols) image) same left);
    }

    -- a call that writes a record leaves it or not at its system, and what there is at others
    module _ (after : KeptOf R A V) (it : Writing) (may : MayWrite (meaning before.world.rules) before.world it.system it.next)
        (writes : WritesOnly disk before after it) where
      standing : StandsUp before.world.systems it.system
      standing = stands_up before.world.systems it.system may.up

      abbrev base : World R
      base = record before.world { claims = []; falls = one_fall_more before.world.falls }

      abbrev fallen : World R
      fallen = with_fall before.world it.system (Some it.next)

      log_is : log_of before.world it.system ≡ standing.state.log
      log_is = ap log_or_none standing.known

      fallen-whole : (choice : Bool) (system : ℕ)
          → (more : Option Record) × (log_found choice (state_of fallen.systems system) ≡ log_with (log_of before.world system) more)
      fallen-whole choice system =
          at_each_state base it.system (state_down (Some it.next)) standing.state standing.known
          (λ s found. (more : Option Record) × (log_found choice found ≡ log_with (log_of before.world s) more)) (its choice)
          (λ other differs. found-whole choice (state_of before.world.systems other)) system
        where
          its : (choice : Bool) → (more : Option Record)
              × (log_found choice (Some (state_down (Some it.next) standing.state)) ≡ log_with (log_of before.world it.system) more)
          its false = (None, sym log_is)
          its true = (Some it.next, ap (λ log. log ++ it.next ∷ []) (sym log_is))

      -- an image of its system's volume stands for the log there, or for that and the record
      here-stands : (image : List ℕ) → IsBeforeOrAfter (entries_at before.journals (it.system - 1) (log_of before.world it.system))
          (entry_with (next_moment before.journals (it.system - 1)) it.next) image
          → StandsForLog image (log_of before.world it.system) ⊎ StandsForLog image (log_of before.world it.system ++ it.next ∷ [])
      here-stands image is =
          let place = it.system - 1 in
          let moments = moments_at before.journals place in
          let log = log_of before.world it.system in
          let on_disk = on_volumes.up place standing.state standing.at standing.up in
          let each : length moments ≡ length log = on_disk.each ∙ ap length (sym log_is) in
          elim is [
            | inl stands ↦ inl (stands-as image moments log each (on_volumes.order place) stands)
            | inr stands ↦
                inr (stands-more image moments log (next_moment before.journals place) it.next each (on_volumes.order place)
                (next-follows place before.journals log each) stands)
          ]

      here-found : (image : List ℕ) → LeftSince disk after.vols (it.system - 1) (disk.moment before.vols) image
          → (choice : Bool) × StandsForLog image (log_found choice (state_of fallen.systems it.system))
      here-found image left =
          subst (λ found. (choice : Bool) × StandsForLog image (log_found choice found))
          (sym (state_of-here base it.system (state_down (Some it.next)) standing.state standing.known))
          (elim (here-stands image ((writes.any_moment tells).each image left)) [
            | inl stands ↦ (false, subst (StandsForLog image) log_is stands)
            | inr stands ↦ (true, subst (λ log. StandsForLog image (log ++ it.next ∷ [])) log_is stands)
          ])

      here-alone : (image : List ℕ) → LeftSince disk after.vols (it.system - 1) (disk.moment before.vols) image → StandsFor before it.system image
      here-alone image left = elim (here-stands image ((writes.any_moment tells).each image left)) [
        | inl stands ↦ (None, stands)
        | inr stands ↦ (Some it.next, stands)
      ]

      keeps-other : (system : ℕ) → 1 ≤ system → system ≢ it.system → KeepsVolume disk before.vols after.vols (system - 1)
      keeps-other system least differs = record {
        later = (writes.any_moment tells).later;
        stays = (writes.others tells).each (system - 1) (λ same. differs (let lowest = standing.least in omega (arith, same)));
      }

      pub leaves-written : LeavesSound meaning disk before after
      leaves-written = record {
        later = (writes.any_moment tells).later;
        each = λ images left.
            found-by fallen (Safe-fallen (meaning before.world.rules) lawful before.world safe it.system it.next may) fallen-whole images
            (λ system state known. elim (cases_eq system it.system) [
              | inl same ↦ subst (λ s. (choice : Bool) × StandsForLog (images s) (log_found choice (state_of fallen.systems s))) (sym same)
                  (here-found (images it.system) (left it.system standing.least standing.most))
              | inr differs ↦
                  let least = state_of-least before.world.systems system state known in
                  let most = state_of-most before.world.systems system state known in
                  subst (λ found. (choice : Bool) × StandsForLog (images system) (log_found choice found))
                  (sym (state_of-elsewhere base it.system (state_down (Some it.next)) standing.state standing.known system differs))
                  (image-found system state known (images system)
                  (KeepsVolume-now disk before.vols after.vols (system - 1) (images system) (keeps-other system least differs) (left system least most)))
            ]);
        past = λ system least most. elim (cases_eq system it.system) [
          | inl same ↦ subst (λ s. PastStays disk before.vols after.vols (s - 1)) (sym same) (writes.any_moment tells).past
          | inr differs ↦ (keeps-other system least differs).stays.past
        ];
        alone = λ system image least most left. elim (cases_eq system it.system) [
          | inl same ↦ subst (λ s. StandsFor before s image) (sym same)
              (here-alone image (subst (λ s. LeftSince disk after.vols (s - 1) (disk.moment before.vols) image) same left))
          | inr differs ↦
              alone-found system image least most
              (KeepsVolume-now disk before.vols after.vols (system - 1) image (keeps-other system least differs) left)
        ];
      }

    -- a call that opens the volume of a system that is down leaves there its log, perhaps with what it may find, and what there is at others
    module _ (after : KeptOf R A V) (system : ℕ) (state : SystemState) (known : state_of before.world.systems system ≡ Some state)
        (down : state.up ≡ false) (reads : IsImage (disk.volume before.vols (system - 1)) (disk.volume before.vols (system - 1)).contents)
        (any_moment : LeavesOnly disk before.vols after.vols (system - 1) (IsLeftByOpening (disk.volume before.vols (system - 1))))
        (others : KeepsOthers disk before.vols after.vols (system - 1)) where
      opened-found : (image : List ℕ) → LeftSince disk after.vols (system - 1) (disk.moment before.vols) image
          → (choice : Bool) × StandsForLog image (log_found choice (state_of before.world.systems system))
      opened-found image left =
          let place = system - 1 in
          let left_on = on_volumes.down place state (state-place before.world.systems system state known) down in
          let only = looked-any_moment disk before.vols after.vols place before.journals state.log state.rest tells reads any_moment left_on in
          subst (λ found. (choice : Bool) × StandsForLog image (log_found choice found)) (sym known)
          (rested image (moments_at before.journals place) (rest_at before.journals place) state state.rest left_on.kept.each
          (on_volumes.order place) refl (only.each image left))

      opened-other : (other : ℕ) → 1 ≤ other → other ≢ system → KeepsVolume disk before.vols after.vols (other - 1)
      opened-other other least differs = record {
        later = any_moment.later;
        stays = others.each (other - 1) (λ same. differs (let lowest = state_of-least before.world.systems system state known in omega (arith, same)));
      }

      pub leaves-opened : LeavesSound meaning disk before after
      leaves-opened = record {
        later = any_moment.later;
        each = λ images left.
            found-by before.world safe (λ choice s. found-whole choice (state_of before.world.systems s)) images
            (λ other its is. elim (cases_eq other system) [
              | inl same ↦ subst (λ s. (choice : Bool) × StandsForLog (images s) (log_found choice (state_of before.world.systems s))) (sym same)
                  (opened-found (images system) (left system (state_of-least before.world.systems system state known)
                  (state_of-most before.world.systems system state known)))
              | inr differs ↦
                  let least = state_of-least before.world.systems other its is in
                  let most = state_of-most before.world.systems other its is in
                  image-found other its is (images other)
                  (KeepsVolume-now disk before.vols after.vols (other - 1) (images other) (opened-other other least differs) (left other least most))
            ]);
        past = λ other least most. elim (cases_eq other system) [
          | inl same ↦ subst (λ s. PastStays disk before.vols after.vols (s - 1)) (sym same) any_moment.past
          | inr differs ↦ (opened-other other least differs).stays.past
        ];
        alone = λ other image least most left. elim (cases_eq other system) [
          | inl same ↦
              let found = opened-found image (subst (λ s. LeftSince disk after.vols (s - 1) (disk.moment before.vols) image) same left) in
              let whole = found-whole found.0 (state_of before.world.systems system) in
              subst (λ s. StandsFor before s image) (sym same) (whole.0, subst (StandsForLog image) whole.1 found.1)
          | inr differs ↦
              alone-found other image least most
              (KeepsVolume-now disk before.vols after.vols (other - 1) image (opened-other other least differs) left)
        ];
      }

    -- a call leaves what is sound, whether it writes a record or not
    pub leaves-disk : (after : KeptOf R A V) (found : Option Writing)
        → ((it : Writing) → found ≡ Some it → MayWrite (meaning before.world.rules) before.world it.system it.next) → DiskAs disk before after found
        → LeavesSound meaning disk before after
    leaves-disk after None may keeps = leaves-still after keeps.vols
    leaves-disk after (Some it) may writes = leaves-written after it (may it refl) writes

    -- so does a call that is an event
    pub leaves-event : (after : KeptOf R A V) (e : Event) → DiskAs disk before after (record_of (meaning before.world.rules) before.world e)
        → LeavesSound meaning disk before after
    leaves-event after e did =
        leaves-disk after (record_of (meaning before.world.rules) before.world e)
        (λ it is. MayWrite-record (meaning before.world.rules) lawful before.world safe e it is) did

-- where nothing has changed, a crash leaves what is sound; as callers see it
pub leaves-seen : {R A V : Type 0} (meaning : R → Meaning) → ((rules : R) → IsLawful (meaning rules)) → (disk : Disk V)
    → (disk.told → (vols : V) (n : ℕ) (image : List ℕ) → LeftSince disk vols n (disk.moment vols) image → IsImage (disk.volume vols n) image)
    → (kept seen : KeptOf R A V) → kept ≡ seen → IsLandscape meaning kept.world → AreOnVolumes disk kept.vols (kept.world).systems kept.journals
    → disk.told → LeavesSound meaning disk seen seen
leaves-seen meaning lawful disk only_now kept seen same is on_volumes tells =
    subst (λ k. LeavesSound meaning disk k k) same
    (leaves-still meaning disk kept only_now on_volumes (lawful kept.world.rules) is.safe tells kept refl)

-- a call between landscapes that differ from these in claims alone leaves the same
pub leaves-same : {R A V : Type 0} (meaning : R → Meaning) (disk : Disk V) (before begun last after : KeptOf R A V) → begun.vols ≡ before.vols
    → begun.world.systems ≡ before.world.systems → begun.world.rules ≡ before.world.rules → after.vols ≡ last.vols
    → LeavesSound meaning disk begun last → LeavesSound meaning disk before after
leaves-same meaning disk before begun last after vols systems rules still leaves = record {
  later = let first = ap disk.moment vols in let second = ap disk.moment still in let later = leaves.later in omega arith;
  each = λ images left.
      let found = leaves.each images (λ system least most.
      subst (λ v. LeftSince disk last.vols (system - 1) (disk.moment v) (images system)) (sym vols)
      (subst (λ v. LeftSince disk v (system - 1) (disk.moment before.vols) (images system)) still
      (left system least (subst (λ (all : List SystemState). system ≤ length all) systems most)))) in
      record {
        logs = found.logs;
        stand = λ system least most. found.stand system least (subst (λ (all : List SystemState). system ≤ length all) (sym systems) most);
        whole = λ system.
            let its = found.whole system in
            (its.0, its.1 ∙ ap (λ (all : List SystemState). log_with (log_or_none (state_of all system)) its.0) systems);
        within = subst (λ r. AreOfSystems (meaning r) found.logs) rules found.within;
        sound = subst (λ r. Sound (meaning r) found.logs) rules found.sound;
      };
  past = λ system least most moment image le.
      let most_begun = subst (λ (all : List SystemState). system ≤ length all) (sym systems) most in
      let stays = leaves.past system least most_begun moment image (let first = ap disk.moment vols in omega (arith, le)) in (
        λ left.
            subst (λ v. disk.left_at v (system - 1) moment image) vols
            (stays.0 (subst (λ v. disk.left_at v (system - 1) moment image) still left)),
        λ left.
            subst (λ v. disk.left_at v (system - 1) moment image) (sym still)
            (stays.1 (subst (λ v. disk.left_at v (system - 1) moment image) (sym vols) left)),
      );
  alone = λ system image least most left.
      let most_begun = subst (λ (all : List SystemState). system ≤ length all) (sym systems) most in
      let stands = leaves.alone system image least most_begun
      (subst (λ v. LeftSince disk last.vols (system - 1) (disk.moment v) image) (sym vols)
      (subst (λ v. LeftSince disk v (system - 1) (disk.moment before.vols) image) still left)) in (
        stands.0,
        subst (λ (all : List SystemState). StandsForLog image (log_with (log_or_none (state_of all system)) stands.0)) systems stands.1,
      );
}

-- a log between two states is between earlier and later ones
between-wider : {R : Type 0} (before early late after : World R) (system : ℕ) (log : List Record) → IsPrefix (log_of before system) (log_of early system)
    → IsPrefix (log_of late system) (log_of after system) → IsBetween early late system log → IsBetween before after system log
between-wider before early late after system log first last is = (
  is.0,
  is.1,
  IsPrefix-trans (log_of before system) (log_of early system) is.0 first is.2,
  IsPrefix-trans is.0 (log_of late system) (log_of after system) is.3 last,
  is.4,
)

module _ {R A V : Type 0} (meaning : R → Meaning) (disk : Disk V) where
  -- no volume was called
  pub stays-none : (before after : KeptOf R A V) → after.world ≡ before.world → after.vols ≡ before.vols → StaysSound meaning disk before after
  stays-none before after world vols = record {
    grown = grown-none before.world after.world world;
    later = let moment = ap disk.moment vols in omega (arith, moment);
    past = λ system least most moment image le. (
      λ left. subst (λ v. disk.left_at v (system - 1) moment image) vols left,
      λ left. subst (λ v. disk.left_at v (system - 1) moment image) (sym vols) left,
    );
    each = λ moment after_it most images left. let now = ap disk.moment vols in absurd (omega (arith, now, after_it, most));
    alone = λ system moment image least few after_it most left. let now = ap disk.moment vols in absurd (omega (arith, now, after_it, most));
  }

  -- one call was made
  pub stays-one : (before after : KeptOf R A V) → HasGrown before.world after.world → LeavesSound meaning disk before after
      → StaysSound meaning disk before after
  stays-one before after grown leaves = record {
    grown = grown;
    later = leaves.later;
    past = leaves.past;
    each = λ moment after_it most images left.
        let found = leaves.each images
        (λ system least few. record { moment = moment; least = omega (arith, after_it); most = most; left = left system least few }) in
        record {
          logs = found.logs;
          stand = found.stand;
          between = λ system. let whole = found.whole system in with-more system whole.0 (found.logs system) whole.1;
          within = found.within;
          sound = found.sound;
        };
    alone = λ system moment image least few after_it most left.
        let stands = leaves.alone system image least few
        (record { moment = moment; least = omega (arith, after_it); most = most; left = left }) in
        let log = log_with (log_of before.world system) stands.0 in (log, with-more system stands.0 log refl, stands.1);
  }
    where
      -- the log from before, perhaps with one record more
      with-more : (system : ℕ) (more : Option Record) (log : List Record) → log ≡ log_with (log_of before.world system) more
          → IsBetween before.world after.world system log
      with-more system more log is =
          (log_of before.world system, more, IsPrefix-same (log_of before.world system), grown.logs system, is)

  -- what was found between two states is found between earlier and later ones
  found-wider : (before early late after : KeptOf R A V) (images : ℕ → List ℕ) → HasGrown before.world early.world → HasGrown late.world after.world
      → AreFoundSince meaning early late images → AreFoundSince meaning before after images
  found-wider before early late after images first last found = record {
    logs = found.logs;
    stand = λ system least few. found.stand system least (let many = first.many in omega (arith, many, few));
    between = λ system.
        between-wider before.world early.world late.world after.world system (found.logs system) (first.logs system) (last.logs system)
        (found.between system);
    within = subst (λ r. AreOfSystems (meaning r) found.logs) first.rules found.within;
    sound = subst (λ r. Sound (meaning r) found.logs) first.rules found.sound;
  }

  -- more calls after that
  pub stays-on : (before between after : KeptOf R A V) → StaysSound meaning disk before between → StaysSound meaning disk between after
      → StaysSound meaning disk before after
  stays-on before between after first second = record {
    grown = grown-joined before.world between.world after.world first.grown second.grown;
    later = omega (arith, first.later, second.later);
    past = λ system least few.
        PastStays-joined disk before.vols between.vols after.vols (system - 1) first.later (first.past system least few)
        (second.past system least (still-few system few));
    each = λ moment after_it most images left. elim (cases_lt (disk.moment between.vols) moment) [
      | inl behind ↦
          found-wider before between after after images first.grown (grown-none after.world after.world refl)
          (second.each moment behind most images (λ system least few. left system least (now-few system few)))
      | inr ahead ↦
          found-wider before before between after images (grown-none before.world before.world refl) second.grown
          (first.each moment after_it ahead images
          (λ system least few. (second.past system least (still-few system few) moment (images system) ahead).0 (left system least few)))
    ];
    alone = λ system moment image least few after_it most left. elim (cases_lt (disk.moment between.vols) moment) [
      | inl behind ↦
          let stands = second.alone system moment image least (still-few system few) behind most left in
          let grown = first.grown in (
            stands.0,
            between-wider before.world between.world after.world after.world system stands.0 (grown.logs system)
                (IsPrefix-same (log_of after.world system)) stands.1,
            stands.2,
          )
      | inr ahead ↦
          let stands = first.alone system moment image least few after_it ahead
          ((second.past system least (still-few system few) moment image ahead).0 left) in
          let grown = second.grown in (
            stands.0,
            between-wider before.world before.world between.world after.world system stands.0 (IsPrefix-same (log_of before.world system))
                (grown.logs system) stands.1,
            stands.2,
          )
    ];
  }
    where
      still-few : (system : ℕ) → system ≤ length before.world.systems → system ≤ length between.world.systems
      still-few system few = let grown = first.grown in let many = grown.many in omega (arith, many, few)

      now-few : (system : ℕ) → system ≤ length between.world.systems → system ≤ length before.world.systems
      now-few system few = let grown = first.grown in let many = grown.many in omega (arith, many, few)
