-- Laws of volumes in memory.
use Rattle.std.specs.Prelude.{slice_index, slice_index_or, fold}
use Rattle.std.proofs.Common.{◌≡◌, ◌≢◌, ◌⊎◌, ◌↔◌, inl, inr, ℕ, ◌+◌, ◌-◌, ◌/◌, ◌<◌, ◌≤◌, min, max, Bool, true, false, cond, eqb, List, [], ◌∷◌, ◌++◌, length}
use Rattle.std.proofs.Common.{take, drop, get_or, refl, sym, ◌∙◌, ap, subst, arith, length-append, append_assoc, rules}
use Rattle.std.specs.List.{Contains}
use Rattle.std.proofs.lemmas.Bool.{cases_lt}
use Rattle.std.proofs.lemmas.Bool.Decides.{nat_tests}
use Rattle.std.proofs.lemmas.List.{take_all, take_at, drop_at, drop-drop, take-append-le, length_push, get_or_at, get_or_append_left, places, length-take}
use Rattle.std.proofs.lemmas.List.{length-drop}
use Rattle.std.proofs.lemmas.List.Sums.{fold-append}
use Rattle.ale_volumes.specs.declared.volume.Volume.{Volume}
use Rattle.ale_volumes.specs.declared.volume.UnsyncedWrite.{UnsyncedWrite}
use Rattle.ale_volumes.specs.declared.step.Step.{Step}
use Rattle.ale_volumes.specs.declared.step.Step.TheVariants.{Write, Sync}
use Rattle.ale_volumes.specs.Volume.{IsImage, IsCovered, settled, written, overwritten, FailsToWrite}
use Rattle.ale_volumes.specs.Clock.{Elapses, KeepsOthers, PastStays, StaysAs}
use Rattle.ale_volumes.specs.Disk.{Disk, LeftSince}
use Rattle.ale_volumes.specs.Memory.{MemoryOf, place_in, left_of, half_written, after_step, after_steps, LeftAt}

-- what is written keeps the bytes before and behind it
pub overwritten_before : (old : List ℕ) (at : ℕ) (bytes : List ℕ) (i : ℕ) → at ≤ length old → i < at → get_or (overwritten old at bytes) i 0 ≡ get_or old i 0
overwritten_before old at bytes i within low = search (rules, places)

pub overwritten_behind : (old : List ℕ) (at : ℕ) (bytes : List ℕ) (i : ℕ) → at ≤ length old → at + length bytes ≤ i →
    get_or (overwritten old at bytes) i 0 ≡ get_or old i 0
overwritten_behind old at bytes i within high = search (rules, places)

pub length-overwritten : (old : List ℕ) (at : ℕ) (bytes : List ℕ) → at ≤ length old → length (overwritten old at bytes) ≡ max (length old) (at + length bytes)
length-overwritten old at bytes within =
    omega (
      arith,
      length-append (take at old ++ bytes) (drop (at + length bytes) old),
      length-append (take at old) bytes,
      length-take at old,
      length-drop
          (at + length bytes) old,
    )

-- a further write covers what the earlier ones did
covered_more : (writes more : List UnsyncedWrite) (place : ℕ) → IsCovered writes place → IsCovered (writes ++ more) place
covered_more [] more place covered = absurd covered
covered_more (write ∷ writes) more place (inl here) = inl here
covered_more (write ∷ writes) more place (inr there) = inr (covered_more writes more place there)

covered_last : (writes : List UnsyncedWrite) (write : UnsyncedWrite) (place : ℕ) → write.at ≤ place → place < write.at + length write.bytes →
    IsCovered (writes ++ write ∷ []) place
covered_last [] write place low high = inl (low, high)
covered_last (first ∷ writes) write place low high = inr (covered_last writes write place low high)

contains_more : (lengths more : List ℕ) (n : ℕ) → Contains lengths n → Contains (lengths ++ more) n
contains_more lengths more n has = (has.0, omega (arith, has.1, length-append lengths more), get_or_append_left lengths more n has.0 has.1 ∙ has.2)

contains_last : (lengths : List ℕ) (n : ℕ) → Contains (lengths ++ n ∷ []) n
contains_last lengths n = (length lengths, omega (arith, length_push lengths n), get_or_at lengths n [] n (length lengths) refl)

-- A read gives one of the images.
abbrev pub ReadIsImage : Volume → Type 0
ReadIsImage volume = IsImage volume volume.contents

pub settled_read : (bytes : List ℕ) → ReadIsImage (settled bytes)
settled_read bytes = record { size = (0, omega arith, refl); synced = λ place low high apart. refl }

-- a place that a write keeps apart from lies before it or behind it
apart_of : (at n place : ℕ) → ((at ≤ place) × (place < at + n) → ⊥) → (place < at) ⊎ (at + n ≤ place)
apart_of at n place apart = elim (cases_lt place at) [
  | inl low ↦ inl low
  | inr high ↦ elim (cases_lt place (at + n)) [
    | inl within ↦ absurd (apart (high, within))
    | inr behind ↦ inr behind
  ]
]

-- of a write that covers a part of the range from its front on, all outside the range stays
pub overwritten_apart : (old : List ℕ) (at : ℕ) (bytes : List ℕ) (n i : ℕ) → at ≤ length old → length bytes ≤ n → ((at ≤ i) × (i < at + n) → ⊥) →
    get_or (overwritten old at bytes) i 0 ≡ get_or old i 0
overwritten_apart old at bytes n i within shorter apart = elim (apart_of at n i apart) [
  | inl low ↦ overwritten_before old at bytes i within low
  | inr high ↦ overwritten_behind old at bytes i within (omega arith)
]

-- what is left in the range of a write gives an image, if its length is one of those that the volume may have
left_read : (volume : Volume) (at : ℕ) (bytes left : List ℕ) → at ≤ length volume.contents → ReadIsImage volume → length left ≤ length bytes
    → Contains (written volume at bytes).lengths (length (overwritten volume.contents at left))
    → IsImage (written volume at bytes) (overwritten volume.contents at left)
left_read volume at bytes left within read shorter size = record {
  size = size;
  synced = λ place low high apart.
      let outside : (at ≤ place) × (place < at + length bytes) → ⊥ = λ here.
      apart (covered_last volume.writes (record { at = at; bytes = bytes }) place here.0 here.1) in
      let same = overwritten_apart volume.contents at left (length bytes) place within shorter outside in
      let was : place < length volume.contents = elim (apart_of at (length bytes) place outside) [
        | inl before ↦ omega arith
        | inr behind ↦ omega (arith, length-overwritten volume.contents at left within)
      ] in
      same ∙ read.synced place was high (λ covered. apart (covered_more volume.writes (record { at = at; bytes = bytes } ∷ []) place covered));
}

pub written_read : (volume : Volume) (at : ℕ) (bytes : List ℕ) → at ≤ length volume.contents → ReadIsImage volume → ReadIsImage (written volume at bytes)
written_read volume at bytes within read =
    left_read volume at bytes bytes within read (omega arith) (contains_last volume.lengths (length (overwritten volume.contents at bytes)))

length-left_of : (contents : List ℕ) (at : ℕ) (bytes : List ℕ) →
    (length (left_of contents at bytes) ≤ length bytes) × (at ≤ length contents → at + length (left_of contents at bytes) ≤ length contents)
length-left_of contents at bytes =
    let size = length-take (min ((length bytes + 1) / 2) (length contents - at)) bytes in
    (omega (arith, size), λ within. omega (arith, size))

-- a failing write leaves the length
pub length-half_written : (volume : Volume) (at : ℕ) (bytes : List ℕ) → at ≤ length volume.contents → length (half_written volume at bytes).contents
    ≡ length volume.contents
length-half_written volume at bytes within =
    omega (arith, length-overwritten volume.contents at (left_of volume.contents at bytes) within, (length-left_of volume.contents at bytes).1 within)

pub half_written_read : (volume : Volume) (at : ℕ) (bytes : List ℕ) → at ≤ length volume.contents → ReadIsImage volume →
    ReadIsImage (half_written volume at bytes)
half_written_read volume at bytes within read =
    let left = left_of volume.contents at bytes in
    let has = subst (λ (n : ℕ). Contains volume.lengths n) (sym (length-half_written volume at bytes within)) read.size in
    let image = left_read volume at bytes left within read (length-left_of volume.contents at bytes).0
    (contains_more volume.lengths (length (overwritten volume.contents at bytes) ∷ []) _ has) in
    record { size = image.size; synced = image.synced }

-- what holds of both holds of the one that a test chooses
either : {A : Type 0} (P : A → Type 0) (test : Bool) (x y : A) → P x → P y → P (cond test x y)
either P true x y at_x at_y = at_x
either P false x y at_x at_y = at_y

pub after_step-read : (n : ℕ) (volume : Volume) (step : Step) → ReadIsImage volume → ReadIsImage (after_step n volume step)
after_step-read n volume (Write m at bytes failed) read =
    let place = place_in volume.contents at in
    let within : place ≤ length volume.contents = omega arith in
    either ReadIsImage (eqb m n) _ volume
    (either ReadIsImage failed _ _ (half_written_read volume place bytes within read) (written_read volume place bytes within read))
    read
after_step-read n volume (Sync m) read = either ReadIsImage (eqb m n) _ volume (settled_read volume.contents) read

steps_read : (n : ℕ) (volume : Volume) (steps : List Step) → ReadIsImage volume → ReadIsImage (fold (after_step n) volume steps)
steps_read n volume [] read = read
steps_read n volume (step ∷ steps) read = steps_read n (after_step n volume step) steps (after_step-read n volume step read)

pub after_steps-read : (start : List (List ℕ)) (steps : List Step) (n : ℕ) → ReadIsImage (after_steps start steps n)
after_steps-read start steps n = steps_read n _ steps (settled_read (slice_index_or start n []))

-- one step more
pub after_steps-push : (start : List (List ℕ)) (steps : List Step) (step : Step) (n : ℕ) →
    after_steps start (steps ++ step ∷ []) n ≡ after_step n (after_steps start steps n) step
after_steps-push start steps step n = fold-append (after_step n) (settled (slice_index_or start n [])) steps (step ∷ [])

-- now is an image of now
left_now : (start : List (List ℕ)) (steps : List Step) (n : ℕ) (image : List ℕ) → LeftAt start steps n (length steps) image ↔
    IsImage (after_steps start steps n) image
left_now start steps n image =
    let all : take (length steps) steps ≡ steps = take_all (length steps) steps (omega arith) in (
      λ left. subst (λ (s : List Step). IsImage (after_steps start s n) image) all left,
      λ is. subst (λ (s : List Step). IsImage (after_steps start s n) image) (sym all) is,
    )

-- what an earlier crash left stays after one step more
left_before : (start : List (List ℕ)) (steps : List Step) (step : Step) (n moment : ℕ) (image : List ℕ) → moment ≤ length steps →
    LeftAt start (steps ++ step ∷ []) n moment image ↔ LeftAt start steps n moment image
left_before start steps step n moment image le =
    let old : take moment (steps ++ step ∷ []) ≡ take moment steps = take-append-le moment steps (step ∷ []) le in (
      λ left. subst (λ (s : List Step). IsImage (after_steps start s n) image) old left,
      λ left. subst (λ (s : List Step). IsImage (after_steps start s n) image) (sym old) left,
    )

-- the volume that a step is of
abbrev pub volume_of : Step → ℕ
volume_of (Write m at bytes failed) = m
volume_of (Sync m) = m

chosen_else : {A : Type 0} (test : Bool) (x y : A) → test ≡ false → cond test x y ≡ y
chosen_else test x y is = ap (λ (b : Bool). cond b x y) is

-- a step of another volume leaves this one
pub after_step-other : (n : ℕ) (volume : Volume) (step : Step) → n ≢ volume_of step → after_step n volume step ≡ volume
after_step-other n volume (Write m at bytes failed) other = chosen_else (eqb m n) _ volume (search (rules, nat_tests))
after_step-other n volume (Sync m) other = chosen_else (eqb m n) _ volume (search (rules, nat_tests))

pub chosen_then : {A : Type 0} (test : Bool) (x y : A) → test ≡ true → cond test x y ≡ x
chosen_then test x y is = ap (λ (b : Bool). cond b x y) is

pub after_step-sync : (n : ℕ) (volume : Volume) → after_step n volume (Sync n) ≡ settled volume.contents
after_step-sync n volume = chosen_then (eqb n n) _ volume (search (rules, nat_tests))

pub after_step-write : (n : ℕ) (volume : Volume) (at : ℕ) (bytes : List ℕ) → at ≤ length volume.contents → after_step n volume (Write n at bytes false)
    ≡ written volume at bytes
after_step-write n volume at bytes within =
    let same : place_in volume.contents at ≡ at = omega arith in
    chosen_then (eqb n n) _ volume (search (rules, nat_tests)) ∙ ap (λ (p : ℕ). written volume p bytes) same

pub after_step-half : (n : ℕ) (volume : Volume) (at : ℕ) (bytes : List ℕ) → at ≤ length volume.contents →
    after_step n volume (Write n at bytes true) ≡ half_written volume at bytes
after_step-half n volume at bytes within =
    let same : place_in volume.contents at ≡ at = omega arith in
    chosen_then (eqb n n) _ volume (search (rules, nat_tests)) ∙ ap (λ (p : ℕ). half_written volume p bytes) same

-- what lies before a write and behind it
pub take-overwritten : (old : List ℕ) (at : ℕ) (bytes : List ℕ) → at ≤ length old → take at (overwritten old at bytes) ≡ take at old
take-overwritten old at bytes within =
    ap (λ (l : List ℕ). take at l) (append_assoc (take at old) bytes (drop (at + length bytes) old))
    ∙ take_at (take at old) (bytes ++ drop (at + length bytes) old) at (omega (arith, length-take at old))

pub drop-overwritten : (old : List ℕ) (at : ℕ) (bytes : List ℕ) → at ≤ length old → drop (at + length bytes) (overwritten old at bytes)
    ≡ drop (at + length bytes) old
drop-overwritten old at bytes within =
    drop_at (take at old ++ bytes) (drop (at + length bytes) old) (at + length bytes) (omega (arith, length-append (take at old) bytes, length-take at old))

drop_further : (n m : ℕ) (xs ys : List ℕ) → n ≤ m → drop n xs ≡ drop n ys → drop m xs ≡ drop m ys
drop_further n m xs ys le same =
    let parts : n + (m - n) ≡ m = omega arith in
    ap (λ (k : ℕ). drop k xs) (sym parts) ∙ sym (drop-drop (m - n) n xs) ∙ ap (λ (l : List ℕ). drop (m - n) l) same ∙ drop-drop (m - n) n ys
    ∙ ap (λ (k : ℕ). drop k ys) parts

-- what is left of a failing write is torn
pub half_written-torn : (volume : Volume) (at : ℕ) (bytes : List ℕ) → at ≤ length volume.contents → FailsToWrite volume at bytes (half_written volume at bytes)
half_written-torn volume at bytes within =
    let left = left_of volume.contents at bytes in
    record {
      left = record {
        before = take-overwritten volume.contents at left within;
        behind = drop_further (at + length left) (at + length bytes) _ _ (omega (arith, (length-left_of volume.contents at bytes).0))
            (drop-overwritten volume.contents at left within);
        size = inl (length-half_written volume at bytes within);
      };
      counts = refl;
    }

-- a volume with no write since its last sync is settled
abbrev IsCleanSettled : Volume → Type 0
IsCleanSettled volume = length volume.writes ≡ 0 → volume ≡ settled volume.contents

after_step-clean : (n : ℕ) (volume : Volume) (step : Step) → IsCleanSettled volume → IsCleanSettled (after_step n volume step)
after_step-clean n volume (Write m at bytes failed) clean =
    either IsCleanSettled (eqb m n) _ volume
    (either IsCleanSettled failed _ _ (λ none.
    absurd (omega (arith, none, length_push volume.writes (record { at = place_in volume.contents at; bytes = bytes }))))
    (λ none. absurd (omega (arith, none, length_push volume.writes (record { at = place_in volume.contents at; bytes = bytes })))))
    clean
after_step-clean n volume (Sync m) clean = either IsCleanSettled (eqb m n) _ volume (λ none. refl) clean

steps_clean : (n : ℕ) (volume : Volume) (steps : List Step) → IsCleanSettled volume → IsCleanSettled (fold (after_step n) volume steps)
steps_clean n volume [] clean = clean
steps_clean n volume (step ∷ steps) clean = steps_clean n (after_step n volume step) steps (after_step-clean n volume step clean)

pub after_steps-clean : (start : List (List ℕ)) (steps : List Step) (n : ℕ) → length (after_steps start steps n).writes ≡ 0 →
    after_steps start steps n ≡ settled (after_steps start steps n).contents
after_steps-clean start steps n = steps_clean n _ steps (λ none. refl)

-- The members of the trait, of volumes in memory.
abbrev pub volume_now : MemoryOf → ℕ → Volume
volume_now memory n = after_steps memory.start memory.steps n

abbrev pub moment_of : MemoryOf → ℕ
moment_of memory = length memory.steps

-- what is known of volumes in memory
abbrev pub memory : Disk MemoryOf
memory = record {
  told = Unit {0};
  volume = volume_now;
  moment = moment_of;
  left_at = λ vols n moment image. LeftAt vols.start vols.steps n moment image;
  faults = λ vols n. slice_index vols.calls.faults n;
}

pub counts_now : (vols : MemoryOf) (n t : ℕ) (image : List ℕ) → t ≤ moment_of vols → IsImage (volume_now vols n) image → LeftSince memory vols n t image
counts_now vols n t image le is =
    record { moment = moment_of vols; least = le; most = omega arith; left = (left_now vols.start vols.steps n image).1 is }

pub only_now : (vols : MemoryOf) (n : ℕ) (image : List ℕ) → LeftSince memory vols n (moment_of vols) image → IsImage (volume_now vols n) image
only_now vols n image left =
    let here : left.moment ≡ moment_of vols = omega (arith, left.least, left.most) in
    (left_now vols.start vols.steps n image).0 (subst (λ (m : ℕ). LeftAt vols.start vols.steps n m image) here left.left)

-- with no step a volume is as it was
module _ (old new : MemoryOf) (n : ℕ) (start : new.start ≡ old.start) (steps : new.steps ≡ old.steps) where
  pub volume_same : volume_now new n ≡ volume_now old n
  volume_same = cc

  past_same : PastStays memory old new n
  past_same moment image le =
      let same : after_steps new.start (take moment new.steps) n ≡ after_steps old.start (take moment old.steps) n = cc in (
        λ left. subst (λ (v : Volume). IsImage v image) same left,
        λ left. subst (λ (v : Volume). IsImage v image) (sym same) left,
      )

  moment_same : moment_of new ≡ moment_of old
  moment_same = ap length steps

  pub elapses_still : Elapses memory old new n
  elapses_still = record {
    later = omega (arith, moment_same);
    past = past_same;
    now = λ moment image after le left. absurd (omega (arith, moment_same, after, le));
  }

  stays_same : StaysAs memory old new n
  stays_same = record {
    known = volume_same;
    past = past_same;
    still = λ moment image least most left.
        let here : moment ≡ moment_of old = omega (arith, moment_same, least, most) in
        subst (λ (m : ℕ). LeftAt old.start old.steps n m image) here ((past_same moment image (omega (arith, here))).0 left);
  }

pub others_same : (old new : MemoryOf) (n : ℕ) → new.start ≡ old.start → new.steps ≡ old.steps → KeepsOthers memory old new n
others_same old new n start steps = record { each = λ m other. stays_same old new m start steps }

-- after one step more, of whichever volume
module _ (old new : MemoryOf) (step : Step) (n : ℕ) (start : new.start ≡ old.start) (steps : new.steps ≡ old.steps ++ step ∷ []) where
  pub volume_step : volume_now new n ≡ after_step n (volume_now old n) step
  volume_step =
      let more : volume_now new n ≡ after_steps old.start (old.steps ++ step ∷ []) n = cc in
      more ∙ after_steps-push old.start old.steps step n

  moment_step : moment_of new ≡ moment_of old + 1
  moment_step = ap length steps ∙ length_push old.steps step

  past_step : PastStays memory old new n
  past_step moment image le =
      let same : after_steps new.start (take moment new.steps) n ≡ after_steps old.start (take moment (old.steps ++ step ∷ [])) n = cc in
      let before = left_before old.start old.steps step n moment image le in (
        λ left. before.0 (subst (λ (v : Volume). IsImage v image) same left),
        λ left. subst (λ (v : Volume). IsImage v image) (sym same) (before.1 left),
      )

  now_step : (moment : ℕ) (image : List ℕ) → moment_of old < moment → moment ≤ moment_of new → LeftAt new.start new.steps n moment image →
      IsImage (volume_now new n) image
  now_step moment image after le left =
      let here : moment ≡ moment_of new = omega (arith, moment_step, after, le) in
      (left_now new.start new.steps n image).0 (subst (λ (m : ℕ). LeftAt new.start new.steps n m image) here left)

  pub elapses_step : Elapses memory old new n
  elapses_step = record { later = omega (arith, moment_step); past = past_step; now = now_step }

-- a step of one volume leaves all others alone
module _ (old new : MemoryOf) (step : Step) (n : ℕ) (own : n ≡ volume_of step) (start : new.start ≡ old.start)
    (steps : new.steps ≡ old.steps ++ step ∷ []) where
  known_other : (m : ℕ) → m ≢ n → volume_now new m ≡ volume_now old m
  known_other m other = volume_step old new step m start steps ∙ after_step-other m _ step (λ is. other (is ∙ sym own))

  stays_other : (m : ℕ) → m ≢ n → StaysAs memory old new m
  stays_other m other = record {
    known = known_other m other;
    past = past_step old new step m start steps;
    still = λ moment image least most left. elim (cases_lt (moment_of old) moment) [
      | inl after ↦ (left_now old.start old.steps m image).1 (subst (λ (v : Volume). IsImage v image) (known_other m other)
          (now_step old new step m start steps moment image after most left))
      | inr before ↦
          let here : moment ≡ moment_of old = omega (arith, least, before) in
          subst (λ (t : ℕ). LeftAt old.start old.steps m t image) here ((past_step old new step m start steps moment image before).0 left)
    ];
  }

  pub others_stay : KeepsOthers memory old new n
  others_stay = record { each = stays_other }
