-- Runs that are made one after another, over files that stay as they are told.
use Rattle.std.proofs.Common.{◌≡◌, List, [], ◌∷◌, ◌++◌, ℕ, ◌+◌, ◌<◌, get_or, length, map, take, refl, sym, subst, ap, ◌∙◌}
use Rattle.std.proofs.lemmas.List.{append_assoc, append-nil}
use Rattle.ale_io.specs.declared.map_files.StoredFile.{StoredFile}
use Rattle.ale_io.specs.Folder.{told_of}
use Rattle.ale_volumes.specs.Memory.{MemoryOf}
use Rattle.case_form.specs.declared.verdict.Comparison.{Comparison}
use Rattle.worked_cases.specs.declared.case.Failing.{Failing}
use Rattle.worked_cases.specs.declared.case.Run.{Run}
use Rattle.worked_cases.specs.declared.performing.Made.{Made}
use Rattle.worked_cases.specs.Judged.{IsTried, AreTried, Adds, tries}
use Rattle.worked_cases.proofs.HeldLemmas.{flat_map-item_more, map-item_more}

-- a start, and the calls that fail
abbrev Try : Type 0
Try = List (List ℕ) × Failing

module _ (before now : List StoredFile) (alike : (name : List ℕ) → told_of now name ≡ told_of before name) (run : Run) where
  IsTried-alike : (try : Try) (comparisons : List Comparison) (left : MemoryOf) → IsTried now run try comparisons left →
      IsTried before run try comparisons left
  IsTried-alike try comparisons left tried = (tried.0, λ name. tried.1 name ∙ alike name, tried.2)

  pub AreTried-alike : (tries : List Try) (comparisons : List Comparison) (left : List MemoryOf) → AreTried now run tries comparisons left →
      AreTried before run tries comparisons left
  AreTried-alike [] comparisons left all = all
  AreTried-alike (try ∷ rest) comparisons left all = (
    all.0,
    all.1,
    all.2,
    all.3,
    IsTried-alike try all.0 all.2 all.4,
    AreTried-alike rest all.1 all.3 all.5,
    all.6,
    all.7,
  )

  pub Adds-alike : (tries : List Try) (old new : Made) → Adds now run tries old new → Adds before run tries old new
  Adds-alike tries old new adds = (adds.0, adds.1, AreTried-alike tries adds.0 adds.1 adds.2, adds.3, adds.4)

module _ (files : List StoredFile) (run : Run) where
  AreTried-append : (tries others : List Try) (cs ds : List Comparison) (ls ms : List MemoryOf) → AreTried files run tries cs ls →
      AreTried files run others ds ms → AreTried files run (tries ++ others) (cs ++ ds) (ls ++ ms)
  AreTried-append [] others cs ds ls ms none next =
      subst (λ c. AreTried files run others (c ++ ds) (ls ++ ms)) (sym none.0)
      (subst (λ l. AreTried files run others ds (l ++ ms)) (sym none.1) next)
  AreTried-append (try ∷ rest) others cs ds ls ms all next = (
    all.0,
    all.1 ++ ds,
    all.2,
    all.3 ++ ms,
    all.4,
    AreTried-append rest others all.1 ds all.3 ms all.5 next,
    ap (λ c. c ++ ds) all.6 ∙ append_assoc all.0 all.1 ds,
    ap (λ l. l ++ ms) all.7,
  )

  -- no run adds anything
  pub Adds-none : (made : Made) → Adds files run [] made made
  Adds-none made = ([], [], (refl, refl), sym (append-nil made.comparisons), sym (append-nil made.left.items))

  -- some runs, and then others
  pub Adds-joined : (tries others : List Try) (old between new : Made) → Adds files run tries old between → Adds files run others between new →
      Adds files run (tries ++ others) old new
  Adds-joined tries others old between new first next = (
    first.0 ++ next.0,
    first.1 ++ next.1,
    AreTried-append tries others first.0 next.0 first.1 next.1 first.2 next.2,
    next.3 ∙ ap (λ c. c ++ next.0) first.3 ∙ append_assoc old.comparisons first.0 next.0,
    next.4 ∙ ap (λ l. l ++ next.1) first.4 ∙ append_assoc old.left.items first.1 next.1,
  )

  -- one run
  pub Adds-one : (try : Try) (old new : Made) (one : List Comparison) (left : MemoryOf) → IsTried files run try one left →
      new.comparisons ≡ old.comparisons ++ one → new.left.items ≡ old.left.items ++ left ∷ [] → Adds files run (try ∷ []) old new
  Adds-one try old new one left is compared leaves = (
    one,
    left ∷ [],
    (one, [], left, [], is, (refl, refl), sym (append-nil one), refl),
    compared,
    leaves,
  )

module _ (starts : List (List (List ℕ))) (failures : List Failing) (i : ℕ) where
  -- one choice more of the calls that fail
  pub tries-failure_more : (start : List (List ℕ)) (failing : Failing) → i < length failures → failing ≡ get_or failures i failing →
      tries (take i failures) (start ∷ []) ++ (start, failing) ∷ [] ≡ tries (take (i + 1) failures) (start ∷ [])
  tries-failure_more start failing within is =
      let pair : Failing → Try = λ calls. (start, calls) in
      ap (λ l. l ++ (start, failing) ∷ []) (append-nil (map pair (take i failures))) ∙ map-item_more pair [] failures i failing within is
      ∙ sym (append-nil (map pair (take (i + 1) failures)))

  -- one start more
  pub tries-start_more : (start : List (List ℕ)) → i < length starts → start ≡ get_or starts i start →
      tries failures (take i starts) ++ tries failures (start ∷ []) ≡ tries failures (take (i + 1) starts)
  tries-start_more start within is =
      let all : List (List ℕ) → List Try = λ start. map (λ calls. (start, calls)) failures in
      ap (λ l. tries failures (take i starts) ++ l) (append-nil (all start)) ∙ flat_map-item_more all [] starts i start within is
