-- What a run ensures of its status, its text and its volumes is what it may give.
use Rattle.std.proofs.Common.{◌≡◌, ℕ, ◌-◌, ◌^◌, ◌<◌, List, [], ◌∷◌, ◌++◌, length, take, replicate, Some, inl, inr, refl, subst, ap, ◌∙◌, arith}
use Rattle.std.proofs.lemmas.Bool.Decides.{eqb_tells}
use Rattle.std.specs.Prelude.{◌≢◌}
use Rattle.std.specs.Io.KnownBytes.{Appends}
use Rattle.ale_io.specs.Told.{Told}
use Rattle.ale_io.specs.Written.{AppendsFront}
use Rattle.ale_io.specs.Moments.{given_by, last_moment}
use Rattle.ale_io.specs.declared.list_clock.ListClock.{ListClock}
use Rattle.ale_volumes.specs.Memory.{MemoryOf}
use Rattle.ale_host.specs.EndsSo.{EndsSo, IsFront}
use Rattle.worked_cases.specs.Judged.{Gives}
use Rattle.ale_volumes.specs.MemoryLemmas.{memory}

-- a text that was appended to nothing is all that was printed
from_nothing : (begun printed text : List ℕ) → begun ≡ [] → Appends (Some begun) (Some printed) text → printed ≡ text
from_nothing begun printed text empty grew = grew ∙ ap (λ before. before ++ text) empty

-- the status and the text are those of an ending, or 6 and a front of its text
pub Gives-of : (ending : ℕ) (text : List ℕ) (status : ℕ) (begun printed : List ℕ) → begun ≡ []
    → (status ≢ 6 → (status ≡ ending) × Appends (Some begun) (Some printed) text) → (status ≡ 6 → AppendsFront (Some begun) (Some printed) text)
    → Gives ending text status printed
Gives-of ending text status begun printed empty ended fault =
    elim (eqb_tells status 6) [
      | inl is ↦ inr (is.1, ((fault is.1).0, from_nothing begun printed (take (fault is.1).0 text) empty (fault is.1).1))
      | inr other ↦ inl ((ended other.1).0, from_nothing begun printed text empty (ended other.1).1)
    ]

none_left : (n : ℕ) → 0 - n ≡ 0
none_left n = omega arith

-- a clock of which no call was made has given nothing
given_none : (moments : List ℕ) → given_by moments 0 ≡ []
given_none [] = refl
given_none (moment ∷ moments) = ap (λ n. replicate n (last_moment (moment ∷ moments))) (none_left (length (moment ∷ moments)))

module _ (told : List ℕ → Told) (vols left : MemoryOf) (later : ListClock) (after : ℕ) where
  -- these words end so, over files of whose reads so many had failed, by a clock that had given these moments
  abbrev Ends : List (List ℕ) → ℕ → List ℕ → ℕ → List ℕ → List ℕ → Type 0
  Ends texts before given ending text sure =
      EndsSo memory texts told before after vols left (later.calls < 2 ^ 64 - 1) given (given_by later.moments later.calls) ending text sure

  module _ (texts words : List (List ℕ)) (before : ℕ) (clock : ListClock) (same : texts ≡ words) (none : before ≡ 0) (new : clock.calls ≡ 0) where
    abbrev began : List ℕ
    began = given_by clock.moments clock.calls

    -- the same of other names of what is the same
    Ends-same : (ending : ℕ) (text sure : List ℕ) → Ends texts before began ending text sure → Ends words 0 [] ending text sure
    Ends-same ending text sure ends =
        subst (λ given. Ends words 0 given ending text sure) (ap (λ calls. given_by clock.moments calls) new ∙ given_none clock.moments)
        (subst (λ n. Ends words n began ending text sure) none (subst (λ ts. Ends ts before began ending text sure) same ends))

    -- where each kind of status tells an ending, there is one of which it is given
    pub Ends-of : (status : ℕ) (begun printed : List ℕ) (faults faults_new : ℕ) {Quiet : Type 0} → begun ≡ []
        → (status ≢ 6 → (text : List ℕ) × ((sure : List ℕ) × Ends texts before began status text sure × Appends (Some begun) (Some printed) text × Quiet))
        → (status ≡ 6 → (ending : ℕ) × ((text : List ℕ) × ((sure : List ℕ) × Ends texts before began ending text sure
        × IsFront (Some begun) (Some printed) faults faults_new text sure)))
        → (faults : ℕ) × (its : ListClock) × (ending : ℕ) × (text sure : List ℕ)
        × EndsSo memory words told 0 faults vols left (its.calls < 2 ^ 64 - 1) [] (given_by its.moments its.calls) ending text sure
        × Gives ending text status printed
    Ends-of status begun printed faults faults_new empty ended fault =
        elim (eqb_tells status 6) [
          | inl is ↦
              let f = fault is.1 in
              let front = f.1.1.2 in (
                after,
                later,
                f.0,
                f.1.0,
                f.1.1.0,
                Ends-same f.0 f.1.0 f.1.1.0 f.1.1.1,
                inr (is.1, (front.count, from_nothing begun printed (take front.count f.1.0) empty front.appends)),
              )
          | inr other ↦
              let e = ended other.1 in
              (after, later, status, e.0, e.1.0, Ends-same status e.0 e.1.0 e.1.1, inl (refl, from_nothing begun printed e.0 empty e.1.2))
        ]
