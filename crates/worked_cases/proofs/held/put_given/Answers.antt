use Rattle.std.proofs.Common.{ap, ◌∙◌, List, ℕ, [], ◌∷◌, ◌-◌, drop, map, take}
use Rattle.worked_cases.proofs.HeldLemmas.{OnOk-map}
use Rattle.worked_cases.proofs.held.put_given.Goals as goal

pub returns-in-Bytes : goal.returns-in-Bytes
returns-in-Bytes c =
    OnOk-map c.put_record.result
    (λ added. (c.as_slice.result.now ∷ [], rw c.in-Bytes.is (ap (λ body. body ∷ []) c.as_slice.ensures), added))
    c.put_record.ensures

pub returns-in_ok-copied-in-Copy : goal.returns-in_ok-copied-in-Copy
returns-in_ok-copied-in-Copy c =
    let numbered : List (List ℕ) → List (List ℕ) = λ log. take 1 (drop (c.in-Copy.number - 1) log) in
    OnOk-map c.put_numbered.result
    (λ added. (
      numbered c.as_slice-in-Copy.result.now,
      rw c.in-Copy.is (λ log stands. ap numbered (c.as_slice-in-Copy.ensures ∙ c.in_ok-copied-in-Copy.ensures log stands)),
      added,
    ))
    c.put_numbered.ensures

pub returns-in_ok-log-in-Bare : goal.returns-in_ok-log-in-Bare
returns-in_ok-log-in-Bare c =
    let bared : List (List ℕ) → List (List ℕ) = λ log. map (drop 9) (take 1 (drop (c.in-Bare.number - 1) log)) in
    OnOk-map c.put_bare.result
    (λ added. (
      bared c.as_slice-in-Bare.result.now,
      rw c.in-Bare.is (λ log stands. ap bared (c.as_slice-in-Bare.ensures ∙ c.in_ok-log-in-Bare.ensures log stands)),
      added,
    ))
    c.put_bare.ensures
