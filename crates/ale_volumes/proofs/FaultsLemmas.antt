-- Counts of faults over several calls.
use Rattle.std.proofs.Common.{◌≡◌, ◌≢◌, ◌⊎◌, inl, inr, ⊎_elim, ℕ, ◌<◌, ◌≤◌, refl, ◌∙◌, sym, subst, arith}
use Rattle.std.proofs.lemmas.Bool.{cases_eq}
use Rattle.ale_base.specs.Faults.{Rose}
use Rattle.ale_volumes.specs.Faults.{CountsFault}

-- Where no call was made, no fault is counted.
pub CountsFault-none : (failed : Type 0) (counts : ℕ → ℕ) (n : ℕ) → ¬ failed → CountsFault failed counts counts n
CountsFault-none failed counts n not_failed = record {
  rose = λ is. absurd (not_failed is);
  quiet = λ _. refl;
  never_falls = omega arith;
  others = λ m other.
      refl;
}

-- A call counts the same by any other words for its failure.
pub CountsFault-of : (failed fails : Type 0) (before after : ℕ → ℕ) (n : ℕ) → (fails → failed) → (failed → fails) → CountsFault failed before after n →
    CountsFault fails before after n
CountsFault-of failed fails before after n leads back counts = record {
  rose = λ is. counts.rose (leads is);
  quiet = λ not_failed. counts.quiet (λ is. not_failed (back is));
  never_falls = counts.never_falls;
  others = counts.others;
}

-- A count that rose has risen after later calls too, which let no count fall.
pub Rose-later : (before mid after : ℕ) → before ≤ mid → Rose before mid → mid ≤ after → Rose before after
Rose-later before mid after le rose later = λ below. ⊎_elim (λ (is : mid ≡ after). subst (λ (k : ℕ). before < k) is (rose (λ end. below (sym is ∙ end))))
    (λ (other : mid ≢ after). omega arith) (cases_eq mid after)

-- A count that rises has risen since earlier calls too, which let no count fall.
pub Rose-since : (before mid after : ℕ) → before ≤ mid → Rose mid after → Rose before after
Rose-since before mid after le rose = λ below. omega (arith, le, rose below)

-- Two calls on one volume count a fault where either failed.
pub CountsFault-joined : (first second : Type 0) (before mid after : ℕ → ℕ) (n : ℕ) → CountsFault first before mid n → CountsFault second mid after n →
    CountsFault (first ⊎ second) before after n
CountsFault-joined first second before mid after n counts more = record {
  rose = ⊎_elim (λ failed. Rose-later (before n) (mid n) (after n) counts.never_falls (counts.rose failed) more.never_falls)
      (λ failed. Rose-since (before n) (mid n) (after n) counts.never_falls (more.rose failed));
  quiet = λ neither. more.quiet (λ failed. neither (inr failed)) ∙ counts.quiet (λ failed. neither (inl failed));
  never_falls = omega (arith, counts.never_falls, more.never_falls);
  others = λ m other. more.others m other ∙ counts.others m other;
}

-- After a call that did not fail, a further one counts as if it were the first.
pub CountsFault-after : (first second : Type 0) (before mid after : ℕ → ℕ) (n : ℕ) → ¬ first → CountsFault first before mid n → CountsFault second mid after n →
    CountsFault second before after n
CountsFault-after first second before mid after n quiet counts more =
    CountsFault-of (first ⊎ second) second before after n (λ failed. inr failed) (⊎_elim (λ failed. absurd (quiet failed)) (λ failed. failed))
    (CountsFault-joined first second before mid after n counts more)

-- A call that answers for a volume whose count had risen before answers for a risen count.
pub CountsFault-before : (first second : Type 0) (before mid after : ℕ → ℕ) (n m : ℕ) → CountsFault first before mid n → first →
    CountsFault second mid after m → Rose (before n) (after n)
CountsFault-before first second before mid after n m counts failed more =
    Rose-later (before n) (mid n) (after n) counts.never_falls (counts.rose failed) (not_less second mid after m n more)
  where
    not_less : (second : Type 0) (mid after : ℕ → ℕ) (m n : ℕ) → CountsFault second mid after m → mid n ≤ after n
    not_less second mid after m n more = ⊎_elim (λ (is : n ≡ m). subst (λ (k : ℕ). mid k ≤ after k) (sym is) more.never_falls)
        (λ (other : n ≢ m). omega (arith, more.others n other)) (cases_eq n m)

-- Calls on two volumes count faults of these two alone.
pub CountsFault-apart : (first second : Type 0) (before mid after : ℕ → ℕ) (n m : ℕ) → CountsFault first before mid n → CountsFault second mid after m →
    (k : ℕ) → k ≢ n → k ≢ m → after k ≡ before k
CountsFault-apart first second before mid after n m counts more k not_n not_m = more.others k not_m ∙ counts.others k not_n
