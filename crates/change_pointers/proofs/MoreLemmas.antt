-- What one message type more makes of the places of those that pass a test.
use Rattle.std.proofs.Common.{◌≡◌, ℕ, suc, ◌+◌, ◌<◌, Bool, true, false, cond, List, [], ◌∷◌, ◌++◌, length, take, get_or, refl, sym, ap, ◌∙◌, arith, append-nil}
use Rattle.std.proofs.lemmas.List.{take_more, length-take}
use Rattle.dist_model.specs.Model.{places_from}

-- the places of those that pass a test, with one more behind them
pub places_from-push : {A : Type 0} (test : A → Bool) (start : ℕ) (xs : List A) (x : A)
    → places_from test start (xs ++ x ∷ []) ≡ places_from test start xs ++ cond (test x) ((start + length xs) ∷ []) []
places_from-push test start [] x = step (test x)
  where
    step : (b : Bool) → cond b (start ∷ []) [] ≡ cond b ((start + 0) ∷ []) []
    step true = let at : start ≡ start + 0 = omega arith in ap (λ (n : ℕ). n ∷ []) at
    step false = refl
places_from-push test start (first ∷ xs) x =
    let at : suc start + length xs ≡ start + suc (length xs) = omega arith in
    step (test first) (places_from-push test (suc start) xs x ∙ ap (λ (n : ℕ). places_from test (suc start) xs ++ cond (test x) (n ∷ []) []) at)
  where
    step : (b : Bool) → places_from test (suc start) (xs ++ x ∷ []) ≡ places_from test (suc start) xs ++ cond (test x) ((start + suc (length xs)) ∷ []) []
        → cond b (start ∷ places_from test (suc start) (xs ++ x ∷ [])) (places_from test (suc start) (xs ++ x ∷ []))
        ≡ cond b (start ∷ places_from test (suc start) xs) (places_from test (suc start) xs) ++ cond (test x) ((start + suc (length xs)) ∷ []) []
    step true rest = ap (λ (places : List ℕ). start ∷ places) rest
    step false rest = rest

more : {A : Type 0} (test : A → Bool) (xs : List A) (i : ℕ) (x : A) (b : Bool) → i < length xs → x ≡ get_or xs i x → test x ≡ b
    → places_from test 0 (take (i + 1) xs) ≡ places_from test 0 (take i xs) ++ cond b (i ∷ []) []
more test xs i x b within here passes =
    let long : 0 + length (take i xs) ≡ i = omega (arith, length-take i xs) in
    ap (places_from test 0) (take_more xs i x within ∙ ap (λ y. take i xs ++ y ∷ []) (sym here))
    ∙ places_from-push test 0 (take i xs) x
    ∙ ap (λ (p : Bool). places_from test 0 (take i xs) ++ cond p ((0 + length (take i xs)) ∷ []) []) passes
    ∙ ap (λ (n : ℕ). places_from test 0 (take i xs) ++ cond b (n ∷ []) []) long

-- one more that passes
pub places_more_yes : {A : Type 0} (test : A → Bool) (xs : List A) (i : ℕ) (x : A) → i < length xs → x ≡ get_or xs i x → test x ≡ true
    → places_from test 0 (take (i + 1) xs) ≡ places_from test 0 (take i xs) ++ i ∷ []
places_more_yes test xs i x within here passes = more test xs i x true within here passes

-- one more that does not
pub places_more_no : {A : Type 0} (test : A → Bool) (xs : List A) (i : ℕ) (x : A) → i < length xs → x ≡ get_or xs i x → test x ≡ false
    → places_from test 0 (take (i + 1) xs) ≡ places_from test 0 (take i xs)
places_more_no test xs i x within here fails = more test xs i x false within here fails ∙ append-nil (places_from test 0 (take i xs))
