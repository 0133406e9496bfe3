use Rattle.std.proofs.Common.{◌≡◌, ℕ, ◌-◌, false, nat_eq, inl, inr, List, [], ◌∷◌, ◌++◌, length, take, drop, refl, sym, ap, ◌∙◌, arith, length-append}
use Rattle.std.specs.Cmp.Lexicographic.{pointwise, bytes_decides}
use Rattle.std.proofs.lemmas.Bool.{false≢true}
use Rattle.std.proofs.lemmas.List.{take-append-drop}
use Rattle.std.proofs.lemmas.Bool.Decides.{eqb_tells}
use Rattle.std.proofs.Math.Seq.{drop-append_seam}
use Rattle.ale_base.proofs.SnocLemmas.{Snoc, none, some, snoc}
use Rattle.ale_base.specs.Lines.{without_return}
use Rattle.ale_base.proofs.LinesLemmas.{without_return-return, without_return-other}
use Rattle.ale_base.proofs.line_ends.without_return.Goals as goal

-- the last byte of a list
last_byte : (front : List ℕ) (last : ℕ) → drop (length (front ++ last ∷ []) - 1) (front ++ last ∷ []) ≡ last ∷ []
last_byte front last =
    let long : length front ≡ length (front ++ last ∷ []) - 1 = omega (arith, length-append front (last ∷ [])) in
    ap (λ n. drop n (front ++ last ∷ [])) (sym long) ∙ drop-append_seam front (last ∷ [])

kept : (line : List ℕ) → Snoc line → pointwise nat_eq (drop (length line - 1) line) (13 ∷ []) ≡ false → line ≡ without_return line
kept _ none differs = refl
kept _ (some front last) differs =
    elim (eqb_tells last 13) [
      | inl is ↦ absurd (false≢true (sym differs ∙ (bytes_decides (drop (length (front ++ last ∷ []) - 1) (front ++ last ∷ [])) (13 ∷ [])).1
          (last_byte front last ∙ ap (λ b. b ∷ []) is.1)))
      | inr other ↦ sym (without_return-other front last other.0)
    ]

pub returns-in-Some : goal.returns-in-Some
returns-in-Some c =
    let line = c.args.line.now in
    let found = c.in-Some.ensures.cases in
    let ends : drop (length line - 1) line ≡ 13 ∷ [] = (bytes_decides (drop (length line - 1) line) (13 ∷ [])).0 found.0 in
    let whole : take (length line - 1) line ++ 13 ∷ [] ≡ line = ap (λ end. take (length line - 1) line ++ end) (sym ends)
    ∙ take-append-drop (length line - 1) line in
    found.1 ∙ sym (without_return-return (take (length line - 1) line)) ∙ ap without_return whole

pub returns-in-None : goal.returns-in-None
returns-in-None c = kept c.args.line.now (snoc c.args.line.now) c.in-None.ensures.cases
