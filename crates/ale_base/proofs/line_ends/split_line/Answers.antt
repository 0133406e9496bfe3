use Rattle.std.proofs.Common.{◌≡◌, ◌+◌, suc, ◌∷◌, ◌++◌, get_or, take, drop, sym, ap, ◌∙◌, arith, add-one, drop-cons, eqb-true}
use Rattle.std.proofs.lemmas.List.{length-drop, take_rest, take-append-drop}
use Rattle.ale_base.proofs.LinesLemmas.{IsNoEnd-before, IsNoEnd-all}
use Rattle.ale_base.proofs.line_ends.split_line.Goals as goal

pub returns-in-Some-clause-found : goal.returns-in-Some-clause-found
returns-in-Some-clause-found c =
    let bytes = c.args.bytes.now in
    let end = c.in-Some.end in
    let found = c.in-Some.ensures in
    let here : get_or bytes end 0 ≡ 10 = eqb-true _ 10 found.1 in
    let behind : drop end bytes ≡ 10 ∷ drop (end + 1) bytes = rw add-one (drop-cons bytes end 0 found.0.high ∙ ap (λ b. b ∷ drop (suc end) bytes) here) in
    let whole : bytes ≡ take end bytes ++ 10 ∷ drop (end + 1) bytes = sym (take-append-drop end bytes) ∙ ap (λ rest. take end bytes ++ rest) behind in
    rw (take_rest bytes (end + 1)) (whole, IsNoEnd-before bytes end found.0.high found.0.before, omega (arith, found.0.high, length-drop (end + 1) bytes))

pub returns-in-None-clause-none : goal.returns-in-None-clause-none
returns-in-None-clause-none c = IsNoEnd-all c.args.bytes.now c.in-None.ensures
