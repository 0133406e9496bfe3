use Rattle.std.specs.Borrow.{Bor}
use Rattle.std.proofs.Common.{◌≡◌, ◌+◌, ◌∷◌, ◌++◌, [], List, take, ap, sym, subst, ◌∙◌, arith}
use Rattle.std.proofs.lemmas.List.{take_more, take_all, map_push}
use Rattle.unit_core.specs.declared.records.Record.{Record}
use Rattle.once_check.specs.declared.told.Told.{Told}
use Rattle.unit_core.specs.Systems.{lent}
use Rattle.once_check.specs.steps.ToldIds.{IsToldBy}
use Rattle.once_check.proofs.SystemsLemmas.{AreMadeOf, AreMadeOf-more}
use Rattle.once_check.proofs.ToldLemmas.{AreToldBy-each}
use Rattle.once_check.proofs.told.all_told.Goals as goal

pub loop-log-preserved : goal.loop-log-preserved
loop-log-preserved c =
    let i = c.loop-log.log-index in
    let logs = c.args.logs.now in
    let log : Bor (List Record) = c.log-item.result in
    let more : take (i + 1) logs ≡ take i logs ++ log ∷ [] = take_more logs i log (omega arith)
    ∙ ap (λ (l : Bor (List Record)). take i logs ++ l ∷ []) (sym c.log-item.is) in
    let whole : lent (take (i + 1) logs) ≡ lent (take i logs) ++ log.now ∷ [] = ap lent more ∙ map_push (λ (l : Bor (List Record)). l.now) (take i logs) log in
    subst (λ (lists : List (List Record)). AreMadeOf IsToldBy lists c.push.new.self) (sym whole)
    (subst (λ (all : List Told). AreMadeOf IsToldBy (lent (take i logs) ++ log.now ∷ []) all) (sym c.in_ok-push.ensures.ok)
    (AreMadeOf-more IsToldBy (lent (take i logs)) c.loop-log.all log.now c.in_ok-told_by.field-0 c.loop-log.invariant c.in_ok-told_by.ensures))

pub returns : goal.returns
returns c =
    AreToldBy-each (lent c.args.logs.now) c.loop-log.all
    (subst (λ (logs : List (Bor (List Record))). AreMadeOf IsToldBy (lent logs) c.loop-log.all) (take_all c.loop-log.log-index c.args.logs.now (omega arith))
    c.loop-log.invariant)
