use Rattle.std.proofs.Common.{◌≡◌, ◌+◌, ◌∷◌, ◌++◌, [], List, ℕ, take, ap, sym, subst, ◌∙◌, arith}
use Rattle.std.proofs.lemmas.List.{take_more}
use Rattle.plain_queues.specs.declared.queue_key.QueueKey.{QueueKey}
use Rattle.multi_queue.specs.Seen.{AreNumbersOf}
use Rattle.multi_queue.proofs.LaneLemmas.{grows-both}
use Rattle.multi_queue.proofs.AddLemmas.{numbers-more}
use Rattle.multi_queue.proofs.numbering.numbers_in.Goals as goal

pub returns-in_err-push-in-Ok-clause-grows : goal.returns-in_err-push-in-Ok-clause-grows
returns-in_err-push-in-Ok-clause-grows c = grows-both c.args.lanes.now c.loop-key.lanes c.number_in.new.lanes c.loop-key.invariant.grows c.in-Ok.ensures.grows

pub returns-in-Err-clause-grows : goal.returns-in-Err-clause-grows
returns-in-Err-clause-grows c = grows-both c.args.lanes.now c.loop-key.lanes c.number_in.new.lanes c.loop-key.invariant.grows c.in-Err.ensures.grows

pub loop-key-preserved : goal.loop-key-preserved
loop-key-preserved c =
    let i = c.loop-key.key-index in
    let key : QueueKey = c.key-item.result in
    let more : take (i + 1) c.args.keys.now ≡ take i c.args.keys.now ++ key ∷ [] = take_more c.args.keys.now i key (omega arith)
    ∙ ap (λ (k : QueueKey). take i c.args.keys.now ++ k ∷ []) (sym c.key-item.is) in
    let items : c.push.new.self.items ≡ c.loop-key.numbers.items ++ c.in-Ok.number ∷ [] = c.in_ok-push-in-Ok.ensures.items in
    record {
      named = c.in-Ok.ensures.named;
      grows = grows-both c.args.lanes.now c.loop-key.lanes c.number_in.new.lanes c.loop-key.invariant.grows c.in-Ok.ensures.grows;
      numbers = subst (λ (ks : List QueueKey). AreNumbersOf ks c.number_in.new.lanes c.push.new.self.items) (sym more)
          (subst (λ (qs : List ℕ). AreNumbersOf (take i c.args.keys.now ++ key ∷ []) c.number_in.new.lanes qs) (sym items)
          (numbers-more (take i c.args.keys.now) key c.loop-key.lanes c.number_in.new.lanes c.loop-key.numbers.items c.in-Ok.number c.in-Ok.ensures.grows
          c.loop-key.invariant.numbers c.in-Ok.ensures.number));
    }
