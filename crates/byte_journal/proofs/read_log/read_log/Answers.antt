use Rattle.std.proofs.Common.{◌≡◌, ◌∙◌, ◌+◌, List, [], ◌∷◌, ◌++◌, ℕ, length, sym, ap, subst}
use Rattle.byte_journal.specs.Log.{BeginsWithRecord}
use Rattle.byte_journal.proofs.ReadLemmas.{IsReadTo, read-more}
use Rattle.byte_journal.proofs.read_log.read_log.Goals as goal

pub records-preserved : goal.records-preserved
records-preserved c =
    let bytes = c.args.bytes.now in
    let gate = c.records.gate in
    let body = c.in-Some.body.now in
    let opens = c.is_open_before_more.ensures.0 c.records-test.true in
    let found = subst (λ (behind : List ℕ). BeginsWithRecord gate behind body) c.split_at.ensures.back c.in-Some.ensures.found in
    let pushed : c.push.new.self ≡ c.records.log ++ body ∷ [] =
    c.in_ok-push.ensures.ok ∙ ap (λ (b : List ℕ). c.records.log ++ b ∷ []) (c.from_vec.ensures ∙ c.in_ok-from_slice.ensures.items) in
    subst (λ (log : List (List ℕ)). IsReadTo bytes log (gate + (5 + length body))) (sym pushed)
    (read-more bytes c.records.log gate c.records.invariant opens.0 opens.1 body found)
