use Rattle.std.proofs.Common.{◌≡◌, ◌++◌, subst, sym, arith, rules}
use Rattle.std.proofs.lemmas.Grind.{common_steps}
use Rattle.outbound_build.specs.Added.{still_waiting, waits_of}
use Rattle.outbound_build.specs.Addressed.{AreAddressed}
use Rattle.outbound_build.proofs.AddressedLemmas.{after-addressed}
use Rattle.outbound_build.proofs.outbox.Outbox.take.Goals as goal

pub returns-clause-addressed : goal.returns-clause-addressed
returns-clause-addressed c model system waits made =
    let next = c.args.next.now in
    let waiting = c.args.self.now.waiting in
    let documents = c.args.added.now.documents in
    let same : c.match-next.self.waiting ≡ still_waiting next waiting ++ waits_of documents = first_of (search rules, grind (arith, common_steps)) in
    subst (AreAddressed model system) (sym same) (after-addressed model system next waiting documents waits made)
