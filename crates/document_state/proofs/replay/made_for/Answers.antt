use Rattle.std.proofs.Common.{◌≡◌, true, Err, inl, inr, sym, ap, subst, arith}
use Rattle.unit_core.specs.declared.records.Record.{Record}
use Rattle.outbound_build.specs.Added.{adds_any}
use Rattle.document_state.specs.declared.made.Made.TheVariants.{Postings}
use Rattle.document_state.specs.Made.{GoesWith}
use Rattle.document_state.specs.steps.Replaying.{IsNext}
use Rattle.document_state.proofs.ReplayLemmas.{adds-few, adds-system, direct-system, goes-sent}
use Rattle.document_state.proofs.replay.made_for.Goals as goal

pub unreachable-requires : goal.unreachable-requires
unreachable-requires c =
    let adds : adds_any c.args.next.now ≡ true = elim c.in-Commit.is [ inl here ↦ ap adds_any here.2 | inr there ↦ ap adds_any there ] in
    let system = adds-system c.args.system c.args.log.now c.args.next.now c.requires.follows adds in
    let over = c.in-Err-TooMany.ensures.too_many c.args.log.now c.requires.tables system c.in-Err-TooMany.field-0-0 (ap Err c.in-Err-TooMany.field-0-is) in
    let few = adds-few c.args.system c.args.log.now c.args.next.now c.requires.follows adds in
    omega (arith, over, few)

pub returns-in-Ok : goal.returns-in-Ok
returns-in-Ok c =
    let adds : adds_any c.args.next.now ≡ true = elim c.in-Commit.is [ inl here ↦ ap adds_any here.2 | inr there ↦ ap adds_any there ] in
    let system = adds-system c.args.system c.args.log.now c.args.next.now c.requires.follows adds in
    goes-sent c.args.log.now c.args.next.now c.in-Ok.added adds (c.in-Ok.ensures.added c.args.log.now c.requires.tables system)

pub returns-in_ok-postings-in-Direct : goal.returns-in_ok-postings-in-Direct
returns-in_ok-postings-in-Direct c =
    let follows = subst (λ (next : Record). IsNext c.args.system c.args.log.now next) c.in-Direct.is c.requires.follows in
    subst (λ (next : Record). GoesWith c.args.log.now next (Postings c.in_ok-postings-in-Direct.field-0)) (sym c.in-Direct.is)
    (c.in_ok-postings-in-Direct.ensures c.args.log.now c.requires.tables (direct-system c.args.system c.args.log.now c.in-Direct.unit follows))
