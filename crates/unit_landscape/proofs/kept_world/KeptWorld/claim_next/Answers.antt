use Rattle.std.proofs.Common.{◌≡◌, true, Some, sym, ap, subst, ◌∙◌}
use Rattle.plain_queues.specs.LogQueues.{HaveOneSender, units_of}
use Rattle.trfc_protocol.specs.declared.world.World.{World}
use Rattle.trfc_protocol.specs.Worlds.{log_of, is_up, committed_by}
use Rattle.unit_landscape.specs.LogAnswers.{first_to_go, may_go_at}
use Rattle.unit_landscape.proofs.AnswersLemmas.{tables-at, next-at}
use Rattle.unit_landscape.proofs.kept_world.KeptWorld.claim_next.Goals as goal

pub claim_next-requires-clause-next : goal.claim_next-requires-clause-next
claim_next-requires-clause-next g c = λ its got.
    let world = c.self.inside.both.world in
    let rules = g.R.Rules.meaning world.rules in
    let back : c.args.self.now.world ≡ world = sym (ap (λ k. k.world) c.self.view_is) in
    let up : is_up world c.args.system ≡ true = subst (λ (w : World g.row.R.Denot). is_up w c.args.system ≡ true) back c.requires.up in
    let one = subst (λ (w : World g.row.R.Denot). HaveOneSender c.args.way
    (units_of c.args.way (committed_by (g.R.Rules.meaning w.rules) w c.args.system) (log_of w c.args.system))) back c.requires.one in
    let first = subst (λ (w : World g.row.R.Denot). first_to_go (g.R.Rules.meaning w.rules) w c.args.system c.args.way ≡ Some c.args.tid) back
    c.requires.first in
    let may = subst (λ (w : World g.row.R.Denot). may_go_at (g.R.Rules.meaning w.rules) w c.args.system c.args.way c.args.tid ≡ true) back c.requires.may in
    next-at g.A.Application.stands rules world c.args.system its
    (tables-at g.A.Application.stands rules world c.self.inside.both.tables c.self.invariant.in_step c.args.system up its got) c.args.way one c.args.tid
    first may
