use Rattle.std.proofs.Common.{sym, ap, ◌∙◌}
use Rattle.unit_landscape.specs.Calls.{is_offered_function, reply_event}
use Rattle.unit_landscape.proofs.HappenedLemmas.{disk-seen}
use Rattle.unit_landscape.proofs.EndsLemmas.{landscape-released}
use Rattle.unit_landscape.proofs.ReplyingLemmas.{out-stands}
use Rattle.unit_landscape.proofs.landscape.UnitLandscape.reply.Goals as goal

pub returns-in_default-clause-disk : goal.returns-in_default-clause-disk
returns-in_default-clause-disk g c =
    disk-seen g.V.Volumes.disk g.met.V.Volumes.only_now
    g.R.Rules.meaning g.met.R.Rules.lawful c.self.inside.kept c.args.self.now c.self.view_is c.self.invariant c.world.ensures.kept.on_volumes
    (λ world. reply_event (g.R.Rules.meaning world.rules) world c.args.claim c.args.given)

pub reply_record-next-requires-clause-offered : goal.reply_record-next-requires-clause-offered
reply_record-next-requires-clause-offered g c = λ is.
    c.requires.offered is (out-stands c.args.self.now.world c.args.claim c.in-Some.held c.in-Some.ensures.some)
    ∙ ap (is_offered_function (g.R.Rules.meaning c.args.self.now.world.rules) c.args.self.now.world) (sym c.in-Some.ensures.some.its)

pub invariant_of-self : goal.invariant_of-self
invariant_of-self g c =
    landscape-released g.R.Rules.meaning g.met.R.Rules.lawful c.self.inside.kept.world c.release.new.self.world c.in-Some.held.number c.self.invariant
    c.release.ensures.world
