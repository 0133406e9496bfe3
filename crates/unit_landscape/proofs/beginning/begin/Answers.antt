use Rattle.std.proofs.Common.{◌≡◌, None, inr, subst}
use Rattle.unit_core.specs.declared.records.Record.TheVariants.{Genesis}
use Rattle.trfc_protocol.specs.Worlds.{with_record, with_fall}
use Rattle.unit_landscape.proofs.BeginningLemmas.{to_append, first-fits, first-any_moment, HasFirst-more}
use Rattle.unit_landscape.proofs.beginning.begin.Goals as goal

pub append-requires : goal.append-requires
append-requires g c = record {
  can = to_append g.R.Rules.meaning g.met.R.Rules.lawful g.A.Application.stands g.A.Application.goes_with g.V.Volumes.disk c.args.kept.now
      c.args.system c.args.text c.args.extra c.get.ensures.least c.world.ensures.kept c.requires c.get.result c.get.ensures.number;
}

pub unreachable-requires : goal.unreachable-requires
unreachable-requires g c =
    first-fits g.R.Rules.meaning g.met.R.Rules.lawful g.A.Application.stands g.A.Application.goes_with g.V.Volumes.disk c.args.kept.now
    c.args.system c.args.text c.args.extra c.get.ensures.least c.world.ensures.kept c.requires c.get.result c.append.result c.in-Err-Full.field-0
    c.in-Err-Full.field-0-0 c.append.ensures.full c.in-Err-Full.is c.in-Err-Full.field-0-is

pub returns-in-Ok-clause-begun : goal.returns-in-Ok-clause-begun
returns-in-Ok-clause-begun g c = (
  subst (λ n. c.append.new.self.world ≡ with_record c.args.kept.now.world c.args.system (Genesis n c.args.text)) c.get.ensures.number c.in-Ok.ensures.did,
  HasFirst-more g.R.Rules.meaning g.met.R.Rules.lawful g.A.Application.stands g.A.Application.goes_with g.V.Volumes.disk c.args.kept.now
      c.args.system c.args.text c.args.extra c.get.ensures.least c.world.ensures.kept c.requires c.append.new.self.journals c.in-Ok.ensures.journals,
  c.in-Ok.ensures.causes,
)

pub returns-in-Err-After-clause-begun : goal.returns-in-Err-After-clause-begun
returns-in-Err-After-clause-begun g c =
    let did = rw c.in-Err-After.field-0-is at c.in-Err-After.ensures.did in
    let journals = rw c.in-Err-After.field-0-is at c.in-Err-After.ensures.journals in
    inr (
      subst (λ n. c.append.new.self.world ≡ with_fall (with_record c.args.kept.now.world c.args.system (Genesis n c.args.text)) c.args.system None)
          c.get.ensures.number did,
      HasFirst-more g.R.Rules.meaning g.met.R.Rules.lawful g.A.Application.stands g.A.Application.goes_with g.V.Volumes.disk c.args.kept.now
          c.args.system c.args.text c.args.extra c.get.ensures.least c.world.ensures.kept c.requires c.append.new.self.journals journals,
      rw c.in-Err-After.field-0-is at c.in-Err-After.ensures.causes,
    )

pub returns-in-Ok-clause-any_moment : goal.returns-in-Ok-clause-any_moment
returns-in-Ok-clause-any_moment g c = λ tells.
    first-any_moment g.R.Rules.meaning g.met.R.Rules.lawful g.A.Application.stands g.A.Application.goes_with g.V.Volumes.disk c.args.kept.now
    c.args.system c.args.text c.args.extra c.get.ensures.least c.world.ensures.kept c.requires g.V.Volumes.disk
    c.append.new.self.vols
    c.get.result c.get.ensures.number (c.append.ensures.any_moment tells)

pub returns-in-Err-Volume-clause-any_moment : goal.returns-in-Err-Volume-clause-any_moment
returns-in-Err-Volume-clause-any_moment g c = λ tells.
    first-any_moment g.R.Rules.meaning g.met.R.Rules.lawful g.A.Application.stands g.A.Application.goes_with g.V.Volumes.disk c.args.kept.now
    c.args.system c.args.text c.args.extra c.get.ensures.least c.world.ensures.kept c.requires g.V.Volumes.disk
    c.append.new.self.vols
    c.get.result c.get.ensures.number (c.append.ensures.any_moment tells)

pub returns-in-Err-Before-clause-any_moment : goal.returns-in-Err-Before-clause-any_moment
returns-in-Err-Before-clause-any_moment g c = λ tells.
    first-any_moment g.R.Rules.meaning g.met.R.Rules.lawful g.A.Application.stands g.A.Application.goes_with g.V.Volumes.disk c.args.kept.now
    c.args.system c.args.text c.args.extra c.get.ensures.least c.world.ensures.kept c.requires g.V.Volumes.disk
    c.append.new.self.vols
    c.get.result c.get.ensures.number (c.append.ensures.any_moment tells)

pub returns-in-Err-After-clause-any_moment : goal.returns-in-Err-After-clause-any_moment
returns-in-Err-After-clause-any_moment g c = λ tells.
    first-any_moment g.R.Rules.meaning g.met.R.Rules.lawful g.A.Application.stands g.A.Application.goes_with g.V.Volumes.disk c.args.kept.now
    c.args.system c.args.text c.args.extra c.get.ensures.least c.world.ensures.kept c.requires g.V.Volumes.disk
    c.append.new.self.vols
    c.get.result c.get.ensures.number (c.append.ensures.any_moment tells)
