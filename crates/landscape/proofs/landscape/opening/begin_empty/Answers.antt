use Rattle.std.proofs.Common.{◌-◌, ℕ, List, Some, length, sym, ap, subst, ◌∙◌, arith}
use Rattle.said_models.specs.Said.{said}
use Rattle.unit_landscape.proofs.ReopeningLemmas.{begins-empty, begins-no_claims, begun-by}
use Rattle.unit_landscape.specs.Beginning.{HaveBegun}
use Rattle.landscape.specs.steps.Opening.{AreBegunSoFar, BeginsNext, begun_of, rules_of}
use Rattle.landscape.proofs.BegunLemmas.{is_lawful}
use Rattle.landscape.proofs.BeginningLemmas.{begins-by, begins-unable, on-begun}
use Rattle.landscape.proofs.landscape.opening.begin_empty.Goals as goal

pub returns-in_default-clause-ends : goal.returns-in_default-clause-ends
returns-in_default-clause-ends g c many set before most is =
    begins-unable g.V.Volumes.disk many c.args.text.now set before c.args.kept.now c.args.system c.get-number.ensures.least most is

pub returns-in_default-try_clone-clause-ends : goal.returns-in_default-try_clone-clause-ends
returns-in_default-try_clone-clause-ends g c many set before most is =
    begins-unable g.V.Volumes.disk many c.args.text.now set before c.args.kept.now c.args.system c.get-number.ensures.least most is

pub begin-requires : goal.begin-requires
begin-requires g c =
    record {
      empty = begins-empty rules_of is_lawful (c.args.kept.now).world (c.args.system - 1) c.requires.so_far c.args.system c.get-number.ensures.least
          c.requires.within c.requires.empty;
      no_claims = begins-no_claims rules_of is_lawful (c.args.kept.now).world (c.args.system - 1) c.requires.so_far;
      text_most = (let same = ap (λ (l : List ℕ). length l) c.in-Ok.ensures in let short = c.requires.short in omega arith);
      goes = λ its at begins. ap Some c.in-Ok-try_clone.ensures ∙ sym c.requires.said ∙ ap said (sym c.in-Ok.ensures);
    }

pub returns-clause-begun : goal.returns-clause-begun
returns-clause-begun g c =
    on-begun c.begin.result c.begun_as.result (HaveBegun rules_of c.args.system (c.begin.new.kept).world) c.begun_as.ensures
    (begun-by rules_of is_lawful c.args.kept.now c.begin.new.kept c.args.system c.requires.so_far c.get-number.ensures.least c.requires.within
    c.requires.empty c.in-Ok.text c.begin.result c.begin.ensures.begun)

pub returns-clause-ends : goal.returns-clause-ends
returns-clause-ends g c many set before most so_far =
    subst (BeginsNext g.V.Volumes.disk many c.args.text.now set before c.args.system c.begin.new.kept) (sym c.begun_as.ensures)
    (subst (λ (t : List ℕ). AreBegunSoFar g.V.Volumes.disk many t set before (c.args.system - 1) c.args.kept.now
    → BeginsNext g.V.Volumes.disk many t set before c.args.system c.begin.new.kept (begun_of c.begin.result)) c.in-Ok.ensures
    (λ is. begins-by g.V.Volumes.disk many c.in-Ok.text set before c.args.kept.now c.args.system c.get-number.ensures.least most is
    c.requires.empty c.requires.so_far c.begin.new.kept c.begin.ensures.any_moment c.begin.ensures.others
    c.begin.ensures.faults.others c.begin.result c.begin.ensures.begun
    c.begin.ensures.faults) so_far)
