use Rattle.std.proofs.Common.{◌≡◌, Option, Some, sym, ap, subst, ◌∙◌, []}
use Rattle.dist_model.specs.declared.lists.Lists.{Lists}
use Rattle.status_log.specs.declared.refusal.Refusal.{Refusal}
use Rattle.said_models.specs.OfLog.{model_of}
use Rattle.landscape.specs.Remodelled.{MayAs}
use Rattle.landscape.proofs.JudgedLemmas.{unkept-is}
use Rattle.landscape.proofs.bringing.unkept.Goals as goal

pub returns-in-Some : goal.returns-in-Some
returns-in-Some c = λ log stand.
    let old = c.deref.result.now in
    let in_force : model_of log ≡ Some old = sym (c.in-Some.ensures log stand) ∙ ap (λ (m : Lists). Some m) (sym c.deref.ensures) in
    subst (λ (why : Option Refusal). MayAs why c.keeps.result) (sym (unkept-is log old c.args.model.now [] in_force)) c.keeps.ensures
