use Rattle.std.proofs.Common.{◌≡◌, sym, subst}
use Rattle.landscape.specs.steps.Opening.{HasEnded, why_opened}
use Rattle.landscape.proofs.OpeningLemmas.{opened-not, opens-by}
use Rattle.landscape.proofs.landscape.opening.read_next.Goals as goal

pub returns-in-Ok : goal.returns-in-Ok
returns-in-Ok g c set before is =
    opens-by g.V.Volumes.disk c.args.text.now set before c.args.opening is c.requires.next c.in-Ok.volume c.in-Ok.ensures.found c.in-Ok.ensures.why
    c.in-Ok.ensures.any_moment c.in-Ok.ensures.from_sync c.in-Ok.ensures.others c.in-Ok.ensures.faults c.in-Ok.ensures.leaves c.up_if_good.result c.up_if_good.ensures

pub returns-in-Err : goal.returns-in-Err
returns-in-Err g c set before is =
    let why : c.why_opened.result ≡ why_opened c.args.system c.in-Err.field-0.why = (let a = c.why_opened.ensures in let b = c.in-Err.why-is in cc) in
    subst (λ w. HasEnded g.V.Volumes.disk c.args.opening.world.rules.systems c.args.text.now set before (record { why = w; vols = c.in-Err.field-0.vols }))
    (sym why)
    (opened-not g.V.Volumes.disk c.args.text.now set before c.args.opening is c.requires.next c.args.system c.requires.number
    c.in-Err.field-0 c.in-Err.ensures.why c.in-Err.ensures.any_moment c.in-Err.ensures.from_sync c.in-Err.ensures.others c.in-Err.ensures.faults
    c.in-Err.ensures.leaves)
