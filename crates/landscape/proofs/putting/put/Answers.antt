use native.Mathlib.Omega.{arith}
use Rattle.std.proofs.lemmas.Bool.Decides.{nat_tests}
use Rattle.std.proofs.Common.{◌≡◌, ◌∙◌, ◌<◌, ◌^◌, Some, true, length, sym, ap}
use Rattle.application_rules.specs.Puts.{may_put}
use Rattle.said_models.specs.OfLog.{model_of}
use Rattle.landscape.proofs.WritableLemmas.{put-wanted}
use Rattle.landscape.proofs.putting.put.Goals as goal

pub returns : goal.returns
returns c log are =
    let change = c.args.change.now in
    let is : model_of log ≡ Some c.deref.result.now = sym (c.in-Some.ensures log are) ∙ ap Some (sym c.deref.ensures) in
    let may : may_put c.deref.result.now change.kind change.key change.fields ≡ true =
    grind (arith, c.may_put.ensures, c.if-not-may_put.false, c.as_slice-fields.ensures, c.as_slice.ensures, c.as_slice-2.ensures) in
    let few : length change.fields < 2 ^ 32 = let fields = ap length c.as_slice-fields.ensures in grind (arith, nat_tests, c.if-fields.false, fields) in
    put-wanted log c.deref.result.now change c.in_ok-record_of.field-0 is c.in_ok-record_of.ensures may few
