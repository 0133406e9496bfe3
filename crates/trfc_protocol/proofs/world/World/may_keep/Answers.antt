use Rattle.std.proofs.Common.{◌≡◌, Bool, Result, Ok, Err, sym, subst}
use Rattle.std.specs.Prelude.{IfOk, IsTrue, ◌↔◌}
use Rattle.trfc_protocol.proofs.KeepingLemmas.{kept-is}
use Rattle.trfc_protocol.proofs.world.World.may_keep.Goals as goal

if_ok : {E W : Type 0} (result : Result Bool E) (may : Bool) → IfOk result (λ b. b ≡ may) → IsTrue may ↔ W → IfOk result (λ b. IsTrue b ↔ W)
if_ok {W = W} (Ok b) may same is = subst (λ x. IsTrue x ↔ W) (sym same) is
if_ok (Err e) may same is = same

pub returns-clause-written : goal.returns-clause-written
returns-clause-written g c =
    if_ok c.is_kept.result _ c.is_kept.ensures
    (kept-is (g.R.Rules.meaning c.args.self.now.rules) (g.met.R.Rules.lawful c.args.self.now.rules) c.args.self.now c.requires c.args.system c.args.next.now)
