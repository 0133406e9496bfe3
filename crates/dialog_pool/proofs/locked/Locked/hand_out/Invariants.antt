use Rattle.std.proofs.Common.{◌≡◌}
use Rattle.dialog_pool.proofs.locked.Locked.hand_out.Given as goal

-- before the first work was taken the desk is as it was
abbrev pub invariant-loop-taken : goal.invariant-loop-taken
invariant-loop-taken g l = l.taken ≡ 0 → l.self.desk ≡ l.initial.self.desk
