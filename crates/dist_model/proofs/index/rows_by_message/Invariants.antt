use Rattle.std.proofs.Common.{◌≡◌, length, take}
use Rattle.dist_model.specs.Index.{AreRowsOf}
use Rattle.dist_model.proofs.index.rows_by_message.Given as goal

abbrev pub invariant-loop-place : goal.invariant-loop-place
invariant-loop-place l = (length l.lists ≡ l.messages) × AreRowsOf l.messages (take l.place l.rows) l.lists
