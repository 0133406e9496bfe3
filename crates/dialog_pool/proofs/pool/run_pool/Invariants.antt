use Rattle.std.proofs.Common.{◌∷◌, []}
use Rattle.dialog_pool.proofs.pool.run_pool.Given as goal

abbrev pub ghosts-run_named-E-Opening : goal.ghosts-run_named-E-Opening
ghosts-run_named-E-Opening g a = record { origin = g.D.Desk.origin a.desk ∷ []; before = g.D.Desk.finishes a.desk }

abbrev pub ghosts-run_named-E-Ledger : goal.ghosts-run_named-E-Ledger
ghosts-run_named-E-Ledger g a = record { name = a.blank.name; parts = a.blank.parts }
