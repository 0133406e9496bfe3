use Rattle.multi_queue.proofs.counting.Counting.enter.Given as goal

-- the ledger is that of the blank
abbrev pub ghosts-join_from : goal.ghosts-join_from
ghosts-join_from a = record { name = a.blank.name; parts = a.blank.parts }
