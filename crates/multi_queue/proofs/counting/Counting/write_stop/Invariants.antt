use Rattle.multi_queue.proofs.counting.Counting.write_stop.Given as goal

-- the ledger is that of the blank
abbrev pub ghosts-stop_from : goal.ghosts-stop_from
ghosts-stop_from a = record { name = a.blank.name; parts = a.blank.parts }
