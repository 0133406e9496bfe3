use Rattle.multi_queue.proofs.line.Line.head.Given as goal

abbrev pub ghosts-head_from : goal.ghosts-head_from
ghosts-head_from a = record { name = a.blank.name; parts = a.blank.parts }
