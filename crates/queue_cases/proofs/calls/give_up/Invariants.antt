use Rattle.queue_cases.proofs.calls.give_up.Given as goal

-- the ledger is that of the blank
abbrev pub ghosts-finish_from : goal.ghosts-finish_from
ghosts-finish_from a = record { name = a.blank.name; parts = a.blank.parts }
