use Rattle.abt_links.proofs.run.run_over.Given as goal

-- the book that was just opened
abbrev pub ghosts-run_named : goal.ghosts-run_named
ghosts-run_named g a = record { book = a.opened }
