use Rattle.abt_history_tests.proofs.tests.kept.over.Given as goal

-- the book that was just opened
abbrev pub ghosts-named : goal.ghosts-named
ghosts-named g a = record { book = a.opened }
