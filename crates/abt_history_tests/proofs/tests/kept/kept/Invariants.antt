use Rattle.abt_history_tests.proofs.tests.kept.kept.Given as goal

-- the net of the run
abbrev pub ghosts-over : goal.ghosts-over
ghosts-over g a = record { net = a.net.now }
