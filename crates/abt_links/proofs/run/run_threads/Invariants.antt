use Rattle.abt_links.proofs.run.run_threads.Given as goal

-- the net of the run
abbrev pub ghosts-run_over : goal.ghosts-run_over
ghosts-run_over g a = record { net = a.net.now }
