use Rattle.std.proofs.Common.{ℕ, ◌<◌}
use Rattle.abt_net.specs.Faults.{RepeatsChannel}
use Rattle.abt_net.proofs.channels.first_repeat_by_pairs.Given as goal

-- no connection so far repeats a channel
abbrev pub invariant-loop-place : goal.invariant-loop-place
invariant-loop-place l = (m : ℕ) → m < l.place → ¬ RepeatsChannel l.conns m
