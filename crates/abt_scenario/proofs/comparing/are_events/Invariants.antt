-- The events so far are the same.
use Rattle.std.proofs.Common.{◌≡◌, length, take}
use Rattle.abt_scenario.proofs.comparing.are_events.Given as goal

abbrev pub invariant-loop-index : goal.invariant-loop-index
invariant-loop-index l = (length l.some ≡ length l.others) × (take l.index l.some ≡ take l.index l.others)
