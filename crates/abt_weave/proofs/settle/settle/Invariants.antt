use Rattle.std.proofs.Common.{◌-◌}
use Rattle.abt_weave.specs.Progress.{journaled, count, whole}
use Rattle.abt_weave.specs.Rounds.{IsAtWork}
use Rattle.abt_weave.proofs.settle.settle.Given as goal

abbrev pub invariant-loop-queue : goal.invariant-loop-queue
invariant-loop-queue l = IsAtWork l.given.net.now (journaled l.given.ports.now l.given.sources.now) l.progress l.queue

-- how many entries are left
abbrev pub decreases-loop-queue : goal.decreases-loop-queue
decreases-loop-queue l = whole l.given.ports.now l.given.sources.now - count l.progress
