use Rattle.std.proofs.Common.{◌≡◌, length}
use Rattle.abt_weave.specs.Progress.{journaled, count}
use Rattle.abt_weave.specs.Rounds.{IsAtWork}
use Rattle.abt_weave.proofs.settle.place_next.Given as goal

abbrev pub invariant-loop-number : goal.invariant-loop-number
invariant-loop-number l = IsAtWork l.given.net.now (journaled l.given.ports.now l.given.sources.now) l.progress l.queue × (count l.progress ≡ count l.fn.progress)

-- how many are to be looked at
abbrev pub decreases-loop-number : goal.decreases-loop-number
decreases-loop-number l = length l.queue.ready.items
