use Rattle.std.proofs.Common.{◌≡◌, reverse}
use Rattle.abt_weave.specs.Actors.{actor_count}
use Rattle.abt_weave.specs.Progress.{journaled}
use Rattle.abt_weave.specs.Faults.{left_below}
use Rattle.abt_weave.proofs.Lefts.{left_of}
use Rattle.abt_weave.proofs.left.actors_left.Given as goal

-- those so far that have entries left are added
abbrev pub invariant-loop-number : goal.invariant-loop-number
invariant-loop-number l =
    (l.left ≡ left_below (left_of l.given.net.now (journaled l.given.ports.now l.given.sources.now) (reverse l.progress.events.items)) l.number) × (l.number-end ≡ actor_count l.given.net.now)
