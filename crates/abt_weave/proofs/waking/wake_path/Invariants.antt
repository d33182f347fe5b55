use Rattle.std.proofs.Common.{◌<◌, ℕ, reverse}
use Rattle.abt_weave.specs.Actors.{actor_count}
use Rattle.abt_weave.specs.Progress.{journaled}
use Rattle.abt_weave.specs.Queue.{IsQueue, Wakes}
use Rattle.abt_weave.specs.Waking.{AreOnPath}
use Rattle.abt_weave.proofs.waking.wake_path.Given as goal

-- those at the places so far are woken
abbrev pub invariant-loop-place : goal.invariant-loop-place
invariant-loop-place l =
    IsQueue (actor_count l.given.net.now) l.queue
    × Wakes (λ i. (on : AreOnPath l.given.net.now (journaled l.given.ports.now l.given.sources.now) (reverse l.progress.events.items) l.conn-2 l.hop i) × (on.place < l.place)) l.fn.queue l.queue
