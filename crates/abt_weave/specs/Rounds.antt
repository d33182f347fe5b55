-- What looks at actors of a queue have done.
use Rattle.std.specs.Prelude.{◌≡◌, ℕ, ◌<◌, Bool, true, false, [], length, reverse}
use Rattle.abt_net.specs.Topology.{Topology}
use Rattle.abt_weave.specs.Stuck.{RunJournals}
use Rattle.abt_weave.specs.Progress.{count, IsProgress}
use Rattle.abt_weave.specs.Queue.{IsWaiting}
use Rattle.abt_weave.specs.declared.progress.Progress.{Progress}
use Rattle.abt_weave.specs.declared.queue.Queue.{Queue}

abbrev pub NoOne : ℕ → Type 0
NoOne i = ⊥

-- the queue waits before the events that are placed
pub record IsAtWork (net : Topology) (journals : RunJournals) (progress : Progress) (queue : Queue) : Type 0 where
  pub progress_is : IsProgress net journals progress
  pub waiting : IsWaiting net journals (reverse progress.events.items) NoOne queue

-- after a look: one entry at least was placed, or none, and then nobody more is to be looked at
abbrev pub IsAfterNext : Topology → RunJournals → (before after : Progress) → (old new : Queue) → Bool → Type 0
IsAfterNext net journals before after old new true = IsAtWork net journals after new × (count before < count after)
IsAfterNext net journals before after old new false = IsAtWork net journals after new × (count after ≡ count before) × (new.ready.items ≡ old.ready.items)

-- after some looks: an entry was placed, or nobody is to be looked at any more
abbrev pub IsAfterRound : Topology → RunJournals → (before after : Progress) → Queue → Bool → Type 0
IsAfterRound net journals before after new true = IsAtWork net journals after new × (count before < count after)
IsAfterRound net journals before after new false = IsAtWork net journals after new × (new.ready.items ≡ [])
